-- What acceptance says of a filter's block.
use Rattle.std.proofs.Common.{◌≡◌, ◌≤◌, ◌<◌, ℕ, zero, suc, ◌+◌, ◌-◌, true, false, not, ◌||◌, [], ◌∷◌, length, take}
use Rattle.std.proofs.Common.{drop, Some, refl, sym, ap, ◌∙◌, subst, arith}
use Rattle.std.specs.Prelude.{is_none, slice_get}
use Rattle.std.proofs.lemmas.Bool.{or_parts, not-false, le-leb, eq-eqb}
use Rattle.std.proofs.lemmas.List.{drop_more}
use Rattle.xvalue.specs.declared.kind.Kind.TheVariants.{Logical as OfLogical}
use Rattle.code_items.specs.declared.declared.Filter.{Filter}
use Rattle.code_items.specs.declared.code.Code.{Code}
use Rattle.code_items.specs.declared.state.State.{State}
use Rattle.code_items.specs.declared.desk.Desk.{Desk}
use Rattle.code_items.specs.Desks.{open_at}
use Rattle.code_items.specs.Declarations.{filter_of}
use Rattle.code_items.specs.Facts.{Facts}
use Rattle.code_items.specs.Kinds.{clashes, same_kinds}
use Rattle.code_items.specs.Legal.{IsCode}
use Rattle.code_items.specs.declared.instr.FlowInstr.TheVariants.{End}
use Rattle.code_items.specs.declared.instr.RecordInstr.{RecordInstr}
use Rattle.code_items.specs.declared.instr.RecordInstr.TheVariants.{Field, RowField, Ask, Append, Replace, Delete}
use Rattle.code_items.specs.declared.instr.RecordInstr.TheVariants.{Recall, Pack, Zap, Reindex, Index}
use Rattle.code_items.specs.declared.instr.Instr.{Instr}
use Rattle.code_items.specs.declared.instr.Instr.TheVariants.{Values, Flow, Screen, Areas, Moves, Records}
use Rattle.code_rules.specs.Wants.{wants, gives, unknown}
use Rattle.code_rules.specs.Flow.{flow, left_by}
use Rattle.code_rules.specs.Places.{instr_at, block_at, filter_desk, filter_start, or_state, start_of, state_at}
use Rattle.code_rules.specs.Kept.{Kept, KeepsRules}
use Rattle.code_rules.specs.Rules.{Here, here_at, loads_other, some_slots_fail, is_filters, leaves_truth, ends_untrue}
use Rattle.code_rules.specs.Rules.{filters, filter_fails}
use Rattle.run_steps.specs.Filters.{instructions_of}
use Rattle.run_laws.proofs.FilterBlocks.{sound_here, sound_there}
use Rattle.run_laws.proofs.Tests.{then_no}
use Rattle.fit_laws.specs.Connects.{left_at}
use Rattle.fit_laws.specs.FilterWalks.{Steps, BlockWalks}
use Rattle.fit_laws.proofs.FilterPlaces.{first_place, Place, place_of_filter, start_is, no_map}
use Rattle.fit_laws.proofs.Giving.{gives_known}
use Rattle.fit_laws.proofs.Standing.{together}
use Rattle.fit_laws.proofs.States.{state_first, next_state}

-- ---- instructions that may stand in a filter

pub left_is : (code : Code) (i : Instr) (s : State) → filters i ≡ true → flow code i s ≡ left_by code i s
unfolding flow
left_is code (Values i) s e = refl
left_is code (Flow i) s e = absurd (cc)
left_is code (Screen i) s e = refl
left_is code (Areas i) s e = refl
left_is code (Moves i) s e = refl
left_is code (Records i) s e = refl

record_desk : (code : Code) (i : RecordInstr) (s : State) → filters (Records i) ≡ true
    → (left_by code (Records i) s).desk ≡ s.desk
record_desk code (Field a f) s e = refl
record_desk code (RowField f) s e = refl
record_desk code (Ask q) s e = refl
record_desk code Append s e = refl
record_desk code (Replace f) s e = refl
record_desk code Delete s e = refl
record_desk code Recall s e = refl
record_desk code Pack s e = refl
record_desk code Zap s e = refl
record_desk code Reindex s e = refl
record_desk code (Index l) s e = absurd (cc)

same_desk : (code : Code) (i : Instr) (s : State) → filters i ≡ true → (left_by code i s).desk ≡ s.desk
same_desk code (Values i) s e = refl
same_desk code (Flow i) s e = refl
same_desk code (Screen i) s e = refl
same_desk code (Areas i) s e = absurd (cc)
same_desk code (Moves i) s e = refl
same_desk code (Records i) s e = record_desk code i s e

open_there : (desk : Desk) (table : ℕ) → desk ≡ filter_desk table → is_none (open_at desk desk.selected) ≡ false
open_there desk table e = rw e refl

-- ---- the rules at a place of a filter

filter_rule : (code : Code) (h : Here) → is_filters code h.block ≡ true → filter_fails code h ≡ false
    → (filters h.instr ≡ true) × (ends_untrue code h ≡ false)
filter_rule code h e f =
    let p = or_parts (not (filters h.instr)) (ends_untrue code h) (rw e at f) in
    (not-false (filters h.instr) p.0, p.1)

steps : (code : Code) (h : Here) (table : ℕ) → Kept code h → is_filters code h.block ≡ true
    → h.before.desk ≡ filter_desk table → Steps code h.before h.instr
steps code h table k e d =
    let f = filter_rule code h e k.filter in
    let a =
    or_parts (clashes (wants code.declared h.before.desk h.instr) h.before.stack || loads_other h.before h.instr)
    (some_slots_fail code h) k.kind in
    let b =
    or_parts (clashes (wants code.declared h.before.desk h.instr) h.before.stack) (loads_other h.before h.instr)
    a.0 in
    record {
      sound = sound_here code h.before h.instr (record {
        may = f.0;
        clash = b.0;
        other = b.1;
        set = k.set;
        there = k.there;
        within = k.room;
        declared = k.declared;
      });
      given = gives_known code h.before.desk h.instr k.area k.declared (λ rows. open_there h.before.desk table d);
      left = left_is code h.instr h.before f.0;
    }

truth_left : (code : Code) (h : Here) → ends_untrue code h ≡ false → h.block.end ≡ h.place + 1
    → unknown (gives code.declared h.before.desk h.instr) ≡ 0 → same_kinds (OfLogical ∷ []) h.after.stack ≡ true
truth_left code h u e g =
    let n = then_no _ _ (eq-eqb h.block.end (h.place + 1) e) u in
    let t : leaves_truth (unknown (gives code.declared h.before.desk h.instr)) h.after.stack ≡ true = not-false _ n in
    subst (λ k. leaves_truth k h.after.stack ≡ true) g t

-- ---- along the block

-- a place of the filter's block, of which so many are left
record In (code : Code) (n : ℕ) (f : Filter) (place left : ℕ) : Type 0 where
  pub ends : place + left ≡ first_place code n + f.length
  pub from : first_place code n ≤ place
  pub desk : (state_at code place).desk ≡ filter_desk f.table

block_is : (code : Code) (n : ℕ) (f : Filter) → Place code n f → (place left : ℕ) → In code n f place (suc left)
    → block_at code place ≡ block_at code (first_place code n)
block_is code n f p place left h =
    together code (first_place code n) place (omega (arith, p.first, h.from)) (omega (arith, p.end, h.ends))

is_of_filters : (code : Code) (n : ℕ) (f : Filter) → Place code n f → (place : ℕ)
    → block_at code place ≡ block_at code (first_place code n) → is_filters code (block_at code place) ≡ true
is_of_filters code n f p place e =
    le-leb (length code.procedures) (block_at code place).number (omega (arith, ap (λ b. b.number) e, p.number))

here : (code : Code) (n : ℕ) (f : Filter) → Place code n f → KeepsRules code → (place left : ℕ)
    → In code n f place (suc left) → Steps code (state_at code place) (instr_at code place)
here code n f p keeps place left h =
    steps code (here_at code place) f.table (keeps place (omega (arith, h.ends, p.last)))
    (is_of_filters code n f p place (block_is code n f p place left h)) h.desk

state_after : (code : Code) (n : ℕ) (f : Filter) → Facts code → Place code n f → (place left : ℕ)
    → In code n f place (suc (suc left)) → state_at code (place + 1) ≡ left_at code place
state_after code n f facts p place left h =
    let same =
    together code (first_place code n) (place + 1) (omega (arith, p.first, h.from))
    (omega (arith, p.end, h.ends)) in
    let from : (block_at code (place + 1)).first ≤ place = omega (arith, ap (λ b. b.first) same, p.first, h.from) in
    let none = no_map code facts (place + 1) (omega (arith, h.from)) in
    next_state code place (place + 1) refl from ∙ ap (λ o. or_state o (left_at code place)) none

goes_on : (code : Code) (n : ℕ) (f : Filter) (place left : ℕ) → In code n f place (suc (suc left))
    → Steps code (state_at code place) (instr_at code place) → state_at code (place + 1) ≡ left_at code place
    → In code n f (place + 1) (suc left)
goes_on code n f place left h s e = record {
  ends = omega (arith, h.ends);
  from = omega (arith, h.from);
  desk =
      ap (λ x. x.desk) e ∙ (ap (λ x. x.desk) s.left
      ∙ (same_desk code (instr_at code place) (state_at code place)
      (sound_there code (state_at code place) (instr_at code place) s.sound).may ∙ h.desk));
}

first_of_rest : (code : Code) (place left : ℕ) → place < length code.instructions
    → take (suc left) (drop place code.instructions)
    ≡ instr_at code place ∷ take left (drop (place + 1) code.instructions)
first_of_rest code place left lt = ap (take (suc left)) (drop_more code.instructions place (Flow End) lt)

walk : (code : Code) (n : ℕ) (f : Filter) → Facts code → Place code n f → KeepsRules code → (left place : ℕ)
    → In code n f place (suc left)
    → BlockWalks code (state_at code place) (take (suc left) (drop place code.instructions))
walk code n f facts p keeps zero place h =
    let lt : place < length code.instructions = omega (arith, h.ends, p.last) in
    let s = here code n f p keeps place zero h in
    let b = block_is code n f p place zero h in
    let k : Kept code (here_at code place) = keeps place lt in
    let u = filter_rule code (here_at code place) (is_of_filters code n f p place b) k.filter in
    let t = truth_left code (here_at code place) u.1 (omega (arith, ap (λ x. x.end) b, p.end, h.ends)) s.given in
    subst (BlockWalks code (state_at code place)) (sym (first_of_rest code place zero lt)) (s, t)
walk code n f facts p keeps (suc left) place h =
    let lt : place < length code.instructions = omega (arith, h.ends, p.last) in
    let s = here code n f p keeps place (suc left) h in
    let e = state_after code n f facts p place left h in
    let rest = walk code n f facts p keeps left (place + 1) (goes_on code n f place left h s e) in
    subst (BlockWalks code (state_at code place)) (sym (first_of_rest code place (suc left) lt))
    (s, subst (λ x. BlockWalks code x (take (suc left) (drop (place + 1) code.instructions))) e rest)

begun_state : (code : Code) (n : ℕ) (f : Filter) → Facts code → Place code n f
    → slice_get code.declared.filters n ≡ Some f
    → state_at code (first_place code n) ≡ filter_start code.declared.slots f
begun_state code n f facts p e =
    let none = no_map code facts (first_place code n) (omega arith) in
    state_first code (first_place code n) p.first
    ∙ (ap (λ o. or_state o (start_of code (block_at code (first_place code n)).number)) none
    ∙ (ap (start_of code) p.number ∙ start_is code n f e))

walked : (code : Code) (n : ℕ) (f : Filter) → Facts code → Place code n f → KeepsRules code
    → slice_get code.declared.filters n ≡ Some f → (left : ℕ) → f.length ≡ suc left
    → BlockWalks code (filter_start code.declared.slots f) (take f.length (drop (first_place code n) code.instructions))
walked code n f facts p keeps e left l =
    let b = begun_state code n f facts p e in
    let w =
    walk code n f facts p keeps left (first_place code n)
    (record { ends = omega (arith, l); from = omega arith; desk = ap (λ x. x.desk) b }) in
    subst (λ s. BlockWalks code s (take f.length (drop (first_place code n) code.instructions))) b
    (subst (λ m. BlockWalks code (state_at code (first_place code n))
    (take m (drop (first_place code n) code.instructions))) (sym l) w)

pub filter_walks : (code : Code) → IsCode code → Facts code → KeepsRules code → (number : ℕ) (f : Filter)
    → filter_of code.declared number ≡ Some f
    → BlockWalks code (filter_start code.declared.slots f) (instructions_of code number (Some f))
filter_walks code ok facts keeps zero f e = absurd (cc)
filter_walks code ok facts keeps (suc n) f e =
    let p = place_of_filter code ok n f e in
    let m : suc n - 1 ≡ n = omega arith in
    let l : f.length ≡ suc (f.length - 1) = omega (arith, p.some) in
    rw m (walked code n f facts p keeps e (f.length - 1) l)
