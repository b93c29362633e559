-- A filter's block with slots that meet its needs: what is known of more slots is enough too.
use Rattle.std.proofs.Common.{◌≡◌, ℕ, zero, suc, true, false, List, [], ◌∷◌, length, replicate, Option, Some, None}
use Rattle.std.proofs.Common.{refl, sym, ap, ◌∙◌, subst, arith}
use Rattle.std.specs.Prelude.{slice_get, slice_set}
use Rattle.std.specs.List.{list_any}
use Rattle.std.proofs.lemmas.Bool.{and_parts, and_from, or_parts, not-false}
use Rattle.xvalue.specs.declared.kind.Kind.{Kind}
use Rattle.xvalue.specs.Kinds.{same_kind}
use Rattle.xvalue.proofs.KindLemmas.{kinds_same}
use Rattle.code_items.specs.declared.declared.Need.{Need}
use Rattle.code_items.specs.declared.declared.Filter.{Filter}
use Rattle.code_items.specs.declared.code.Code.{Code}
use Rattle.code_items.specs.declared.state.State.{State}
use Rattle.code_items.specs.Kinds.{slot_covered, slots_covered}
use Rattle.code_items.specs.declared.instr.Instr.{Instr}
use Rattle.code_items.specs.declared.instr.Instr.TheVariants.{Values, Flow, Screen, Areas, Moves, Records}
use Rattle.code_items.specs.declared.instr.ValueInstr.TheVariants.{Constant, Load, Store, Unset, Discard, Function}
use Rattle.code_items.specs.declared.instr.ValueInstr.TheVariants.{Today, Set}
use Rattle.code_rules.specs.Flow.{flow, left_by, slots_after}
use Rattle.code_rules.specs.Places.{needed, filter_start}
use Rattle.code_rules.specs.Rules.{filters, has_other, is_free, lacks, filter_lacks}
use Rattle.run_steps.specs.Filters.{block_start}
use Rattle.run_laws.proofs.FilterBlocks.{sound_here, sound_there}
use Rattle.fit_laws.specs.FilterWalks.{Steps, BlockWalks}
use Rattle.fit_laws.proofs.Filtering.{left_is}
use Rattle.fit_laws.proofs.Loads.{Loads, impossible, loads_well}

same_turned : (k l : Kind) → same_kind k l ≡ true → same_kind l k ≡ true
same_turned k l e =
    let s = kinds_same k l e in
    subst (λ x. same_kind l x ≡ true) (sym s) (subst (λ x. same_kind x l ≡ true) s e)

-- ---- the slots that are needed are covered by slots that meet the needs

nothing_covers : (slots : List (Option Kind)) (n : ℕ) → length slots ≡ n → slots_covered (replicate n None) slots ≡ true
nothing_covers [] zero e = refl
nothing_covers [] (suc n) e = absurd (omega (arith, e))
nothing_covers (s ∷ slots) zero e = absurd (omega (arith, e))
nothing_covers (s ∷ slots) (suc n) e = nothing_covers slots n (omega (arith, e))

slot_met : (k : Kind) (b : Option Kind) → Loads k (Some b) → slot_covered (Some k, b) ≡ true
slot_met k None e = impossible e.set
slot_met k (Some m) e = same_turned m k (not-false (same_kind m k) e.same)

one_met : (k : Kind) (as' bs : List (Option Kind)) (n : ℕ) → slots_covered as' bs ≡ true → Loads k (slice_get bs n)
    → slots_covered (slice_set as' n (Some k)) bs ≡ true
one_met k [] bs n c e = c
one_met k (a ∷ as') [] n c e = absurd (cc)
one_met k (a ∷ as') (b ∷ bs) zero c e =
    and_from (slot_covered (Some k, b)) (slots_covered as' bs) (slot_met k b e)
    (and_parts (slot_covered (a, b)) (slots_covered as' bs) c).1
one_met k (a ∷ as') (b ∷ bs) (suc n) c e =
    let p = and_parts (slot_covered (a, b)) (slots_covered as' bs) c in
    and_from (slot_covered (a, b)) (slots_covered (slice_set as' n (Some k)) bs) p.0 (one_met k as' bs n p.1 e)

all_met : (needs : List Need) (known slots : List (Option Kind)) → slots_covered known slots ≡ true
    → list_any (lacks slots) needs ≡ false → slots_covered (needed needs known) slots ≡ true
all_met [] known slots c e = c
all_met (need ∷ needs) known slots c e =
    let p = or_parts (lacks slots need) (list_any (lacks slots) needs) e in
    let q = or_parts (is_free (slice_get slots need.slot)) (has_other need.kind (slice_get slots need.slot)) p.0 in
    all_met needs (slice_set known need.slot (Some need.kind)) slots
    (one_met need.kind known slots need.slot c (record { same = q.1; set = q.0 })) p.1

-- ---- one instruction, and the whole block

-- what a filter's block may have leaves the slots alone
slots_stay : (i : Instr) (slots : List (Option Kind)) → filters i ≡ true → slots_after i slots ≡ slots
slots_stay (Values (Constant n)) slots e = refl
slots_stay (Values (Load k s)) slots e = refl
slots_stay (Values (Store k s)) slots e = absurd (cc)
slots_stay (Values (Unset s)) slots e = absurd (cc)
slots_stay (Values (Discard k)) slots e = refl
slots_stay (Values (Function f)) slots e = refl
slots_stay (Values Today) slots e = refl
slots_stay (Values (Set x on)) slots e = refl
slots_stay (Flow i) slots e = refl
slots_stay (Screen i) slots e = refl
slots_stay (Areas i) slots e = refl
slots_stay (Moves i) slots e = refl
slots_stay (Records i) slots e = refl

abbrev with_slots : List (Option Kind) → State → State
with_slots slots s = record s { slots = slots }

steps_more : (code : Code) (s : State) (slots : List (Option Kind)) (i : Instr) → slots_covered s.slots slots ≡ true
    → Steps code s i → Steps code (with_slots slots s) i
steps_more code s slots i c h =
    let is = sound_there code s i h.sound in
    let l = loads_well s (with_slots slots s) c i (record { other = is.other; set = is.set }) in
    record {
      sound = sound_here code (with_slots slots s) i (record {
        may = is.may;
        clash = is.clash;
        other = l.other;
        set = l.set;
        there = is.there;
        within = is.within;
        declared = is.declared;
      });
      given = h.given;
      left = left_is code i (with_slots slots s) is.may;
    }

-- what is left where more slots are known is what was left, with those slots
left_more : (code : Code) (s : State) (slots : List (Option Kind)) (i : Instr) → Steps code s i
    → with_slots slots (flow code i s) ≡ flow code i (with_slots slots s)
left_more code s slots i h =
    let may = (sound_there code s i h.sound).may in
    let a : with_slots slots (flow code i s) ≡ with_slots slots (left_by code i s) = ap (with_slots slots) h.left in
    let b : with_slots slots (left_by code i s) ≡ left_by code i (with_slots slots s) =
    ap (λ x. record { desk = (left_by code i s).desk; slots = x; stack = (left_by code i s).stack })
    (sym (slots_stay i slots may)) in
    a ∙ (b ∙ sym (left_is code i (with_slots slots s) may))

walks_more : (code : Code) (instrs : List Instr) (s : State) (slots : List (Option Kind))
    → slots_covered s.slots slots ≡ true → BlockWalks code s instrs → BlockWalks code (with_slots slots s) instrs
walks_more code [] s slots c w = w
walks_more code (i ∷ instrs) s slots c w =
    let e : (flow code i s).slots ≡ s.slots =
    ap (λ x. x.slots) w.0.left ∙ slots_stay i s.slots (sound_there code s i w.0.sound).may in
    let rest = walks_more code instrs (flow code i s) slots (subst (λ x. slots_covered x slots ≡ true) (sym e) c) w.1 in
    (steps_more code s slots i c w.0, subst (λ x. BlockWalks code x instrs) (left_more code s slots i w.0) rest)

pub walks_with : (code : Code) (f : Filter) (instrs : List Instr) (slots : List (Option Kind))
    → length slots ≡ code.declared.slots → filter_lacks slots (Some f) ≡ false
    → BlockWalks code (filter_start code.declared.slots f) instrs → BlockWalks code (block_start f.table slots) instrs
walks_with code f instrs slots l e w =
    walks_more code instrs (filter_start code.declared.slots f) slots
    (all_met f.needs (replicate code.declared.slots None) slots (nothing_covers slots code.declared.slots l) e) w
