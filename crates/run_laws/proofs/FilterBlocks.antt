-- A filter's block that was judged sound can be run for each row of the filter's table.
use Rattle.std.proofs.Common.{◌≡◌, ℕ, ◌+◌, ◌-◌, ◌<◌, ◌≤◌, Bool, true, false, List, [], ◌∷◌, ◌++◌, length, drop, Option}
use Rattle.std.proofs.Common.{Some, None, refl, sym, ap, subst, ◌∙◌, arith}
use Rattle.std.specs.Prelude.{not, ◌||◌, nat_lt, nat_le, map, slice_get, slice_index_or, reverse, if◌then◌else◌}
use Rattle.std.specs.List.{AllByRecursion}
use Rattle.std.proofs.lemmas.Bool.{leb-false, ltb-false, lt-ltb, not-false, not-true, not_from_true, and_parts}
use Rattle.std.proofs.lemmas.Bool.{or_parts}
use Rattle.std.proofs.lemmas.Bool.{or_from}
use Rattle.std.proofs.lemmas.List.{length-map, length-drop, length-reverse, drop-map}
use Rattle.xvalue.specs.declared.kind.Kind.{Kind}
use Rattle.xvalue.specs.declared.kind.Kind.TheVariants.{Logical as OfLogical}
use Rattle.xvalue.specs.declared.value.Value.{Value}
use Rattle.xvalue.specs.declared.value.Value.TheVariants.{Date, Logical}
use Rattle.xvalue.specs.Functions.{applied}
use Rattle.xvalue.specs.Given.{by_kind}
use Rattle.xvalue.specs.Kinds.{kind_of, same_kind}
use Rattle.xvalue.specs.Signature.{takes_of, gives_of}
use Rattle.dbf_file.specs.Tables.{letter_at, decimals_at}
use Rattle.dbf_file.specs.Values.{kind_for, value_by}
use Rattle.open_table.specs.Tried.{TriedRow}
use Rattle.work_area.specs.Making.{HaveAlikeFields}
use Rattle.code_items.specs.declared.code.Code.{Code}
use Rattle.code_items.specs.declared.instr.Instr.{Instr}
use Rattle.code_items.specs.declared.instr.Instr.TheVariants.{Values, Flow, Screen, Areas, Moves, Records}
use Rattle.code_items.specs.declared.instr.ValueInstr.{ValueInstr}
use Rattle.code_items.specs.declared.instr.ValueInstr.TheVariants as value_instr
use Rattle.code_items.specs.declared.instr.RecordInstr.{RecordInstr}
use Rattle.code_items.specs.declared.instr.RecordInstr.TheVariants as record_instr
use Rattle.code_items.specs.declared.instr.Question.{Question}
use Rattle.code_items.specs.declared.instr.Question.TheVariants.{Recno, Reccount, Eof, Bof, Found, Deleted}
use Rattle.code_items.specs.declared.state.State.{State}
use Rattle.code_items.specs.Kinds.{clashes, same_kinds, same_pair}
use Rattle.code_items.specs.Pairs.{along}
use Rattle.code_rules.specs.Flow.{left_by}
use Rattle.code_rules.specs.Places.{filter_desk}
use Rattle.code_rules.specs.Rules.{filters, height_after, has_other, is_free, loads_other, loads_free, undeclared}
use Rattle.code_rules.specs.Signature.{signature}
use Rattle.code_rules.specs.Wants.{wants, gives, known, fields_declared, kind_asked}
use Rattle.run_values.specs.BlockStack.{put_on}
use Rattle.run_values.specs.Tagged.{TaggedValues, HasOnTop, HoldsKind, arguments_on}
use Rattle.run_steps.specs.Filters.{Viewer, viewer, with_constant, with_held, row_run, row_field, asked_of, block_fails}
use Rattle.run_steps.specs.Filters.{block_sound, block_start, function_of, StepFits, BlockFits}
use Rattle.run_steps.specs.Needs.{BlockNeeds}
use Rattle.run_steps.specs.World.{EnvState, kind_held}
use Rattle.run_values.proofs.BlockTops.{put_there}
use Rattle.run_steps.proofs.Results.{ResultLaw}
use Rattle.dbf_file.proofs.ValueLemmas.{value_kind}
use Rattle.run_laws.proofs.AlikeFields.{alike_kind}
use Rattle.run_laws.proofs.Tests.{Same, on_top, slot_holds}

-- the tests of one instruction of it
pub record IsSoundThere (code : Code) (s : State) (i : Instr) : Type 0 where
  pub may : filters i ≡ true
  pub clash : clashes (wants code.declared s.desk i) s.stack ≡ false
  pub other : loads_other s i ≡ false
  pub set : loads_free s i ≡ false
  pub there : nat_lt (length s.stack) (signature i).taken ≡ false
  pub within : nat_lt code.declared.stack_bound (height_after (length s.stack) i) ≡ false
  pub declared : undeclared code s.desk i ≡ false

pub sound_there : (code : Code) (s : State) (i : Instr) → block_fails code s i ≡ false → IsSoundThere code s i
sound_there code s i e =
    let g = undeclared code s.desk i in
    let f = nat_lt code.declared.stack_bound (height_after (length s.stack) i) in
    let d = nat_lt (length s.stack) (signature i).taken in
    let c = loads_free s i in
    let b = loads_other s i in
    let a = clashes (wants code.declared s.desk i) s.stack in
    let p = or_parts (not (filters i)) (a || (b || (c || (d || (f || g))))) e in
    let q = or_parts a (b || (c || (d || (f || g)))) p.1 in
    let r = or_parts b (c || (d || (f || g))) q.1 in
    let t = or_parts c (d || (f || g)) r.1 in
    let u = or_parts d (f || g) t.1 in
    let v = or_parts f g u.1 in
    record {
      may = not-false (filters i) p.0;
      clash = q.0;
      other = r.0;
      set = t.0;
      there = u.0;
      within = v.0;
      declared = v.1;
    }

none_fails : (a b c d e f g : Bool) → a ≡ true → b ≡ false → c ≡ false → d ≡ false → e ≡ false → f ≡ false → g ≡ false
    → (not a || (b || (c || (d || (e || (f || g)))))) ≡ false
none_fails a b c d e f g ha hb hc hd he hf hg =
    or_from (not a) (b || (c || (d || (e || (f || g))))) (not_from_true a ha)
    (or_from b (c || (d || (e || (f || g)))) hb
    (or_from c (d || (e || (f || g))) hc
    (or_from d (e || (f || g)) hd
    (or_from e (f || g) he
    (or_from f g hf hg)))))

pub sound_here : (code : Code) (s : State) (i : Instr) → IsSoundThere code s i → block_fails code s i ≡ false
sound_here code s i is = none_fails _ _ _ _ _ _ _ is.may is.clash is.other is.set is.there is.within is.declared

-- where the block's run is: these slots, this desk, and a stack of few values of these kinds
record Stands (v : Viewer) (table : ℕ) (s : State) (st : List Value) : Type 0 where
  slots : s.slots ≡ map kind_held v.slots
  desk : s.desk ≡ filter_desk table
  stack : s.stack ≡ map kind_of st
  few : length st ≤ 64

-- an instruction can be carried out, and where the run is then
record Stepped (code : Code) (t : TaggedValues) (e : EnvState) (r : TriedRow) (table : ℕ) (s : State) (i : Instr)
    (st : List Value) : Type 0 where
  needs : BlockNeeds t i
  fits : StepFits (function_of i) st
  after : Stands (viewer t e) table (left_by code i s) (row_run code (viewer t e) r i st)

as_many : (v : Viewer) (table : ℕ) (s : State) (st : List Value) → Stands v table s st → length s.stack ≡ length st
as_many v table s st h = ap (λ (ks : List Kind). length ks) h.stack ∙ length-map st kind_of

has_room : (bound : ℕ) (v : Viewer) (table taken : ℕ) (s : State) (st : List Value) → bound ≤ 64 → Stands v table s st
    → nat_lt bound (length s.stack - taken + 1) ≡ false → length (drop taken st) < 64
has_room bound v table taken s st few h e =
    omega (arith, few, ltb-false bound (length s.stack - taken + 1) e, as_many v table s st h, length-drop taken st)

-- a value more
pushed : (v : Viewer) (table : ℕ) (s : State) (st : List Value) (k : Kind) (c : Value) → Stands v table s st
    → length st < 64 → kind_of c ≡ k
    → Stands v table (record { desk = s.desk; slots = s.slots; stack = k ∷ s.stack }) (put_on c st)
pushed v table s st k c h lt e =
    subst (Stands v table (record { desk = s.desk; slots = s.slots; stack = k ∷ s.stack })) (sym (put_there c st lt))
    (record {
      slots = h.slots;
      desk = h.desk;
      stack = ap (λ x. x ∷ s.stack) (sym e) ∙ ap (λ xs. kind_of c ∷ xs) h.stack;
      few = omega (arith, lt);
    })

constant_after : (v : Viewer) (table : ℕ) (s : State) (st : List Value) (x : Option Value) → Stands v table s st
    → length st < 64
    → Stands v table (record {
      desk = s.desk;
      slots = s.slots;
      stack = known (Some (kind_held x)) ++ s.stack;
    }) (with_constant x st)
constant_after v table s st None h lt = h
constant_after v table s st (Some c) h lt = pushed v table s st (kind_of c) c h lt refl

held_after : (v : Viewer) (table : ℕ) (s : State) (st : List Value) (k : Kind) (x : Option (Option Value))
    → HoldsKind k x → Stands v table s st → length st < 64
    → Stands v table (record { desk = s.desk; slots = s.slots; stack = k ∷ s.stack }) (with_held x st)
held_after v table s st k None holds h lt = absurd holds
held_after v table s st k (Some None) holds h lt = absurd holds
held_after v table s st k (Some (Some c)) holds h lt = pushed v table s st k c h lt holds

-- so many values fewer
dropped : (v : Viewer) (table : ℕ) (s : State) (st : List Value) (n : ℕ) → Stands v table s st
    → Stands v table (record { desk = s.desk; slots = s.slots; stack = drop n s.stack }) (drop n st)
dropped v table s st n h = record {
  slots = h.slots;
  desk = h.desk;
  stack = ap (drop n) h.stack ∙ drop-map kind_of n st;
  few = omega (arith, h.few, length-drop n st);
}

asked_kind : (q : Question) (r : TriedRow) → kind_of (asked_of q r) ≡ kind_asked q
asked_kind Recno r = refl
asked_kind Reccount r = refl
asked_kind Eof r = refl
asked_kind Bof r = refl
asked_kind Found r = refl
asked_kind Deleted r = refl

pub field_kind_is : (f : ℕ) (r : TriedRow) → f < length r.structure.fields
    → kind_of (row_field f r) ≡ kind_for (letter_at r.structure f)
field_kind_is f r lt =
    let value = value_by (letter_at r.structure f) (decimals_at r.structure f) (slice_index_or r.row.texts f []) in
    ap (λ (b : Bool). kind_of (if b then value else Logical false)) (lt-ltb f (length r.structure.fields) lt)
    ∙ value_kind (letter_at r.structure f) (decimals_at r.structure f) (slice_index_or r.row.texts f [])

-- ---- one instruction

-- what is the same for all instructions of the block
record ForAll (code : Code) (t : TaggedValues) (r : TriedRow) (table : ℕ) : Type 0 where
  bound : code.declared.stack_bound ≤ 64
  slots : length t.slots ≡ code.declared.slots
  alike : HaveAlikeFields r.structure.fields (fields_declared (slice_get code.declared.shape.tables table))

value_steps : Same → ResultLaw → (code : Code) (t : TaggedValues) (e : EnvState) (r : TriedRow) (table : ℕ)
    → ForAll code t r table → (s : State) (i : ValueInstr) (st : List Value) → Stands (viewer t e) table s st
    → IsSoundThere code s (Values i) → Stepped code t e r table s (Values i) st
value_steps same law code t e r table g s (value_instr.Constant n) st h is =
    let lt = has_room code.declared.stack_bound (viewer t e) table 0 s st g.bound h is.within in record {
      needs = tt;
      fits = lt;
      after = constant_after (viewer t e) table s st (slice_get code.declared.constants n) h lt;
    }
value_steps same law code t e r table g s (value_instr.Load k n) st h is =
    let lt = has_room code.declared.stack_bound (viewer t e) table 0 s st g.bound h is.within in
    let slots : s.slots ≡ map kind_held t.slots = h.slots in
    let holds = slot_holds same k t.slots n (omega (arith, g.slots, leb-false code.declared.slots n is.declared))
    (subst (λ x. has_other k (slice_get x n) ≡ false) slots is.other)
    (subst (λ x. is_free (slice_get x n) ≡ false) slots is.set) in
    record { needs = holds; fits = lt; after = held_after (viewer t e) table s st k (slice_get t.slots n) holds h lt }
value_steps same law code t e r table g s (value_instr.Function f) st h is =
    let n = length (takes_of f) in
    let many = as_many (viewer t e) table s st h in
    let lt = has_room code.declared.stack_bound (viewer t e) table n s st g.bound h is.within in
    let clash : clashes (reverse (takes_of f)) (map kind_of st) ≡ false =
    subst (λ ks. clashes (reverse (takes_of f)) ks ≡ false) h.stack is.clash in
    let enough : n ≤ length st = omega (arith, ltb-false (length s.stack) n is.there, many) in
    record {
      needs = tt;
      fits = (
        on_top same (reverse (takes_of f)) st clash (omega (arith, enough, length-reverse (takes_of f))),
        h.few,
      );
      after = pushed (viewer t e) table (record { desk = s.desk; slots = s.slots; stack = drop n s.stack }) (drop n st)
          (gives_of f) (applied f e.settings (by_kind (arguments_on f st)))
          (dropped (viewer t e) table s st n h) lt (law f e.settings (by_kind (arguments_on f st)));
    }
value_steps same law code t e r table g s value_instr.Today st h is =
    let lt = has_room code.declared.stack_bound (viewer t e) table 0 s st g.bound h is.within in
    record { needs = tt; fits = lt; after = pushed (viewer t e) table s st _ (Date e.today) h lt refl }
value_steps same law code t e r table g s (value_instr.Store k n) st h is = absurd (let x = is.may in cc)
value_steps same law code t e r table g s (value_instr.Unset n) st h is = absurd (let x = is.may in cc)
value_steps same law code t e r table g s (value_instr.Discard k) st h is = absurd (let x = is.may in cc)
value_steps same law code t e r table g s (value_instr.Set x on) st h is = absurd (let y = is.may in cc)

record_steps : (code : Code) (t : TaggedValues) (e : EnvState) (r : TriedRow) (table : ℕ) → ForAll code t r table
    → (s : State) (i : RecordInstr) (st : List Value) → Stands (viewer t e) table s st
    → IsSoundThere code s (Records i) → Stepped code t e r table s (Records i) st
record_steps code t e r table g s (record_instr.RowField f) st h is =
    let v = viewer t e in
    let fs = fields_declared (slice_get code.declared.shape.tables table) in
    let lt = has_room code.declared.stack_bound v table 0 s st g.bound h is.within in
    let named : nat_le (length fs) f ≡ false =
    subst (λ d. undeclared code d (Records (record_instr.RowField f)) ≡ false) h.desk is.declared in
    let within : f < length r.structure.fields = omega (arith, leb-false (length fs) f named, g.alike.count) in
    let kind : gives code.declared s.desk (Records (record_instr.RowField f))
    ≡ Some (Some (kind_for (letter_at r.structure f))) =
    ap (λ d. gives code.declared d (Records (record_instr.RowField f))) h.desk
    ∙ ap (λ (k : Option Kind). Some k) (alike_kind r.structure fs f within g.alike) in
    record {
      needs = tt;
      fits = lt;
      after = subst (λ (k : Option (Option Kind)). Stands v table
          (record { desk = s.desk; slots = s.slots; stack = known k ++ s.stack }) (put_on (row_field f r) st))
          (sym kind)
          (pushed v table s st (kind_for (letter_at r.structure f)) (row_field f r) h lt (field_kind_is f r within));
    }
record_steps code t e r table g s (record_instr.Ask q) st h is =
    let lt = has_room code.declared.stack_bound (viewer t e) table 0 s st g.bound h is.within in record {
      needs = tt;
      fits = lt;
      after = pushed (viewer t e) table s st (kind_asked q) (asked_of q r) h lt (asked_kind q r);
    }
record_steps code t e r table g s (record_instr.Field a f) st h is = absurd (let x = is.may in cc)
record_steps code t e r table g s record_instr.Append st h is = absurd (let x = is.may in cc)
record_steps code t e r table g s (record_instr.Replace f) st h is = absurd (let x = is.may in cc)
record_steps code t e r table g s record_instr.Delete st h is = absurd (let x = is.may in cc)
record_steps code t e r table g s record_instr.Recall st h is = absurd (let x = is.may in cc)
record_steps code t e r table g s record_instr.Pack st h is = absurd (let x = is.may in cc)
record_steps code t e r table g s record_instr.Zap st h is = absurd (let x = is.may in cc)
record_steps code t e r table g s record_instr.Reindex st h is = absurd (let x = is.may in cc)
record_steps code t e r table g s (record_instr.Index n) st h is = absurd (let x = is.may in cc)

steps : Same → ResultLaw → (code : Code) (t : TaggedValues) (e : EnvState) (r : TriedRow) (table : ℕ)
    → ForAll code t r table → (s : State) (i : Instr) (st : List Value) → Stands (viewer t e) table s st
    → IsSoundThere code s i → Stepped code t e r table s i st
steps same law code t e r table g s (Values i) st h is = value_steps same law code t e r table g s i st h is
steps same law code t e r table g s (Records i) st h is = record_steps code t e r table g s i st h is
steps same law code t e r table g s (Flow i) st h is = absurd (let x = is.may in cc)
steps same law code t e r table g s (Screen i) st h is = absurd (let x = is.may in cc)
steps same law code t e r table g s (Areas i) st h is = absurd (let x = is.may in cc)
steps same law code t e r table g s (Moves i) st h is = absurd (let x = is.may in cc)

-- ---- the block

-- at its end a truth value is on top
ends : Same → (st : List Value) → same_kinds (OfLogical ∷ []) (map kind_of st) ≡ true → HasOnTop (OfLogical ∷ []) st
ends same [] e = absurd (cc)
ends same (c ∷ st) e = (
  sym (same OfLogical (kind_of c)
      (and_parts (same_kind OfLogical (kind_of c)) (along same_pair [] (map kind_of st)) e).0),
  tt,
)

-- what a block needs of the slots, and of its stack
pub record BlockRuns (code : Code) (t : TaggedValues) (e : EnvState) (r : TriedRow) (is : List Instr)
    (st : List Value) : Type 0 where
  pub needs : AllByRecursion (BlockNeeds t) is
  pub fits : BlockFits code (viewer t e) r is st

runs_from : Same → ResultLaw → (code : Code) (t : TaggedValues) (e : EnvState) (r : TriedRow) (table : ℕ)
    → ForAll code t r table → (s : State) (is : List Instr) (st : List Value) → Stands (viewer t e) table s st
    → block_sound code s is ≡ true → BlockRuns code t e r is st
runs_from same law code t e r table g s [] st h sound =
    record { needs = tt; fits = ends same st (subst (λ ks. same_kinds (OfLogical ∷ []) ks ≡ true) h.stack sound) }
runs_from same law code t e r table g s (i ∷ is) st h sound =
    let p = and_parts (not (block_fails code s i)) (block_sound code (left_by code i s) is) sound in
    let one = steps same law code t e r table g s i st h (sound_there code s i (not-true (block_fails code s i) p.0)) in
    let rest = runs_from same law code t e r table g (left_by code i s) is
    (row_run code (viewer t e) r i st) one.after p.1 in
    record { needs = (one.needs, rest.needs); fits = (one.fits, rest.fits) }

pub block_runs : Same → ResultLaw → (code : Code) (t : TaggedValues) (e : EnvState) (r : TriedRow) (table : ℕ)
    → code.declared.stack_bound ≤ 64 → length t.slots ≡ code.declared.slots
    → HaveAlikeFields r.structure.fields (fields_declared (slice_get code.declared.shape.tables table))
    → (is : List Instr) → block_sound code (block_start table (map kind_held t.slots)) is ≡ true
    → BlockRuns code t e r is []
block_runs same law code t e r table bound slots alike is sound =
    runs_from same law code t e r table (record { bound = bound; slots = slots; alike = alike })
    (block_start table (map kind_held t.slots)) is []
    (record { slots = refl; desk = refl; stack = refl; few = omega arith }) sound
