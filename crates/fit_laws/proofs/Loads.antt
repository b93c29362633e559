-- Slots: one that may be loaded may be where more is known.
use Rattle.std.proofs.Common.{◌≡◌, ℕ, zero, suc, true, false, List, [], ◌∷◌, Option, Some, None, refl, subst}
use Rattle.std.specs.Prelude.{slice_get}
use Rattle.std.specs.List.{list_any}
use Rattle.std.proofs.lemmas.Bool.{and_parts, or_parts, or_from}
use Rattle.xvalue.specs.declared.kind.Kind.{Kind}
use Rattle.xvalue.proofs.KindLemmas.{kinds_same}
use Rattle.code_items.specs.declared.declared.Need.{Need}
use Rattle.code_items.specs.declared.declared.Filter.{Filter}
use Rattle.code_items.specs.declared.state.State.{State}
use Rattle.code_items.specs.Kinds.{slot_covered, slots_covered}
use Rattle.code_items.specs.declared.instr.ValueInstr.{ValueInstr}
use Rattle.code_items.specs.declared.instr.ValueInstr.TheVariants.{Constant, Load, Store, Unset, Discard, Function}
use Rattle.code_items.specs.declared.instr.ValueInstr.TheVariants.{Today, Set}
use Rattle.code_items.specs.declared.instr.Instr.{Instr}
use Rattle.code_items.specs.declared.instr.Instr.TheVariants.{Values, Flow, Screen, Areas, Moves, Records}
use Rattle.code_rules.specs.Rules.{has_other, is_free, loads_other, loads_free, lacks, filter_lacks}

-- it is set, and not to another kind
pub record Loads (k : Kind) (o : Option (Option Kind)) : Type 0 where
  pub same : has_other k o ≡ false
  pub set : is_free o ≡ false

pub impossible : {P : Type 0} → true ≡ false → P
impossible e = absurd (cc)

slot_loads : (k : Kind) (a b : Option Kind) → slot_covered (a, b) ≡ true → Loads k (Some a) → Loads k (Some b)
slot_loads k None b c e = impossible e.set
slot_loads k (Some l) None c e = absurd (cc)
slot_loads k (Some l) (Some m) c e = record {
  same = subst (λ x. has_other k (Some (Some x)) ≡ false) (kinds_same l m c) e.same;
  set = refl;
}

loads_more : (k : Kind) (as' bs : List (Option Kind)) (n : ℕ) → slots_covered as' bs ≡ true → Loads k (slice_get as' n)
    → Loads k (slice_get bs n)
loads_more k [] [] n c e = e
loads_more k [] (b ∷ bs) n c e = absurd (cc)
loads_more k (a ∷ as') [] n c e = absurd (cc)
loads_more k (a ∷ as') (b ∷ bs) zero c e =
    slot_loads k a b (and_parts (slot_covered (a, b)) (slots_covered as' bs) c).0 e
loads_more k (a ∷ as') (b ∷ bs) (suc n) c e =
    loads_more k as' bs n (and_parts (slot_covered (a, b)) (slots_covered as' bs) c).1 e

-- an instruction loads no slot that is free or of another kind
pub record LoadsWell (s : State) (i : Instr) : Type 0 where
  pub other : loads_other s i ≡ false
  pub set : loads_free s i ≡ false

value_loads : (m s : State) → slots_covered m.slots s.slots ≡ true → (i : ValueInstr) → LoadsWell m (Values i)
    → LoadsWell s (Values i)
value_loads m s c (Constant n) e = record { other = refl; set = refl }
value_loads m s c (Load k n) e =
    let l = loads_more k m.slots s.slots n c (record { same = e.other; set = e.set }) in
    record { other = l.same; set = l.set }
value_loads m s c (Store k n) e = record { other = refl; set = refl }
value_loads m s c (Unset n) e = record { other = refl; set = refl }
value_loads m s c (Discard k) e = record { other = refl; set = refl }
value_loads m s c (Function f) e = record { other = refl; set = refl }
value_loads m s c Today e = record { other = refl; set = refl }
value_loads m s c (Set x on) e = record { other = refl; set = refl }

pub loads_well : (m s : State) → slots_covered m.slots s.slots ≡ true → (i : Instr) → LoadsWell m i → LoadsWell s i
loads_well m s c (Values i) e = value_loads m s c i e
loads_well m s c (Flow i) e = record { other = refl; set = refl }
loads_well m s c (Screen i) e = record { other = refl; set = refl }
loads_well m s c (Areas i) e = record { other = refl; set = refl }
loads_well m s c (Moves i) e = record { other = refl; set = refl }
loads_well m s c (Records i) e = record { other = refl; set = refl }

-- ---- what a filter needs

need_met : (as' bs : List (Option Kind)) → slots_covered as' bs ≡ true → (need : Need) → lacks as' need ≡ false
    → lacks bs need ≡ false
need_met as' bs c need e =
    let p = or_parts (is_free (slice_get as' need.slot)) (has_other need.kind (slice_get as' need.slot)) e in
    let l = loads_more need.kind as' bs need.slot c (record { same = p.1; set = p.0 }) in
    or_from (is_free (slice_get bs need.slot)) (has_other need.kind (slice_get bs need.slot)) l.set l.same

needs_met : (as' bs : List (Option Kind)) → slots_covered as' bs ≡ true → (needs : List Need)
    → list_any (lacks as') needs ≡ false → list_any (lacks bs) needs ≡ false
needs_met as' bs c [] e = refl
needs_met as' bs c (need ∷ needs) e =
    let p = or_parts (lacks as' need) (list_any (lacks as') needs) e in
    or_from (lacks bs need) (list_any (lacks bs) needs) (need_met as' bs c need p.0) (needs_met as' bs c needs p.1)

pub filter_met : (as' bs : List (Option Kind)) → slots_covered as' bs ≡ true → (f : Filter)
    → filter_lacks as' (Some f) ≡ false → filter_lacks bs (Some f) ≡ false
filter_met as' bs c f e = needs_met as' bs c f.needs e
