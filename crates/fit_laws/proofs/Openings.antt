-- The world from which a run begins fits what is known at the first place.
use Rattle.std.proofs.Common.{◌≡◌, ℕ, zero, suc, true, ◌&&◌, ◌==◌, List, [], ◌∷◌, length, Option, Some, None, refl}
use Rattle.std.proofs.Common.{subst, arith}
use Rattle.std.specs.Prelude.{is_none, map, replicate, slice_get, take}
use Rattle.std.specs.List.{list_all}
use Rattle.std.proofs.lemmas.Bool.{and_parts, and_from, eqb-true}
use Rattle.calendar.specs.declared.day.DayParts.{DayParts}
use Rattle.xvalue.specs.declared.kind.Kind.{Kind}
use Rattle.open_table.specs.Open.{OpenState}
use Rattle.work_area.specs.Areas.{StoreState, closed_all}
use Rattle.code_items.specs.declared.code.Code.{Code}
use Rattle.code_items.specs.declared.code.Proc.{Proc}
use Rattle.code_items.specs.declared.declared.Declared.{Declared}
use Rattle.code_items.specs.declared.desk.AreaState.{AreaState}
use Rattle.code_items.specs.declared.desk.AreaState.TheVariants.{Closed, Open as IsOpen, Unsure}
use Rattle.code_items.specs.Desks.{areas_covered}
use Rattle.code_items.specs.Kinds.{slots_covered}
use Rattle.code_items.specs.Legal.{is_procedure, begins_blank, places_of}
use Rattle.code_items.specs.States.{is_closed, is_state_of_start}
use Rattle.code_rules.specs.Places.{state_at}
use Rattle.code_rules.specs.Rules.{covers}
use Rattle.fit_laws.specs.Connects.{Connects}
use Rattle.run_steps.specs.World.{state_of, kind_held, area_state}
use Rattle.run_steps.specs.Opening.{opening}
use Rattle.run_laws.proofs.Known.{known_of}
use Rattle.fit_laws.specs.Fits.{Fits}
use Rattle.fit_laws.proofs.Going.{CoverLaw, covers_made}
use Rattle.fit_laws.proofs.Returns.{Procedures, Procedure, procedure_of}

-- ---- what is known of nothing covers what is not there

free_covered : (as' : List (Option Kind)) (n : ℕ) → list_all is_none as' ≡ true → length as' ≡ n
    → slots_covered as' (map kind_held (replicate n None)) ≡ true
free_covered [] zero e l = refl
free_covered [] (suc n) e l = absurd (omega (arith, l))
free_covered (None ∷ as') zero e l = absurd (omega (arith, l))
free_covered (None ∷ as') (suc n) e l = free_covered as' n e (omega (arith, l))
free_covered (Some k ∷ as') n e l = absurd (cc)

closed_covered : (tables : List OpenState) (as' : List AreaState) (n : ℕ) → list_all is_closed as' ≡ true
    → length as' ≡ n → areas_covered as' (map (area_state tables) (replicate n None)) ≡ true
closed_covered tables [] zero e l = refl
closed_covered tables [] (suc n) e l = absurd (omega (arith, l))
closed_covered tables (Closed ∷ as') zero e l = absurd (omega (arith, l))
closed_covered tables (Closed ∷ as') (suc n) e l = closed_covered tables as' n e (omega (arith, l))
closed_covered tables (IsOpen a ∷ as') n e l = absurd (cc)
closed_covered tables (Unsure ∷ as') n e l = absurd (cc)

no_kinds : (ks : List Kind) → length ks ≡ 0 → ks ≡ []
no_kinds [] e = refl
no_kinds (k ∷ ks) e = absurd (omega (arith, e))

-- ---- the first procedure

record Main (d : Declared) (procedures : List Proc) : Type 0 where
  main : Proc
  is : slice_get procedures 0 ≡ Some main
  legal : Procedure d main
  blank : is_state_of_start main.entry ≡ true
  first : places_of (take 0 procedures) ≡ 0

main_of : (d : Declared) (procedures : List Proc) → list_all (is_procedure d) procedures ≡ true
    → begins_blank procedures ≡ true → Main d procedures
main_of d [] all blank = absurd (cc)
main_of d (p ∷ procedures) all blank = record {
  main = p;
  is = refl;
  legal = procedure_of d p (and_parts (is_procedure d p) (list_all (is_procedure d) procedures) all).0;
  blank = blank;
  first = refl;
}

entry_covers : (code : Code) (p : Proc) → Procedure code.declared p → is_state_of_start p.entry ≡ true
    → (store : StoreState) (lines : List (List ℕ)) (today : Option DayParts)
    → covers p.entry (state_of (opening code store lines today)) ≡ true
entry_covers code p h blank store lines today =
    let k = known_of code.declared p.entry h.entry in
    let a =
    and_parts (p.entry.desk.selected == 1 && list_all is_closed p.entry.desk.areas) (list_all is_none p.entry.slots)
    blank in
    let b = and_parts (p.entry.desk.selected == 1) (list_all is_closed p.entry.desk.areas) a.0 in
    let areas = closed_covered (closed_all store).tables p.entry.desk.areas 10 b.1 k.ten in
    covers_made p.entry (state_of (opening code store lines today))
    (free_covered p.entry.slots code.declared.slots a.1 k.slots)
    (and_from (p.entry.desk.selected == 1)
    (areas_covered p.entry.desk.areas (map (area_state (closed_all store).tables) (closed_all store).areas)) b.0
    areas)
    (no_kinds p.entry.stack (eqb-true (length p.entry.stack) 0 h.empty))

pub opening_fits : (code : Code) → CoverLaw → Connects code → Procedures code
    → (store : StoreState) (lines : List (List ℕ)) (today : Option DayParts)
    → Fits code (opening code store lines today)
opening_fits code on c ps store lines today =
    let m = main_of code.declared code.procedures ps.all ps.blank in
    let begun : covers (state_at code 0) m.main.entry ≡ true =
    subst (λ n. covers (state_at code n) m.main.entry ≡ true) m.first (c.enters 0 m.main m.is).covered in
    on (state_at code 0) m.main.entry (state_of (opening code store lines today)) begun
    (entry_covers code m.main m.legal m.blank store lines today)
