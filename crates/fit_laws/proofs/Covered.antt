-- Covering taken apart: what is known of selected area, areas, slots and stack.
use Rattle.std.proofs.Common.{◌≡◌, ℕ, zero, suc, true, false, ◌&&◌, ◌==◌, List, [], ◌∷◌, Some, refl, ap, ◌∙◌}
use Rattle.std.specs.Prelude.{is_none, slice_get}
use Rattle.std.proofs.lemmas.Bool.{and_parts, eqb-true}
use Rattle.xvalue.specs.declared.kind.Kind.{Kind}
use Rattle.xvalue.proofs.KindLemmas.{kinds_same}
use Rattle.code_items.specs.declared.desk.OpenArea.{OpenArea}
use Rattle.code_items.specs.declared.desk.AreaState.{AreaState}
use Rattle.code_items.specs.declared.desk.AreaState.TheVariants.{Closed, Open as IsOpen, Unsure}
use Rattle.code_items.specs.declared.desk.Desk.{Desk}
use Rattle.code_items.specs.declared.state.State.{State}
use Rattle.code_items.specs.Desks.{same_area, area_covered, areas_covered, desk_covered, if_open as opened_of, open_at}
use Rattle.code_items.specs.Kinds.{same_pair, same_kinds, slots_covered}
use Rattle.code_rules.specs.Rules.{covers, selected_in}

-- ---- kinds

pub joined : {A : Type 0} (k l : A) (ks ls : List A) → k ≡ l → ks ≡ ls → k ∷ ks ≡ l ∷ ls
joined k l ks ls e f = rw (e, f) refl

pub stacks_same : (ks ls : List Kind) → same_kinds ks ls ≡ true → ks ≡ ls
stacks_same [] [] e = refl
stacks_same [] (l ∷ ls) e = absurd (cc)
stacks_same (k ∷ ks) [] e = absurd (cc)
stacks_same (k ∷ ks) (l ∷ ls) e =
    let p = and_parts (same_pair (k, l)) (same_kinds ks ls) e in
    joined k l ks ls (kinds_same k l p.0) (stacks_same ks ls p.1)

-- ---- areas that are known to be open

pub area_same : (a b : OpenArea) → same_area a b ≡ true → a ≡ b
area_same a b e =
    let e3 = and_parts (a.table == b.table && a.list == b.list && a.order == b.order) (a.filter == b.filter) e in
    let e2 = and_parts (a.table == b.table && a.list == b.list) (a.order == b.order) e3.0 in
    let e1 = and_parts (a.table == b.table) (a.list == b.list) e2.0 in
    let t : a.table ≡ b.table = eqb-true a.table b.table e1.0 in
    let l : a.list ≡ b.list = eqb-true a.list b.list e1.1 in
    let o : a.order ≡ b.order = eqb-true a.order b.order e2.1 in
    let f : a.filter ≡ b.filter = eqb-true a.filter b.filter e3.1 in
    λ i. record { table = t i; list = l i; order = o i; filter = f i }

state_open : (a b : AreaState) → area_covered (a, b) ≡ true → is_none (opened_of (Some a)) ≡ false
    → opened_of (Some a) ≡ opened_of (Some b)
state_open Unsure b c e = absurd (cc)
state_open Closed b c e = absurd (cc)
state_open (IsOpen a) Closed c e = absurd (cc)
state_open (IsOpen a) Unsure c e = absurd (cc)
state_open (IsOpen a) (IsOpen b) c e = ap Some (area_same a b c)

areas_open : (as' bs : List AreaState) (n : ℕ) → areas_covered as' bs ≡ true
    → is_none (opened_of (slice_get as' n)) ≡ false → opened_of (slice_get as' n) ≡ opened_of (slice_get bs n)
areas_open [] [] n c e = refl
areas_open [] (b ∷ bs) n c e = absurd (cc)
areas_open (a ∷ as') [] n c e = absurd (cc)
areas_open (a ∷ as') (b ∷ bs) zero c e = state_open a b (and_parts (area_covered (a, b)) (areas_covered as' bs) c).0 e
areas_open (a ∷ as') (b ∷ bs) (suc n) c e =
    areas_open as' bs n (and_parts (area_covered (a, b)) (areas_covered as' bs) c).1 e

-- ---- desks

-- the same area is selected, and the areas are covered
pub record Desks (m s : Desk) : Type 0 where
  pub selected : m.selected ≡ s.selected
  pub areas : areas_covered m.areas s.areas ≡ true

pub opens : (m s : Desk) → Desks m s → (n : ℕ) → is_none (open_at m n) ≡ false → open_at m n ≡ open_at s n
opens m s d zero e = refl
opens m s d (suc n) e = areas_open m.areas s.areas n d.areas e

pub selects : (m s : Desk) → Desks m s → is_none (selected_in m) ≡ false → selected_in m ≡ selected_in s
selects m s d e = opens m s d m.selected e ∙ ap (open_at s) d.selected

-- ---- states

pub record Covered (m s : State) : Type 0 where
  pub slots : slots_covered m.slots s.slots ≡ true
  pub desk : Desks m.desk s.desk
  pub stack : m.stack ≡ s.stack

pub covered : (m s : State) → covers m s ≡ true → Covered m s
covered m s e =
    let e2 = and_parts (slots_covered m.slots s.slots && desk_covered m.desk s.desk) (same_kinds m.stack s.stack) e in
    let e1 = and_parts (slots_covered m.slots s.slots) (desk_covered m.desk s.desk) e2.0 in
    let d = and_parts (m.desk.selected == s.desk.selected) (areas_covered m.desk.areas s.desk.areas) e1.1 in
    record {
      slots = e1.0;
      desk = record { selected = eqb-true m.desk.selected s.desk.selected d.0; areas = d.1 };
      stack = stacks_same m.stack s.stack e2.1;
    }
