-- A store of a code's shape, seen table by table and area by area, and back again.
use Rattle.std.proofs.Common.{◌≡◌, ℕ, zero, suc, ◌-◌, ◌≤◌, true, List, [], ◌∷◌, length, Option, Some, None, refl, sym}
use Rattle.std.proofs.Common.{ap, subst, ◌∙◌, arith}
use Rattle.std.specs.Prelude.{◌==◌, ◌&&◌, nat_le, map, slice_get, slice_index_or, is_some, IfSome}
use Rattle.std.specs.List.{list_all}
use Rattle.std.proofs.lemmas.Bool.{eq-eqb, le-leb, and_from}
use Rattle.std.proofs.lemmas.List.{length-map}
use Rattle.std.proofs.lemmas.Option.{slice_get_within}
use Rattle.shape.specs.declared.indexes.IndexShape.{IndexShape}
use Rattle.shape.specs.declared.tables.TableShape.{TableShape}
use Rattle.open_table.specs.Open.{OpenState}
use Rattle.open_table.specs.Marks.{mark_at}
use Rattle.work_area.specs.declared.uses.Use.{Use}
use Rattle.work_area.specs.Areas.{StoreState, AreApart, use_at, used_table, table_at}
use Rattle.work_area.specs.Making.{HaveAlikeFields}
use Rattle.code_items.specs.declared.declared.Declared.{Declared}
use Rattle.code_items.specs.declared.state.State.{State}
use Rattle.code_items.specs.States.{is_open, is_area_state, is_desk, is_state}
use Rattle.run_steps.specs.World.{order_of, area_state, desk_of}
use Rattle.run_steps.specs.Shapes.{StoreFits, ListStands}
use Rattle.run_laws.proofs.Known.{area_by}
use Rattle.run_laws.proofs.Stores.{KindFits, IsSound}
use Rattle.run_laws.proofs.Tests.{all_at, mapped_at}

use_there : (areas : List (Option Use)) (n : ℕ) (u : Use) → slice_index_or areas n None ≡ Some u
    → slice_get areas n ≡ Some (Some u)
use_there [] n u e = absurd (cc)
use_there (x ∷ areas) zero u e = ap (λ (y : Option Use). Some y) e
use_there (x ∷ areas) (suc n) u e = use_there areas n u e

pub kinds_from : (d : Declared) (s : StoreState) → StoreFits d s → (t : ℕ) (o : OpenState)
    → slice_get s.tables t ≡ Some o → KindFits d t o
kinds_from d s fits t o at = record {
  fields =
      subst (λ x. IfSome x
      (λ (p : OpenState). IfSome (slice_get d.shape.tables t)
      (λ (declared : TableShape). HaveAlikeFields p.table.structure.fields declared.fields)))
      at (fits.fields t (slice_get_within s.tables t o at));
  indexes =
      λ n x is same. subst (λ y. IfSome y (λ (p : OpenState). is_some (mark_at p.table.marks n) ≡ true))
      (ap (slice_get s.tables) same ∙ at)
      (subst (λ y. IfSome y
      (λ (x : IndexShape). IfSome (table_at s x.table)
      (λ (p : OpenState). is_some (mark_at p.table.marks n) ≡ true))) is (fits.indexes n));
}

pub sound_from : (d : Declared) (s : StoreState) → list_all (is_area_state d) (desk_of s).areas ≡ true
    → length (desk_of s).areas ≡ 10 → 1 ≤ s.selected → s.selected ≤ 10 → StoreFits d s → AreApart s.areas → IsSound d s
sound_from d s all ten least most fits apart = record {
  count = fits.count;
  kinds = kinds_from d s fits;
  held = λ n u e. (let same : suc n - 1 ≡ n = omega arith in
      let held : use_at s (suc n) ≡ Some u = ap (λ k. slice_index_or s.areas k None) same ∙ e in record {
        list = subst (λ x. IfSome x (λ (v : Use). IfSome (used_table s x) (ListStands d v))) held (fits.lists (suc n));
        legal =
            all_at (is_area_state d) (map (area_state s.tables) s.areas) n (area_state s.tables (Some u)) all
            (mapped_at (area_state s.tables) s.areas n (Some u) (use_there s.areas n u e));
      });
  ten = sym (length-map s.areas (area_state s.tables)) ∙ ten;
  one = least;
  last = most;
  apart = apart;
}

-- of each declared index, where its table has a mark for it
pub indexes_at : (d : Declared) (s : StoreState)
    → ((n : ℕ) (x : IndexShape) (o : OpenState) → slice_get d.shape.indexes n ≡ Some x
    → slice_get s.tables x.table ≡ Some o → is_some (mark_at o.table.marks n) ≡ true) → (n : ℕ)
    → IfSome (slice_get d.shape.indexes n)
    (λ (x : IndexShape). IfSome (table_at s x.table) (λ (o : OpenState). is_some (mark_at o.table.marks n) ≡ true))
indexes_at d s marked n = index_at (slice_get d.shape.indexes n) refl
  where
    mark_in : (x : IndexShape) → slice_get d.shape.indexes n ≡ Some x → (y : Option OpenState)
        → slice_get s.tables x.table ≡ y → IfSome y (λ (o : OpenState). is_some (mark_at o.table.marks n) ≡ true)
    mark_in x is None e = tt
    mark_in x is (Some o) e = marked n x o is e

    index_at : (x : Option IndexShape) → slice_get d.shape.indexes n ≡ x
        → IfSome x
        (λ (x : IndexShape). IfSome (table_at s x.table) (λ (o : OpenState). is_some (mark_at o.table.marks n) ≡ true))
    index_at None e = tt
    index_at (Some x) e = mark_in x e (slice_get s.tables x.table) refl

pub fits_of : (d : Declared) (s : StoreState) → IsSound d s → StoreFits d s
fits_of d s h = record {
  count = h.count;
  fields = λ t lt. fields_at t (slice_get s.tables t) refl;
  indexes = indexes_at d s (λ n x o is e. (h.kinds x.table o e).indexes n x is refl);
  lists = λ a. list_at a (use_at s a) refl;
}
  where
    fields_at : (t : ℕ) (x : Option OpenState) → slice_get s.tables t ≡ x
        → IfSome x
        (λ (o : OpenState). IfSome (slice_get d.shape.tables t)
        (λ (declared : TableShape). HaveAlikeFields o.table.structure.fields declared.fields))
    fields_at t None e = tt
    fields_at t (Some o) e = (h.kinds t o e).fields

    list_at : (a : ℕ) (x : Option Use) → use_at s a ≡ x
        → IfSome x (λ (u : Use). IfSome (used_table s x) (ListStands d u))
    list_at a None e = tt
    list_at a (Some u) e = (h.held (a - 1) u e).list

areas_legal : (d : Declared) (tables : List OpenState) (areas : List (Option Use))
    → ((n : ℕ) (u : Use) → slice_index_or areas n None ≡ Some u
    → is_open d (area_by u (order_of (slice_get tables u.table))) ≡ true)
    → list_all (is_area_state d) (map (area_state tables) areas) ≡ true
areas_legal d tables [] h = refl
areas_legal d tables (None ∷ areas) h = areas_legal d tables areas (λ n u e. h (suc n) u e)
areas_legal d tables (Some u ∷ areas) h =
    and_from (is_open d (area_by u (order_of (slice_get tables u.table))))
    (list_all (is_area_state d) (map (area_state tables) areas)) (h 0 u refl)
    (areas_legal d tables areas (λ n u e. h (suc n) u e))

pub desk_is : (d : Declared) (s : StoreState) → IsSound d s → is_desk d (desk_of s) ≡ true
unfolding is_desk
desk_is d s h =
    let areas = map (area_state s.tables) s.areas in
    and_from (nat_le 1 s.selected && nat_le s.selected 10 && length areas == 10) (list_all (is_area_state d) areas)
    (and_from (nat_le 1 s.selected && nat_le s.selected 10) (length areas == 10)
    (and_from (nat_le 1 s.selected) (nat_le s.selected 10) (le-leb 1 s.selected h.one) (le-leb s.selected 10 h.last))
    (eq-eqb (length areas) 10 (length-map s.areas (area_state s.tables) ∙ h.ten)))
    (areas_legal d s.tables s.areas (λ n u e. (h.held n u e).legal))

pub state_is : (d : Declared) (s : State) → is_desk d s.desk ≡ true → length s.slots ≡ d.slots
    → length s.stack ≤ d.stack_bound → is_state d s ≡ true
unfolding is_state
state_is d s desk slots stack =
    and_from (is_desk d s.desk && length s.slots == d.slots) (nat_le (length s.stack) d.stack_bound)
    (and_from (is_desk d s.desk) (length s.slots == d.slots) desk (eq-eqb (length s.slots) d.slots slots))
    (le-leb (length s.stack) d.stack_bound stack)
