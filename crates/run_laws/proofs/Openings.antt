-- The store and the world from which a run begins have the code's shape.
use Rattle.std.proofs.Common.{◌≡◌, ◌<◌, ◌≤◌, ℕ, zero, suc, ◌-◌, true, List, [], ◌∷◌, length, Option, Some, None, refl}
use Rattle.std.proofs.Common.{sym, ap, subst, ◌∙◌, arith}
use Rattle.std.specs.Prelude.{◌&&◌, nat_le, map, replicate, slice_get, slice_index_or, IfSome}
use Rattle.std.specs.List.{list_all}
use Rattle.std.proofs.lemmas.Bool.{leb-true, and_parts}
use Rattle.std.proofs.lemmas.List.{length-map, length-replicate}
use Rattle.std.proofs.lemmas.Option.{slice_get_within}
use Rattle.calendar.specs.declared.day.DayParts.{DayParts}
use Rattle.xvalue.specs.declared.value.Value.{Value}
use Rattle.shape.specs.declared.tables.TableShape.{TableShape}
use Rattle.open_table.specs.Open.{OpenState}
use Rattle.work_area.specs.declared.uses.Use.{Use}
use Rattle.work_area.specs.Areas.{StoreState, AreApart, closed_all, used_table}
use Rattle.work_area.specs.Making.{HaveAlikeFields}
use Rattle.work_area.specs.Shapes.{StoreHasShape, ShapesStay}
use Rattle.code_items.specs.declared.declared.Declared.{Declared}
use Rattle.code_items.specs.declared.code.Code.{Code}
use Rattle.code_items.specs.declared.code.Proc.{Proc}
use Rattle.code_items.specs.declared.declared.Filter.{Filter}
use Rattle.code_items.specs.Declarations.{are_declared}
use Rattle.code_items.specs.Facts.{Facts}
use Rattle.code_items.specs.Instrs.{is_instr}
use Rattle.code_items.specs.Legal.{places_of, blocks_of, blocks_fill, procedures_are_legal, maps_are_legal}
use Rattle.code_items.specs.Legal.{instructions_are_legal, is_code, IsCode}
use Rattle.run_steps.specs.World.{World, state_of, kind_held}
use Rattle.run_steps.specs.Opening.{opening}
use Rattle.run_steps.specs.Shapes.{ListStands, StoreFits, HasShape}
use Rattle.run_laws.proofs.Shaped.{kinds_from, indexes_at, fits_of, desk_is, state_is}
use Rattle.run_laws.proofs.Stores.{closes_all}
use Rattle.run_laws.proofs.Changes.{Stay}
use Rattle.run_laws.proofs.Tests.{is_there}

fills : (code : Code) → IsCode code
    → blocks_fill (length code.instructions) (blocks_of code.procedures code.declared.filters) ≡ true
unfolding is_code
fills code e =
    let a =
    and_parts (are_declared code.declared && procedures_are_legal code && maps_are_legal code)
    (instructions_are_legal code) e in
    (and_parts (nat_le 1 (length code.instructions) && nat_le (length code.instructions) 65535 && list_all
    (is_instr code.declared.version) code.instructions)
    (blocks_fill (length code.instructions) (blocks_of code.procedures code.declared.filters)) a.1).1

-- the first block has a place
some_place : (procedures : List Proc) (filters : List Filter) (left : ℕ) → 1 ≤ length procedures
    → blocks_fill left (blocks_of procedures filters) ≡ true → 0 < places_of procedures
some_place [] filters left le e = absurd (omega (arith, le))
some_place (p ∷ procedures) filters left le e =
    let a =
    and_parts (nat_le 1 p.length && nat_le p.length left)
    (blocks_fill (left - p.length) (blocks_of procedures filters)) e in
    let b = and_parts (nat_le 1 p.length) (nat_le p.length left) a.0 in
    omega (arith, leb-true 1 p.length b.0)

pub begins : Stay → (code : Code) (store : StoreState) (lines : List (List ℕ)) (today : Option DayParts) → IsCode code
    → Facts code → StoreFits code.declared store
    → HasShape code (opening code store lines today) × AreApart (opening code store lines today).env.store.areas
begins stay code store lines today legal f fits =
    let d = code.declared in
    let v : World = opening code store lines today in
    let sound = closes_all d store stay fits.count (kinds_from d store fits) in
    let slots : length (map kind_held v.values.slots) ≡ d.slots =
    length-map v.values.slots kind_held ∙ length-replicate {A = Option Value} d.slots None in (
      record {
        place = some_place code.procedures d.filters (length code.instructions) f.some (fills code legal);
        state = state_is d (state_of v) (desk_is d (closed_all store) sound) slots (omega arith);
        calls = omega arith;
        store = fits_of d (closed_all store) sound;
      },
      sound.apart,
    )

-- ---- a store with the tables and indexes of the shape, whose work areas are closed

none_there : (k n : ℕ) → slice_index_or (replicate {A = Option Use} k None) n None ≡ None
none_there zero n = refl
none_there (suc k) zero = refl
none_there (suc k) (suc n) = none_there k n

pub new_fits : (d : Declared) (s : StoreState) → ShapesStay d.shape s → StoreHasShape d.shape s
    → s.areas ≡ replicate 10 None → StoreFits d s
new_fits d s stay h closed = record {
  count = h.count;
  fields = λ t lt. fields_at t (slice_get s.tables t) refl (slice_get d.shape.tables t) refl;
  indexes = indexes_at d s
      (λ n x o is e. let shape = is_there d.shape.tables x.table
      (omega (arith, h.count, slice_get_within s.tables x.table o e)) in stay.declared n x o shape.0 h is e shape.1);
  lists =
      λ a. subst (λ (x : Option Use). IfSome x (λ (u : Use). IfSome (used_table s x) (ListStands d u)))
      (sym (ap (λ (areas : List (Option Use)). slice_index_or areas (a - 1) None) closed ∙ none_there 10 (a - 1))) tt;
}
  where
    fields_at : (t : ℕ) (x : Option OpenState) → slice_get s.tables t ≡ x → (y : Option TableShape)
        → slice_get d.shape.tables t ≡ y
        → IfSome x
        (λ (o : OpenState). IfSome y (λ (declared : TableShape). HaveAlikeFields o.table.structure.fields
        declared.fields))
    fields_at t None e y f = tt
    fields_at t (Some o) e None f = tt
    fields_at t (Some o) e (Some shape) f = h.fields t o shape e f
