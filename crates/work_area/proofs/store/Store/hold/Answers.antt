use Rattle.std.proofs.Common.{◌≡◌, ◌-◌, ◌<◌, Some, false, length, refl, sym, subst}
use Rattle.std.specs.Prelude.{slice_set}
use Rattle.work_area.specs.declared.uses.Use.{Use}
use Rattle.work_area.specs.Areas.{StoreState, IsStore, is_elsewhere}
use Rattle.work_area.proofs.AreaLemmas.{held_sound}
use Rattle.work_area.proofs.store.Store.hold.Goals as goal

pub invariant_of-self : goal.invariant_of-self
invariant_of-self g c =
    let inside : StoreState = record {
      tables = c.self.inside.tables.items;
      areas = c.self.inside.areas;
      selected =
          c.self.inside.selected;
      limit = c.self.inside.limit;
    } in
    let held : Use = c.args.held in
    let lt : held.table < length inside.tables =
    subst (λ (s : StoreState). held.table < length s.tables) (sym c.self.view_is) c.requires.table in
    let elsewhere : is_elsewhere inside held.table ≡ false =
    subst (λ (s : StoreState). is_elsewhere s held.table ≡ false) (sym c.self.view_is) c.requires.elsewhere in
    let sound = held_sound inside.tables inside.areas inside.selected inside.limit held lt elsewhere
    c.self.invariant in
    subst (λ p. IsStore inside.tables (slice_set inside.areas (p - 1) (Some held)) inside.selected inside.limit)
    (sym c.from.ensures) sound
