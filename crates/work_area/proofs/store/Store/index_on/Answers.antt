use Rattle.std.proofs.Common.{[], ◌∷◌, sym, ap, ◌∙◌}
use Rattle.open_table.specs.Open.{OpenState, opened}
use Rattle.work_area.specs.Areas.{StoreState, with_table}
use Rattle.work_area.specs.Calls.{indexed_here, index_on_of}
use Rattle.work_area.proofs.PlaceLemmas.{IsHere, stands, from_here, put_here, put_back, indexed, not_ended}
use Rattle.work_area.proofs.store.Store.index_on.Goals as goal

pub returns-in-Ok : goal.returns-in-Ok
returns-in-Ok g c =
    let now : StoreState = c.args.self.now in
    let inside : StoreState = record {
      tables = c.self.inside.tables.items;
      areas = c.self.inside.areas;
      selected =
          c.self.inside.selected;
      limit = c.self.inside.limit;
    } in
    let t = c.place_here-t.result in
    let o : OpenState = c.index_mut.result.now in
    let there : IsHere now t o = stands inside now t o c.self.view_is c.requires.open c.place_here-t.ensures.place
    c.place_here-t.ensures.table c.place_here-t.ensures.within c.index_mut.ensures.value in
    let made = ap (λ (s : StoreState). with_table s t c.index_on.new.self) c.self.view_is in
    from_here now t o _ there
    (λ shown sees. indexed c.args.list c.args.number now _ c.note_list.new.self t o c.index_on.new.self
    (index_on_of c.args.number o shown) c.args.budget c.in-Ok.cost there made c.note_list.ensures
    (c.in-Ok.ensures.ends shown sees))

pub returns-in-Err : goal.returns-in-Err
returns-in-Err g c =
    let now : StoreState = c.args.self.now in
    let inside : StoreState = record {
      tables = c.self.inside.tables.items;
      areas = c.self.inside.areas;
      selected =
          c.self.inside.selected;
      limit = c.self.inside.limit;
    } in
    let t = c.place_here-t.result in
    let o : OpenState = c.index_mut.result.now in
    let there : IsHere now t o = stands inside now t o c.self.view_is c.requires.open c.place_here-t.ensures.place
    c.place_here-t.ensures.table c.place_here-t.ensures.within c.index_mut.ensures.value in
    let made = ap (λ (s : StoreState). with_table s t c.index_on.new.self) c.self.view_is in
    from_here now t o _ there
    (λ shown sees. not_ended (indexed_here c.args.list) now _ o (opened (c.args.number ∷ []) o) c.index_on.new.self
    (index_on_of c.args.number o shown) c.args.budget c.in-Err.refused (put_back now t o there)
    (made ∙ sym (put_here now t o c.index_on.new.self there)) (c.in-Err.ensures.ends shown sees))
