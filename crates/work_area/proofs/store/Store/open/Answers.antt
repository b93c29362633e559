use Rattle.std.proofs.Common.{◌≡◌, ℕ, get_or, ap, ◌∙◌, subst}
use Rattle.std.specs.Prelude.{List, ◌<◌, length, Bool, true, is_some, IfSome}
use Rattle.std.specs.List.{list_all}
use Rattle.std.proofs.lemmas.List.Sums.{AllPass-from_list_all}
use Rattle.open_table.specs.Marks.{mark_at}
use Rattle.open_table.specs.Open.{OpenState, opened}
use Rattle.work_area.specs.Areas.{StoreState, with_table}
use Rattle.work_area.specs.Calls.{used_here, open_of}
use Rattle.work_area.proofs.PlaceLemmas.{there, from_there, used, not_used}
use Rattle.work_area.proofs.store.Store.open.Goals as goal

all_of : (p : ℕ → Bool) (xs : List ℕ) → list_all p xs ≡ true → (k d : ℕ) → k < length xs → p (get_or xs k d) ≡ true
all_of p xs e k d lt = AllPass-from_list_all p xs e k d lt

pub returns-in-Ok : goal.returns-in-Ok
returns-in-Ok g c =
    let now : StoreState = c.args.self.now in
    let inside : StoreState = record {
      tables = c.self.inside.tables.items;
      areas = c.self.inside.areas;
      selected =
          c.self.inside.selected;
      limit = c.self.inside.limit;
    } in
    let t = c.args.table in
    let o : OpenState = c.index_mut.result.now in
    let value : o ≡ get_or inside.tables t o =
    subst (λ (n : ℕ). o ≡ get_or inside.tables n o) c.from.ensures c.index_mut.ensures.value in
    let is = there inside now t o c.self.view_is c.requires.table value in
    let mid : StoreState = with_table inside c.from.result c.open.new.self in
    let made : mid ≡ with_table now t c.open.new.self = ap (λ (n : ℕ). with_table inside n c.open.new.self)
    c.from.ensures ∙ ap (λ (s : StoreState). with_table s t c.open.new.self) c.self.view_is in
    from_there now t o _ is
    (λ shown sees. used t c.args.list c.args.indexes.now now mid c.let_go.new.self c.hold.new.self o c.open.new.self
    (open_of c.args.indexes.now o shown) c.args.budget c.in-Ok.cost made c.let_go.ensures c.hold.ensures
    (c.in-Ok.ensures.ends shown sees))

pub returns-in-Err : goal.returns-in-Err
returns-in-Err g c =
    let now : StoreState = c.args.self.now in
    let inside : StoreState = record {
      tables = c.self.inside.tables.items;
      areas = c.self.inside.areas;
      selected =
          c.self.inside.selected;
      limit = c.self.inside.limit;
    } in
    let t = c.args.table in
    let o : OpenState = c.index_mut.result.now in
    let value : o ≡ get_or inside.tables t o =
    subst (λ (n : ℕ). o ≡ get_or inside.tables n o) c.from.ensures c.index_mut.ensures.value in
    let is = there inside now t o c.self.view_is c.requires.table value in
    let mid : StoreState = with_table inside c.from.result c.open.new.self in
    let made : mid ≡ with_table now t c.open.new.self = ap (λ (n : ℕ). with_table inside n c.open.new.self)
    c.from.ensures ∙ ap (λ (s : StoreState). with_table s t c.open.new.self) c.self.view_is in
    from_there now t o _ is
    (λ shown sees. not_used (used_here t c.args.list) t now mid o (opened c.args.indexes.now o) c.open.new.self
    (open_of c.args.indexes.now o shown) c.args.budget c.in-Err.refused is made (c.in-Err.ensures.ends shown sees))

pub open-requires-clause-declared : goal.open-requires-clause-declared
open-requires-clause-declared g c =
    let now : StoreState = c.args.self.now in
    let inside : StoreState = record {
      tables = c.self.inside.tables.items;
      areas = c.self.inside.areas;
      selected =
          c.self.inside.selected;
      limit = c.self.inside.limit;
    } in
    let t = c.args.table in
    let o : OpenState = c.index_mut.result.now in
    let value : o ≡ get_or inside.tables t o =
    subst (λ (n : ℕ). o ≡ get_or inside.tables n o) c.from.ensures c.index_mut.ensures.value in
    let is = there inside now t o c.self.view_is c.requires.table value in
    all_of (λ n. is_some (mark_at o.table.marks n)) c.args.indexes.now
    (subst (λ x. IfSome x (λ a. list_all (λ n. is_some (mark_at a.table.marks n)) c.args.indexes.now ≡ true)) is
    c.requires.declared)
