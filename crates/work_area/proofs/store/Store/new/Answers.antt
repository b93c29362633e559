use Rattle.std.proofs.Common.{◌≡◌, ◌≤◌, None, replicate, min, ℕ, List, refl, sym, subst, rules}
use Rattle.key_lists.specs.Pairs.{Pair}
use Rattle.work_area.specs.Areas.{StoreState, AreWithin}
use Rattle.work_area.specs.Making.{lists_just, IsNewStore}
use Rattle.work_area.proofs.LimitLemmas.{new_within, none_open}
use Rattle.work_area.proofs.ShapeLemmas.{starts}
use Rattle.work_area.proofs.MakingLemmas.{first_ready, first_tables}
use Rattle.work_area.proofs.store.Store.new.Goals as goal

pub declare_all-requires-clause-ready : goal.declare_all-requires-clause-ready
declare_all-requires-clause-ready g c = first_ready c.args.shape.now (min c.args.limit 1000000) c.args.tables.items
    c.in_ok-made.made.items c.in_ok-made.ensures c.requires.tables

pub returns : goal.returns
returns g c =
    let lists : ℕ → List Pair → Type 0 = lists_just g.K.KeyList.pairs c.args.keys.items in
    let store : StoreState = record {
      tables = c.declare_all.new.made.items;
      areas = replicate 10 None;
      selected = 1;
      limit = c.min.result;
    } in
    let made : IsNewStore lists c.args.shape.now c.args.tables.items (min c.args.limit 1000000) store = record {
      tables = c.in_ok-declare_all.ensures c.args.tables.items
          (first_tables c.args.shape.now lists c.args.tables.items c.in_ok-made.made.items c.in_ok-made.ensures);
      areas = refl;
      selected = refl;
      limit = search rules;
    } in
    record {
      made = made;
      shape = starts c.args.shape.now lists c.args.tables.items (min c.args.limit 1000000) store
          c.requires.tables made;
    }

pub invariant_of-result : goal.invariant_of-result
invariant_of-result g c =
    let lists : ℕ → List Pair → Type 0 = lists_just g.K.KeyList.pairs c.args.keys.items in
    let most = min c.args.limit 1000000 in
    let items = c.declare_all.new.made.items in
    let limit : c.min.result ≡ most = search rules in
    let few : c.min.result ≤ 1000000 = search rules in
    none_open items c.min.result few
    (subst (λ n. AreWithin n items) (sym limit)
    (new_within c.args.shape.now lists c.args.tables.items most items c.requires.tables
    (c.in_ok-declare_all.ensures c.args.tables.items
    (first_tables c.args.shape.now lists c.args.tables.items c.in_ok-made.made.items c.in_ok-made.ensures))))
