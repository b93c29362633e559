use Rattle.std.proofs.Common.{min, rules, subst, ℕ, ◌≡◌}
use Rattle.std.specs.List.{AllZip}
use Rattle.table_files.specs.Loading.{IsTableOf}
use Rattle.table_files.proofs.FileLemmas.{tables_of_shape, lists_before}
use Rattle.table_files.proofs.loading.load.Goals as goal

pub new-requires-clause-tables : goal.new-requires-clause-tables
new-requires-clause-tables g c =
    let holds = g.F.Files.holds c.args.files.now in
    let is : c.min.result ≡ min c.args.limit 1000000 = search rules in
    tables_of_shape holds (min c.args.limit 1000000) c.args.shape.now c.in_ok-tables.tables.items
    (subst (λ (n : ℕ). AllZip (IsTableOf holds n) c.args.shape.now.tables c.in_ok-tables.tables.items) is
    c.in_ok-tables.ensures.loaded)

pub new-requires-clause-lists : goal.new-requires-clause-lists
new-requires-clause-lists g c = record {
  count = c.in_ok-lists.ensures.loaded.count;
  formed =
      λ n x s a b. (c.in_ok-lists.ensures.loaded.each n x s a b).form;
}

pub returns-clause-loaded : goal.returns-clause-loaded
returns-clause-loaded g c =
    let holds = g.F.Files.holds c.args.files.now in
    let is : c.min.result ≡ min c.args.limit 1000000 = search rules in
    record {
      tables = c.in_ok-tables.tables.items;
      read = subst (λ (n : ℕ). AllZip (IsTableOf holds n) c.args.shape.now.tables c.in_ok-tables.tables.items) is
          c.in_ok-tables.ensures.loaded;
      lists = c.in_ok-lists.lists.items;
      listed = lists_before holds (g.F.Files.holds c.load_tables.new.files) c.args.shape.now c.in_ok-lists.lists.items
          c.in_ok-tables.ensures.kept c.in_ok-lists.ensures.loaded;
      made = c.in_ok-store.ensures.made;
    }
