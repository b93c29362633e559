use Rattle.table_files.proofs.ListLemmas.{finds_lists}
use Rattle.table_files.proofs.laws.loads_find_saved_indexes.Goals as goal

pub returns : goal.returns
returns g c = λ before after shape store loaded stamp k limit one legal saved found. finds_lists
    (g.F.Files.holds before) (g.F.Files.holds after) shape store loaded stamp k limit one legal saved found
