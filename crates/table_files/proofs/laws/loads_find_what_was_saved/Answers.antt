use Rattle.table_files.proofs.LawLemmas.{finds_saved}
use Rattle.table_files.proofs.laws.loads_find_what_was_saved.Goals as goal

pub returns : goal.returns
returns g c = λ before after shape store loaded stamp k limit one legal saved found. finds_saved
    (g.F.Files.holds before) (g.F.Files.holds after) shape store loaded stamp k limit one legal saved found
