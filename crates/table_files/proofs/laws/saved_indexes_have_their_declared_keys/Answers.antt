use Rattle.table_files.proofs.ListLemmas.{holds_lists}
use Rattle.table_files.proofs.laws.saved_indexes_have_their_declared_keys.Goals as goal

pub returns : goal.returns
returns g c = λ before after shape store stamp k of_shape saved. holds_lists (g.F.Files.holds before)
    (g.F.Files.holds after) shape store stamp k (c.indexes_have_their_declared_keys.ensures shape store of_shape) saved
