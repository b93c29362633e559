use Rattle.std.proofs.Common.{◌≤◌}
use Rattle.table_files.specs.Saving.{AreSaved}
use Rattle.table_files.proofs.saving.save.Given as goal

abbrev pub invariant-loop-k : goal.invariant-loop-k
invariant-loop-k g l =
    AreSaved l.shape l.store l.stamp l.k (g.F.Files.holds l.fn.files) (g.F.Files.holds l.files)
    × (g.F.Files.failed l.fn.files ≤ g.F.Files.failed l.files)
