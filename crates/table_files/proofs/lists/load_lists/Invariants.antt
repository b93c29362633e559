use Rattle.std.proofs.Common.{◌≤◌}
use Rattle.file_access.specs.Holding.{SameFiles}
use Rattle.table_files.proofs.FileLemmas.{Reading, ReadLists}
use Rattle.table_files.proofs.lists.load_lists.Given as goal

abbrev pub invariant-loop-n : goal.invariant-loop-n
invariant-loop-n g l = Reading
    (ReadLists (g.F.Files.holds l.fn.files) l.shape l.n l.lists.items)
    (SameFiles (g.F.Files.holds l.fn.files) (g.F.Files.holds l.files))
    (g.F.Files.failed l.fn.files ≤ g.F.Files.failed l.files)
