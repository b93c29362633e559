use Rattle.std.proofs.Common.{◌≤◌, take}
use Rattle.std.specs.List.{AllZip}
use Rattle.file_access.specs.Holding.{SameFiles}
use Rattle.table_files.specs.Loading.{IsTableOf}
use Rattle.table_files.proofs.FileLemmas.{Reading}
use Rattle.table_files.proofs.tables.load_tables.Given as goal

abbrev pub invariant-loop-t : goal.invariant-loop-t
invariant-loop-t g l = Reading
    (AllZip (IsTableOf (g.F.Files.holds l.fn.files) l.limit) (take l.t l.shape.tables) l.tables.items)
    (SameFiles (g.F.Files.holds l.fn.files) (g.F.Files.holds l.files))
    (g.F.Files.failed l.fn.files ≤ g.F.Files.failed l.files)
