use Rattle.std.proofs.Common.{replicate, ◌+◌, arith}
use Rattle.std.proofs.lemmas.List.{length-replicate}
use Rattle.folder_files.proofs.seen.SeenFolderFiles.read.Goals as goal

-- a folder's file may hold anything, so also something longer
pub returns-clause-long : goal.returns-clause-long
returns-clause-long g c = λ e. (replicate (c.args.limit + 1) 0, tt, rw length-replicate (omega arith))
