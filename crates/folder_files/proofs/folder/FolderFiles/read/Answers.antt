use Rattle.std.proofs.Common.{replicate, ◌+◌, arith}
use Rattle.std.proofs.lemmas.List.{length-replicate}
use Rattle.folder_files.proofs.folder.FolderFiles.read.Goals as goal

-- a folder's file may take_folder anything, so also something longer
pub returns-in-Err-TooLong-clause-long : goal.returns-in-Err-TooLong-clause-long
returns-in-Err-TooLong-clause-long g c = λ e. (replicate (c.args.limit + 1) 0, tt, rw length-replicate (omega arith))
