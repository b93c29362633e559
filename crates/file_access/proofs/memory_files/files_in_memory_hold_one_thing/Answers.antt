use Rattle.file_access.proofs.Entries.{written_hold_one}
use Rattle.file_access.proofs.memory_files.files_in_memory_hold_one_thing.Goals as goal

pub returns : goal.returns
returns c = written_hold_one
