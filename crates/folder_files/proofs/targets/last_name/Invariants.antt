use Rattle.std.proofs.Common.{◌≡◌, string_bytes}
use Rattle.folder_files.specs.Paths.{folder_of_path}
use Rattle.folder_files.proofs.targets.last_name.Given as goal

abbrev pub invariant-loop : goal.invariant-loop
invariant-loop g l = folder_of_path (string_bytes l.last) ≡ folder_of_path l.name
