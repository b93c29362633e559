use Rattle.std.proofs.Common.{ℕ, List, drop}
use Rattle.std.specs.Prelude.{Option}
use Rattle.file_access.specs.InMemory.{HoldsFile}
use Rattle.file_access.proofs.memory_files.find.Given as goal

abbrev pub invariant-loop-entry : goal.invariant-loop-entry
invariant-loop-entry l =
    (found : Option (List ℕ)) → HoldsFile (drop l.entry-index l.entries) l.name found → HoldsFile l.entries l.name found
