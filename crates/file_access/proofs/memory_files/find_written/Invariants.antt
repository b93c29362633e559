use Rattle.std.proofs.Common.{ℕ, List, Option, drop}
use Rattle.file_access.specs.InMemory.{HoldsWritten}
use Rattle.file_access.specs.declared.memory_files.MemoryEntry.{MemoryEntry}
use Rattle.file_access.proofs.memory_files.find_written.Given as goal

abbrev pub invariant-loop-file : goal.invariant-loop-file
invariant-loop-file l = (es : List MemoryEntry) (found : Option (List ℕ))
    → HoldsWritten (drop l.file-index l.written) es l.name found → HoldsWritten l.written es l.name found
