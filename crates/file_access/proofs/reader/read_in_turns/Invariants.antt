use Rattle.std.proofs.Common.{◌≤◌, length}
use Rattle.std.specs.Io.KnownBytes.{Consumes}
use Rattle.file_access.proofs.reader.read_in_turns.Given as goal

-- what was read stood in front of what remains
pub record Reading (short taken : Type 0) : Type 0 where
  pub within : short
  pub consumed : taken

abbrev pub invariant-loop : goal.invariant-loop
invariant-loop g l = Reading (length l.bytes.items ≤ l.limit)
    (Consumes (g.R.Read.remaining l.fn.reader) (g.R.Read.remaining l.reader) l.bytes.items)
