use Rattle.std.proofs.Common.{ℕ, List, ◌++◌, map, length}
use Rattle.std.specs.List.{AllZip}
use Rattle.prg_line.specs.Act.{letters_of}
use Rattle.prg_commands.specs.Acts.{NamesIndex}
use Rattle.prg_commands.proofs.areas.list_of.Given as goal

-- what is left leads to the whole
abbrev pub invariant-loop-name : goal.invariant-loop-name
invariant-loop-name l = (more : List ℕ) → AllZip (NamesIndex l.shape.indexes) (map letters_of l.rest) more
    → AllZip (NamesIndex l.shape.indexes) (map letters_of l.names) (l.indexes.items ++ more)

abbrev pub decreases-loop-name : goal.decreases-loop-name
decreases-loop-name l = length l.rest
