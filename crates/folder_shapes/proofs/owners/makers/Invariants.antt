use Rattle.std.proofs.Common.{◌≡◌, ◌++◌, drop}
use Rattle.folder_shapes.specs.Owners.{makes, numbers_of}
use Rattle.folder_shapes.proofs.owners.makers.Given as goal

abbrev pub invariant-loop-t : goal.invariant-loop-t
invariant-loop-t l = l.numbers.items ++ numbers_of (makes l.fn.key_length l.fn.plain) l.t (drop l.t l.fn.tables)
    ≡ numbers_of (makes l.fn.key_length l.fn.plain) 0 l.fn.tables
