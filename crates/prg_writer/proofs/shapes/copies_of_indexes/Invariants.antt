use Rattle.std.proofs.Common.{◌≡◌, take}
use Rattle.prg_writer.proofs.shapes.copies_of_indexes.Given as goal

abbrev pub invariant-loop-index : goal.invariant-loop-index
invariant-loop-index l = l.copies.items ≡ take l.index-index l.indexes
