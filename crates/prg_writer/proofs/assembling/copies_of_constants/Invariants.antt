use Rattle.std.proofs.Common.{◌≡◌, take}
use Rattle.prg_writer.proofs.assembling.copies_of_constants.Given as goal

abbrev pub invariant-loop-constant : goal.invariant-loop-constant
invariant-loop-constant l = l.values.items ≡ take l.constant-index l.constants
