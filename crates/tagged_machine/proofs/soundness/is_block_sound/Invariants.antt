use Rattle.std.proofs.Common.{◌≡◌, length}
use Rattle.std.specs.Prelude.{map}
use Rattle.run_steps.specs.Filters.{block_sound}
use Rattle.run_steps.specs.World.{kind_held}
use Rattle.tagged_machine.proofs.soundness.is_block_sound.Given as goal

abbrev pub invariant-loop-instr : goal.invariant-loop-instr
invariant-loop-instr l =
    block_sound l.code (record {
      desk = l.desk;
      slots = map kind_held l.values.slots;
      stack = l.kinds;
    }) l.rest ≡ block_sound l.code (record {
      desk = l.desk;
      slots = map kind_held l.values.slots;
      stack = l.fn.kinds;
    }) l.block

abbrev pub decreases-loop-instr : goal.decreases-loop-instr
decreases-loop-instr l = length l.rest
