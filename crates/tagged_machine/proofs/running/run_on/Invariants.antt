use Rattle.std.proofs.Common.{◌≡◌, ◌-◌, ◌≤◌}
use Rattle.run_steps.specs.Tables.{IsDecoded}
use Rattle.run_steps.specs.World.{desk_of}
use Rattle.tagged_machine.specs.Reached.{Comes}
use Rattle.tagged_machine.specs.Seen.{world_seen}
use Rattle.tagged_machine.proofs.running.run_on.Given as goal

abbrev pub invariant-loop-kind : goal.invariant-loop-kind
invariant-loop-kind g l = record {
  comes : Comes l.fn.code (world_seen l.fn.machine) l.steps (world_seen l.machine);
  within : l.steps ≤ l.budget;
  shown : l.scratch.areas ≡ desk_of l.machine.env.store;
  decoded : IsDecoded l.fn.code l.machine.values.registers l.guarded.decoded;
}

abbrev pub decreases-loop-kind : goal.decreases-loop-kind
decreases-loop-kind g l = l.budget - l.steps
