use Rattle.run_commands.proofs.Ran.{left_from}
use Rattle.run_commands.proofs.machines.run_any.Goals as goal

pub returns : goal.returns
returns g c =
    left_from _ _ _ _ _ _ _ _ _ c.in_ok-world.ensures.world c.in_ok-lines.ensures c.day.ensures
    c.run_checked_in_parts-outcome.ensures.ran c.in_ok-rows.ensures
    c.run_checked_in_parts-outcome.ensures.shape.store
