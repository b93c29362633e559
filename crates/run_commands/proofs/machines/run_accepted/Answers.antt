use Rattle.run_commands.proofs.Ran.{sound_from}
use Rattle.run_commands.proofs.machines.run_accepted.Goals as goal

pub returns : goal.returns
returns g c =
    sound_from _ _ _ _ _ _ _ _ (c.run_in_parts-outcome.ensures _ c.in_ok-banks.ensures) c.in_ok-lines.ensures
    c.day.ensures c.in_ok-rows.ensures
