use Rattle.std.proofs.Common.{◌≡◌, drop}
use Rattle.screen_lines.specs.State.{blank_screen}
use Rattle.screen_lines.specs.Commands.{screen_after}
use Rattle.screen_lines.proofs.commands.run.Given as goal

abbrev pub invariant-loop-command : goal.invariant-loop-command
invariant-loop-command l =
    screen_after (drop l.command-index l.commands) l.screen ≡ screen_after l.commands blank_screen
