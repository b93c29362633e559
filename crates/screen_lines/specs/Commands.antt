-- What a list of commands makes of the screen.
use Rattle.std.specs.Prelude.{ℕ, List, [], ◌∷◌}
use Rattle.screen_lines.specs.declared.commands.ScreenCommand.{ScreenCommand}
use Rattle.screen_lines.specs.declared.commands.ScreenCommand.TheVariants.{NewLine, Print, Say, SayOn, Clear}
use Rattle.screen_lines.specs.State.{ScreenState, blank_screen, new_line, printed, said, said_on, cleared, sent}

abbrev pub obeyed : ScreenCommand → ScreenState → ScreenState
obeyed NewLine screen = new_line screen
obeyed (Print text) screen = printed text.items screen
obeyed (Say row column text) screen = said row column text.items screen
obeyed (SayOn text) screen = said_on text.items screen
obeyed Clear screen = cleared screen

-- the screen after these commands, in their order
abbrev pub screen_after : List ScreenCommand → ScreenState → ScreenState
screen_after [] screen = screen
screen_after (command ∷ commands) screen = screen_after commands (obeyed command screen)

-- the bytes at the end of these commands on a new screen
abbrev pub bytes_sent : List ScreenCommand → List ℕ
bytes_sent commands = sent (screen_after commands blank_screen)
