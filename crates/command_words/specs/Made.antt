-- How a command is put together.
use Rattle.std.specs.Prelude.{◌≡◌, true, Result, Ok, Err}
use Rattle.clap.specs.Simple.{app_of, with_subcommand}
use Rattle.clap.specs.declared.builder.command.Command.{Command}

-- a command that changes nothing in how the words of the one above it are read
abbrev pub IsPlainCommand : Command → Type 0
IsPlainCommand command = (app_of command).top.is_plain ≡ true

-- a command with one that was made below it
abbrev pub AddsMade : {E : Type 0} → Command → Result Command E → Command → Type 0
AddsMade old (Ok below) new = app_of new ≡ with_subcommand (app_of old) (app_of below).top
AddsMade old (Err fault) new = ⊥
