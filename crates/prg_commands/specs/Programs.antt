-- The procedures of command files.
use Rattle.std.specs.Prelude.{◌≡◌, ℕ, ◌-◌, List, [], ◌∷◌, Option, Some, None, length, map, slice_get}
use Rattle.std.specs.Option.{option_map_or}
use Rattle.arrayvec.specs.ArrayVec.{ArrayVec}
use Rattle.prg_line.specs.Act.{Act, Letters, letters_of}
use Rattle.prg_line.specs.Act as act
use Rattle.prg_parser.specs.Commands.{Cmd, Single, command_of}
use Rattle.prg_parser.specs.declared.command.Command.{Command}
use Rattle.prg_parser.specs.declared.program.Program.{Program}
use Rattle.prg_commands.specs.declared.programs.Target.{Target}

-- the commands of the procedure of this number, or those before the first PROCEDURE; none where it isn't there
abbrev pub commands_in_file : Option ℕ → Program → List Command
commands_in_file None program = program.main.items
commands_in_file (Some number) program =
    option_map_or (λ p. p.body.items) (slice_get program.procedures.items number) []

abbrev pub commands_in : List Program → Target → List Command
commands_in programs target = option_map_or (commands_in_file target.procedure) (slice_get programs target.file) []

-- The line of the procedure of this number. That of the part before the first PROCEDURE is 1, and so it is where the
-- procedure isn't there.
abbrev pub line_in_file : Option ℕ → Program → ℕ
line_in_file None program = 1
line_in_file (Some number) program = option_map_or (λ p. p.line) (slice_get program.procedures.items number) 1

abbrev pub line_of : List Program → Target → ℕ
line_of programs target = option_map_or (line_in_file target.procedure) (slice_get programs target.file) 1

-- the line of the last of these commands, or else this one
abbrev pub last_line_or : ℕ → List Command → ℕ
last_line_or other commands = option_map_or (λ c. c.line) (slice_get commands (length commands - 1)) other

-- the line where a procedure ends: that of its last command, or else its own
abbrev pub last_line_in : List Program → Target → ℕ
last_line_in programs target = last_line_or (line_of programs target) (commands_in programs target)

-- the parameters that PARAMETERS names; None of another command
abbrev pub parameters_said : Act → Option (List Letters)
parameters_said (act.Parameters names) = Some names
parameters_said _ = None

abbrev pub parameters_named : Cmd → Option (List Letters)
parameters_named (Single line a) = parameters_said a
parameters_named _ = None

-- the names and commands: where the first command is PARAMETERS, those that it names and the commands behind it; else
-- none and all commands
abbrev pub AreParted : Option (List Letters) → Command → List Command → List (ArrayVec ℕ) → List Command → Type 0
AreParted None first behind names others = (names ≡ []) × (others ≡ first ∷ behind)
AreParted (Some letters) first behind names others = (map letters_of names ≡ letters) × (others ≡ behind)

abbrev pub AreParameters : List Command → List (ArrayVec ℕ) → List Command → Type 0
AreParameters [] names others = (names ≡ []) × (others ≡ [])
AreParameters (first ∷ behind) names others = AreParted (parameters_named (command_of first)) first behind names others
