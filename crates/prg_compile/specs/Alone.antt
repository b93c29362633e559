-- What is known of a finished code.
use Rattle.std.specs.Prelude.{◌≡◌, List, [], ◌∷◌}
use Rattle.code_items.specs.declared.code.Code.{Code}
use Rattle.code_rules.specs.Rules.{Accepted}
use Rattle.prg_code.specs.Bindings.{NamedVariables}
use Rattle.prg_laid.specs.Whole.{IsLaid}
use Rattle.prg_parser.specs.Commands.{commands_of}
use Rattle.prg_parser.specs.declared.program.Program.{Program}
use Rattle.shape.specs.declared.whole.Shape.{Shape}

-- if there is just one file, and it has no procedures, then the code is laid out as its commands say, its variables in
-- some slots
abbrev pub IsLaidAlone : Code → List Program → Type 0
IsLaidAlone code programs = (program : Program) → programs ≡ program ∷ [] → program.procedures.items ≡ []
    → (names : NamedVariables) × IsLaid code names (commands_of program.main.items)

-- there is an accepted code of these files, for tables and indexes of this shape
pub record IsCompilable (shape : Shape) (programs : List Program) : Type 0 where
  pub code : Code
  pub shaped : code.declared.shape ≡ shape
  pub accepted : Accepted code
  pub laid : IsLaidAlone code programs
