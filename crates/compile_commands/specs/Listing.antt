-- All faults of command files, and when there are none.
use Rattle.std.specs.Prelude.{◌≡◌, ℕ, suc, List, [], ◌∷◌, ◌++◌, map, Option, Some, None}
use Rattle.code_items.specs.declared.code.Code.{Code}
use Rattle.code_rules.specs.Rules.{Accepted}
use Rattle.file_access.specs.Holding.{Holds, IsTooLong}
use Rattle.prg_code.specs.declared.fault.CompileFault.{CompileFault}
use Rattle.prg_expr.specs.declared.fault.ParseFault.{ParseFault}
use Rattle.prg_parser.specs.Listing.{all_faults}
use Rattle.prg_parser.specs.Marks.{marks}
use Rattle.shape.specs.declared.whole.Shape.{Shape}
use Rattle.shape_files.specs.Shapes.{IsDeclared}
use Rattle.compile_commands.specs.Compiling.{AreRead, name_at}
use Rattle.compile_commands.specs.declared.listing.FileFault.{FileFault}
use Rattle.compile_commands.specs.declared.refusal.SourceFault.TheVariants.{Absent, TooLong, Parse, Compile}

-- a fault of a line of the file of that number
abbrev pub line_fault : ℕ → ParseFault → FileFault
line_fault number fault = record { file = number; fault = Parse fault.line fault.kind }

-- a fault that the compiler finds
abbrev pub command_fault : CompileFault → FileFault
command_fault fault = record { file = fault.file; fault = Compile fault.line fault.kind }

-- all faults of the file of that number: there is none of its name, it is too long, or its lines have these
pub data AreFaultsOf (number : ℕ) (holds : Option (List ℕ) → Type 0) (faults : List FileFault) : Type 0 where
  NoFile : holds None → faults ≡ (record { file = number; fault = Absent }) ∷ [] → AreFaultsOf number holds faults
  Long : IsTooLong holds → faults ≡ (record { file = number; fault = TooLong }) ∷ [] → AreFaultsOf number holds faults
  Lines : (bytes : List ℕ) → holds (Some bytes) → faults ≡ map (line_fault number) (all_faults (marks bytes))
      → AreFaultsOf number holds faults

-- those of one file stand behind those of the files before it
pub record IsListedBehind (number : ℕ) (holds : Option (List ℕ) → Type 0) (before after : List FileFault) : Type 0 where
  pub own : List FileFault
  pub listed : AreFaultsOf number holds own
  pub behind : after ≡ before ++ own

-- all faults of the first so many files, file by file
pub data AreListed (holds : Holds) (names : List (List ℕ)) : ℕ → List FileFault → Type 0 where
  NoFiles : AreListed holds names 0 []
  Further : (count : ℕ) (before after : List FileFault) → AreListed holds names count before
      → IsListedBehind count (holds (name_at names count)) before after → AreListed holds names (suc count) after

-- The files have no fault: each of them is read, and there is an accepted code of the shape that the declaration file
-- declares.
pub record AreFaultless (holds : Holds) (decl : List ℕ) (names : List (List ℕ)) : Type 0 where
  pub shape : Shape
  pub code : Code
  pub declared : IsDeclared holds decl shape
  pub read : AreRead holds names
  pub shaped : code.declared.shape ≡ shape
  pub accepted : Accepted code
