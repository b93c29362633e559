-- What compiling files leaves in them.
use Rattle.std.specs.Prelude.{◌≡◌, ℕ, ◌<◌, List, [], Option, Some, None, length, slice_index_or}
use Rattle.xcode.specs.CodeFile.{CodeText}
use Rattle.code_items.specs.declared.code.Code.{Code}
use Rattle.code_rules.specs.Rules.{Accepted}
use Rattle.file_access.specs.Holding.{Holds, IsReplaced}
use Rattle.prg_parser.specs.Marks.{marks}
use Rattle.prg_parser.specs.Verdict.{verdict}
use Rattle.shape.specs.declared.whole.Shape.{Shape}
use Rattle.shape_files.specs.Shapes.{IsDeclared}

-- the name of the file of that number, counted from 0
abbrev pub name_at : List (List ℕ) → ℕ → List ℕ
name_at names number = slice_index_or names number []

-- the file may hold a command file without a fault
pub record IsRead (holds : Option (List ℕ) → Type 0) : Type 0 where
  pub bytes : List ℕ
  pub held : holds (Some bytes)
  pub faultless : verdict [] None (marks bytes) ≡ None

-- so may each of the files
abbrev pub AreRead : Holds → List (List ℕ) → Type 0
AreRead holds names = (number : ℕ) → number < length names → IsRead (holds (name_at names number))

-- the bytes are the text of a code that the verifier accepts, of this shape
pub record IsCodeOf (shape : Shape) (bytes : List ℕ) : Type 0 where
  pub code : Code
  pub shaped : code.declared.shape ≡ shape
  pub accepted : Accepted code
  pub text : CodeText bytes code

-- Of files that are no more than read, one is written: it holds the text of a code that the verifier accepts, with the
-- shape that the declaration file declares.
pub record IsCompiled (before : Holds) (decl out : List ℕ) (names : List (List ℕ)) (after : Holds) : Type 0 where
  pub shape : Shape
  pub bytes : List ℕ
  pub declared : IsDeclared before decl shape
  pub read : AreRead before names
  pub coded : IsCodeOf shape bytes
  pub replaced : IsReplaced before out bytes after
