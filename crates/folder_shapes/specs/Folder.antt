-- What a whole folder declares and proposes.
use Rattle.std.specs.Prelude.{◌≡◌, ℕ, Bool, true, false, List, ◌∷◌, ◌++◌, Option, Contains, length}
use Rattle.std.specs.List.{list_all}
use Rattle.file_access.specs.Holding.{Holds}
use Rattle.prg_parser.specs.Lines.{Joined, joined_lines}
use Rattle.folder_shapes.specs.declared.line.FolderLine.{FolderLine}
use Rattle.folder_shapes.specs.declared.line.FolderLine.TheVariants as line
use Rattle.folder_shapes.specs.declared.names.Sort.TheVariants.{Program}
use Rattle.folder_shapes.specs.Names.{sort_of}
use Rattle.folder_shapes.specs.Programs.{Named, Used, named_by_line}
use Rattle.folder_shapes.specs.Proposals.{with_proposals}
use Rattle.folder_shapes.specs.Reading.{IsReadAs}
use Rattle.folder_shapes.specs.Told.{State, TakesDeclared, TakePrograms}

-- The files of tables and indexes are taken, then the command files.
abbrev pub TakesFolder : Holds → List (List ℕ) → State → Type 0
TakesFolder holds names after = (declared : State) × (read : State) × TakesDeclared holds names declared
    × TakePrograms holds 0 names declared read × (after ≡ with_proposals read)

-- ---- what command files add

abbrev pub is_comment_line : FolderLine → Bool
is_comment_line (line.Table n) = false
is_comment_line (line.Page n mark) = true
is_comment_line (line.Index n) = false
is_comment_line (line.Noted n told) = true
is_comment_line (line.Proposed n proposed) = true
is_comment_line line.More = true

-- what is declared stays, and the lines that are added are comments
pub record AddsComments (before after : State) : Type 0 where
  pub tables : after.tables ≡ before.tables
  pub found : after.found ≡ before.found
  pub indexes : after.indexes ≡ before.indexes
  pub comments : List FolderLine
  pub lines : after.lines ≡ before.lines ++ comments
  pub only : list_all is_comment_line comments ≡ true

-- the files of tables and indexes declare the same without the command files
abbrev pub DeclaresBefore : Holds → List (List ℕ) → State → Type 0
DeclaresBefore holds names after =
    (before : State) × TakesDeclared holds names before × AddsComments before after

-- A line of a command file of the folder names the index with that key, and shows that table in use. The file is the
-- one in the place of that number among the names.
pub record IsNamed (holds : Holds) (names : List (List ℕ)) (m : Named) : Type 0 where
  pub before : List (List ℕ)
  pub name : List ℕ
  pub after : List (List ℕ)
  pub in_place : (names ≡ before ++ name ∷ after) × (m.file ≡ length before)
  pub is_program : sort_of name ≡ Program
  pub bytes : List ℕ
  pub read : IsReadAs holds name bytes
  pub line : Joined
  pub is_line : Contains (joined_lines bytes) line
  pub used : Option Used
  pub names_it : Contains (named_by_line m.file line used) m
