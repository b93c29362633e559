-- What the reading commands report of a file.
use Rattle.std.specs.Prelude.{◌≡◌, ◌≤◌, ℕ, List, Option, Some, None, length}
use Rattle.code_items.specs.declared.code.Code.{Code}
use Rattle.xcode.specs.CodeFile.{CodeText}
use Rattle.code_rules.specs.Rules.{Accepted, FirstRefusal}
use Rattle.xcode.specs.Listing.{lines_from}
use Rattle.xverify.specs.declared.verified.FailedRule.{FailedRule as RefusedRule}
use Rattle.file_commands.specs.Lines.{index_lines}
use Rattle.dbf_file.specs.declared.field.Field.{Field}
use Rattle.dbf_file.specs.declared.stamp.Stamp.{Stamp}
use Rattle.dbf_file.specs.Rows.{Row}
use Rattle.dbf_file.specs.Tables.{DbfText, TableState}
use Rattle.ndx_tree.specs.IndexFile.{IsIndexFile}
use Rattle.key_lists.specs.KeyForm.{KeyForm}
use Rattle.key_lists.specs.Pairs.{Pair}

-- what the file may hold is the text of a code
pub record IsCodeFile (holds : Option (List ℕ) → Type 0) (code : Code) : Type 0 where
  pub bytes : List ℕ
  pub held : holds (Some bytes)
  pub text : CodeText bytes code

-- a code file whose code is of some sort
pub record HasCode (holds : Option (List ℕ) → Type 0) (sort : Code → Type 0) : Type 0 where
  pub code : Code
  pub file : IsCodeFile holds code
  pub fits : sort code

-- the code in the file is accepted, or this is its refusal
abbrev pub JudgedFile : (Option (List ℕ) → Type 0) → Option RefusedRule → Type 0
JudgedFile holds None = HasCode holds Accepted
JudgedFile holds (Some refused) = HasCode holds (λ code. FirstRefusal code refused.rule refused.at)

-- these are the lines of the code in the file
pub record ListedCode (holds : Option (List ℕ) → Type 0) (lines : List ℕ) : Type 0 where
  pub code : Code
  pub file : IsCodeFile holds code
  pub lines_are : lines ≡ lines_from 0 code.instructions

-- what the file may hold is the text of a table of at most a million rows
pub record HoldsTable (holds : Option (List ℕ) → Type 0) (table : TableState) : Type 0 where
  pub bytes : List ℕ
  pub stamp : Stamp
  pub held : holds (Some bytes)
  pub text : DbfText table.structure table.rows stamp bytes
  pub few : length table.rows ≤ 1000000

-- these lines are made of the fields and the rows of the table in the file
pub record TableListed (lines_of : List Field → List Row → List ℕ) (holds : Option (List ℕ) → Type 0) (lines : List ℕ)
    : Type 0 where
  pub table : TableState
  pub file : HoldsTable holds table
  pub lines_are : lines ≡ lines_of table.structure.fields table.rows

-- these are the lines of the index in the file
pub record IndexListed (holds : Option (List ℕ) → Type 0) (lines : List ℕ) : Type 0 where
  pub bytes : List ℕ
  pub form : KeyForm
  pub pairs : List Pair
  pub held : holds (Some bytes)
  pub file : IsIndexFile bytes form pairs
  pub lines_are : lines ≡ index_lines form pairs
