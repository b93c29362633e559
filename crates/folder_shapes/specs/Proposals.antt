-- What is proposed for the indexes that a folder's command files name.
use Rattle.std.specs.Prelude.{ℕ, ◌+◌, ◌==◌, ◌&&◌, Bool, not, List, [], ◌∷◌, ◌++◌, Option, Some, None, length}
use Rattle.std.specs.Prelude.{position, slice_get, if◌then◌else◌}
use Rattle.std.specs.List.{list_any}
use Rattle.std.specs.Option.{is_some}
use Rattle.std.specs.Str.{bytes_eq}
use Rattle.dbf_file.specs.Tables.{TableState}
use Rattle.shape.specs.declared.indexes.IndexShape.{IndexShape}
use Rattle.shape.specs.declared.tables.TableShape.{TableShape}
use Rattle.shape.specs.Names.{is_file_name}
use Rattle.folder_shapes.specs.declared.found.FoundTable.{FoundTable}
use Rattle.folder_shapes.specs.declared.line.FolderLine.{FolderLine}
use Rattle.folder_shapes.specs.declared.line.FolderLine.TheVariants as line
use Rattle.folder_shapes.specs.declared.mention.Proposal.{Proposal}
use Rattle.folder_shapes.specs.declared.mention.Proposal.TheVariants as proposal
use Rattle.folder_shapes.specs.Keys.{has_key}
use Rattle.folder_shapes.specs.Programs.{SpelledKey, Named}
use Rattle.folder_shapes.specs.Told.{State}

-- a declared index has the name
abbrev pub is_declared : List ℕ → List IndexShape → Bool
is_declared name indexes = list_any (λ i. bytes_eq i.name.items name) indexes

-- a command file makes the index of that name
abbrev pub makes_index : List ℕ → Named → Bool
makes_index name m = is_some m.key && bytes_eq m.index name

abbrev pub is_made : List ℕ → List Named → Bool
is_made name ms = list_any (makes_index name) ms

abbrev pub declared_number : List TableShape → List ℕ → Option ℕ
declared_number tables name = position (λ t. bytes_eq t.name.items name) tables

abbrev pub proposal_if_opened : List ℕ → List Named → Option Proposal
proposal_if_opened index ms = if is_made index ms then None else Some proposal.NoKey

abbrev pub table_has_key : TableState → List ℕ → Bool
table_has_key t spelled = has_key t.structure.fields spelled

-- of a table whose rows can have the key an index is proposed that can have the name
abbrev pub proposal_by_table : List ℕ → List ℕ → FoundTable → Proposal
proposal_by_table index spelled t = if not (table_has_key t.table spelled) then proposal.OtherKey
    else if is_file_name index then proposal.Declare else proposal.OtherName

abbrev pub proposal_by_content : List ℕ → List ℕ → Option FoundTable → Proposal
proposal_by_content index spelled None = proposal.OtherTable
proposal_by_content index spelled (Some t) = proposal_by_table index spelled t

abbrev pub content_at : List FoundTable → Option ℕ → Option FoundTable
content_at found None = None
content_at found (Some n) = slice_get found n

-- the table is the declared one of that name
abbrev pub proposal_by_name : State → List ℕ → List ℕ → List ℕ → Proposal
proposal_by_name s index spelled table = proposal_by_content index spelled (content_at s.found (declared_number s.tables table))

abbrev pub proposal_by_use : State → List ℕ → SpelledKey → Option (List ℕ) → Proposal
proposal_by_use s index key None = proposal.NoTable
proposal_by_use s index key (Some table) = proposal_by_name s index key.spelled table

abbrev pub proposal_by_key : State → Named → Option SpelledKey → Option Proposal
proposal_by_key s m None = proposal_if_opened m.index s.mentions
proposal_by_key s m (Some key) = Some (proposal_by_use s m.index key m.table)

-- Nothing is proposed for an index that is declared, nor for a command that only opens one which another command makes.
abbrev pub proposal_of : State → Named → Option Proposal
proposal_of s m = if is_declared m.index s.indexes then None else proposal_by_key s m m.key

abbrev pub proposal_line : ℕ → Option Proposal → List FolderLine
proposal_line n None = []
proposal_line n (Some proposed) = line.Proposed n proposed ∷ []

-- the lines for these, the first of which has this number
abbrev pub proposals_from : State → ℕ → List Named → List FolderLine
proposals_from s n [] = []
proposals_from s n (m ∷ ms) = proposal_line n (proposal_of s m) ++ proposals_from s (n + 1) ms

-- The list ends with 256 indexes.
abbrev pub last_line : List Named → List FolderLine
last_line ms = if length ms == 256 then line.More ∷ [] else []

abbrev pub proposed_lines : State → List FolderLine
proposed_lines s = proposals_from s 0 s.mentions ++ last_line s.mentions

-- what is declared stays, and comments are added
abbrev pub with_proposals : State → State
with_proposals s = record s { lines = s.lines ++ proposed_lines s }
