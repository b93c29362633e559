-- What a folder's files declare, and what is told of each.
use Rattle.std.specs.Prelude.{◌≡◌, ℕ, ◌+◌, ◌<◌, ◌≤◌, ◌⊎◌, ◌==◌, ◌||◌, Bool, true, false, not, List, [], ◌∷◌, ◌++◌}
use Rattle.std.specs.Prelude.{length, map}
use Rattle.std.specs.Char.{to_ascii_uppercase}
use Rattle.std.specs.List.{list_any}
use Rattle.std.specs.Str.{bytes_eq}
use Rattle.file_access.specs.Holding.{Holds}
use Rattle.key_lists.specs.KeyForm.{KeyForm}
use Rattle.key_lists.specs.Pairs.{Pair}
use Rattle.shape.specs.declared.indexes.IndexShape.{IndexShape}
use Rattle.shape.specs.declared.tables.TableShape.{TableShape}
use Rattle.shape.specs.Indexes.{is_index, is_next_index}
use Rattle.shape.specs.Tables.{is_table, is_next_table}
use Rattle.shape_files.specs.Shapes.{plain_field, in_capitals}
use Rattle.folder_shapes.specs.declared.found.FoundTable.{FoundTable}
use Rattle.folder_shapes.specs.declared.line.FolderLine.{FolderLine}
use Rattle.folder_shapes.specs.declared.line.FolderLine.TheVariants as line
use Rattle.folder_shapes.specs.declared.names.Sort.{Sort}
use Rattle.folder_shapes.specs.declared.names.Sort.TheVariants as sort
use Rattle.folder_shapes.specs.declared.note.Note.{Note}
use Rattle.folder_shapes.specs.declared.note.Note.TheVariants as note
use Rattle.folder_shapes.specs.declared.owners.Owner.TheVariants as owner
use Rattle.folder_shapes.specs.Keys.{plain_text}
use Rattle.folder_shapes.specs.Names.{stem, sort_of, has_small}
use Rattle.folder_shapes.specs.Owners.{HasKey, listed_tables, owner_of}
use Rattle.folder_shapes.specs.Pages.{page_line, page_mark}
use Rattle.folder_shapes.specs.Programs.{Named, names_of_file, with_all_named}
use Rattle.folder_shapes.specs.Reading.{IsReadAs, NotRead, IsTableFile, NoTableFile, IsFileOfIndex, NoFileOfIndex}

-- the name of a file without its ending, in capitals
abbrev pub capital_stem : List ℕ → List ℕ
capital_stem name = map to_ascii_uppercase (stem name)

-- what is declared and told so far, with the tables' contents
pub record State : Type 0 where
  pub tables : List TableShape
  pub found : List FoundTable
  pub indexes : List IndexShape
  pub mentions : List Named
  pub lines : List FolderLine

abbrev pub nothing_taken : State
nothing_taken = record { tables = []; found = []; indexes = []; mentions = []; lines = [] }

-- something is noted of the file of that number
abbrev pub with_note : ℕ → Note → State → State
with_note n told s = record s { lines = s.lines ++ line.Noted n told ∷ [] }

-- ---- tables

-- the declaration of a table in a file of that name
pub record DeclaresFound (name : List ℕ) (t : FoundTable) (shape : TableShape) : Type 0 where
  pub named : shape.name.items ≡ capital_stem name
  pub fields : map plain_field shape.fields ≡ map in_capitals t.table.structure.fields

-- It may be declared behind the others.
pub record MayDeclare (s : State) (name : List ℕ) (t : FoundTable) (shape : TableShape) : Type 0 where
  pub declares : DeclaresFound name t shape
  pub capitals : has_small name ≡ false
  pub room : length s.found < 32
  pub next : is_next_table s.tables shape ≡ true

-- Why it isn't: no table can have the name, it has small letters, or there are 32 tables or one of that name.
abbrev pub MayNotDeclare : State → List ℕ → FoundTable → Note → Type 0
MayNotDeclare s name t note.SmallLetters = has_small name ≡ true
MayNotDeclare s name t note.NoName =
    (10 < length (stem name)) ⊎ ((shape : TableShape) × DeclaresFound name t shape × (is_table shape ≡ false))
MayNotDeclare s name t note.TooMany =
    (32 ≤ length s.found) ⊎ ((shape : TableShape) × DeclaresFound name t shape × (is_next_table s.tables shape ≡ false))
MayNotDeclare s name t _ = ⊥

abbrev pub with_found_table : TableShape → FoundTable → State → State
with_found_table shape t s = record {
  tables = s.tables ++ shape ∷ [];
  found = s.found ++ t ∷ [];
  indexes = s.indexes;
  mentions = s.mentions;
  lines = s.lines ++ line.Table (length s.tables) ∷ page_line (length s.tables) (page_mark t);
}

-- The file holds this table, which may be declared so, or why there is none.
abbrev pub HasTable : Holds → State → List ℕ → TableShape → FoundTable → Type 0
HasTable holds s name shape t = IsTableFile holds name t × MayDeclare s name t shape

abbrev pub WhyNoTable : Holds → State → List ℕ → Note → Type 0
WhyNoTable holds s name told =
    NoTableFile holds name told ⊎ ((t : FoundTable) × IsTableFile holds name t × MayNotDeclare s name t told)

-- the file of that number is taken as a table: it is declared, or the reason is noted
abbrev pub TakesTable : Holds → ℕ → List ℕ → State → State → Type 0
TakesTable holds n name before after =
    ((shape : TableShape) × (t : FoundTable) × HasTable holds before name shape t
    × (after ≡ with_found_table shape t before))
    ⊎ ((told : Note) × WhyNoTable holds before name told × (after ≡ with_note n told before))

-- ---- indexes

-- it doesn't list its table's rows, or its key isn't spelled as it is declared
abbrev pub stale_by : List ℕ → ℕ → List ℕ → List ℕ → Bool
stale_by listed_tables t text plain_field = not (list_any (λ l. l == t) listed_tables)
    || not (bytes_eq text plain_field)

abbrev pub is_stale : List FoundTable → KeyForm → List Pair → ℕ → Bool
is_stale found form pairs t = stale_by (listed_tables found form pairs) t form.key_text (plain_text form.key_text)

-- why no table owns it
abbrev pub NotOwned : List FoundTable → KeyForm → List Pair → Note → Type 0
NotOwned found form pairs note.NoOwner = owner_of found form pairs ≡ owner.Nobody
NotOwned found form pairs note.ManyOwners = owner_of found form pairs ≡ owner.Unknown
NotOwned found form pairs _ = ⊥

-- the declaration of an index of this form and these pairs in a file of that name: its table is the owner, and its key
-- the one that the table's text fields make
pub record Indexes (found : List FoundTable) (name : List ℕ) (form : KeyForm) (pairs : List Pair)
    (index : IndexShape) : Type 0 where
  pub named : index.name.items ≡ capital_stem name
  pub of : owner_of found form pairs ≡ owner.Table index.table
  pub key : HasKey found form.key_length (plain_text form.key_text) index.table index.key

pub record MayIndex (s : State) (name : List ℕ) (form : KeyForm) (pairs : List Pair) (index : IndexShape) : Type 0 where
  pub indexes : Indexes s.found name form pairs index
  pub capitals : has_small name ≡ false
  pub room : length s.indexes < 64
  pub next : is_next_index s.tables s.indexes index ≡ true

abbrev pub MayNotIndex : State → List ℕ → KeyForm → List Pair → Note → Type 0
MayNotIndex s name form pairs note.SmallLetters = has_small name ≡ true
MayNotIndex s name form pairs note.NoName = (10 < length (stem name))
    ⊎ ((index : IndexShape) × Indexes s.found name form pairs index × (is_index s.tables index ≡ false))
MayNotIndex s name form pairs note.TooMany = (64 ≤ length s.indexes)
    ⊎ ((index : IndexShape) × Indexes s.found name form pairs index
    × (is_next_index s.tables s.indexes index ≡ false))
MayNotIndex s name form pairs told = NotOwned s.found form pairs told

-- an index that is declared, with a note behind it where it is stale
abbrev pub stale_note : ℕ → Bool → List FolderLine
stale_note n true = line.Noted n note.Stale ∷ []
stale_note n false = []

abbrev pub with_found_index : ℕ → IndexShape → Bool → State → State
with_found_index n index stale s = record {
  tables = s.tables;
  found = s.found;
  indexes = s.indexes ++ index ∷ [];
  mentions = s.mentions;
  lines = s.lines ++ line.Index (length s.indexes) ∷ stale_note n stale;
}

-- The file holds an index, which may be declared so and is stale or not, or why there is none.
abbrev pub HasIndex : Holds → State → List ℕ → IndexShape → Bool → Type 0
HasIndex holds s name index stale = (form : KeyForm) × (pairs : List Pair) × IsFileOfIndex holds name form pairs
    × MayIndex s name form pairs index × (stale ≡ is_stale s.found form pairs index.table)

abbrev pub WhyNoIndex : Holds → State → List ℕ → Note → Type 0
WhyNoIndex holds s name told = NoFileOfIndex holds name told
    ⊎ ((form : KeyForm) × (pairs : List Pair) × IsFileOfIndex holds name form pairs
    × MayNotIndex s name form pairs told)

abbrev pub TakesIndex : Holds → ℕ → List ℕ → State → State → Type 0
TakesIndex holds n name before after =
    ((index : IndexShape) × (stale : Bool) × HasIndex holds before name index stale
    × (after ≡ with_found_index n index stale before))
    ⊎ ((told : Note) × WhyNoIndex holds before name told × (after ≡ with_note n told before))

-- ---- command files

-- the indexes that a command file of these bytes names, in its place among the folder's names
abbrev pub with_program : ℕ → List ℕ → State → State
with_program n bytes s = record s { mentions = with_all_named (names_of_file n bytes) s.mentions }

-- the file of that number is taken as a command file: what its lines name, or why it isn't read
abbrev pub TakesProgram : Holds → ℕ → List ℕ → State → State → Type 0
TakesProgram holds n name before after =
    ((bytes : List ℕ) × IsReadAs holds name bytes × (after ≡ with_program n bytes before))
    ⊎ ((told : Note) × NotRead holds name told × (after ≡ with_note n told before))

-- ---- the folder

-- a file of one sort is taken, any other leaves all as it is
abbrev pub TableStep : Sort → Holds → ℕ → List ℕ → State → State → Type 0
TableStep sort.Table holds n name before after = TakesTable holds n name before after
TableStep sort.Index holds n name before after = after ≡ before
TableStep sort.Program holds n name before after = after ≡ before
TableStep sort.Other holds n name before after = after ≡ before

abbrev pub IndexStep : Sort → Holds → ℕ → List ℕ → State → State → Type 0
IndexStep sort.Table holds n name before after = after ≡ before
IndexStep sort.Index holds n name before after = TakesIndex holds n name before after
IndexStep sort.Program holds n name before after = after ≡ before
IndexStep sort.Other holds n name before after = after ≡ before

abbrev pub ProgramStep : Sort → Holds → ℕ → List ℕ → State → State → Type 0
ProgramStep sort.Table holds n name before after = after ≡ before
ProgramStep sort.Index holds n name before after = after ≡ before
ProgramStep sort.Program holds n name before after = TakesProgram holds n name before after
ProgramStep sort.Other holds n name before after = after ≡ before

-- each name in its turn, the first of them having this number
abbrev pub TakeTables : Holds → ℕ → List (List ℕ) → State → State → Type 0
TakeTables holds n [] before after = before ≡ after
TakeTables holds n (name ∷ names) before after = (next : State) × TableStep (sort_of name) holds n name before next
    × TakeTables holds (n + 1) names next after

abbrev pub TakeIndexes : Holds → ℕ → List (List ℕ) → State → State → Type 0
TakeIndexes holds n [] before after = before ≡ after
TakeIndexes holds n (name ∷ names) before after = (next : State) × IndexStep (sort_of name) holds n name before next
    × TakeIndexes holds (n + 1) names next after

abbrev pub TakePrograms : Holds → ℕ → List (List ℕ) → State → State → Type 0
TakePrograms holds n [] before after = before ≡ after
TakePrograms holds n (name ∷ names) before after = (next : State) × ProgramStep (sort_of name) holds n name before next
    × TakePrograms holds (n + 1) names next after

-- first the tables, each in its turn, and then the indexes
abbrev pub TakesDeclared : Holds → List (List ℕ) → State → Type 0
TakesDeclared holds names after =
    (tables : State) × TakeTables holds 0 names nothing_taken tables × TakeIndexes holds 0 names tables after
