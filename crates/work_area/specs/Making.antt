-- A store made of tables, and of lists for their indexes.
use Rattle.std.specs.Prelude.{◌≡◌, ℕ, ◌+◌, ◌<◌, ◌≤◌, ◌↔◌, ◌==◌, true, false, Option, Some, None, List, [], ◌∷◌, All}
use Rattle.std.specs.Prelude.{length, replicate, slice_get, slice_index_or, slice_set, IfSome, IsSomeAnd, MatchBool}
use Rattle.dbf_file.specs.declared.field.Field.{Field}
use Rattle.dbf_file.specs.Fields.{widths_of}
use Rattle.dbf_file.specs.Rows.{Row}
use Rattle.dbf_file.specs.Tables.{TableState}
use Rattle.key_lists.specs.KeyForm.{KeyForm}
use Rattle.key_lists.specs.Pairs.{Pair}
use Rattle.shape.specs.declared.indexes.IndexShape.{IndexShape}
use Rattle.shape.specs.declared.tables.TableShape.{TableShape}
use Rattle.shape.specs.declared.whole.Shape.{Shape}
use Rattle.shape.specs.Keys.{key_length, key_text}
use Rattle.row_keys.specs.Lists.{index_list}
use Rattle.open_table.specs.Marks.{IndexMark}
use Rattle.open_table.specs.Tables.{HasDeclared}
use Rattle.open_table.specs.Open.{OpenState, closed, in_table}
use Rattle.work_area.specs.Areas.{StoreState}

-- ---- what a store is made of

-- fields that hold the same: their names may differ
pub record IsAlike (a b : Field) : Type 0 where
  pub letter : a.letter ≡ b.letter
  pub width : a.width ≡ b.width
  pub decimals : a.decimals ≡ b.decimals

pub record HaveAlikeFields (fields others : List Field) : Type 0 where
  pub count : length fields ≡ length others
  pub each : (k : ℕ) (d : Field) → k < length fields → IsAlike (slice_index_or fields k d) (slice_index_or others k d)

-- a table with fields that hold what is declared, and no more rows than the limit
pub record IsDeclaredTable (limit : ℕ) (s : TableShape) (table : TableState) : Type 0 where
  pub fields : HaveAlikeFields table.structure.fields s.fields
  pub few : length table.rows ≤ limit

-- the declared tables, with fields that hold what is declared, each with no more rows than the limit
pub record AreOfShape (shape : Shape) (limit : ℕ) (tables : List TableState) : Type 0 where
  pub count : length tables ≡ length shape.tables
  pub fields : (t : ℕ) (d : TableState) (s : TableShape) → slice_get shape.tables t ≡ Some s
      → HaveAlikeFields (slice_index_or tables t d).structure.fields s.fields
  pub few : All (λ t. length t.rows ≤ limit) tables

-- the length of an index's keys, and the text that says how they are made
abbrev pub key_form : TableShape → IndexShape → KeyForm
key_form s x = record { key_length = key_length x.key (widths_of s.fields); key_text = key_text s.fields x.key }

-- none, or a list of the key of index n, where that is declared of a table
abbrev pub IsFormed : {X : Type 0} → (X → KeyForm) → Shape → ℕ → Option X → Type 0
IsFormed form shape n list = (x : IndexShape) (s : TableShape) → slice_get shape.indexes n ≡ Some x
    → slice_get shape.tables x.table ≡ Some s → IfSome list (λ k. form k ≡ key_form s x)

-- for each declared index a list of its key, or none
pub record AreLists {X : Type 0} (form : X → KeyForm) (shape : Shape) (keys : List (Option X)) : Type 0 where
  pub count : length keys ≡ length shape.indexes
  pub formed : (n : ℕ) (x : IndexShape) (s : TableShape) → slice_get shape.indexes n ≡ Some x
      → slice_get shape.tables x.table ≡ Some s → IfSome (slice_index_or keys n None) (λ k. form k ≡ key_form s x)

-- the list for index n is there, and has just these pairs
abbrev pub lists_just : {X : Type 0} → (X → List Pair) → List (Option X) → ℕ → List Pair → Type 0
lists_just pairs keys n wanted = IsSomeAnd (slice_index_or keys n None) (λ k. pairs k ≡ wanted)

-- tables with fields that hold what is declared, and no open index
pub record AreReady (shape : Shape) (made : List OpenState) : Type 0 where
  pub count : length made ≡ length shape.tables
  pub fields : (t : ℕ) (o : OpenState) (s : TableShape) → slice_get made t ≡ Some o → slice_get shape.tables t ≡ Some s
      → HaveAlikeFields o.table.structure.fields s.fields
  pub unused : (t : ℕ) (o : OpenState) → slice_get made t ≡ Some o → o.list ≡ []

-- a table in no area, without indexes
abbrev pub unused : TableState → OpenState
unused table = record {
  table = record { structure = table.structure; rows = table.rows; marks = [] };
  list = [];
  order = 0;
  pointer = None;
  bof = false;
  found = false;
}

-- the mark of index n, stale
abbrev pub mark_for : ℕ → List Field → IndexShape → IndexMark
mark_for n fields x = record { number = n; parts = x.key; text = key_text fields x.key; stale = true }

-- index n is declared of its table, and isn't stale where there is a list with the pairs of the rows
pub record Declares (shape : Shape) (lists : List Pair → Type 0) (n : ℕ) (x : IndexShape)
    (old new : List OpenState) : Type 0 where
  pub fresh : OpenState
  pub put : new ≡ slice_set old x.table fresh
  pub same : (o : OpenState) → slice_get old x.table ≡ Some o → fresh ≡ in_table o fresh.table
  pub mark : (o : OpenState) (s : TableShape) → slice_get old x.table ≡ Some o → slice_get shape.tables x.table ≡ Some s
      → HasDeclared (lists (index_list x.key o.table.rows)) (mark_for n s.fields x) o.table fresh.table

-- ---- the store

-- the mark of index n: it isn't stale just where there is a list with the pairs of these rows
pub record IsMarkOf (lists : ℕ → List Pair → Type 0) (fields : List Field) (rows : List Row) (n : ℕ) (x : IndexShape)
    (m : IndexMark) : Type 0 where
  pub number : m.number ≡ n
  pub parts : m.parts ≡ x.key
  pub text : m.text ≡ key_text fields x.key
  pub fresh : (m.stale ≡ false) ↔ lists n (index_list x.key rows)

-- a fact of the first, and one of the others
abbrev pub FirstIs : (IndexMark → Type 0) → (List IndexMark → Type 0) → List IndexMark → Type 0
FirstIs P Q [] = ⊥
FirstIs P Q (m ∷ marks) = P m × Q marks

-- the marks of those indexes that are of table t, in their order, the first of them all being index n
abbrev pub AreMarks : (ℕ → List Pair → Type 0) → List Field → List Row → ℕ → ℕ → List IndexShape → List IndexMark
    → Type 0
AreMarks lists fields rows t n [] marks = marks ≡ []
AreMarks lists fields rows t n (x ∷ xs) marks = MatchBool (x.table == t)
    (FirstIs (IsMarkOf lists fields rows n x) (AreMarks lists fields rows t (n + 1) xs) marks)
    (AreMarks lists fields rows t (n + 1) xs marks)

-- table t as it was handed in, in no area, with the marks of its indexes
pub record IsNewTable (lists : ℕ → List Pair → Type 0) (indexes : List IndexShape) (t : ℕ) (s : TableShape)
    (table : TableState) (o : OpenState) : Type 0 where
  pub structure : o.table.structure ≡ table.structure
  pub rows : o.table.rows ≡ table.rows
  pub unused : o ≡ closed o
  pub marks : AreMarks lists s.fields table.rows t 0 indexes o.table.marks

pub record AreNewTables (shape : Shape) (lists : ℕ → List Pair → Type 0) (indexes : List IndexShape)
    (tables : List TableState) (made : List OpenState) : Type 0 where
  pub count : length made ≡ length tables
  pub each : (t : ℕ) (d : TableState) (e : OpenState) (s : TableShape) → t < length tables
      → slice_get shape.tables t ≡ Some s
      → IsNewTable lists indexes t s (slice_index_or tables t d) (slice_index_or made t e)

-- all areas closed, and area 1 selected
pub record IsNewStore (lists : ℕ → List Pair → Type 0) (shape : Shape) (handed : List TableState) (most : ℕ)
    (s : StoreState) : Type 0 where
  pub tables : AreNewTables shape lists shape.indexes handed s.tables
  pub areas : s.areas ≡ replicate 10 None
  pub selected : s.selected ≡ 1
  pub limit : s.limit ≡ most
