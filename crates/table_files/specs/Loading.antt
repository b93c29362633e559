-- Tables and indexes as their files hold them.
use Rattle.std.specs.Prelude.{◌≡◌, ℕ, ◌<◌, ◌≤◌, ◌↔◌, Option, Some, None, List, length, map, slice_get, slice_index_or}
use Rattle.std.specs.Prelude.{IfSome, IsSomeAnd}
use Rattle.std.specs.Char.{to_ascii_lowercase}
use Rattle.std.specs.List.{AllZip}
use Rattle.dbf_file.specs.declared.field.Field.{Field}
use Rattle.dbf_file.specs.declared.stamp.Stamp.{Stamp}
use Rattle.dbf_file.specs.Tables.{TableState, DbfText}
use Rattle.file_access.specs.Holding.{Holds}
use Rattle.ndx_tree.specs.IndexFile.{IsIndexFile}
use Rattle.key_lists.specs.KeyForm.{KeyForm}
use Rattle.key_lists.specs.Pairs.{Pair}
use Rattle.ndx_tree.specs.Trees.{TreeView}
use Rattle.shape.specs.declared.indexes.IndexShape.{IndexShape}
use Rattle.shape.specs.declared.tables.TableShape.{TableShape}
use Rattle.shape.specs.declared.whole.Shape.{Shape}
use Rattle.work_area.specs.Areas.{StoreState}
use Rattle.work_area.specs.Making.{HaveAlikeFields, IsNewStore, key_form, lists_just}
use Rattle.table_files.specs.Names.{table_file, index_file}

-- ---- tables

-- the same names, without regard to case, field by field
abbrev pub AreNamed : List Field → List Field → Type 0
AreNamed fields others = (k : ℕ) (d : Field) → k < length fields
    → map to_ascii_lowercase (slice_index_or fields k d).name.items
    ≡ map to_ascii_lowercase (slice_index_or others k d).name.items

-- the declared fields in their order
pub record AreDeclared (fields declared : List Field) : Type 0 where
  pub alike : HaveAlikeFields fields declared
  pub named : AreNamed fields declared

-- the table that stands in the bytes of a file, with the declared fields and no more rows than the limit
pub record IsTableIn (bytes : List ℕ) (limit : ℕ) (s : TableShape) (table : TableState) : Type 0 where
  pub stamp : Stamp
  pub text : DbfText table.structure table.rows stamp bytes
  pub few : length table.rows ≤ limit
  pub declared : AreDeclared table.structure.fields s.fields

-- the table that stands in bytes of at most 64 MiB that its file may hold
pub record IsTableOf (holds : Holds) (limit : ℕ) (s : TableShape) (table : TableState) : Type 0 where
  pub bytes : List ℕ
  pub held : holds (table_file s) (Some bytes)
  pub short : length bytes ≤ 67108864
  pub inside : IsTableIn bytes limit s table

-- ---- indexes

-- what was found of an index's file is of at most 64 MiB, and an index file of these keys and pairs
abbrev pub FoundList : Option (List ℕ) → KeyForm → List Pair → Type 0
FoundList None form pairs = ⊥
FoundList (Some bytes) form pairs = (length bytes ≤ 67108864) × IsIndexFile bytes form pairs

-- The list that was read for an index, if any: it has the declared key, and just the pairs that its file holds. None
-- was read where there is no file, a longer one, one that is no index file, or one of another key.
pub record IsListOf (holds : Holds) (s : TableShape) (x : IndexShape) (list : Option TreeView) : Type 0 where
  pub found : Option (List ℕ)
  pub held : holds (index_file x) found
  pub form : IfSome list (λ k. k.form ≡ key_form s x)
  pub just : (pairs : List Pair) → IsSomeAnd list (λ k. k.pairs ≡ pairs) ↔ FoundList found (key_form s x) pairs

-- what was read for each index of a shape
pub record AreListsOf (holds : Holds) (shape : Shape) (lists : List (Option TreeView)) : Type 0 where
  pub count : length lists ≡ length shape.indexes
  pub each : (n : ℕ) (x : IndexShape) (s : TableShape) → slice_get shape.indexes n ≡ Some x
      → slice_get shape.tables x.table ≡ Some s → IsListOf holds s x (slice_index_or lists n None)

-- ---- the whole

-- A store of the tables that the declared files may hold, all areas closed. An index isn't stale just where a list was
-- read for it that has the pairs of its table's rows.
pub record Loaded (holds : Holds) (shape : Shape) (limit : ℕ) (store : StoreState) : Type 0 where
  pub tables : List TableState
  pub read : AllZip (IsTableOf holds limit) shape.tables tables
  pub lists : List (Option TreeView)
  pub listed : AreListsOf holds shape lists
  pub made : IsNewStore (lists_just (λ k. k.pairs) lists) shape tables limit store
