-- What is written of a store, and what the files hold then.
use Rattle.std.specs.Prelude.{◌≡◌, ℕ, ◌+◌, ◌-◌, ◌<◌, ◌≤◌, ◌↔◌, Bool, true, false, ◌||◌, nat_lt, Option, Some, List}
use Rattle.std.specs.Prelude.{length, slice_get, ⊤}
use Rattle.dbf_file.specs.declared.stamp.Stamp.{Stamp}
use Rattle.dbf_file.specs.Tables.{TableState, DbfText, dbf_text}
use Rattle.file_access.specs.Holding.{Holds}
use Rattle.ndx_tree.specs.IndexText.{IsIndexText}
use Rattle.row_keys.specs.Lists.{index_list}
use Rattle.shape.specs.declared.indexes.IndexShape.{IndexShape}
use Rattle.shape.specs.declared.tables.TableShape.{TableShape}
use Rattle.shape.specs.declared.whole.Shape.{Shape}
use Rattle.open_table.specs.Open.{OpenState}
use Rattle.open_table.specs.Marks.{mark_at, is_fresh, parts_in, form_in}
use Rattle.work_area.specs.Areas.{StoreState, table_at, index_table, mark_in}
use Rattle.work_area.specs.Making.{key_form}
use Rattle.table_files.specs.declared.refusal.FilesRefusal.{FilesRefusal}
use Rattle.table_files.specs.declared.refusal.FilesRefusal.TheVariants.{Refused, Disk, Memory}
use Rattle.table_files.specs.Loading.{IsTableOf}
use Rattle.table_files.specs.Names.{index_file, files_of}

-- ---- files that are written

-- whether index n is there and isn't stale
abbrev pub has_fresh_index : StoreState → ℕ → Bool
has_fresh_index store n = is_fresh (mark_in (index_table store n) n)

-- whether declared file k, counted from 0, is written: a table's is, and that of an index that isn't stale
abbrev pub is_written : Shape → StoreState → ℕ → Bool
is_written shape store k = nat_lt k (length shape.tables) || has_fresh_index store (k - length shape.tables)

-- the bytes of declared file k: its table's rows with this stamp, which read as that table, or the list of its table's
-- rows under its index's declared key
pub record IsTextOf (shape : Shape) (store : StoreState) (stamp : Stamp) (k : ℕ) (bytes : List ℕ) : Type 0 where
  pub table : (o : OpenState) → k < length shape.tables → table_at store k ≡ Some o
      → bytes ≡ dbf_text o.table.structure o.table.rows stamp
  pub reads : (o : OpenState) → k < length shape.tables → table_at store k ≡ Some o
      → DbfText o.table.structure o.table.rows stamp bytes
  pub index : (n : ℕ) (o : OpenState) → k ≡ length shape.tables + n → index_table store n ≡ Some o
      → IsIndexText bytes (form_in o.table.structure (mark_at o.table.marks n))
      (index_list (parts_in (mark_at o.table.marks n)) o.table.rows)

-- declared file k holds such bytes if it is written
abbrev pub IsNew : Shape → StoreState → Stamp → Holds → ℕ → Type 0
IsNew shape store stamp holds k = (name : List ℕ) → slice_get (files_of shape) k ≡ Some name
    → is_written shape store k ≡ true → (bytes : List ℕ) × IsTextOf shape store stamp k bytes × holds name (Some bytes)

-- ---- the whole

-- Those of the first k declared files that are written are new, and all other files as they were.
pub record AreSaved (shape : Shape) (store : StoreState) (stamp : Stamp) (k : ℕ) (before after : Holds) : Type 0 where
  pub written : (j : ℕ) → j < k → IsNew shape store stamp after j
  pub others : (name : List ℕ) → ((j : ℕ) → j < k → slice_get (files_of shape) j ≡ Some name
      → is_written shape store j ≡ false) → (found : Option (List ℕ)) → before name found ↔ after name found

-- why the file behind the first k isn't written: the device failed at it, or memory was refused
abbrev pub SaveRefused : Shape → ℕ → Type 0 → FilesRefusal → Type 0
SaveRefused shape k broke (Refused name fault) = ⊥
SaveRefused shape k broke (Disk name) = (slice_get (files_of shape) k ≡ Some name.bytes) × broke
SaveRefused shape k broke Memory = ⊤

-- saving ended before file k, counted from 0
pub record EndedAt (shape : Shape) (store : StoreState) (stamp : Stamp) (before after : Holds) (broke : Type 0)
    (refusal : FilesRefusal) : Type 0 where
  pub k : ℕ
  pub within : k + 1 ≤ length (files_of shape)
  pub saved : AreSaved shape store stamp k before after
  pub why : SaveRefused shape k broke refusal

-- ---- what a later load finds

-- The tables of the first k files are as the store had them; the others are those that their files held before.
pub record FindsSaved (before : Holds) (shape : Shape) (store : StoreState) (k limit : ℕ)
    (loaded : StoreState) : Type 0 where
  pub saved : (t : ℕ) (s : TableShape) (o l : OpenState) → t < k → slice_get shape.tables t ≡ Some s
      → table_at store t ≡ Some o → table_at loaded t ≡ Some l
      → (l.table.structure ≡ o.table.structure) × (l.table.rows ≡ o.table.rows)
  pub kept : (t : ℕ) (s : TableShape) (l : OpenState) → k ≤ t → slice_get shape.tables t ≡ Some s
      → table_at loaded t ≡ Some l
      → (table : TableState) × IsTableOf before limit s table × (l.table.structure ≡ table.structure)
      × (l.table.rows ≡ table.rows)

-- ---- what files hold of indexes

-- the file of an index of this table is that of the rows, under the declared key
pub record IsListFile (holds : Holds) (s : TableShape) (x : IndexShape) (o : OpenState) : Type 0 where
  pub bytes : List ℕ
  pub held : holds (index_file x) (Some bytes)
  pub text : IsIndexText bytes (key_form s x) (index_list x.key o.table.rows)

-- index n, of table o that is declared as s, isn't stale, and its file is one of the first k
pub record IsSaved (shape : Shape) (store : StoreState) (k n : ℕ) (x : IndexShape) (s : TableShape)
    (o : OpenState) : Type 0 where
  pub within : length shape.tables + n < k
  pub index : slice_get shape.indexes n ≡ Some x
  pub declared : slice_get shape.tables x.table ≡ Some s
  pub table : table_at store x.table ≡ Some o
  pub fresh : is_fresh (mark_at o.table.marks n) ≡ true

-- each such index has such a file
abbrev pub HoldsLists : Holds → Shape → StoreState → ℕ → Type 0
HoldsLists holds shape store k =
    (n : ℕ) (x : IndexShape) (s : TableShape) (o : OpenState) → IsSaved shape store k n x s o → IsListFile holds s x o

-- each such index isn't stale where its file has at most 64 MiB
abbrev pub FindsLists : Holds → Shape → StoreState → ℕ → StoreState → Type 0
FindsLists holds shape store k loaded = (n : ℕ) (x : IndexShape) (s : TableShape) (o l : OpenState)
    → IsSaved shape store k n x s o → table_at loaded x.table ≡ Some l → (file : IsListFile holds s x o)
    → length file.bytes ≤ 67108864 → is_fresh (mark_at l.table.marks n) ≡ true
