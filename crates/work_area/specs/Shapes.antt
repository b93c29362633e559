-- What stays as a store changes: its tables hold what is declared, and have the declared indexes.
use Rattle.std.specs.Prelude.{◌≡◌, ℕ, Bool, true, Option, Some, List, length, map, is_some, slice_get}
use Rattle.row_moves.specs.Moves.{Landing}
use Rattle.shape.specs.declared.indexes.IndexShape.{IndexShape}
use Rattle.shape.specs.declared.tables.TableShape.{TableShape}
use Rattle.shape.specs.declared.whole.Shape.{Shape}
use Rattle.xvalue.specs.declared.value.Value.{Value}
use Rattle.open_table.specs.Marks.{IndexMark, mark_at, with_stale, parts_in, form_in}
use Rattle.open_table.specs.Open.{OpenState, landed, opened, closed, reordered, gone, with_blank, replaced_here}
use Rattle.open_table.specs.Open.{remarked_here}
use Rattle.work_area.specs.declared.uses.Use.{Use}
use Rattle.work_area.specs.Areas.{StoreState, table_at, index_table, here, with_table, with_use, with_selected}
use Rattle.work_area.specs.Areas.{with_here, change_here, closed_here, closed_all}
use Rattle.work_area.specs.Calls.{packed_in, zapped_in, reindexed_in, indexed_here, used_here}
use Rattle.work_area.specs.Making.{HaveAlikeFields, key_form, mark_for}

-- a mark as if it were stale
abbrev pub still : IndexMark → IndexMark
still m = with_stale m true

-- the tables hold what is declared, and have the declared indexes
pub record StoreHasShape (shape : Shape) (s : StoreState) : Type 0 where
  pub count : length s.tables ≡ length shape.tables
  pub fields : (t : ℕ) (o : OpenState) (d : TableShape) → table_at s t ≡ Some o → slice_get shape.tables t ≡ Some d
      → HaveAlikeFields o.table.structure.fields d.fields
  pub indexes : (n : ℕ) (x : IndexShape) (o : OpenState) (d : TableShape) → slice_get shape.indexes n ≡ Some x
      → table_at s x.table ≡ Some o → slice_get shape.tables x.table ≡ Some d
      → mark_at (map still o.table.marks) n ≡ Some (mark_for n d.fields x)
  -- only its own table has an index
  pub alone : (n : ℕ) (x : IndexShape) (t : ℕ) (o : OpenState) → slice_get shape.indexes n ≡ Some x
      → table_at s t ≡ Some o → is_some (mark_at (map still o.table.marks) n) ≡ true → t ≡ x.table

-- the same fields and indexes, stale or not
pub record IsSameKind (o p : OpenState) : Type 0 where
  pub structure : p.table.structure ≡ o.table.structure
  pub marks : map still p.table.marks ≡ map still o.table.marks

-- each change of a table in use leaves what it is of
pub record KindsStay (o : OpenState) : Type 0 where
  pub by_move : (landing : Landing) → IsSameKind o (landed o landing)
  pub chain : (p q : OpenState) → IsSameKind o p → IsSameKind p q → IsSameKind o q
  pub by_append : IsSameKind o (with_blank o)
  pub by_replace : (f : ℕ) (v : Value) → IsSameKind o (replaced_here f v o)
  pub by_mark : (marked : Bool) → IsSameKind o (remarked_here marked o)
  pub by_pack : IsSameKind o (packed_in o)
  pub by_zap : IsSameKind o (zapped_in o)
  pub by_reindex : IsSameKind o (reindexed_in o)
  pub by_open : (list : List ℕ) → IsSameKind o (opened list o)
  pub by_close : IsSameKind o (closed o)
  pub by_order : (order : ℕ) → IsSameKind o (reordered order o)
  pub by_go : (number : Option ℕ) → IsSameKind o (gone number o)

-- a store keeps its shape through each change
pub record ShapesStay (shape : Shape) (s : StoreState) : Type 0 where
  pub at_table : (t : ℕ) (o p : OpenState) → StoreHasShape shape s → table_at s t ≡ Some o → IsSameKind o p
      → StoreHasShape shape (with_table s t p)
  pub at_here : (o p : OpenState) → StoreHasShape shape s → here s ≡ Some o → IsSameKind o p
      → StoreHasShape shape (with_here p s)
  pub by_change : (f : OpenState → OpenState) → ((o : OpenState) → IsSameKind o (f o)) → StoreHasShape shape s
      → StoreHasShape shape (change_here f s)
  pub by_use : (area : ℕ) (u : Option Use) → StoreHasShape shape s → StoreHasShape shape (with_use s area u)
  pub by_select : (area : ℕ) → StoreHasShape shape s → StoreHasShape shape (with_selected area s)
  pub by_close : StoreHasShape shape s → StoreHasShape shape (closed_here s)
  pub by_close_all : StoreHasShape shape s → StoreHasShape shape (closed_all s)
  pub by_index : (list : ℕ) (o p : OpenState) → StoreHasShape shape s → here s ≡ Some o → IsSameKind o p
      → StoreHasShape shape (indexed_here list p s)
  pub by_open : (t list : ℕ) (o p : OpenState) → StoreHasShape shape s → table_at s t ≡ Some o → IsSameKind o p
      → StoreHasShape shape (used_here t list p s)
  -- the declared indexes are there
  pub declared : (n : ℕ) (x : IndexShape) (o : OpenState) (d : TableShape) → StoreHasShape shape s
      → slice_get shape.indexes n ≡ Some x → table_at s x.table ≡ Some o → slice_get shape.tables x.table ≡ Some d
      → is_some (mark_at o.table.marks n) ≡ true

-- index x of a shape, of number n, is found in its table o, declared as d, and has its declared key there
pub record IsFoundIn (s : StoreState) (n : ℕ) (x : IndexShape) (d : TableShape) (o : OpenState) : Type 0 where
  pub found : index_table s n ≡ Some o
  pub parts : parts_in (mark_at o.table.marks n) ≡ x.key
  pub form : form_in o.table.structure (mark_at o.table.marks n) ≡ key_form d x

-- each declared index is found so
abbrev pub AreFound : Shape → StoreState → Type 0
AreFound shape s = (n : ℕ) (x : IndexShape) (o : OpenState) (d : TableShape) → slice_get shape.indexes n ≡ Some x
    → table_at s x.table ≡ Some o → slice_get shape.tables x.table ≡ Some d → IsFoundIn s n x d o
