-- The tables and indexes that a code declares.
use Rattle.std.specs.Prelude.{◌≡◌, ℕ, ◌<◌, ◌≤◌, Bool, true, ◌&&◌, nat_le, List, [], length, Some, slice_get, Contains}
use Rattle.shape.specs.declared.indexes.IndexShape.{IndexShape}
use Rattle.shape.specs.declared.tables.TableShape.{TableShape}
use Rattle.shape.specs.Keys.{is_key, key_text}
use Rattle.shape.specs.declared.whole.Shape.{Shape}
use Rattle.shape.specs.Tables.{tables_go_on}
use Rattle.shape.specs.Indexes.{indexes_go_on}

-- at most 32 tables and 64 indexes, each legal behind those before it
unfoldable pub is_shape : Shape → Bool
is_shape s = nat_le (length s.tables) 32 && nat_le (length s.indexes) 64 && tables_go_on [] s.tables
    && indexes_go_on s.tables [] s.indexes

-- rows of the table can have the index's key, and its text has at most 100 bytes, none of them zero
pub record HasKeyOf (t : TableShape) (x : IndexShape) : Type 0 where
  pub key : is_key t.fields x.key ≡ true
  pub short : length (key_text t.fields x.key) ≤ 100
  pub no_zero : Contains (key_text t.fields x.key) 0 → ⊥

-- its table is declared, and has the key
pub record IsOfShape (tables : List TableShape) (x : IndexShape) : Type 0 where
  pub within : x.table < length tables
  pub key : (t : TableShape) → slice_get tables x.table ≡ Some t → HasKeyOf t x

-- what follows for the tables and indexes of a shape that may be declared
pub record IsLegal (s : Shape) : Type 0 where
  pub few_tables : length s.tables ≤ 32
  pub few_indexes : length s.indexes ≤ 64
  pub indexes : (n : ℕ) (x : IndexShape) → slice_get s.indexes n ≡ Some x → IsOfShape s.tables x
