-- Declared indexes.
use Rattle.std.specs.Prelude.{ℕ, Bool, true, false, not, ◌&&◌, nat_le, List, [], ◌∷◌, ◌++◌, Option, Some, None, length}
use Rattle.std.specs.Prelude.{slice_get}
use Rattle.std.specs.List.{list_any}
use Rattle.std.specs.Str.{str_eq_ignore_ascii_case}
use Rattle.shape.specs.declared.indexes.IndexShape.{IndexShape}
use Rattle.shape.specs.declared.parts.KeyPart.{KeyPart}
use Rattle.shape.specs.declared.tables.TableShape.{TableShape}
use Rattle.shape.specs.Keys.{is_key, key_text}
use Rattle.shape.specs.Names.{is_file_name}

-- rows of the table can have the key, and it is spelled in at most 100 bytes
abbrev pub fits_table : Option TableShape → List KeyPart → Bool
fits_table None parts = false
fits_table (Some t) parts = is_key t.fields parts && nat_le (length (key_text t.fields parts)) 100

-- its table is there and fits its key
abbrev pub has_declared_key : List TableShape → IndexShape → Bool
has_declared_key tables x = fits_table (slice_get tables x.table) x.key

unfoldable pub is_index : List TableShape → IndexShape → Bool
is_index tables x = is_file_name x.name.items && has_declared_key tables x

-- names that may be declared have capitals alone, so that this is the same name
abbrev pub has_index_name : List ℕ → IndexShape → Bool
has_index_name name x = str_eq_ignore_ascii_case x.name.items name

-- an index that may be declared behind these: no two have one name
unfoldable pub is_next_index : List TableShape → List IndexShape → IndexShape → Bool
is_next_index tables earlier x = is_index tables x && not (list_any (has_index_name x.name.items) earlier)

-- each may be declared behind these and those before it
abbrev pub indexes_go_on : List TableShape → List IndexShape → List IndexShape → Bool
indexes_go_on tables earlier [] = true
indexes_go_on tables earlier (x ∷ xs) = is_next_index tables earlier x && indexes_go_on tables (earlier ++ x ∷ []) xs
