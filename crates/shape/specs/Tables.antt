-- Declared tables.
use Rattle.std.specs.Prelude.{ℕ, Bool, true, not, ◌&&◌, List, [], ◌∷◌, ◌++◌}
use Rattle.std.specs.List.{list_all, list_any}
use Rattle.std.specs.Str.{str_eq_ignore_ascii_case}
use Rattle.dbf_file.specs.Fields.{are_fields}
use Rattle.shape.specs.declared.tables.TableShape.{TableShape}
use Rattle.shape.specs.Names.{is_capital_name, is_file_name}

-- a name that a table can have, and fields that a table can have, with names in capitals
unfoldable pub is_table : TableShape → Bool
is_table t = is_file_name t.name.items && are_fields t.fields && list_all (λ f. is_capital_name f.name.items) t.fields

-- names that may be declared have capitals alone, so that this is the same name
abbrev pub has_table_name : List ℕ → TableShape → Bool
has_table_name name t = str_eq_ignore_ascii_case t.name.items name

-- a table that may be declared behind these: no two have one name
unfoldable pub is_next_table : List TableShape → TableShape → Bool
is_next_table earlier t = is_table t && not (list_any (has_table_name t.name.items) earlier)

-- each may be declared behind these and those before it
abbrev pub tables_go_on : List TableShape → List TableShape → Bool
tables_go_on earlier [] = true
tables_go_on earlier (t ∷ ts) = is_next_table earlier t && tables_go_on (earlier ++ t ∷ []) ts
