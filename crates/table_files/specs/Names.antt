-- The files of declared tables and indexes.
use Rattle.std.specs.Prelude.{ℕ, List, ◌++◌, map, codes}
use Rattle.shape.specs.declared.indexes.IndexShape.{IndexShape}
use Rattle.shape.specs.declared.tables.TableShape.{TableShape}
use Rattle.shape.specs.declared.whole.Shape.{Shape}

-- a table's file, and an index's
abbrev pub table_file : TableShape → List ℕ
table_file s = s.name.items ++ codes ".DBF"

abbrev pub index_file : IndexShape → List ℕ
index_file x = x.name.items ++ codes ".NDX"

-- the files of what is declared: first those of the tables, then those of the indexes, each in their order
abbrev pub files_of : Shape → List (List ℕ)
files_of shape = map table_file shape.tables ++ map index_file shape.indexes
