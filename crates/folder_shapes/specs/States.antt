-- What is declared, as it is told, and as a shape.
use Rattle.std.specs.Prelude.{map}
use Rattle.shape.specs.declared.whole.Shape.{Shape}
use Rattle.folder_shapes.specs.declared.declared.FolderDeclared.{FolderDeclared}
use Rattle.folder_shapes.specs.Programs.{named_in}
use Rattle.folder_shapes.specs.Told.{State}

abbrev pub taken_state : FolderDeclared → State
taken_state d = record {
  tables = d.tables.items;
  found = d.found.items;
  indexes = d.indexes.items;
  mentions = map named_in d.mentions.items;
  lines = d.lines.items;
}

abbrev pub declared_shape : FolderDeclared → Shape
declared_shape d = record { tables = d.tables.items; indexes = d.indexes.items }
