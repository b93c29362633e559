-- The code page that a table's header names.
use Rattle.std.specs.Prelude.{ℕ, Option, Some, None, List, [], ◌∷◌, slice_get, ◌==◌, if◌then◌else◌}
use Rattle.folder_shapes.specs.declared.found.FoundTable.{FoundTable}
use Rattle.folder_shapes.specs.declared.line.FolderLine.{FolderLine}
use Rattle.folder_shapes.specs.declared.line.FolderLine.TheVariants as line

abbrev pub or_zero : Option ℕ → ℕ
or_zero None = 0
or_zero (Some byte) = byte

-- the byte 29 of a table's header, whose bytes are kept from byte 12 on
abbrev pub page_mark : FoundTable → ℕ
page_mark t = or_zero (slice_get t.table.structure.head 17)

-- the table of that number has this byte there; 0 names no page
abbrev pub page_line : ℕ → ℕ → List FolderLine
page_line n mark = if mark == 0 then [] else line.Page n mark ∷ []
