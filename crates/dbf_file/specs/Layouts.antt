-- What the header of a table's file tells.
use Rattle.std.specs.Prelude.{◌≡◌, ℕ, ◌+◌, ◌*◌, ◌<◌, ◌≤◌, ◌^◌, List, length, drop, true, Ok, slice_index, slice_range}
use Rattle.dbf_file.specs.declared.reading.Layout.{Layout}
use Rattle.dbf_file.specs.Fields.{widths_of, size_of}
use Rattle.dbf_file.specs.Rows.{Row, rows_in, are_marked}
use Rattle.dbf_file.specs.Tables.{StructureState}
use Rattle.dbf_file.specs.Faults.{told_count, told_header, told_size, told_fields}

-- the header tells this layout, and its records lie within the bytes
pub record IsLayout (bytes : List ℕ) (layout : Layout) : Type 0 where
  pub version : slice_index bytes 0 ≡ 3
  pub fields : told_fields bytes ≡ Ok layout.fields.items
  pub header : told_header bytes ≡ layout.header
  pub size : size_of (widths_of layout.fields.items) ≡ layout.size
  pub told : told_size bytes ≡ layout.size
  pub count : told_count bytes ≡ layout.rows
  pub long : 65 ≤ layout.header
  pub short : layout.header < 2 ^ 16
  pub within : layout.header + layout.rows * layout.size ≤ length bytes
  pub small : layout.size ≤ 4000
  pub few : layout.rows < 2 ^ 32
  pub marks : are_marked layout.size layout.rows (drop layout.header bytes) ≡ true

-- the structure of the layout
abbrev pub structure_told : List ℕ → Layout → StructureState
structure_told bytes layout = record { fields = layout.fields.items; head = slice_range bytes 12 layout.header }

-- and its rows
abbrev pub rows_told : List ℕ → Layout → List Row
rows_told bytes layout = rows_in (widths_of layout.fields.items) layout.rows (drop layout.header bytes)
