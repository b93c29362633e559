-- What always holds of the parts of a table.
use Rattle.std.specs.Prelude.{◌≡◌, ℕ, ◌*◌, ◌^◌, ◌<◌, List, length}
use Rattle.dbf_file.specs.Fields.{size_of}
use Rattle.dbf_file.specs.Tables.{StructureState, IsStructure, row_widths}

-- a structure, the size of its records, and so many records in these bytes
pub record IsKept (structure : StructureState) (size rows : ℕ) (records : List ℕ) : Type 0 where
  pub good : IsStructure structure
  pub right_size : size ≡ size_of (row_widths structure)
  pub whole : length records ≡ rows * size
  pub few : rows < 2 ^ 32
