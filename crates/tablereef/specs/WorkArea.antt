-- What the contracts of `work_area` say.
pub use Rattle.work_area.specs.Areas
pub use Rattle.work_area.specs.Calls
pub use Rattle.work_area.specs.Making
pub use Rattle.work_area.specs.Shapes
pub use Rattle.work_area.specs.Open
pub use Rattle.work_area.specs.Tables
pub use Rattle.work_area.specs.Moves
pub use Rattle.open_table.specs.Marks
pub use Rattle.open_table.specs.Tried
pub use Rattle.row_keys.specs.Lists
pub use Rattle.shape.specs.Whole
