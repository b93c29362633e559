pub mod Areas
pub mod Calls
pub mod Making
pub mod Shapes
pub use Rattle.open_table.specs.Open
pub use Rattle.open_table.specs.Tables
pub use Rattle.row_moves.specs.Moves
