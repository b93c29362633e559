-- What the contracts of `table_files` say.
pub use Rattle.table_files.specs.Loading
pub use Rattle.table_files.specs.Names
pub use Rattle.table_files.specs.Refusals
pub use Rattle.table_files.specs.Saving
pub use Rattle.shape.specs.Whole
