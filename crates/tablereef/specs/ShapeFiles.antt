-- What the contracts of `shape_files` say.
pub use Rattle.shape_files.specs.Keys
pub use Rattle.shape_files.specs.Lines
pub use Rattle.shape_files.specs.Listing
pub use Rattle.shape_files.specs.Refusals
pub use Rattle.shape_files.specs.Shapes
pub use Rattle.shape.specs.Whole
