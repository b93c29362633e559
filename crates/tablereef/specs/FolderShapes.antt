-- What the contracts of `folder_shapes` say.
pub use Rattle.folder_shapes.specs.Keys
pub use Rattle.folder_shapes.specs.Names
pub use Rattle.folder_shapes.specs.Owners
pub use Rattle.folder_shapes.specs.Reading
pub use Rattle.folder_shapes.specs.Told
pub use Rattle.folder_shapes.specs.States
pub use Rattle.folder_shapes.specs.Pages
pub use Rattle.folder_shapes.specs.Programs
pub use Rattle.folder_shapes.specs.Proposals
pub use Rattle.folder_shapes.specs.Folder
