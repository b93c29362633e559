-- What the contracts of `folder_files` say.
pub use Rattle.folder_files.specs.Handed
pub use Rattle.folder_files.specs.Journals
pub use Rattle.folder_files.specs.Paths
pub use Rattle.folder_files.specs.Unfinished
