-- What the contracts of `file_access` say.
pub use Rattle.file_access.specs.Holding
pub use Rattle.file_access.specs.InMemory
