-- What the contracts of `dbf_file` say.
pub use Rattle.dbf_file.specs.Numbers
pub use Rattle.dbf_file.specs.Names
pub use Rattle.dbf_file.specs.Fields
pub use Rattle.dbf_file.specs.Descriptors
pub use Rattle.dbf_file.specs.Rows
pub use Rattle.dbf_file.specs.Tables
pub use Rattle.dbf_file.specs.Kept
pub use Rattle.dbf_file.specs.Faults
pub use Rattle.dbf_file.specs.Layouts
pub use Rattle.dbf_file.specs.Lending
pub use Rattle.dbf_file.specs.Values
