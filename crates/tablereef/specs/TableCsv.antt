-- What the contracts of `table_csv` say.
pub use Rattle.table_csv.specs.Cells
pub use Rattle.table_csv.specs.Written
