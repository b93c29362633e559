-- What the contracts of `expr_laws` say.
pub use Rattle.expr_laws.specs.Meaning
pub use Rattle.expr_laws.specs.Rows
pub use Rattle.expr_laws.specs.Seeing
