-- What the contracts of `fixed_num` say.
pub use Rattle.fixed_num.specs.Number
pub use Rattle.fixed_num.specs.Words
pub use Rattle.fixed_num.specs.Rounding
pub use Rattle.fixed_num.specs.Arithmetic
pub use Rattle.fixed_num.specs.Order
pub use Rattle.fixed_num.specs.Text
pub use Rattle.fixed_num.specs.Reading
pub use Rattle.fixed_num.specs.Prefixes
