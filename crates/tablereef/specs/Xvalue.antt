-- What the contracts of `xvalue` say.
pub use Rattle.xvalue.specs.Blank
pub use Rattle.xvalue.specs.Functions
pub use Rattle.xvalue.specs.Given
pub use Rattle.xvalue.specs.Kinds
pub use Rattle.xvalue.specs.Setting
pub use Rattle.xvalue.specs.Shown
pub use Rattle.xvalue.specs.Signature
pub use Rattle.xvalue.specs.Texts
pub use Rattle.xvalue.specs.Laws
pub use Rattle.xvalue.specs.Answers
pub use Rattle.xvalue.specs.Calendar
pub use Rattle.xvalue.specs.declared.kind.Kind
pub use Rattle.xvalue.specs.declared.value.Value
