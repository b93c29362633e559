-- What the contracts of `hints` say.
pub use Rattle.hints.specs.Areas
pub use Rattle.hints.specs.LeftOut
pub use Rattle.hints.specs.Sentences
