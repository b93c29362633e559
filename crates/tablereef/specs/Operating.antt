-- What the contracts of `operating` say.
pub use Rattle.operating.specs.Talks
pub use Rattle.operating.specs.Answers
pub use Rattle.operating.specs.Pieces
