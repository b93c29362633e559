-- What the contracts of `xcode` say.
pub use Rattle.xcode.specs.CodeFile
pub use Rattle.xcode.specs.Decoding
pub use Rattle.xcode.specs.Listing
pub use Rattle.xcode.specs.Laws
pub use Rattle.xcode.specs.Writing
pub use Rattle.xcode.specs.Fitting
pub use Rattle.xcode.specs.Names
pub use Rattle.xcode.specs.Legal
pub use Rattle.xcode.specs.Flow
pub use Rattle.xcode.specs.Kept
pub use Rattle.xcode.specs.Places
pub use Rattle.xcode.specs.Rules
