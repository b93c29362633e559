-- What the contracts of `xverify` say.
pub use Rattle.xverify.specs.Told
pub use Rattle.xverify.specs.Verdict
pub use Rattle.xverify.specs.Rules
pub use Rattle.xverify.specs.Kept
