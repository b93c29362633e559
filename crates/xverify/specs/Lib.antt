pub mod Parts
pub mod Told
pub mod Verdict
pub use Rattle.code_rules.specs.Rules
pub use Rattle.code_rules.specs.Kept
