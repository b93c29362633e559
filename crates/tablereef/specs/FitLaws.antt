-- What the contracts of `fit_laws` say.
pub use Rattle.fit_laws.specs.Connects
pub use Rattle.fit_laws.specs.FilterWalks
pub use Rattle.fit_laws.specs.Fits
