-- What the contracts of `prg_compile` say.
pub use Rattle.prg_compile.specs.Alone
pub use Rattle.prg_compile.specs.Bindings
pub use Rattle.prg_compile.specs.Numbers
pub use Rattle.prg_compile.specs.Pools
pub use Rattle.prg_compile.specs.Readings
pub use Rattle.prg_compile.specs.Written
pub use Rattle.met_areas.specs.Met
