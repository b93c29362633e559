pub mod Alone
pub use Rattle.prg_code.specs.Bindings
pub use Rattle.prg_code.specs.Numbers
pub use Rattle.prg_code.specs.Pools
pub use Rattle.prg_values.specs.Readings
pub use Rattle.prg_values.specs.Written
