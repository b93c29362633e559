-- What the contracts of `code_items` say.
pub use Rattle.code_items.specs.Constants
pub use Rattle.code_items.specs.Declarations
pub use Rattle.code_items.specs.Desks
pub use Rattle.code_items.specs.Facts
pub use Rattle.code_items.specs.Instrs
pub use Rattle.code_items.specs.Kinds
pub use Rattle.code_items.specs.Legal
pub use Rattle.code_items.specs.Pairs
pub use Rattle.code_items.specs.Showing
pub use Rattle.code_items.specs.States
pub use Rattle.code_items.specs.declared.code.Code
pub use Rattle.code_items.specs.declared.declared.Declared
pub use Rattle.code_items.specs.declared.desk.AreaState
pub use Rattle.code_items.specs.declared.instr.Instr
pub use Rattle.code_items.specs.declared.state.State
pub use Rattle.shape.specs.declared.whole.Shape
