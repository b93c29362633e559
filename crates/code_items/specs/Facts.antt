-- What is known of a legal code, in short.
use Rattle.std.specs.Prelude.{◌≡◌, ◌≤◌, true, length}
use Rattle.std.specs.List.{list_all}
use Rattle.shape.specs.Lists.{is_list}
use Rattle.shape.specs.Whole.{is_shape}
use Rattle.code_items.specs.declared.code.Code.{Code}
use Rattle.code_items.specs.Instrs.{is_instr}
use Rattle.code_items.specs.Legal.{places_of, maps_rise}

pub record Facts (code : Code) : Type 0 where
  pub stack_bound : code.declared.stack_bound ≤ 64
  pub slots : code.declared.slots ≤ 256
  pub filters : length code.declared.filters ≤ 64
  pub some : 1 ≤ length code.procedures
  pub procedures : length code.procedures ≤ 256
  pub maps : maps_rise 0 (places_of code.procedures) code.maps ≡ true
  pub begun : 1 ≤ length code.instructions
  pub instructions : length code.instructions ≤ 65535
  pub places : places_of code.procedures ≤ length code.instructions
  pub legal : list_all (is_instr code.declared.version) code.instructions ≡ true
  pub lists : list_all (is_list code.declared.shape.indexes) code.declared.lists ≡ true
  pub shape : is_shape code.declared.shape ≡ true
