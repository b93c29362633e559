-- Codes whose numbers and counts fit their bytes.
use Rattle.std.specs.Prelude.{◌<◌, ◌^◌, length, All}
use Rattle.code_items.specs.declared.code.Code.{Code}
use Rattle.xcode.specs.Fitting.{StateFitsBytes, ProcedureFitsBytes}

pub record Writable (code : Code) : Type 0 where
  pub tables : length code.declared.shape.tables < 2 ^ 16
  pub indexes : length code.declared.shape.indexes < 2 ^ 16
  pub lists : length code.declared.lists < 2 ^ 16
  pub constants : length code.declared.constants < 2 ^ 16
  pub filters : length code.declared.filters < 2 ^ 16
  pub procedures : length code.procedures < 2 ^ 16
  pub maps : length code.maps < 2 ^ 16
  pub instructions : length code.instructions < 2 ^ 16
  pub each_table : All (λ t. length t.fields < 256) code.declared.shape.tables
  pub each_filter : All (λ f. length f.needs < 2 ^ 16) code.declared.filters
  pub each_procedure : All ProcedureFitsBytes code.procedures
  pub each_map : All (λ m. StateFitsBytes m.state) code.maps
