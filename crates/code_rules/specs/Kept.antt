-- What holds where no rule fails, rule by rule.
use Rattle.std.specs.Prelude.{◌≡◌, ◌<◌, ℕ, false, length}
use Rattle.code_items.specs.declared.code.Code.{Code}
use Rattle.code_rules.specs.Rules.{Here, kind_fails, loads_free, closed_fails, table_fails, order_fails, opens_twice}
use Rattle.code_rules.specs.Rules.{under_fails, over_fails, empty_fails, jump_fails, fall_fails, level_fails}
use Rattle.code_rules.specs.Rules.{exit_fails, filter_fails, undeclared, here_at}

pub record Kept (code : Code) (h : Here) : Type 0 where
  pub kind : kind_fails code h ≡ false
  pub set : loads_free h.before h.instr ≡ false
  pub area : closed_fails h ≡ false
  pub table : table_fails code h ≡ false
  pub order : order_fails code.declared h.before.desk h.instr ≡ false
  pub once : opens_twice h.before.desk h.instr ≡ false
  pub there : under_fails h ≡ false
  pub room : over_fails code h ≡ false
  pub empty : empty_fails code h ≡ false
  pub jump : jump_fails code h ≡ false
  pub fall : fall_fails code h ≡ false
  pub level : level_fails code h ≡ false
  pub exit : exit_fails code h ≡ false
  pub filter : filter_fails code h ≡ false
  pub declared : undeclared code h.before.desk h.instr ≡ false

-- accepted code keeps each rule at each place
abbrev pub KeepsRules : Code → Type 0
KeepsRules code = (place : ℕ) → place < length code.instructions → Kept code (here_at code place)
