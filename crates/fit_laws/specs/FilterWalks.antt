-- A filter's block: one instruction behind the other, without a jump or a map.
use Rattle.std.specs.Prelude.{◌≡◌, ℕ, true, false, List, [], ◌∷◌, Option, Some, length}
use Rattle.xvalue.specs.declared.kind.Kind.{Kind}
use Rattle.xvalue.specs.declared.kind.Kind.TheVariants.{Logical as OfLogical}
use Rattle.code_items.specs.declared.declared.Filter.{Filter}
use Rattle.code_items.specs.declared.code.Code.{Code}
use Rattle.code_items.specs.declared.state.State.{State}
use Rattle.code_items.specs.declared.instr.Instr.{Instr}
use Rattle.code_items.specs.Declarations.{filter_of}
use Rattle.code_items.specs.Kinds.{same_kinds}
use Rattle.code_rules.specs.Wants.{gives, unknown}
use Rattle.code_rules.specs.Flow.{flow, left_by}
use Rattle.code_rules.specs.Rules.{filter_lacks}
use Rattle.run_steps.specs.Filters.{block_fails, block_start, instructions_of}

-- an instruction that may stand in a filter and keeps the rules on kinds, slots and heights where s is known
pub record Steps (code : Code) (s : State) (i : Instr) : Type 0 where
  pub sound : block_fails code s i ≡ false
  pub given : unknown (gives code.declared s.desk i) ≡ 0
  pub left : flow code i s ≡ left_by code i s

-- one after the other, and in the end just a truth value is left
abbrev pub BlockWalks : Code → State → List Instr → Type 0
BlockWalks code s [] = same_kinds (OfLogical ∷ []) s.stack ≡ true
BlockWalks code s (i ∷ instrs) = Steps code s i × BlockWalks code (flow code i s) instrs

-- each filter's block can be walked with whatever slots meet its needs
abbrev pub WalksWithNeeds : Code → Type 0
WalksWithNeeds code = (number : ℕ) (f : Filter) → filter_of code.declared number ≡ Some f
    → (slots : List (Option Kind)) → length slots ≡ code.declared.slots → filter_lacks slots (Some f) ≡ false
    → BlockWalks code (block_start f.table slots) (instructions_of code number (Some f))
