-- What is known at a place covers all that flows there.
use Rattle.std.specs.Prelude.{◌≡◌, ◌<◌, ◌≤◌, ℕ, ◌+◌, true, Some, take, slice_get}
use Rattle.code_items.specs.declared.declared.Filter.{Filter}
use Rattle.code_items.specs.declared.code.Proc.{Proc}
use Rattle.code_items.specs.declared.code.Code.{Code}
use Rattle.code_items.specs.declared.state.State.{State}
use Rattle.code_items.specs.Declarations.{filter_of}
use Rattle.code_items.specs.Legal.{places_of}
use Rattle.code_rules.specs.Signature.{signature, target_of, call_of}
use Rattle.code_rules.specs.Wants.{gives, unknown}
use Rattle.code_rules.specs.Flow.{flow}
use Rattle.code_rules.specs.Places.{instr_at, block_at, filter_start, state_at}
use Rattle.code_rules.specs.Rules.{covers, level_of, returns as is_return}
use Rattle.run_steps.specs.Filters.{instructions_of}
use Rattle.fit_laws.specs.FilterWalks.{BlockWalks}

-- where the block of a procedure begins: behind those of the procedures before it
abbrev pub first_of : Code → ℕ → ℕ
first_of code n = places_of (take n code.procedures)

-- the places of the procedures' blocks
abbrev pub IsOfProcedures : Code → ℕ → Type 0
IsOfProcedures code place = place < places_of code.procedures

-- a place of a procedure, and the bounds of its block
pub record InProcedure (code : Code) (place : ℕ) : Type 0 where
  pub procedure : Proc
  pub is : slice_get code.procedures (block_at code place).number ≡ Some procedure
  pub first : (block_at code place).first ≡ first_of code (block_at code place).number
  pub end : (block_at code place).end ≡ first_of code (block_at code place).number + procedure.length
  pub from : (block_at code place).first ≤ place
  pub to : place < (block_at code place).end
  pub last : (block_at code place).end ≤ places_of code.procedures

-- what is known where a procedure begins covers its entry state
pub record Enters (code : Code) (n : ℕ) (p : Proc) : Type 0 where
  pub within : IsOfProcedures code (first_of code n)
  pub number : (block_at code (first_of code n)).number ≡ n
  pub first : (block_at code (first_of code n)).first ≡ first_of code n
  pub end : (block_at code (first_of code n)).end ≡ first_of code n + p.length
  pub covered : covers (state_at code (first_of code n)) p.entry ≡ true

-- what the instruction at a place leaves
abbrev pub left_at : Code → ℕ → State
left_at code place = flow code (instr_at code place) (state_at code place)

-- the next place is in the same block, and what is known there covers what the instruction leaves
pub record Reaches (code : Code) (place next : ℕ) : Type 0 where
  pub same : block_at code next ≡ block_at code place
  pub from : (block_at code place).first ≤ next
  pub to : next < (block_at code place).end
  pub within : IsOfProcedures code next
  pub covered : covers (state_at code next) (left_at code place) ≡ true

-- the procedure that is called is there and of a lower level, and its entry state covers what is known before the call
pub record Calls (code : Code) (place n : ℕ) : Type 0 where
  pub procedure : Proc
  pub is : slice_get code.procedures n ≡ Some procedure
  pub below : procedure.level < level_of (slice_get code.procedures (block_at code place).number)
  pub covered : covers procedure.entry (state_at code place) ≡ true

pub record Connects (code : Code) : Type 0 where
  pub stands : (place : ℕ) → IsOfProcedures code place → InProcedure code place
  pub enters : (n : ℕ) (p : Proc) → slice_get code.procedures n ≡ Some p → Enters code n p
  pub falls : (place : ℕ) → IsOfProcedures code place → (signature (instr_at code place)).falls ≡ true
      → Reaches code place (place + 1)
  pub jumps : (place next : ℕ) → IsOfProcedures code place → target_of (instr_at code place) ≡ Some next
      → Reaches code place next
  pub calls : (place n : ℕ) → IsOfProcedures code place → call_of (instr_at code place) ≡ Some n → Calls code place n
  pub returns : (place : ℕ) (p : Proc) → IsOfProcedures code place → is_return (instr_at code place) ≡ true
      → slice_get code.procedures (block_at code place).number ≡ Some p → covers p.exit (state_at code place) ≡ true
  pub gives : (place : ℕ) → IsOfProcedures code place
      → unknown (gives code.declared (state_at code place).desk (instr_at code place)) ≡ 0
  pub filters : (number : ℕ) (f : Filter) → filter_of code.declared number ≡ Some f
      → BlockWalks code (filter_start code.declared.slots f) (instructions_of code number (Some f))
