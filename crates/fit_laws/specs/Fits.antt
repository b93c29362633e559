-- Worlds that fit what is known at their place.
use Rattle.std.specs.Prelude.{◌≡◌, ◌<◌, ℕ, ◌+◌, true, List, [], ◌∷◌, Some, IfSome, length, slice_get}
use Rattle.work_area.specs.Areas.{AreApart}
use Rattle.code_items.specs.declared.code.Code.{Code}
use Rattle.code_items.specs.declared.instr.Instr.{Instr}
use Rattle.code_rules.specs.Signature.{call_of}
use Rattle.code_rules.specs.Places.{instr_at, block_at, state_at}
use Rattle.code_rules.specs.Rules.{covers, level_of}
use Rattle.fit_laws.specs.Connects.{IsOfProcedures}
use Rattle.run_steps.specs.World.{World, state_of}
use Rattle.run_steps.specs.Shapes.{HasShape}

-- what is known at the place is true of the world
abbrev pub Fits : Code → World → Type 0
Fits code w = covers (state_at code w.place) (state_of w) ≡ true

-- ---- the places behind calls

-- the number of the procedure in whose block a place stands
abbrev pub procedure_at : Code → ℕ → ℕ
procedure_at code place = (block_at code place).number

-- a place right behind a call of a procedure, in a procedure
pub record IsBehindCall (code : Code) (number next : ℕ) : Type 0 where
  pub place : ℕ
  pub behind : next ≡ place + 1
  pub within : IsOfProcedures code place
  pub calls : call_of (instr_at code place) ≡ Some number

-- each of these places, the last call's first, stands right behind a call of the procedure that runs above it
abbrev pub Awaits : Code → ℕ → List ℕ → Type 0
Awaits code number [] = Unit {0}
Awaits code number (next ∷ returns) =
    (call : IsBehindCall code number next) × Awaits code (procedure_at code call.place) returns

-- the level of a procedure, by its number
abbrev pub level_by_number : Code → ℕ → ℕ
level_by_number code number = level_of (slice_get code.procedures number)

-- levels fall from call to call: each procedure in which one of these places stands, the last call's first, has a
-- higher level than the one that it called
abbrev pub LevelsFall : Code → ℕ → List ℕ → Type 0
LevelsFall code number [] = Unit {0}
LevelsFall code number (next ∷ returns) =
    (level_by_number code number < level_by_number code (procedure_at code next))
    × LevelsFall code (procedure_at code next) returns

-- ---- worlds

-- a world of the code's shape whose work areas hold different tables, that fits what is known, and in which each
-- procedure that runs was called from where it returns to
pub record IsFitting (code : Code) (w : World) : Type 0 where
  pub shape : HasShape code w
  pub apart : AreApart w.env.store.areas
  pub fits : Fits code w
  pub awaits : Awaits code (procedure_at code w.place) w.returns

-- a procedure can be called, if one is
abbrev pub HasRoomToCall : World → Instr → Type 0
HasRoomToCall w i = (n : ℕ) → call_of i ≡ Some n → length w.returns < 20

-- the place behind the last call, if one hasn't returned, stands in a procedure
abbrev pub ReturnsWithin : Code → World → Type 0
ReturnsWithin code w = IfSome (slice_get w.returns 0) (IsOfProcedures code)
