-- Pieces of a run between which an operator is told or shown something.
use Rattle.std.specs.Prelude.{◌≡◌, ◌<◌, ◌≤◌, ◌+◌, ℕ, List, true, Option}
use Rattle.calendar.specs.declared.day.DayParts.{DayParts}
use Rattle.code_items.specs.declared.code.Code.{Code}
use Rattle.machine.specs.Twins.{BankState, Twin}
use Rattle.operating.specs.declared.pieces.Piece.{Piece}
use Rattle.operating.specs.declared.pieces.Piece.TheVariants.{Ended, Waits, Marked, Spent as PieceSpent}
use Rattle.operating.specs.declared.silence.QuietTurn.{QuietTurn}
use Rattle.operating.specs.declared.silence.QuietTurn.TheVariants.{Over, On}
use Rattle.operating.specs.Talks.{ComesTo}
use Rattle.operating.specs.Parts.{RunsTo}
use Rattle.run_steps.specs.declared.ending.End.TheVariants.{Spent}
use Rattle.run_steps.specs.declared.ending.Outcome.{Outcome}
use Rattle.run_steps.specs.Opening.{opening}
use Rattle.run_steps.specs.Pausing.{Came, is_dry}
use Rattle.run_steps.specs.Run.{Ran}
use Rattle.run_steps.specs.World.{World}
use Rattle.text_lines.specs.Lines.{short_lines, is_out}
use Rattle.work_area.specs.Areas.{StoreState}

-- ---- a piece

-- steps of this cost, within what is left of the budget, lead from a world to where these banks stand; none took a line
-- where none was left
pub record PieceReaches (code : Code) (from : World) (left steps : ℕ) (b : BankState) : Type 0 where
  pub world : World
  pub came : Came code from steps world
  pub within : steps ≤ left
  pub twin : Twin code world b

-- how far a piece of a run went on, with so much of its budget left
abbrev pub PieceGoes : Code → World → ℕ → Piece → BankState → Type 0
PieceGoes code from left (Ended outcome) b = RunsTo code from left outcome b
PieceGoes code from left (Waits steps) b = (r : PieceReaches code from left steps b) × (is_dry code r.world ≡ true)
PieceGoes code from left (Marked steps) b = PieceReaches code from left steps b × (0 < steps)
PieceGoes code from left (PieceSpent steps) b = PieceReaches code from left steps b × (0 < steps)

abbrev pub cost_of_piece : Piece → ℕ
cost_of_piece (Ended outcome) = outcome.steps
cost_of_piece (Waits steps) = steps
cost_of_piece (Marked steps) = steps
cost_of_piece (PieceSpent steps) = steps

-- where it waits, no line is left
abbrev pub WaitsDry : Piece → BankState → Type 0
WaitsDry (Ended outcome) b = Unit {0}
WaitsDry (Waits steps) b = is_out b.env.lines ≡ true
WaitsDry (Marked steps) b = Unit {0}
WaitsDry (PieceSpent steps) b = Unit {0}

-- what the end of a leg within a part of what is left is: that of the run, or that of the part alone
abbrev pub IsEndOf : Outcome → ℕ → ℕ → Piece → Type 0
IsEndOf outcome budget left (Ended last) = (last ≡ outcome) × (outcome.end ≡ Spent → budget ≡ left)
IsEndOf outcome budget left (Waits steps) = ⊥
IsEndOf outcome budget left (Marked steps) = ⊥
IsEndOf outcome budget left (PieceSpent steps) =
    (outcome ≡ record { end = Spent; steps = steps }) × (budget < left)

-- ---- behind the end of the input

-- steps of this cost lead from one world to another: what a run comes to from there, the whole run comes to
abbrev pub LeadsTo : Code → World → ℕ → World → Type 0
LeadsTo code from steps to = (more : ℕ) (outcome : Outcome) (last : World) → Ran code to more outcome last
    → Ran code from (steps + more) (record { end = outcome.end; steps = steps + outcome.steps }) last

-- steps of this cost of the run over the lines of this text, and empty ones behind them, lead to where these banks
-- stand
pub record Stood (code : Code) (store : StoreState) (today : Option DayParts) (typed : List ℕ) (steps : ℕ)
    (b : BankState) : Type 0 where
  pub world : World
  pub leads : LeadsTo code (opening code store (short_lines typed) today) steps world
  pub twin : Twin code world b

-- what a turn behind the end of the input leads to
abbrev pub QuietTurned : Code → StoreState → Option DayParts → List ℕ → ℕ → QuietTurn → BankState → Type 0
QuietTurned code store today typed budget (Over outcome) b = ComesTo code store today typed budget outcome b
QuietTurned code store today typed budget (On steps) b = Stood code store today typed steps b

-- each turn that goes on takes steps
abbrev pub IsFurther : ℕ → ℕ → QuietTurn → Type 0
IsFurther budget steps (Over outcome) = Unit {0}
IsFurther budget steps (On more) = (steps < more) × (more ≤ budget)
