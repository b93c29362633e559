-- Runs whose lines are typed while they go on.
use Rattle.std.specs.Prelude.{◌≡◌, ◌<◌, ◌≤◌, ◌+◌, ◌-◌, ◌++◌, ℕ, List, true, Option, Some, None, length}
use Rattle.calendar.specs.declared.day.DayParts.{DayParts}
use Rattle.code_items.specs.declared.code.Code.{Code}
use Rattle.line_journal.specs.Kept.{ended_by_lf}
use Rattle.machine.specs.Twins.{BankState, AgreesWith, Twin}
use Rattle.operating.specs.declared.talking.Turn.{Turn}
use Rattle.operating.specs.declared.talking.Turn.TheVariants.{Over, On}
use Rattle.run_steps.specs.declared.ending.Outcome.{Outcome}
use Rattle.run_steps.specs.Opening.{opening}
use Rattle.run_steps.specs.Pausing.{Came}
use Rattle.run_steps.specs.Run.{Ran, IsFault}
use Rattle.run_steps.specs.Shapes.{StoreFits}
use Rattle.run_steps.specs.World.{World, with_lines}
use Rattle.text_lines.specs.Lines.{short_lines, is_ended}
use Rattle.work_area.specs.Areas.{StoreState}

-- steps of this cost of the run over the lines of this text, each with its end, lead to where these banks stand; none
-- took a line where none was left
pub record Talked (code : Code) (store : StoreState) (today : Option DayParts) (typed : List ℕ) (steps : ℕ)
    (b : BankState) : Type 0 where
  pub ended : is_ended typed ≡ true
  pub world : World
  pub came : Came code (opening code store (short_lines typed) today) steps world
  pub twin : Twin code world b

-- the run over the lines of this text ends so, without a fault, where these banks stand
pub record ComesTo (code : Code) (store : StoreState) (today : Option DayParts) (typed : List ℕ) (budget : ℕ)
    (outcome : Outcome) (b : BankState) : Type 0 where
  pub last : World
  pub ran : Ran code (opening code store (short_lines typed) today) budget outcome last
  pub no_fault : ¬ IsFault outcome.end
  pub agrees : AgreesWith b last
  pub declared : StoreFits code.declared b.env.store

-- what a turn of the conversation leads to
abbrev pub Turned : Code → StoreState → Option DayParts → List ℕ → ℕ → Turn → BankState → Type 0
Turned code store today typed budget (Over outcome) b = ComesTo code store today typed budget outcome b
Turned code store today typed budget (On steps used) b = Talked code store today typed steps b

-- each turn that goes on takes steps, or a line
abbrev pub IsNearer : ℕ → ℕ → ℕ → ℕ → Turn → Type 0
IsNearer budget limit steps used (Over outcome) = Unit {0}
IsNearer budget limit steps used (On more longer) =
    (more ≤ budget) × (longer ≤ limit) × ((budget - more) + (limit - longer) < (budget - steps) + (limit - used))

-- the bytes of lines that a turn counts are as many as these
abbrev pub IsCounted : ℕ → Turn → Type 0
IsCounted held (Over outcome) = Unit {0}
IsCounted held (On steps used) = used ≡ held

-- a line is taken behind those that were kept, which has one byte at least, or none is
abbrev pub TookLine : List ℕ → BankState → ℕ → ℕ → Option ℕ → List ℕ → BankState → Type 0
TookLine before old used limit None after new = (after ≡ before) × (new ≡ old)
TookLine before old used limit (Some longer) after new = (line : List ℕ) × (after ≡ before ++ ended_by_lf line)
    × (new ≡ record old { env = with_lines (short_lines (ended_by_lf line)) old.env })
    × (used < longer) × (longer ≤ limit) × (longer ≡ length after)
