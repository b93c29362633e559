-- Where the next instruction shows a value on the screen.
use Rattle.std.specs.Prelude.{◌≡◌, ◌+◌, ◌-◌, ◌&&◌, ℕ, ℤ, pos, negsuc, true, List, Option, Some, None}
use Rattle.std.specs.Prelude.{if◌then◌else◌, length, min, nat_lt, slice_get}
use Rattle.xvalue.specs.Shown.{shown}
use Rattle.screen_lines.specs.Roll.{shown_at}
use Rattle.screen_lines.specs.State.{ScreenState}
use Rattle.screen_lines.specs.declared.cursor.Cursor.{Cursor}
use Rattle.screen_lines.specs.declared.cursor.Cursor.TheVariants.{BeforeFirst, At}
use Rattle.code_items.specs.declared.code.Code.{Code}
use Rattle.code_items.specs.declared.instr.Instr.{Instr}
use Rattle.code_items.specs.declared.instr.Instr.TheVariants.{Screen}
use Rattle.code_items.specs.declared.instr.ScreenInstr.{ScreenInstr}
use Rattle.code_items.specs.declared.instr.ScreenInstr.TheVariants.{Say, SayOn}
use Rattle.code_items.specs.Showing.{shows_value}
use Rattle.code_rules.specs.Places.{instr_at}
use Rattle.run_values.specs.Tagged.{TaggedValues}
use Rattle.run_steps.specs.Control.{effect}
use Rattle.run_steps.specs.Effects.{top, on_value, whole_on_top}
use Rattle.run_steps.specs.World.{World, EnvState}
use Rattle.machine.specs.declared.showing.ShownAt.{ShownAt}

-- a text of this length from this row and column on, cut at column 80
abbrev pub placed : ℕ → ℕ → ℕ → ShownAt
placed row column long = record { row = row; column = column; length = min long (80 - column) }

-- at a row and a column, where these lie on the screen
abbrev pub said_at : ℤ → ℤ → ℕ → Option ShownAt
said_at (pos row) (pos column) long = if nat_lt row 25 && nat_lt column 80 then Some (placed row column long) else None
said_at (pos row) (negsuc column) long = None
said_at (negsuc row) column long = None

-- one column behind the cursor, where that is a column of the screen
abbrev pub said_behind : Cursor → ℕ → Option ShownAt
said_behind BeforeFirst long = None
said_behind (At row column) long = if nat_lt (column + 1) 80 then Some (placed row (column + 1) long) else None

-- where an instruction shows the value on top at a place of the screen: SAY at the row and the column below the value,
-- SAYON behind the cursor; the others nowhere
abbrev pub place_shown_by : ScreenInstr → TaggedValues → EnvState → Option ShownAt
place_shown_by (Say k) t e = on_value (top t) None
    (λ value. said_at (whole_on_top (slice_get t.stack 2)) (whole_on_top (slice_get t.stack 1))
    (length (shown e.settings value)))
place_shown_by (SayOn k) t e = on_value (top t) None
    (λ value. said_behind e.screen.roll.cursor (length (shown e.settings value)))
place_shown_by _ t e = None

abbrev pub shown_by_instr : Instr → TaggedValues → EnvState → Option ShownAt
shown_by_instr (Screen i) t e = place_shown_by i t e
shown_by_instr _ t e = None

-- where the next instruction does
abbrev pub shown_next : Code → World → Option ShownAt
shown_next code w = shown_by_instr (instr_at code w.place) w.values w.env

-- ---- and what that makes of the screen

-- at the place a text stands that has so many columns there, with the cursor behind it; without a place all stays
abbrev pub ShowsAt : ScreenState → Option ShownAt → ScreenState → Type 0
ShowsAt old None new = new ≡ old
ShowsAt old (Some at) new = (text : List ℕ) × ((new.roll ≡ shown_at at.row at.column text old.roll)
    × (at.length ≡ min (length text) (80 - at.column)))

-- so does the step of the next instruction, if it is SAY or SAYON
abbrev pub StepShows : Code → World → Option ShownAt → Type 0
StepShows code w at = shows_value (instr_at code w.place) ≡ true
    → ShowsAt w.env.screen at (effect code w (instr_at code w.place)).env.screen
