-- What a contract sees of a screen, and what each call makes of it.
use Rattle.std.specs.Prelude.{ℕ, ℤ, List, Bool, true, false}
use Rattle.screen_lines.specs.Roll.{Roll, blank_roll, on_next_line, text_printed, text_said, text_said_on, roll_cleared}
use Rattle.screen_lines.specs.Roll.{roll_sent}

-- the roll of rows, and whether memory is reserved for one new line or one print
pub record ScreenState : Type 0 where
  pub roll : Roll
  pub reserved : Bool

abbrev pub blank_screen : ScreenState
blank_screen = record { roll = blank_roll; reserved = false }

abbrev pub reserved_screen : ScreenState → ScreenState
reserved_screen screen = record screen { reserved = true }

abbrev pub new_line : ScreenState → ScreenState
new_line screen = record { roll = on_next_line screen.roll; reserved = false }

abbrev pub printed : List ℕ → ScreenState → ScreenState
printed text screen = record { roll = text_printed text screen.roll; reserved = false }

abbrev pub said : ℤ → ℤ → List ℕ → ScreenState → ScreenState
said row column text screen = record screen { roll = text_said row column text screen.roll }

abbrev pub said_on : List ℕ → ScreenState → ScreenState
said_on text screen = record screen { roll = text_said_on text screen.roll }

abbrev pub cleared : ScreenState → ScreenState
cleared screen = record screen { roll = roll_cleared screen.roll }

-- the bytes sent in all, if the run ends here
abbrev pub sent : ScreenState → List ℕ
sent screen = roll_sent screen.roll
