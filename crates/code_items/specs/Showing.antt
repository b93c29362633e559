-- Instructions that show a value at a place of the screen.
use Rattle.std.specs.Prelude.{Bool, true, false}
use Rattle.code_items.specs.declared.instr.Instr.{Instr}
use Rattle.code_items.specs.declared.instr.Instr.TheVariants.{Screen}
use Rattle.code_items.specs.declared.instr.ScreenInstr.{ScreenInstr}
use Rattle.code_items.specs.declared.instr.ScreenInstr.TheVariants.{Say, SayOn}

abbrev pub screen_shows : ScreenInstr → Bool
screen_shows (Say k) = true
screen_shows (SayOn k) = true
screen_shows _ = false

abbrev pub shows_value : Instr → Bool
shows_value (Screen i) = screen_shows i
shows_value _ = false
