-- Where the next instruction shows a value, and what its step makes of the screen.
use Rattle.std.proofs.Common.{◌≡◌, ◌+◌, ◌&&◌, refl, sym, subst, ℕ, Bool, true, false, List, Option, Some, None, length}
use Rattle.std.specs.Prelude.{ℤ, pos, negsuc, if◌then◌else◌, nat_lt, slice_get}
use Rattle.xvalue.specs.declared.value.Value.{Value}
use Rattle.xvalue.specs.Shown.{shown}
use Rattle.code_items.specs.declared.code.Code.{Code}
use Rattle.code_items.specs.declared.instr.Instr.{Instr}
use Rattle.code_items.specs.declared.instr.Instr.TheVariants.{Values, Flow, Screen, Areas, Moves, Records}
use Rattle.code_items.specs.declared.instr.ScreenInstr.{ScreenInstr}
use Rattle.code_items.specs.declared.instr.ScreenInstr.TheVariants.{NewLine, Print, Say, SayOn, Input, Line, Clear}
use Rattle.code_items.specs.Showing.{screen_shows, shows_value}
use Rattle.code_rules.specs.Places.{instr_at}
use Rattle.run_steps.specs.Control.{effect}
use Rattle.run_steps.specs.Effects.{on_value, whole_on_top}
use Rattle.run_steps.specs.World.{World, EnvState, with_screen}
use Rattle.screen_lines.specs.Roll.{shown_at, text_said, text_said_on, text_said_on_from}
use Rattle.screen_lines.specs.State.{ScreenState, said as said_on_screen, said_on}
use Rattle.screen_lines.specs.declared.cursor.Cursor.{Cursor}
use Rattle.screen_lines.specs.declared.cursor.Cursor.TheVariants.{BeforeFirst, At}
use Rattle.machine.specs.declared.showing.ShownAt.{ShownAt}
use Rattle.machine.specs.Showing.{ShowsAt, StepShows, placed, said_at, said_behind, place_shown_by}
use Rattle.machine.specs.Showing.{shown_by_instr, shown_next}

by_test : (b : Bool) (row column : ℕ) (text : List ℕ) (s : ScreenState)
    → ShowsAt s (if b then Some (placed row column (length text)) else None)
    (record s { roll = if b then shown_at row column text s.roll else s.roll })
by_test true row column text s = (text, (refl, refl))
by_test false row column text s = refl

by_say : (row column : ℤ) (text : List ℕ) (s : ScreenState)
    → ShowsAt s (said_at row column (length text)) (said_on_screen row column text s)
unfolding text_said
by_say (pos row) (pos column) text s = by_test (nat_lt row 25 && nat_lt column 80) row column text s
by_say (pos row) (negsuc column) text s = refl
by_say (negsuc row) column text s = refl

by_cursor : (c : Cursor) (text : List ℕ) (s : ScreenState)
    → ShowsAt s (said_behind c (length text)) (record s { roll = text_said_on_from c text s.roll })
by_cursor BeforeFirst text s = refl
by_cursor (At row column) text s = by_test (nat_lt (column + 1) 80) row (column + 1) text s

by_say_on : (text : List ℕ) (s : ScreenState) → ShowsAt s (said_behind s.roll.cursor (length text)) (said_on text s)
unfolding text_said_on
by_say_on text s = by_cursor s.roll.cursor text s

saying : (e : EnvState) (x below lower : Option Value)
    → ShowsAt e.screen (on_value x None (λ v. said_at (whole_on_top lower) (whole_on_top below)
    (length (shown e.settings v))))
    (on_value x e (λ v. with_screen (said_on_screen (whole_on_top lower) (whole_on_top below) (shown e.settings v)
    e.screen) e)).screen
saying e None below lower = refl
saying e (Some v) below lower = by_say (whole_on_top lower) (whole_on_top below) (shown e.settings v) e.screen

saying_on : (e : EnvState) (x : Option Value)
    → ShowsAt e.screen (on_value x None (λ v. said_behind e.screen.roll.cursor (length (shown e.settings v))))
    (on_value x e (λ v. with_screen (said_on (shown e.settings v) e.screen) e)).screen
saying_on e None = refl
saying_on e (Some v) = by_say_on (shown e.settings v) e.screen

by_screen : (code : Code) (w : World) (i : ScreenInstr) → screen_shows i ≡ true
    → ShowsAt w.env.screen (place_shown_by i w.values w.env) (effect code w (Screen i)).env.screen
by_screen code w (Say k) is =
    saying w.env (slice_get w.values.stack 0) (slice_get w.values.stack 1) (slice_get w.values.stack 2)
by_screen code w (SayOn k) is = saying_on w.env (slice_get w.values.stack 0)
by_screen code w NewLine is = absurd (cc)
by_screen code w (Print k) is = absurd (cc)
by_screen code w (Input k) is = absurd (cc)
by_screen code w Line is = absurd (cc)
by_screen code w Clear is = absurd (cc)

by_instr : (code : Code) (w : World) (i : Instr) → shows_value i ≡ true
    → ShowsAt w.env.screen (shown_by_instr i w.values w.env) (effect code w i).env.screen
by_instr code w (Screen i) is = by_screen code w i is
by_instr code w (Values i) is = absurd (cc)
by_instr code w (Flow i) is = absurd (cc)
by_instr code w (Areas i) is = absurd (cc)
by_instr code w (Moves i) is = absurd (cc)
by_instr code w (Records i) is = absurd (cc)

pub step_shows : (code : Code) (w : World) (at : Option ShownAt) → at ≡ shown_next code w → StepShows code w at
step_shows code w at is = subst (StepShows code w) (sym is) (by_instr code w (instr_at code w.place))
