-- What is known of a choice, or of a loop, while its parts are walked one after another.
use Rattle.std.specs.Prelude.{◌≡◌, ℕ, Bool, true, false, List, [], Option, Some, None}
use Rattle.prg_expr.specs.Tree.{Tree}
use Rattle.prg_line.specs.Act.{Act}
use Rattle.prg_parser.specs.Commands.{Cmds, Part, Single, Absent, Otherwise, cases_of}
use Rattle.prg_parser.specs.declared.command.Case.{Case}
use Rattle.prg_commands.specs.Commands.{Advances, Follows, Laid, LaidAll, LaidCases, LaidPart, Meets, Tests, either_way}
use Rattle.prg_commands.specs.Layout.{Laying}
use Rattle.prg_commands.specs.Turns.{IsTurn}
use Rattle.prg_commands.specs.declared.statement.Turn.{Turn}
use Rattle.prg_commands.specs.declared.walk.ChoicePart.{ChoicePart}
use Rattle.prg_commands.specs.declared.way.Leaps.{Leaps}
use Rattle.prg_commands.specs.declared.way.Way.{Way}

-- the way back of a SCAN, where LOOP leads to a place
abbrev pub ComesBack : Laying → ℕ → Bool → ℕ → ℕ → ℕ → Type 0
ComesBack f a reached next top b = Meets reached a next × Advances f a reached top b

-- each command that makes this turn is laid out from this place on, where no GET waits
abbrev pub TurnedBy : Laying → Option Leaps → ℕ → Turn → Way → ℕ → Type 0
TurnedBy f l a turn w b = (n : ℕ) (act : Act) → IsTurn (Some turn) act → Laid f l [] a (Single n act) w b

-- the end of a choice, as far as a JUMP told it
abbrev pub Told : Option ℕ → ℕ → Type 0
Told None out = Unit {0}
Told (Some end) out = end ≡ out

-- a part of a choice goes on behind the choice, whose end is told as far as a JUMP tells it
abbrev pub Departs : Laying → Option ℕ → Bool → ℕ → Bool → Option ℕ → ℕ → Type 0
Departs f end last a on later b = (out : ℕ) → Told later out → Follows f last a on out b × Told end out

-- a part of a choice, whose condition stands in front of it
pub record Looked (f : Laying) (l : Option Leaps) (end : Option ℕ) (e : Tree) (a : ℕ) (cs : Cmds) (last : Bool)
    (p : ChoicePart) (b : ℕ) : Type 0 where
  pub first : ℕ
  pub behind : ℕ
  pub tests : Tests f a e b first
  pub body : LaidAll f l [] first cs p.way behind
  pub departs : Departs f end last behind p.way.on p.end b

abbrev pub is_absent : Part → Bool
is_absent Absent = true
is_absent (Otherwise n cs) = false

-- cases that were looked at, before what is done otherwise
abbrev pub Chains : Laying → Option Leaps → ℕ → List Case → Bool → ChoicePart → ℕ → Type 0
Chains f l a cases closed p b =
    (part : Part) (w : Way) (z : ℕ) → closed ≡ is_absent part → Told p.end z → LaidPart f l b part w z
    → LaidCases f l a (cases_of cases) part (either_way p.way w) z
