-- When a finished code is laid out as commands say: each command's instructions stand behind those of the one before,
-- each jump leads to the place where the part begins that the command's form names, and what can't be reached makes no
-- code.
use Rattle.std.specs.Prelude.{◌≡◌, ℕ, Bool, true, false, ◌||◌, List, [], Option, Some, None, is_some}
use Rattle.xvalue.specs.declared.kind.Kind.TheVariants as kind
use Rattle.xvalue.specs.declared.fun.Fun.TheVariants.{ToTruth}
use Rattle.xvalue.specs.declared.fun.TruthFun.TheVariants.{Not}
use Rattle.code_items.specs.declared.instr.Question.TheVariants.{Eof}
use Rattle.code_items.specs.declared.instr.ValueInstr.TheVariants.{Function}
use Rattle.code_items.specs.declared.instr.FlowInstr.TheVariants.{Jump, JumpFalse, End}
use Rattle.code_items.specs.declared.instr.MoveInstr.TheVariants.{Top, Skip}
use Rattle.code_items.specs.declared.instr.RecordInstr.TheVariants.{Ask}
use Rattle.code_items.specs.declared.instr.Instr.TheVariants.{Values, Flow, Moves, Records}
use Rattle.prg_expr.specs.Tree.{Tree}
use Rattle.prg_line.specs.Act.{Act, Letters, Loop, Exit, Return, Quit, Cancel}
use Rattle.prg_parser.specs.Commands.{Cmd, Cmds, Cases, Part, Single, If, DoCase, DoWhile, Scan, Done, Then, Neither}
use Rattle.prg_parser.specs.Commands.{When, Absent, Otherwise}
use Rattle.prg_values.specs.Written.{whole_as_value as whole_number}
use Rattle.prg_values.specs.Placed.{InstrStands}
use Rattle.prg_commands.specs.Acts.{ActLaid, ConstantStands, may_follow_gets, waiting}
use Rattle.prg_commands.specs.Layout.{Laying, ExprLaid}
use Rattle.prg_commands.specs.declared.way.Leaps.{Leaps}
use Rattle.prg_commands.specs.declared.way.Way.{Way}

-- commands whose end is reached, and those whose end isn't
abbrev pub through : Way
through = record { on = true; again = false }

abbrev pub stopped : Bool → Way
stopped again = record { on = false; again = again }

-- one way after another
abbrev pub then_way : Way → Way → Way
then_way v w = record { on = w.on; again = v.again || w.again }

-- either of two ways
abbrev pub either_way : Way → Way → Way
either_way v w = record { on = v.on || w.on; again = v.again || w.again }

-- a part that goes on at `out` where its end is reached
abbrev pub Goes : Laying → ℕ → Bool → ℕ → ℕ → Type 0
Goes f a false out b = b ≡ a
Goes f a true out b = InstrStands f.text a (Flow (Jump out)) b

-- a part of a choice goes on behind the choice, which the last one without ELSE or OTHERWISE does by itself
abbrev pub Follows : Laying → Bool → ℕ → Bool → ℕ → ℕ → Type 0
Follows f true a on out b = b ≡ a
Follows f false a on out b = Goes f a on out b

-- a condition, and where it leads if it doesn't hold
abbrev pub Tests : Laying → ℕ → Tree → ℕ → ℕ → Type 0
Tests f a e out b = (t : ℕ) × ExprLaid f a e kind.Logical t × InstrStands f.text t (Flow (JumpFalse out)) b

-- the condition of FOR
abbrev pub Chooses : Laying → ℕ → Option Tree → ℕ → ℕ → Type 0
Chooses f a None next b = b ≡ a
Chooses f a (Some e) next b = Tests f a e next b

-- whether there is a row
abbrev pub HasRow : Laying → ℕ → ℕ → ℕ → Type 0
HasRow f a out b = (m : ℕ) × (n : ℕ) × InstrStands f.text a (Records (Ask Eof)) m
    × InstrStands f.text m (Values (Function (ToTruth Not))) n
    × InstrStands f.text n (Flow (JumpFalse out)) b

-- the next row of a SCAN and the way back, where they are reached
abbrev pub Advances : Laying → ℕ → Bool → ℕ → ℕ → Type 0
Advances f a false top b = b ≡ a
Advances f a true top b = (m : ℕ) × (n : ℕ) × ConstantStands f a (whole_number 1) m
    × InstrStands f.text m (Moves Skip) n × InstrStands f.text n (Flow (Jump top)) b

-- they stand where LOOP leads
abbrev pub Meets : Bool → ℕ → ℕ → Type 0
Meets false a next = Unit {0}
Meets true a next = a ≡ next

-- whether nothing of a choice follows
abbrev pub is_last : Cases → Part → Bool
is_last Neither Absent = true
is_last Neither (Otherwise n cs) = false
is_last (When n e cs more) part = false

-- the GETs that wait behind a command
abbrev pub waiting_behind : List Letters → Cmd → List Letters
waiting_behind gets (Single n act) = waiting gets act
waiting_behind gets _ = gets

abbrev pub loop_act : Act
loop_act = Loop

abbrev pub exit_act : Act
exit_act = Exit

-- the commands that end the run: in the main procedure a RETURN is one of them
abbrev pub ends_run : Act → Bool
ends_run Return = true
ends_run Quit = true
ends_run Cancel = true
ends_run _ = false

mutual
  -- a command from a place up to another, in a loop whose LOOP and EXIT lead there, or in none, where these GETs wait
  pub data Laid (f : Laying) : Option Leaps → List Letters → ℕ → Cmd → Way → ℕ → Type 0 where
    does : {l : Option Leaps} {gets : List Letters} {a b n : ℕ} {act : Act} → may_follow_gets gets act ≡ true
        → ActLaid f gets a act b → Laid f l gets a (Single n act) through b
    loops : {t : Leaps} {a b n : ℕ} → InstrStands f.text a (Flow (Jump t.again)) b
        → Laid f (Some t) [] a (Single n Loop) (stopped true) b
    exits : {t : Leaps} {a b n : ℕ} → InstrStands f.text a (Flow (Jump t.out)) b
        → Laid f (Some t) [] a (Single n Exit) (stopped false) b
    ends : {l : Option Leaps} {a b n : ℕ} {act : Act} → ends_run act ≡ true → InstrStands f.text a (Flow End) b
        → Laid f l [] a (Single n act) (stopped false) b
    -- IF is a choice of one case
    chosen : {l : Option Leaps} {a n end b : ℕ} {e : Tree} {cs : Cmds} {part : Part} {w : Way}
        → LaidCases f l a (When n e cs Neither) part w b → Laid f l [] a (If n e cs part end) w b
    cases : {l : Option Leaps} {a n end b : ℕ} {cs : Cases} {part : Part} {w : Way} → LaidCases f l a cs part w b
        → Laid f l [] a (DoCase n cs part end) w b
    while : {l : Option Leaps} {a m p b n end : ℕ} {e : Tree} {body : Cmds} {w : Way}
        → Tests f a e b m → LaidAll f (Some (record { again = a; out = b })) [] m body w p → Goes f p w.on a b
        → Laid f l [] a (DoWhile n e body end) through b
    scan : {l : Option Leaps} {a top r m p b next n end : ℕ} {only_if : Option Tree} {body : Cmds} {w : Way}
        → InstrStands f.text a (Moves Top) top → HasRow f top b r → Chooses f r only_if next m
        → LaidAll f (Some (record { again = next; out = b })) [] m body w p
        → Meets (w.on || (w.again || is_some only_if)) p next
        → Advances f p (w.on || (w.again || is_some only_if)) top b
        → Laid f l [] a (Scan n only_if body end) through b

  -- commands one after another; those behind one whose end isn't reached make no code
  pub data LaidAll (f : Laying) : Option Leaps → List Letters → ℕ → Cmds → Way → ℕ → Type 0 where
    done : {l : Option Leaps} {a : ℕ} → LaidAll f l [] a Done through a
    more : {l : Option Leaps} {gets : List Letters} {a m b : ℕ} {c : Cmd} {cs : Cmds} {v w : Way}
        → Laid f l gets a c v m → v.on ≡ true → LaidAll f l (waiting_behind gets c) m cs w b
        → LaidAll f l gets a (Then c cs) (then_way v w) b
    cut : {l : Option Leaps} {gets : List Letters} {a b : ℕ} {c : Cmd} {cs : Cmds} {v : Way} → Laid f l gets a c v b
        → v.on ≡ false → LaidAll f l gets a (Then c cs) v b

  -- what is done otherwise
  pub data LaidPart (f : Laying) : Option Leaps → ℕ → Part → Way → ℕ → Type 0 where
    absent : {l : Option Leaps} {a : ℕ} → LaidPart f l a Absent through a
    otherwise : {l : Option Leaps} {a n b : ℕ} {cs : Cmds} {w : Way} → LaidAll f l [] a cs w b
        → LaidPart f l a (Otherwise n cs) w b

  -- cases, which go on where they end
  pub data LaidCases (f : Laying) : Option Leaps → ℕ → Cases → Part → Way → ℕ → Type 0 where
    neither : {l : Option Leaps} {a b : ℕ} {part : Part} {w : Way} → LaidPart f l a part w b
        → LaidCases f l a Neither part w b
    when : {l : Option Leaps} {a m p next b n : ℕ} {e : Tree} {cs : Cmds} {others : Cases} {part : Part} {v w : Way}
        → Tests f a e next m → LaidAll f l [] m cs v p → Follows f (is_last others part) p v.on b next
        → LaidCases f l next others part w b
        → LaidCases f l a (When n e cs others) part (either_way v w) b

-- END where the end is reached
abbrev pub Closes : Laying → ℕ → Bool → ℕ → Type 0
Closes f a false b = b ≡ a
Closes f a true b = InstrStands f.text a (Flow End) b

-- all commands of the main procedure, and END where their end is reached
abbrev pub WholeLaid : Laying → ℕ → Cmds → ℕ → Type 0
WholeLaid f a cs b = (way : Way) × (m : ℕ) × LaidAll f None [] a cs way m × Closes f m way.on b
