-- Pieces of a run, while an operator types and behind the end of the input.
use Rattle.std.proofs.Common.{◌≡◌, ◌≤◌, ◌<◌, ◌+◌, ◌-◌, refl, sym, subst, arith, ℕ, zero, suc, Bool, List, Option, Some}
use Rattle.std.specs.Prelude.{Result, Ok, Err, IfOk}
use Rattle.calendar.specs.declared.day.DayParts.{DayParts}
use Rattle.code_items.specs.declared.code.Code.{Code}
use Rattle.machine.specs.Headline.{Headline}
use Rattle.machine.specs.Pauses.{GoesTo, PausesAt}
use Rattle.machine.specs.Twins.{BankState, Twin}
use Rattle.operating.specs.declared.operator.Broken.{Broken}
use Rattle.operating.specs.declared.pieces.Piece.{Piece}
use Rattle.operating.specs.declared.pieces.Piece.TheVariants.{Ended as PieceEnded, Waits as PieceWaits}
use Rattle.operating.specs.declared.pieces.Piece.TheVariants.{Marked as PieceMarked, Spent as PieceSpent}
use Rattle.operating.specs.declared.silence.QuietTurn.{QuietTurn}
use Rattle.operating.specs.declared.silence.QuietTurn.TheVariants.{Over, On}
use Rattle.operating.specs.Pieces.{PieceReaches, PieceGoes, IsEndOf, LeadsTo, Stood, QuietTurned, IsFurther}
use Rattle.operating.specs.Talks.{Talked, ComesTo}
use Rattle.operating.proofs.TurnLemmas.{Pieces}
use Rattle.operating.specs.Parts.{RunsTo}
use Rattle.run_steps.specs.declared.ending.End.{End}
use Rattle.run_steps.specs.declared.ending.End.TheVariants.{Spent}
use Rattle.run_steps.specs.declared.ending.Outcome.{Outcome}
use Rattle.run_steps.specs.declared.pausing.Leg.{Leg}
use Rattle.run_steps.specs.declared.pausing.Leg.TheVariants.{Ended, Waits, Marked}
use Rattle.run_steps.specs.Opening.{opening}
use Rattle.run_steps.specs.Pausing.{Came, FindsLines}
use Rattle.run_steps.specs.Run.{after, spent, Ran}
use Rattle.run_steps.specs.World.{World}
use Rattle.text_lines.specs.Lines.{short_lines}
use Rattle.work_area.specs.Areas.{StoreState}
use Rattle.operating.proofs.PartLemmas.{Whole}

-- ---- what the laws say

abbrev pub Costs : Type 0
Costs = (code : Code) (w : World) (n : ℕ) (v : World) → after code w n ≡ Some v → n ≤ spent code w n

abbrev pub Wider : Type 0
Wider = (code : Code) (w v : World) (budget more : ℕ) (outcome : Outcome) → budget ≤ more
    → (outcome.end ≡ Spent → budget ≡ more) → Ran code w budget outcome v → Ran code w more outcome v

-- ---- a greater budget

runs_wider : (code : Code) (w : World) (budget more : ℕ) (outcome : Outcome) (b : BankState) → Wider → budget ≤ more
    → (outcome.end ≡ Spent → budget ≡ more) → Headline code w budget outcome b → RunsTo code w more outcome b
runs_wider code w budget more outcome b law le same h = record {
  world = h.world;
  ran = law code w h.world budget more outcome le same h.takes_its_steps;
  no_fault = h.ends_without_fault;
  agrees = h.agrees;
  declared = h.as_declared;
  goes_on = h.goes_on;
}

-- ---- legs as pieces

abbrev pub reaches : (code : Code) (w : World) (budget left steps : ℕ) (b : BankState) → budget ≤ left
    → PausesAt code w budget steps b → PieceReaches code w left steps b
reaches code w budget left steps b le p = record {
  world = p.world;
  came = p.takes_its_steps;
  within = (let within = p.within_the_budget in omega (arith, within, le));
  twin = p.goes_on;
}

pub waits : (code : Code) (w : World) (budget left steps : ℕ) (marks : List Bool) (b : BankState) → budget ≤ left
    → GoesTo code w budget marks (Waits steps) b → PieceGoes code w left (PieceWaits steps) b
waits code w budget left steps marks b le g = (reaches code w budget left steps b le g.0, g.1.0)

pub marked : (code : Code) (w : World) (budget left steps : ℕ) (marks : List Bool) (b : BankState) → budget ≤ left
    → GoesTo code w budget marks (Marked steps) b → PieceGoes code w left (PieceMarked steps) b
marked code w budget left steps marks b le g = (reaches code w budget left steps b le g.0, g.1.1)

came_to : (code : Code) (w v : World) (budget steps : ℕ)
    (r : Ran code w budget (record { end = Spent; steps = steps }) v) → FindsLines code w r.count → Came code w steps v
came_to code w v budget steps r finds = record {
  count = r.count;
  reached = r.reached;
  steps_are = (let all = r.steps in omega (arith, all));
  finds = finds;
}

some_steps : (outcome : Outcome) (steps : ℕ) → outcome ≡ record { end = Spent; steps = steps }
    → (outcome ≡ record { end = Spent; steps = 0 } → ⊥) → 0 < steps
some_steps outcome zero is other = absurd (other is)
some_steps outcome (suc steps) is other = omega arith

spent_part : (code : Code) (w : World) (budget left steps : ℕ) (marks : List Bool) (b : BankState) → budget ≤ left
    → GoesTo code w budget marks (Ended (record { end = Spent; steps = steps })) b → PieceReaches code w left steps b
spent_part code w budget left steps marks b le g = record {
  world = g.0.world;
  came = came_to code w g.0.world budget steps g.0.takes_its_steps g.1.0;
  within = (let within = g.0.within_the_budget in omega (arith, within, le));
  twin = g.0.goes_on;
}

pub ended : (code : Code) (w : World) (budget left : ℕ) (marks : List Bool) (outcome : Outcome) (piece : Piece)
    (b : BankState) → Wider → budget ≤ left
    → (budget < left → outcome ≡ record { end = Spent; steps = 0 } → ⊥) → IsEndOf outcome budget left piece
    → GoesTo code w budget marks (Ended outcome) b → PieceGoes code w left piece b
ended code w budget left marks outcome (PieceEnded last) b law le other is g =
    subst (λ (o : Outcome). RunsTo code w left o b) (sym is.0) (runs_wider code w budget left outcome b law le is.1 g.0)
ended code w budget left marks outcome (PieceWaits steps) b law le other is g = absurd is
ended code w budget left marks outcome (PieceMarked steps) b law le other is g = absurd is
ended code w budget left marks outcome (PieceSpent steps) b law le other is g = (
  spent_part code w budget left steps marks b le
      (subst (λ (o : Outcome). GoesTo code w budget marks (Ended o) b) is.0 g),
  some_steps outcome steps is.0 (other is.1),
)

-- a leg that took no step stands where it began
nothing_spent : (n steps : ℕ) → n ≤ steps → 0 ≡ steps + 0 → n ≡ 0
nothing_spent n steps le none = omega (arith, le, none)

at_once : (code : Code) (w v : World) (n : ℕ) → n ≡ 0 → after code w n ≡ Some v → w ≡ v
at_once code w v zero none at = cc
at_once code w v (suc n) none at = absurd (omega (arith, none))

stays : (code : Code) (w v : World) (budget : ℕ) → Costs → Ran code w budget (record { end = Spent; steps = 0 }) v
    → w ≡ v
stays code w v budget law r = at_once code w v r.count
    (nothing_spent r.count (spent code w r.count) (law code w r.count v r.reached) r.steps) r.reached

pub once_more : (code : Code) (w : World) (budget more : ℕ) (marks : List Bool) (first second : Leg)
    (old new : BankState) → Costs → first ≡ Ended (record { end = Spent; steps = 0 })
    → GoesTo code w budget marks first old → ((v : World) → Twin code v old → GoesTo code v more marks second new)
    → GoesTo code w more marks second new
once_more code w budget more marks first second old new law is g next =
    let h = (subst (λ (l : Leg). GoesTo code w budget marks l old) is g).0 in
    subst (λ (v : World). GoesTo code v more marks second new) (sym (stays code w h.world budget law h.takes_its_steps))
    (next h.world h.goes_on)

-- ---- behind the end of the input

pub same_run : (code : Code) (w v : World) (budget more steps cost : ℕ) (end : End) → budget ≡ more → steps ≡ cost
    → Ran code w budget (record { end = end; steps = steps }) v → Ran code w more (record { end = end; steps = cost }) v
same_run code w v budget more steps cost end same all r =
    subst (λ (n : ℕ). Ran code w n (record { end = end; steps = cost }) v) same
    (subst (λ (n : ℕ). Ran code w budget (record { end = end; steps = n }) v) all r)

leads_came : (code : Code) (a b : World) (steps : ℕ) → Pieces → Came code a steps b → LeadsTo code a steps b
leads_came code a b steps laws came = λ more outcome last r.
    laws.ended code a b last (steps + more) steps outcome came (omega arith)
    (subst (λ (n : ℕ). Ran code b n outcome last) (omega arith) r)

leads_spent : (code : Code) (a b : World) (budget : ℕ) (outcome : Outcome) → Whole → Ran code a budget outcome b
    → outcome.end ≡ Spent → LeadsTo code a outcome.steps b
leads_spent code a b budget outcome law r is = λ more next last s. law code a b last budget more outcome next r is s

leads_both : (code : Code) (a b c : World) (first second : ℕ) → LeadsTo code a first b → LeadsTo code b second c
    → LeadsTo code a (first + second) c
leads_both code a b c first second one two = λ more outcome last r.
    same_run code a last (first + (second + more)) ((first + second) + more) (first + (second + outcome.steps))
    ((first + second) + outcome.steps) outcome.end (omega arith) (omega arith)
    (one (second + more) (record { end = outcome.end; steps = second + outcome.steps }) last (two more outcome last r))

leads_over : (code : Code) (a b last : World) (steps budget : ℕ) (outcome : Outcome) → steps ≤ budget
    → LeadsTo code a steps b → Ran code b (budget - steps) outcome last
    → Ran code a budget (record { end = outcome.end; steps = steps + outcome.steps }) last
leads_over code a b last steps budget outcome le leads r =
    same_run code a last (steps + (budget - steps)) budget (steps + outcome.steps) (steps + outcome.steps) outcome.end
    (omega (arith, le)) refl (leads (budget - steps) outcome last r)

pub talked_stood : (code : Code) (store : StoreState) (today : Option DayParts) (typed : List ℕ) (steps : ℕ)
    (b : BankState) → Pieces → Talked code store today typed steps b → Stood code store today typed steps b
talked_stood code store today typed steps b laws t = record {
  world = t.world;
  leads = leads_came code (opening code store (short_lines typed) today) t.world steps laws t.came;
  twin = t.twin;
}

pub stood_on : (code : Code) (store : StoreState) (today : Option DayParts) (typed : List ℕ) (steps left more : ℕ)
    (old new : BankState) → Pieces → (s : Stood code store today typed steps old)
    → PieceReaches code s.world left more new → Stood code store today typed (steps + more) new
stood_on code store today typed steps left more old new laws s r = record {
  world = r.world;
  leads = leads_both code (opening code store (short_lines typed) today) s.world r.world steps more s.leads
      (leads_came code s.world r.world more laws r.came);
  twin = r.twin;
}

pub stood_over : (code : Code) (store : StoreState) (today : Option DayParts) (typed : List ℕ) (budget steps : ℕ)
    (last : Outcome) (old new : BankState) → steps ≤ budget
    → (s : Stood code store today typed steps old) → RunsTo code s.world (budget - steps) last new
    → ComesTo code store today typed budget (record { end = last.end; steps = steps + last.steps }) new
stood_over code store today typed budget steps last old new le s r = record {
  last = r.world;
  ran = leads_over code (opening code store (short_lines typed) today) s.world r.world steps budget last le s.leads
      r.ran;
  no_fault = r.no_fault;
  agrees = r.agrees;
  declared = r.declared;
}

-- a step's part of what is left: spent, or the last one
pub step_on : (code : Code) (store : StoreState) (today : Option DayParts) (typed : List ℕ) (steps part : ℕ)
    (outcome : Outcome) (old new : BankState) → Whole → outcome.end ≡ Spent
    → (s : Stood code store today typed steps old) → RunsTo code s.world part outcome new
    → Stood code store today typed (steps + outcome.steps) new
step_on code store today typed steps part outcome old new law is s r = record {
  world = r.world;
  leads = leads_both code (opening code store (short_lines typed) today) s.world r.world steps outcome.steps s.leads
      (leads_spent code s.world r.world part outcome law r.ran is);
  twin = r.goes_on;
}

pub step_over : (code : Code) (store : StoreState) (today : Option DayParts) (typed : List ℕ) (budget steps part : ℕ)
    (outcome : Outcome) (old new : BankState) → Wider → steps ≤ budget
    → part ≤ budget - steps → (outcome.end ≡ Spent → part ≡ budget - steps)
    → (s : Stood code store today typed steps old) → RunsTo code s.world part outcome new
    → ComesTo code store today typed budget (record { end = outcome.end; steps = steps + outcome.steps }) new
step_over code store today typed budget steps part outcome old new law le within all s r =
    stood_over code store today typed budget steps outcome old new le s (record {
      world = r.world;
      ran = law code s.world r.world part (budget - steps) outcome within all r.ran;
      no_fault = r.no_fault;
      agrees = r.agrees;
      declared = r.declared;
      goes_on = r.goes_on;
    })

-- ---- turns behind the end of the input

pub turned_all : (code : Code) (budget steps later : ℕ) (old there new : BankState) (result : Result QuietTurn Broken)
    → ((store : StoreState) (today : Option DayParts) (typed : List ℕ) → Stood code store today typed steps old
    → Stood code store today typed later there)
    → IfOk result (λ turn. (store : StoreState) (today : Option DayParts) (typed : List ℕ)
    → Stood code store today typed later there → QuietTurned code store today typed budget turn new)
    → IfOk result (λ turn. (store : StoreState) (today : Option DayParts) (typed : List ℕ)
    → Stood code store today typed steps old → QuietTurned code store today typed budget turn new)
turned_all code budget steps later old there new (Ok turn) lead turned =
    λ store today typed s. turned store today typed (lead store today typed s)
turned_all code budget steps later old there new (Err refusal) lead turned = turned

-- how far a turn has come, and how much is left behind it
abbrev pub steps_of : QuietTurn → ℕ
steps_of (Over outcome) = 0
steps_of (On steps) = steps

abbrev pub left_behind : ℕ → QuietTurn → ℕ
left_behind budget (Over outcome) = 0
left_behind budget (On steps) = suc (budget - steps)

pub within_is : (budget steps : ℕ) (turn : QuietTurn) → IsFurther budget steps turn → steps_of turn ≤ budget
within_is budget steps (Over outcome) f = omega arith
within_is budget steps (On more) f = f.1

pub over_is : (code : Code) (store : StoreState) (today : Option DayParts) (typed : List ℕ) (budget : ℕ)
    (turn : QuietTurn) (outcome : Outcome) (b : BankState) → turn ≡ Over outcome
    → QuietTurned code store today typed budget turn b → ComesTo code store today typed budget outcome b
over_is code store today typed budget turn outcome b is turned =
    subst (λ (x : QuietTurn). QuietTurned code store today typed budget x b) is turned

pub on_is : (code : Code) (store : StoreState) (today : Option DayParts) (typed : List ℕ) (budget : ℕ)
    (turn : QuietTurn) (steps : ℕ) (b : BankState) → turn ≡ On steps
    → QuietTurned code store today typed budget turn b → Stood code store today typed steps b
on_is code store today typed budget turn steps b is turned =
    subst (λ (x : QuietTurn). QuietTurned code store today typed budget x b) is turned
