-- Turns of a conversation as pieces of one run.
use Rattle.std.proofs.Common.{◌≡◌, ◌≤◌, ◌+◌, ◌-◌, ◌++◌, ◌∙◌, ap, refl, sym, subst, arith, ℕ, List, true, Option, Some}
use Rattle.std.specs.Prelude.{Result, Ok, Err, IfOk}
use Rattle.calendar.specs.declared.day.DayParts.{DayParts}
use Rattle.code_items.specs.declared.code.Code.{Code}
use Rattle.line_journal.specs.Kept.{ended_by_lf}
use Rattle.machine.specs.Twins.{BankState, Begins, Twin}
use Rattle.operating.specs.declared.operator.Broken.{Broken}
use Rattle.operating.specs.declared.talking.Turn.{Turn}
use Rattle.operating.specs.declared.talking.Turn.TheVariants.{Over}
use Rattle.operating.specs.Pieces.{PieceReaches}
use Rattle.operating.specs.Talks.{Talked, ComesTo, Turned, TookLine}
use Rattle.operating.specs.Parts.{RunsTo}
use Rattle.run_steps.specs.declared.ending.Outcome.{Outcome}
use Rattle.run_steps.specs.Opening.{opening}
use Rattle.run_steps.specs.Pausing.{Came, with_more}
use Rattle.run_steps.specs.Run.{Ran}
use Rattle.run_steps.specs.World.{World, with_lines}
use Rattle.text_lines.specs.Lines.{short_lines, is_ended, is_out}
use Rattle.work_area.specs.Areas.{StoreState}

-- ---- what the laws say

pub record Pieces : Type 0 where
  pub joined : (code : Code) (a b c : World) (first second : ℕ) → Came code a first b → Came code b second c
      → Came code a (first + second) c
  pub ended : (code : Code) (a b c : World) (budget steps : ℕ) (outcome : Outcome) → Came code a steps b
      → steps ≤ budget → Ran code b (budget - steps) outcome c
      → Ran code a budget (record { end = outcome.end; steps = steps + outcome.steps }) c

pub record Lines (code : Code) : Type 0 where
  pub more : (code : Code) (a b : World) (steps : ℕ) (more : List (List ℕ)) → Came code a steps b
      → Came code (with_more more a) steps (with_more more b)
  pub twins : (w : World) (b : BankState) (lines : List (List ℕ)) → Twin code w b → is_out b.env.lines ≡ true
      → Twin code (with_more lines w) (record b { env = with_lines lines b.env })
  pub join : (a b : List ℕ) → is_ended a ≡ true → short_lines (a ++ b) ≡ short_lines a ++ short_lines b
  pub ends : (a b : List ℕ) → is_ended a ≡ true → is_ended b ≡ true → is_ended (a ++ b) ≡ true
  pub line : (line : List ℕ) → is_ended (ended_by_lf line) ≡ true

-- ---- pieces

pub comes_to : (code : Code) (store : StoreState) (today : Option DayParts) (typed : List ℕ) (budget steps : ℕ)
    (last : Outcome) (old new : BankState) → Pieces → steps ≤ budget
    → (t : Talked code store today typed steps old) → RunsTo code t.world (budget - steps) last new
    → ComesTo code store today typed budget (record { end = last.end; steps = steps + last.steps }) new
comes_to code store today typed budget steps last old new laws le t r = record {
  last = r.world;
  ran = laws.ended code (opening code store (short_lines typed) today) t.world r.world budget steps last t.came le
      r.ran;
  no_fault = r.no_fault;
  agrees = r.agrees;
  declared = r.declared;
}

pub talked_on : (code : Code) (store : StoreState) (today : Option DayParts) (typed : List ℕ) (steps left more : ℕ)
    (old new : BankState) → Pieces
    → (t : Talked code store today typed steps old) → PieceReaches code t.world left more new
    → Talked code store today typed (steps + more) new
talked_on code store today typed steps left more old new laws t r = record {
  ended = t.ended;
  world = r.world;
  came = laws.joined code (opening code store (short_lines typed) today) t.world r.world steps more t.came r.came;
  twin = r.twin;
}

-- ---- lines

pub talked_more : (code : Code) (store : StoreState) (today : Option DayParts) (before after line : List ℕ) (steps : ℕ)
    (old new : BankState) → Lines code → is_out old.env.lines ≡ true
    → after ≡ before ++ ended_by_lf line → new
    ≡ record old { env = with_lines (short_lines (ended_by_lf line)) old.env }
    → Talked code store today before steps old → Talked code store today after steps new
talked_more code store today before after line steps old new laws out added taken t =
    let more = short_lines (ended_by_lf line) in
    let lines : short_lines before ++ more ≡ short_lines after = sym (laws.join before (ended_by_lf line) t.ended)
    ∙ ap short_lines (sym added) in
    record {
      ended = subst (λ (x : List ℕ). is_ended x ≡ true) (sym added)
          (laws.ends before (ended_by_lf line) t.ended (laws.line line));
      world = with_more more t.world;
      came = subst (λ (ls : List (List ℕ)). Came code (opening code store ls today) steps (with_more more t.world))
          lines
          (laws.more code (opening code store (short_lines before) today) t.world steps more t.came);
      twin = subst (λ (b : BankState). Twin code (with_more more t.world) b) (sym taken)
          (laws.twins t.world old more t.twin out);
    }

-- ---- turns

pub turned_all : (code : Code) (budget steps later : ℕ) (before middle after : List ℕ) (old there new : BankState)
    (result : Result Turn Broken)
    → ((store : StoreState) (today : Option DayParts) → Talked code store today before steps old
    → Talked code store today middle later there)
    → IfOk result (λ turn. (store : StoreState) (today : Option DayParts) → Talked code store today middle later there
    → Turned code store today after budget turn new)
    → IfOk result (λ turn. (store : StoreState) (today : Option DayParts) → Talked code store today before steps old
    → Turned code store today after budget turn new)
turned_all code budget steps later before middle after old there new (Ok turn) lead turned =
    λ store today t. turned store today (lead store today t)
turned_all code budget steps later before middle after old there new (Err refusal) lead turned = turned

-- ---- the beginning

pub talked_begun : {E : Type 0} (code : Code) (store : StoreState) (today : Option DayParts) (handed : List ℕ)
    (lines : List (List ℕ)) (result : Result BankState E)
    → ((w : World) (b : BankState) → Begins code w b → Twin code w b) → lines ≡ short_lines handed
    → is_ended handed ≡ true
    → IfOk result (Begins code (opening code store lines today)) → IfOk result (Talked code store today handed 0)
talked_begun code store today handed lines (Ok b) begun are ended begins = record {
  ended = ended;
  world = opening code store (short_lines handed) today;
  came = record { count = 0; reached = refl; steps_are = refl; finds = λ k v less at. absurd (omega (arith, less)) };
  twin = begun (opening code store (short_lines handed) today) b
      (subst (λ (ls : List (List ℕ)). Begins code (opening code store ls today) b) are begins);
}
talked_begun code store today handed lines (Err e) begun are ended begins = begins

-- ---- what was answered, as it is named in its arm

pub taken_is : (before after : List ℕ) (old new : BankState) (used limit longer : ℕ) (taken : Option ℕ)
    → taken ≡ Some longer → TookLine before old used limit taken after new
    → TookLine before old used limit (Some longer) after new
taken_is before after old new used limit longer taken is took =
    subst (λ (x : Option ℕ). TookLine before old used limit x after new) is took

pub over_is : (code : Code) (store : StoreState) (today : Option DayParts) (typed : List ℕ) (budget : ℕ) (turn : Turn)
    (outcome : Outcome) (b : BankState) → turn ≡ Over outcome → Turned code store today typed budget turn b
    → ComesTo code store today typed budget outcome b
over_is code store today typed budget turn outcome b is turned =
    subst (λ (x : Turn). Turned code store today typed budget x b) is turned
