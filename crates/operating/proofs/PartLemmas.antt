-- Parts of a run as one run.
use Rattle.std.proofs.Common.{◌≡◌, ◌≤◌, ◌+◌, ◌-◌, ap, refl, subst, arith, ℕ}
use Rattle.code_items.specs.declared.code.Code.{Code}
use Rattle.machine.specs.Headline.{Headline}
use Rattle.machine.specs.Twins.{BankState, Twin}
use Rattle.operating.specs.Parts.{RunsTo, IsAt}
use Rattle.operating.specs.Parts.IsAt.{Begun, Behind}
use Rattle.run_steps.specs.declared.ending.End.{End}
use Rattle.run_steps.specs.declared.ending.End.TheVariants.{Finished, Spent, Full, NoMemory, Fault}
use Rattle.run_steps.specs.declared.ending.Outcome.{Outcome}
use Rattle.run_steps.specs.Run.{Ran, Stops, spent}
use Rattle.run_steps.specs.World.{World}

-- what the law says
abbrev pub Whole : Type 0
Whole = (code : Code) (w v u : World) (budget more : ℕ) (first second : Outcome)
    → Ran code w budget first v → first.end ≡ Spent → Ran code v more second u
    → Ran code w (first.steps + more) (record { end = second.end; steps = first.steps + second.steps }) u

-- ---- a part

pub of_headline : (code : Code) (w : World) (budget : ℕ) (outcome : Outcome) (b : BankState)
    → Headline code w budget outcome b → RunsTo code w budget outcome b
of_headline code w budget outcome b h = record {
  world = h.world;
  ran = h.takes_its_steps;
  no_fault = h.ends_without_fault;
  agrees = h.agrees;
  declared = h.as_declared;
  goes_on = h.goes_on;
}

pub joined : (code : Code) (w : World) (before more : ℕ) (first second : Outcome) (old new : BankState) → Whole
    → (r : RunsTo code w before first old) → first.end ≡ Spent
    → RunsTo code r.world more second new → RunsTo code w (first.steps + more)
    (record { end = second.end; steps = first.steps + second.steps }) new
joined code w before more first second old new law r spent s = record {
  world = s.world;
  ran = law code w r.world s.world before more first second r.ran spent s.ran;
  no_fault = s.no_fault;
  agrees = s.agrees;
  declared = s.declared;
  goes_on = s.goes_on;
}

-- sums with nothing
with_nothing : (code : Code) (w : World) (steps part : ℕ) (outcome : Outcome) (new : BankState) → steps ≡ 0
    → RunsTo code w part outcome new
    → RunsTo code w (steps + part) (record { end = outcome.end; steps = steps + outcome.steps }) new
with_nothing code w steps part outcome new none r =
    let budget : part ≡ steps + part = omega (arith, none) in
    let cost : outcome.steps ≡ steps + outcome.steps = omega (arith, none) in
    subst (λ (n : ℕ). RunsTo code w n (record { end = outcome.end; steps = steps + outcome.steps }) new) budget
    (subst (λ (n : ℕ). RunsTo code w part (record { end = outcome.end; steps = n }) new) cost r)

without_nothing : (code : Code) (w : World) (steps part : ℕ) (outcome : Outcome) (new : BankState) → steps ≡ 0
    → RunsTo code w (steps + part) (record { end = outcome.end; steps = steps + outcome.steps }) new
    → RunsTo code w part outcome new
without_nothing code w steps part outcome new none r =
    let budget : steps + part ≡ part = omega (arith, none) in
    let cost : steps + outcome.steps ≡ outcome.steps = omega (arith, none) in
    subst (λ (n : ℕ). RunsTo code w part (record { end = outcome.end; steps = n }) new) cost
    (subst (λ (n : ℕ). RunsTo code w n (record { end = outcome.end; steps = steps + outcome.steps }) new) budget r)

-- behind a part that paid for nothing a greater one is as if it had been the first
pub once_more : (code : Code) (w : World) (before more : ℕ) (first second : Outcome) (old new : BankState) → Whole
    → (r : RunsTo code w before first old) → first.end ≡ Spent → first.steps ≡ 0
    → RunsTo code r.world more second new → RunsTo code w more second new
once_more code w before more first second old new law r is none s =
    without_nothing code w first.steps more second new none (joined code w before more first second old new law r is s)

-- ---- a greater budget

stops_wider : (code : Code) (w : World) (left more : ℕ) (end : End) → left ≤ more → (end ≡ Spent → left ≡ more)
    → Stops code w left end → Stops code w more end
stops_wider code w left more Finished le same s = (s.0, (let cost = s.1 in omega (arith, cost, le)))
stops_wider code w left more Spent le same s = subst (λ (n : ℕ). Stops code w n Spent) (same refl) s
stops_wider code w left more (Full table) le same s = (s.0, (let cost = s.1 in omega (arith, cost, le)), s.2)
stops_wider code w left more NoMemory le same s = (s.0, (let cost = s.1 in omega (arith, cost, le)), s.2)
stops_wider code w left more (Fault kind at) le same s = s

pub ran_wider : (code : Code) (w v : World) (budget more : ℕ) (outcome : Outcome) → budget ≤ more
    → (outcome.end ≡ Spent → budget ≡ more) → Ran code w budget outcome v → Ran code w more outcome v
ran_wider code w v budget more outcome le same r = record {
  count = r.count;
  reached = r.reached;
  steps = r.steps;
  within = (let within = r.within in omega (arith, within, le));
  stops = stops_wider code v (budget - spent code w r.count) (more - spent code w r.count) outcome.end
      (omega (arith, le)) (λ is. ap (λ (n : ℕ). n - spent code w r.count) (same is)) r.stops;
}

pub runs_wider : (code : Code) (w : World) (budget more : ℕ) (outcome : Outcome) (b : BankState) → budget ≤ more
    → (outcome.end ≡ Spent → budget ≡ more) → RunsTo code w budget outcome b → RunsTo code w more outcome b
runs_wider code w budget more outcome b le same r = record {
  world = r.world;
  ran = ran_wider code w r.world budget more outcome le same r.ran;
  no_fault = r.no_fault;
  agrees = r.agrees;
  declared = r.declared;
  goes_on = r.goes_on;
}

-- ---- behind parts

further : (code : Code) (w : World) (steps part : ℕ) (outcome : Outcome) (old new : BankState) → Whole
    → IsAt code w steps old → ((v : World) → Twin code v old → RunsTo code v part outcome new)
    → RunsTo code w (steps + part) (record { end = outcome.end; steps = steps + outcome.steps }) new
further code w steps part outcome old new law (Begun none twin) next =
    with_nothing code w steps part outcome new none (next w twin)
further code w steps part outcome old new law (Behind budget r) next =
    joined code w budget part (record { end = Spent; steps = steps }) outcome old new law r refl
    (next r.world r.goes_on)

-- a part that was spent
pub on : (code : Code) (w : World) (steps part : ℕ) (outcome : Outcome) (old new : BankState) → Whole
    → IsAt code w steps old → ((v : World) → Twin code v old → RunsTo code v part outcome new)
    → outcome.end ≡ Spent → IsAt code w (steps + outcome.steps) new
on code w steps part outcome old new law at next is =
    Behind (steps + part) (subst (λ (e : End). RunsTo code w (steps + part)
    (record { end = e; steps = steps + outcome.steps }) new) is (further code w steps part outcome old new law at next))

-- the last part: one that wasn't spent, or had all that was left
pub over : (code : Code) (w : World) (steps part budget : ℕ) (outcome : Outcome) (old new : BankState) → Whole
    → steps ≤ budget → part ≤ budget - steps → (outcome.end ≡ Spent → part ≡ budget - steps)
    → IsAt code w steps old → ((v : World) → Twin code v old → RunsTo code v part outcome new)
    → RunsTo code w budget (record { end = outcome.end; steps = steps + outcome.steps }) new
over code w steps part budget outcome old new law le within all at next =
    runs_wider code w (steps + part) budget (record { end = outcome.end; steps = steps + outcome.steps }) new
    (omega (arith, le, within))
    (λ is. let same = all is in omega (arith, same, le)) (further code w steps part outcome old new law at next)
