-- A run of the machine without tags beside that of the checking machine.
use Rattle.std.proofs.Common.{◌≡◌, ◌∙◌, ◌++◌, ℕ, List, [], ◌∷◌, Bool, true, Option, refl, ap, sym, subst, arith}
use Rattle.calendar.specs.declared.day.DayParts.{DayParts}
use Rattle.work_area.specs.Areas.{StoreState, IsWithinLimit, NoOpenIndexIsStale}
use Rattle.work_area.specs.Shapes.{StoreHasShape}
use Rattle.code_items.specs.declared.code.Code.{Code}
use Rattle.run_values.specs.Standing.{IsByKind}
use Rattle.run_steps.specs.declared.ending.Outcome.{Outcome}
use Rattle.run_steps.specs.Tables.{IsDecoded}
use Rattle.run_steps.specs.World.{World, with_lines}
use Rattle.run_steps.specs.Machines.{StandsFor}
use Rattle.run_steps.specs.Run.{StandsForWorld, EndsRun}
use Rattle.run_steps.specs.Opening.{opening}
use Rattle.run_steps.specs.declared.machine.Machine.{Machine}
use Rattle.run_steps.specs.declared.decoding.Decoded.{Decoded}
use Rattle.run_values.specs.declared.untagged.Untagged.{Untagged}
use Rattle.run_steps.specs.Safe.{IsSafe}
use Rattle.run_steps.specs.Shapes.{StoreFits}
use Rattle.fit_laws.specs.Fits.{IsFitting}
use Rattle.machine.specs.Acceptance.{RunsWell}
use Rattle.machine.specs.Twins.{BankState, AgreesWith, Begins, Twin, banks_of}
use Rattle.machine.specs.Headline.{Headline}
use Rattle.machine.specs.Pauses.{PausesAt, GoesTo}
use Rattle.run_steps.specs.declared.pausing.Leg.{Leg}
use Rattle.run_steps.specs.declared.pausing.Leg.TheVariants.{Ended, Waits, Marked}
use Rattle.run_steps.specs.Pausing.{Pauses, IsLeg, with_more}
use Rattle.text_lines.specs.Lines.{is_out}

-- ---- standing for a world

pub stands : (b : BankState) (w : World) → AgreesWith b w → StandsForWorld (IsByKind b.values) b.place b.returns b.env w
stands b w a = record {
  place_is = a.place;
  returns_are = a.returns;
  env_is = λ i. record {
    store = a.store i;
    screen = a.screen i;
    lines = a.lines i;
    settings = a.settings i;
    today = a.today i;
  };
  stand = a.values;
}

pub agrees : (b : BankState) (w : World) → StandsForWorld (IsByKind b.values) b.place b.returns b.env w → AgreesWith b w
agrees b w s = record {
  place = s.place_is;
  returns = s.returns_are;
  store = λ i. (s.env_is i).store;
  screen = λ i. (s.env_is i).screen;
  lines = λ i. (s.env_is i).lines;
  settings = λ i. (s.env_is i).settings;
  today = λ i. (s.env_is i).today;
  values = s.stand;
}

-- where an opening fits what is known, banks that agree with it can go on
pub begun : (code : Code) (w : World) (b : BankState)
    → ((store : StoreState) (lines : List (List ℕ)) (today : Option DayParts) → StoreFits code.declared store
    → IsFitting code (opening code store lines today)) → Begins code w b → Twin code w b
begun code w b opens s = record {
  agrees = s.agrees;
  fits = subst (IsFitting code) (sym s.opens) (opens s.store s.lines s.today s.declared);
  decoded = s.decoded;
}

-- ---- the run

-- a machine that stands for a world of the code's runs, and what the code is decoded to
pub record SafeFrom {K : Type 0} (code : Code) (w : World) (m : Machine Untagged K) (d : Decoded) : Type 0 where
  pub stands : StandsFor IsByKind m w
  pub safe : IsSafe code w
  pub decoded : IsDecoded code m.values.cells.registers d
  pub fits : IsFitting code w

pub safe_from : {K : Type 0} (code : Code) (w : World) (m : Machine Untagged K) (d : Decoded) (b : BankState)
    → banks_of m d ≡ b → RunsWell code → Twin code w b → SafeFrom code w m d
safe_from code w m d b view runs twin =
    let t = subst (Twin code w) (sym view) twin in
    record {
      stands = stands (banks_of m d) w t.agrees;
      safe = runs.safe w t.fits;
      decoded = t.decoded;
      fits = t.fits;
    }

-- what the stores say of themselves, where a run begins and where it has ended
pub record TablesAre (from : World) (b : BankState) : Type 0 where
  pub within : IsWithinLimit from.env.store.limit from.env.store
  pub fresh : NoOpenIndexIsStale b.env.store

unfoldable pub headline : (code : Code) → RunsWell code
    → (from : World) (budget : ℕ) (outcome : Outcome) (b : BankState)
    → IsFitting code from → TablesAre from b → IsDecoded code b.values.cells.registers b.decoded
    → EndsRun code from budget outcome (IsByKind b.values) b.place b.returns b.env → Headline code from budget outcome b
headline code runs from budget outcome b fit tables decoded ends =
    let there = runs.fits from fit ends.ran.count ends.last ends.ran.reached in
    let same = agrees b ends.last ends.stands in
    let safe = runs.safe from fit in
    record {
      world = ends.last;
      takes_its_steps = ends.ran;
      agrees = same;
      meets_no_fault = runs.steps from safe;
      ends_without_fault = runs.end from budget outcome ends.last safe ends.ran;
      as_known = runs.fits from fit;
      within_the_stack = λ n v at. runs.stack v (runs.fits from fit n v at);
      few_calls = λ n v at. runs.returns v (runs.fits from fit n v at);
      within_the_budget = ends.ran.within;
      few_steps = runs.made from budget outcome ends.last ends.ran;
      keeps_tables_and_indexes = λ shape h. subst (λ s. StoreHasShape shape s) (sym same.store)
          (runs.keeps shape from ends.ran.count ends.last ends.ran.reached h);
      within_the_limit = runs.within from from.env.store.limit tables.within;
      no_open_index_is_stale = tables.fresh;
      as_declared = subst (λ s. StoreFits code.declared s) (sym same.store) there.shape.store;
      goes_on = record { agrees = same; fits = there; decoded = decoded };
    }

-- ---- pauses

unfoldable pub paused : (code : Code) → RunsWell code → (from : World) (budget steps : ℕ) (b : BankState)
    → IsFitting code from → TablesAre from b → IsDecoded code b.values.cells.registers b.decoded
    → (p : Pauses code from budget steps (IsByKind b.values) b.place b.returns b.env)
    → PausesAt code from budget steps b
paused code runs from budget steps b fit tables decoded p =
    let there = runs.fits from fit p.came.count p.last p.came.reached in
    let same = agrees b p.last p.stands in
    let safe = runs.safe from fit in
    record {
      world = p.last;
      takes_its_steps = p.came;
      agrees = same;
      meets_no_fault = runs.steps from safe;
      as_known = runs.fits from fit;
      within_the_stack = λ n v at. runs.stack v (runs.fits from fit n v at);
      few_calls = λ n v at. runs.returns v (runs.fits from fit n v at);
      within_the_budget = p.within;
      few_steps = (let few = runs.few from p.came.count p.last p.came.reached in
          omega (arith, few, p.came.steps_are, p.within));
      keeps_tables_and_indexes = λ shape h. subst (λ s. StoreHasShape shape s) (sym same.store)
          (runs.keeps shape from p.came.count p.last p.came.reached h);
      within_the_limit = runs.within from from.env.store.limit tables.within;
      no_open_index_is_stale = tables.fresh;
      as_declared = subst (λ s. StoreFits code.declared s) (sym same.store) there.shape.store;
      goes_on = record { agrees = same; fits = there; decoded = decoded };
    }

pub goes_to : (code : Code) → RunsWell code → (from : World) (budget : ℕ) (marks : List Bool) (leg : Leg)
    (b : BankState)
    → IsFitting code from → TablesAre from b → IsDecoded code b.values.cells.registers b.decoded
    → IsLeg code from budget marks leg (IsByKind b.values) b.place b.returns b.env → GoesTo code from budget marks leg b
unfolding headline paused
goes_to code runs from budget marks (Ended outcome) b fit tables decoded g =
    (headline code runs from budget outcome b fit tables decoded g.0, g.1)
goes_to code runs from budget marks (Waits steps) b fit tables decoded g =
    (paused code runs from budget steps b fit tables decoded g.0, g.1)
goes_to code runs from budget marks (Marked steps) b fit tables decoded g =
    (paused code runs from budget steps b fit tables decoded g.0, g.1)

-- ---- lines

out_lines : (ls more : List (List ℕ)) → is_out ls ≡ true → more ≡ ls ++ more
out_lines [] more out = refl
out_lines (l ∷ ls) more out = absurd (cc)

pub more_lines : (code : Code) (w : World) (b : BankState) (lines : List (List ℕ)) → Twin code w b
    → is_out b.env.lines ≡ true → Twin code (with_more lines w) (record b { env = with_lines lines b.env })
more_lines code w b lines t out = record {
  agrees = record {
    place = t.agrees.place;
    returns = t.agrees.returns;
    store = t.agrees.store;
    screen = t.agrees.screen;
    lines = out_lines b.env.lines lines out ∙ ap (λ ls. ls ++ lines) t.agrees.lines;
    settings = t.agrees.settings;
    today = t.agrees.today;
    values = t.agrees.values;
  };
  decoded = t.decoded;
  fits = record {
    shape = record {
      place = t.fits.shape.place;
      state = t.fits.shape.state;
      calls = t.fits.shape.calls;
      store = t.fits.shape.store;
    };
    apart = t.fits.apart;
    fits = t.fits.fits;
    awaits = t.fits.awaits;
  };
}
