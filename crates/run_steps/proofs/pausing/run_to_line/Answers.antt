use Rattle.std.proofs.Common.{◌≡◌, ◌+◌, arith, ◌∙◌, sym, subst, ⊎_elim, Some, true}
use Rattle.std.proofs.lemmas.Bool.{cases_lt}
use Rattle.std.specs.Prelude.{slice_get}
use Rattle.run_steps.specs.Blocks.{HasConstants}
use Rattle.run_steps.proofs.Pauses.{begun, follows, blocks_on, onward, passed, dry_there, line_fits}
use Rattle.run_steps.proofs.Pauses.{ends_out, ends_unpaid, ends_stopped}
use Rattle.run_steps.proofs.LeadingSteps.{safe_on}
use Rattle.run_steps.proofs.Runs.{here, place_there, finishes_there, costs_some, found_there}
use Rattle.run_steps.proofs.pausing.run_to_line.Goals as goal

pub loop-alloc-init : goal.loop-alloc-init
loop-alloc-init g c = record {
  goes = λ w t safe. begun c.args.marks.now _ w _ _ _ _ _ t;
  within = omega arith;
  decoded = c.requires.decoded;
}

pub take_blocks-steps-requires : goal.take_blocks-steps-requires
take_blocks-steps-requires g c =
    let s = c.requires.safe in
    let p = (c.loop-alloc.invariant.goes s.0 s.1.0 s.1.1).pauses in
    record {
      safe = (p.last, (p.stands, safe_on _ _ _ p.came.count s.1.1 p.came.reached));
      known = c.loop-alloc.invariant.decoded.known;
      served = c.loop-alloc.invariant.decoded.served;
    }

pub returns-then-is_reached-clause-leg : goal.returns-then-is_reached-clause-leg
returns-then-is_reached-clause-leg g c = λ w t safe.
    let u = blocks_on c.args.marks.now _ w _ _ _ _ _ _ _ _ _ _ _ safe (c.loop-alloc.invariant.goes w t safe)
    c.take_blocks-steps.ensures.leads c.loop-alloc.invariant.within c.take_blocks-steps.ensures.within in
    let p = u.pauses in (
      p,
      (
        subst (λ n. slice_get c.args.marks.now n ≡ Some true) p.stands.place_is (c.is_reached.ensures.marked
            c.if-is_reached.true),
        c.is_reached.ensures.some c.if-is_reached.true,
        u.passes,
      ),
    )

pub get-instr-requires : goal.get-instr-requires
get-instr-requires g c =
    let s = c.requires.safe in
    place_there _ s.0 _ _ _ _ _ s.1.1 (follows _ s.0 _ _ _ _ _ _ (blocks_on
    c.args.marks.now _ s.0 _ _ _ _ _ _ _ _ _ _ _ s.1.1 (c.loop-alloc.invariant.goes s.0 s.1.0 s.1.1)
    c.take_blocks-steps.ensures.leads c.loop-alloc.invariant.within c.take_blocks-steps.ensures.within).pauses)

pub returns-then-wants_line-clause-leg : goal.returns-then-wants_line-clause-leg
returns-then-wants_line-clause-leg g c = λ w t safe.
    let u = blocks_on c.args.marks.now _ w _ _ _ _ _ _ _ _ _ _ _ safe (c.loop-alloc.invariant.goes w t safe)
    c.take_blocks-steps.ensures.leads c.loop-alloc.invariant.within c.take_blocks-steps.ensures.within in
    let p = u.pauses in
    let h = here _ w _ _ _ _ _ c.get-instr.result.now safe (follows _ w _ _ _ _ _ _ p) (found_there c.args.code.now
    c.take_blocks-steps.new.machine.place c.get-instr.result.now c.get-instr.ensures) in
    let dry = dry_there _ w _ _ _ _ _ _ c.get-instr.result.now p h ∙ c.wants_line.ensures.dry c.if-wants_line.true in (
      p,
      (
        dry,
        line_fits _ p.last c.get-instr.result.now _ _ h dry (c.wants_line.ensures.some
            c.if-wants_line.true),
        passed c.args.marks.now _ w _ _ _ _ _ _ u (c.is_reached.ensures.unmarked
            c.if-is_reached.false),
      ),
    )

pub returns-then-finishes-clause-leg : goal.returns-then-finishes-clause-leg
returns-then-finishes-clause-leg g c = λ w t safe.
    let steps = c.loop-alloc.steps + c.take_blocks-steps.result in
    let u = blocks_on c.args.marks.now _ w _ _ _ _ _ _ _ _ _ _ _ safe (c.loop-alloc.invariant.goes w t safe)
    c.take_blocks-steps.ensures.leads c.loop-alloc.invariant.within c.take_blocks-steps.ensures.within in
    let p = u.pauses in
    let h = here _ w _ _ _ _ _ c.get-instr.result.now safe (follows _ w _ _ _ _ _ _ p) (found_there c.args.code.now
    c.take_blocks-steps.new.machine.place c.get-instr.result.now c.get-instr.ensures) in
    let on = finishes_there _ w _ _ _ _ _ c.get-instr.result.now _ (follows _ w _ _ _ _ _ _ p) c.if-finishes.ensures in
    let by = passed c.args.marks.now _ w _ _ _ _ _ _ u (c.is_reached.ensures.unmarked c.if-is_reached.false) in
    ⊎_elim
    (λ lt. rw (c.finishing.ensures.finished lt) (ends_out c.args.marks.now _ w _ _ _ _ _ _ c.get-instr.result.now p by
    h on lt))
    (λ le.
    let all : steps ≡ c.args.budget =
    omega (arith, le, c.loop-alloc.invariant.within, c.take_blocks-steps.ensures.within) in
    rw (c.finishing.ensures.spent le)
    (ends_unpaid c.args.marks.now _ w _ _ _ _ _ _ c.get-instr.result.now p by h on all)) (cases_lt steps c.args.budget)

pub execute-requires-clause-ready : goal.execute-requires-clause-ready
execute-requires-clause-ready g c =
    let s = c.requires.safe in
    let u = blocks_on c.args.marks.now _ s.0 _ _ _ _ _ _ _ _ _ _ _ s.1.1 (c.loop-alloc.invariant.goes s.0 s.1.0 s.1.1)
    c.take_blocks-steps.ensures.leads c.loop-alloc.invariant.within c.take_blocks-steps.ensures.within in
    let p = u.pauses in
    let h = here _ s.0 _ _ _ _ _ c.get-instr.result.now s.1.1 (follows _ s.0 _ _ _ _ _ _ p) (found_there
    c.args.code.now c.take_blocks-steps.new.machine.place c.get-instr.result.now c.get-instr.ensures) in (
      p.last,
      (
        p.stands,
        h.ready (finishes_there _ s.0 _ _ _ _ _ c.get-instr.result.now _ (follows _ s.0 _ _ _ _ _ _ p)
            c.if-finishes.ensures),
      ),
    )

pub overflow_add-steps-in-Ok : goal.overflow_add-steps-in-Ok
overflow_add-steps-in-Ok g c =
    let s = c.requires.safe in
    let u = blocks_on c.args.marks.now _ s.0 _ _ _ _ _ _ _ _ _ _ _ s.1.1 (c.loop-alloc.invariant.goes s.0 s.1.0 s.1.1)
    c.take_blocks-steps.ensures.leads c.loop-alloc.invariant.within c.take_blocks-steps.ensures.within in
    let p = u.pauses in
    let h = here _ s.0 _ _ _ _ _ c.get-instr.result.now s.1.1 (follows _ s.0 _ _ _ _ _ _ p) (found_there
    c.args.code.now c.take_blocks-steps.new.machine.place c.get-instr.result.now c.get-instr.ensures) in
    let x = c.in-Ok.ensures.steps p.last p.stands (h.ready (finishes_there _ s.0 _ _ _ _ _ c.get-instr.result.now _
    (follows _ s.0 _ _ _ _ _ _ p) c.if-finishes.ensures)) in
    let some = costs_some c.args.code.now c.get-instr.result.now p.last.values p.last.env in
    omega (arith, x.2, c.ranges.budget.fits, c.loop-alloc.invariant.within, c.take_blocks-steps.ensures.within)

pub loop-alloc-smaller : goal.loop-alloc-smaller
loop-alloc-smaller g c =
    let s = c.requires.safe in
    let u = blocks_on c.args.marks.now _ s.0 _ _ _ _ _ _ _ _ _ _ _ s.1.1 (c.loop-alloc.invariant.goes s.0 s.1.0 s.1.1)
    c.take_blocks-steps.ensures.leads c.loop-alloc.invariant.within c.take_blocks-steps.ensures.within in
    let p = u.pauses in
    let h = here _ s.0 _ _ _ _ _ c.get-instr.result.now s.1.1 (follows _ s.0 _ _ _ _ _ _ p) (found_there
    c.args.code.now c.take_blocks-steps.new.machine.place c.get-instr.result.now c.get-instr.ensures) in
    let x = c.in-Ok.ensures.steps p.last p.stands (h.ready (finishes_there _ s.0 _ _ _ _ _ c.get-instr.result.now _
    (follows _ s.0 _ _ _ _ _ _ p) c.if-finishes.ensures)) in
    let some = costs_some c.args.code.now c.get-instr.result.now p.last.values p.last.env in
    omega (arith, x.1, x.2, some, c.loop-alloc.invariant.within, c.take_blocks-steps.ensures.within)

pub loop-alloc-preserved : goal.loop-alloc-preserved
loop-alloc-preserved g c =
    let s = c.requires.safe in
    let u = blocks_on c.args.marks.now _ s.0 _ _ _ _ _ _ _ _ _ _ _ s.1.1 (c.loop-alloc.invariant.goes s.0 s.1.0 s.1.1)
    c.take_blocks-steps.ensures.leads c.loop-alloc.invariant.within c.take_blocks-steps.ensures.within in
    let p = u.pauses in
    let h = here _ s.0 _ _ _ _ _ c.get-instr.result.now s.1.1 (follows _ s.0 _ _ _ _ _ _ p) (found_there
    c.args.code.now c.take_blocks-steps.new.machine.place c.get-instr.result.now c.get-instr.ensures) in
    let x = c.in-Ok.ensures.steps p.last p.stands (h.ready (finishes_there _ s.0 _ _ _ _ _ c.get-instr.result.now _
    (follows _ s.0 _ _ _ _ _ _ p) c.if-finishes.ensures)) in
    let some = costs_some c.args.code.now c.get-instr.result.now p.last.values p.last.env in
    record {
      goes = λ w t safe.
          let u = blocks_on c.args.marks.now _ w _ _ _ _ _ _ _ _ _ _ _ safe (c.loop-alloc.invariant.goes w t safe)
          c.take_blocks-steps.ensures.leads c.loop-alloc.invariant.within c.take_blocks-steps.ensures.within in
          let p = u.pauses in
          let h = here _ w _ _ _ _ _ c.get-instr.result.now safe (follows _ w _ _ _ _ _ _ p) (found_there
          c.args.code.now c.take_blocks-steps.new.machine.place c.get-instr.result.now c.get-instr.ensures) in
          let on = finishes_there _ w _ _ _ _ _ c.get-instr.result.now _ (follows _ w _ _ _ _ _ _ p)
          c.if-finishes.ensures in
          let x = c.in-Ok.ensures.steps p.last p.stands (h.ready on) in
          let some = costs_some c.args.code.now c.get-instr.result.now p.last.values p.last.env in
          let wet = dry_there _ w _ _ _ _ _ _ c.get-instr.result.now p h ∙ c.wants_line.ensures.wet
          c.if-wants_line.false (omega (arith, x.1, x.2, some)) in
          onward c.args.marks.now _ w _ _ _ _ _ _ _ _ _ _ _ c.get-instr.result.now u
          (c.is_reached.ensures.unmarked c.if-is_reached.false) h on wet p.within x;
      within = omega (arith, x.2, c.loop-alloc.invariant.within, c.take_blocks-steps.ensures.within);
      decoded = record {
        known = c.loop-alloc.invariant.decoded.known;
        served = λ place b e. subst (HasConstants c.args.code.now) (sym c.in-Ok.ensures.registers)
            (c.take_blocks-steps.ensures.served place b e);
        filters = c.loop-alloc.invariant.decoded.filters;
      };
    }

pub returns-in-Err-clause-leg : goal.returns-in-Err-clause-leg
returns-in-Err-clause-leg g c = λ w t safe.
    let u = blocks_on c.args.marks.now _ w _ _ _ _ _ _ _ _ _ _ _ safe (c.loop-alloc.invariant.goes w t safe)
    c.take_blocks-steps.ensures.leads c.loop-alloc.invariant.within c.take_blocks-steps.ensures.within in
    let p = u.pauses in
    let h = here _ w _ _ _ _ _ c.get-instr.result.now safe (follows _ w _ _ _ _ _ _ p) (found_there c.args.code.now
    c.take_blocks-steps.new.machine.place c.get-instr.result.now c.get-instr.ensures) in
    let on = finishes_there _ w _ _ _ _ _ c.get-instr.result.now _ (follows _ w _ _ _ _ _ _ p) c.if-finishes.ensures in
    rw c.end.ensures (ends_stopped c.args.marks.now _ w _ _ _ _ _ _ _ _ _ _ c.get-instr.result.now c.in-Err.stop p
    (passed c.args.marks.now _ w _ _ _ _ _ _ u (c.is_reached.ensures.unmarked c.if-is_reached.false)) h on p.within
    (c.in-Err.ensures.steps p.last p.stands (h.ready on)))
