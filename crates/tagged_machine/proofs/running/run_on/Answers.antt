use Rattle.std.proofs.Common.{◌≡◌, ◌+◌, ◌≤◌, length, sym, ap, subst, ◌∙◌, arith, ⊎_elim}
use Rattle.std.proofs.lemmas.Bool.{cases_lt}
use Rattle.std.specs.Prelude.{List}
use Rattle.code_items.specs.declared.code.Proc.{Proc}
use Rattle.work_area.specs.Areas.{StoreState}
use Rattle.run_steps.specs.Tables.{IsDecoded}
use Rattle.run_steps.specs.World.{EnvState, desk_of}
use Rattle.run_values.specs.Standing.{IsTagged, tagged_of}
use Rattle.run_steps.proofs.Runs.{ends_finished, ends_spent, stops_by, costs_some}
use Rattle.tagged_machine.specs.Seen.{world_seen, LeavesStore}
use Rattle.tagged_machine.proofs.Worlds.{stands}
use Rattle.tagged_machine.proofs.Going.{ten_areas, here, follows, leaves_store, ran, ran_to_fault, comes_on}
use Rattle.tagged_machine.proofs.Going.{begun_anew, comes_behind, still_comes}
use Rattle.tagged_machine.proofs.running.run_on.Goals as goal

pub loop-kind-init : goal.loop-kind-init
loop-kind-init g c = record {
  comes =
      begun_anew c.args.machine.now c.of-guarded.new.values c.of-guarded.ensures.slots c.of-guarded.ensures.stack
      c.requires.shape c.requires.apart;
  within = omega arith;
  shown = c.show.ensures ∙ ap desk_of c.store.ensures;
  decoded = c.of-guarded.ensures.decoded;
}

pub get-instr-requires : goal.get-instr-requires
get-instr-requires g c =
    let f = c.legal_codes.ensures c.args.code.now c.requires.legal in
    omega (arith, c.take_blocks-steps.ensures.comes.shape.place, f.places)

pub fault-requires-clause-place : goal.fault-requires-clause-place
fault-requires-clause-place g c =
    let f = c.legal_codes.ensures c.args.code.now c.requires.legal in
    omega (arith, c.take_blocks-steps.ensures.comes.shape.place, f.places, f.instructions)

pub places_of_blocks-places-requires : goal.places_of_blocks-places-requires
places_of_blocks-places-requires g c =
    let f = c.legal_codes.ensures c.args.code.now c.requires.legal in
    omega (arith, ap (λ (l : List Proc). length l) c.as_slice.ensures, f.procedures)

pub show-requires : goal.show-requires
show-requires g c =
    subst (λ (s : StoreState). length s.areas ≡ 10) (sym c.store.ensures) (ten_areas c.args.code.now _ c.requires.shape)

pub fault-requires-clause-shown : goal.fault-requires-clause-shown
fault-requires-clause-shown g c =
    c.desk-desk.ensures ∙ c.loop-kind.invariant.shown
    ∙ ap (λ (e : EnvState). desk_of e.store) (sym c.take_blocks-steps.ensures.env)

pub returns-in-Some-clause-ran : goal.returns-in-Some-clause-ran
returns-in-Some-clause-ran g c =
    let comes = comes_behind c.loop-kind.invariant.comes c.take_blocks-steps.ensures.comes in
    let le : c.loop-kind.steps + c.take_blocks-steps.result ≤ c.args.budget =
    omega (arith, c.take_blocks-steps.ensures.within, c.loop-kind.invariant.within) in
    ran_to_fault (world_seen c.take_blocks-steps.new.machine) _ c.in-Some.kind comes le c.get-instr.ensures
    c.in-Some.ensures

pub returns-then-finishes-clause-ran : goal.returns-then-finishes-clause-ran
returns-then-finishes-clause-ran g c =
    let comes = comes_behind c.loop-kind.invariant.comes c.take_blocks-steps.ensures.comes in
    let m = c.take_blocks-steps.new.machine in
    let h = here (world_seen m) c.faultless_worlds_go_on.ensures c.requires.legal comes c.get-instr.ensures
    c.in_default.ensures in
    ⊎_elim (λ lt. rw (c.finishing.ensures.finished lt) (ran m (ends_finished _ _ _ _ _ _ _ (IsTagged m.values) _
    (follows m comes) h (sym c.if-finishes.ensures) lt)))
    (λ le.
    let all : c.loop-kind.steps + c.take_blocks-steps.result ≡ c.args.budget =
    omega (arith, le, c.loop-kind.invariant.within, c.take_blocks-steps.ensures.within) in
    rw (c.finishing.ensures.spent le) (ran m (ends_spent _ _ _ _ _ _ _ (IsTagged m.values) _ (follows m comes) h
    (sym c.if-finishes.ensures) all))) (cases_lt (c.loop-kind.steps + c.take_blocks-steps.result) c.args.budget)

pub overflow_add-steps : goal.overflow_add-steps
overflow_add-steps g c =
    omega (arith, c.take_blocks-steps.ensures.within, c.ranges.budget.fits, c.loop-kind.invariant.within)

pub execute-requires-clause-ready : goal.execute-requires-clause-ready
execute-requires-clause-ready g c =
    let comes = comes_behind c.loop-kind.invariant.comes c.take_blocks-steps.ensures.comes in
    let m = c.take_blocks-steps.new.machine in
    let h = here (world_seen m) c.faultless_worlds_go_on.ensures c.requires.legal comes c.get-instr.ensures
    c.in_default.ensures in
    (world_seen m, (stands m, h.ready (sym c.if-finishes.ensures)))

pub overflow_add-steps-in-Ok : goal.overflow_add-steps-in-Ok
overflow_add-steps-in-Ok g c =
    let comes = comes_behind c.loop-kind.invariant.comes c.take_blocks-steps.ensures.comes in
    let m = c.take_blocks-steps.new.machine in
    let h = here (world_seen m) c.faultless_worlds_go_on.ensures c.requires.legal comes c.get-instr.ensures
    c.in_default.ensures in
    let x = c.in-Ok.ensures.steps (world_seen m) (stands m) (h.ready (sym c.if-finishes.ensures)) in
    omega (arith, x.2, c.ranges.budget.fits, c.loop-kind.invariant.within, c.take_blocks-steps.ensures.within)

pub loop-kind-smaller : goal.loop-kind-smaller
loop-kind-smaller g c =
    let comes = comes_behind c.loop-kind.invariant.comes c.take_blocks-steps.ensures.comes in
    let m = c.take_blocks-steps.new.machine in
    let h = here (world_seen m) c.faultless_worlds_go_on.ensures c.requires.legal comes c.get-instr.ensures
    c.in_default.ensures in
    let x = c.in-Ok.ensures.steps (world_seen m) (stands m) (h.ready (sym c.if-finishes.ensures)) in
    let some = costs_some c.args.code.now c.get-instr.result.now (tagged_of m.values) m.env in
    omega (arith, x.1, x.2, some, c.loop-kind.invariant.within, c.take_blocks-steps.ensures.within)

pub follow-requires : goal.follow-requires
follow-requires g c =
    let comes = comes_behind c.loop-kind.invariant.comes c.take_blocks-steps.ensures.comes in
    let m = c.take_blocks-steps.new.machine in
    let h = here (world_seen m) c.faultless_worlds_go_on.ensures c.requires.legal comes c.get-instr.ensures
    c.in_default.ensures in
    let x = c.in-Ok.ensures.steps (world_seen m) (stands m) (h.ready (sym c.if-finishes.ensures)) in
    let next = comes_on m c.execute.new.machine c.faultless_instructions_are_clear.ensures.clear
    c.steps_keep_the_shape.ensures c.requires.legal (c.legal_codes.ensures _ c.requires.legal) comes h
    (sym c.if-finishes.ensures) x in
    subst (λ (s : StoreState). length s.areas ≡ 10) (sym c.store-in-Ok.ensures) (ten_areas _ _ next.shape)

pub loop-kind-preserved : goal.loop-kind-preserved
loop-kind-preserved g c =
    let comes = comes_behind c.loop-kind.invariant.comes c.take_blocks-steps.ensures.comes in
    let m = c.take_blocks-steps.new.machine in
    let h = here (world_seen m) c.faultless_worlds_go_on.ensures c.requires.legal comes c.get-instr.ensures
    c.in_default.ensures in
    let x = c.in-Ok.ensures.steps (world_seen m) (stands m) (h.ready (sym c.if-finishes.ensures)) in
    let store = c.store-in-Ok.ensures in
    record {
      comes = comes_on m c.execute.new.machine c.faultless_instructions_are_clear.ensures.clear
          c.steps_keep_the_shape.ensures c.requires.legal (c.legal_codes.ensures _ c.requires.legal) comes h
          (sym c.if-finishes.ensures) x;
      within = omega (arith, x.2, c.loop-kind.invariant.within, c.take_blocks-steps.ensures.within);
      shown = c.follow.ensures m.env.store
          (c.loop-kind.invariant.shown ∙ ap (λ (e : EnvState). desk_of e.store) (sym c.take_blocks-steps.ensures.env))
          (subst (LeavesStore _ m.env.store) (sym (store ∙ ap (λ (e : EnvState). e.store) x.0.env_is))
          (leaves_store c.args.code.now _ (tagged_of m.values) m.env)) ∙ ap desk_of store;
      decoded = subst (λ r. IsDecoded c.args.code.now r c.of-guarded.result.decoded)
          (sym c.in-Ok.ensures.registers) c.take_blocks-steps.ensures.decoded;
    }

pub returns-in-Err-clause-ran : goal.returns-in-Err-clause-ran
returns-in-Err-clause-ran g c =
    let comes = comes_behind c.loop-kind.invariant.comes c.take_blocks-steps.ensures.comes in
    let m = c.take_blocks-steps.new.machine in
    let h = here (world_seen m) c.faultless_worlds_go_on.ensures c.requires.legal comes c.get-instr.ensures
    c.in_default.ensures in
    let x = c.in-Err.ensures.steps (world_seen m) (stands m) (h.ready (sym c.if-finishes.ensures)) in
    let n = c.execute.new.machine in
    rw c.end-end.ensures (ran n (stops_by _ _ _ _ _ _ _ _ _ _ (IsTagged m.values) (IsTagged n.values) _ c.in-Err.stop
    (follows m comes) h (sym c.if-finishes.ensures)
    (omega (arith, c.take_blocks-steps.ensures.within, c.loop-kind.invariant.within)) x))

pub returns-in-Err-clause-shape : goal.returns-in-Err-clause-shape
returns-in-Err-clause-shape g c =
    let comes = comes_behind c.loop-kind.invariant.comes c.take_blocks-steps.ensures.comes in
    let m = c.take_blocks-steps.new.machine in
    let h = here (world_seen m) c.faultless_worlds_go_on.ensures c.requires.legal comes c.get-instr.ensures
    c.in_default.ensures in
    let x = c.in-Err.ensures.steps (world_seen m) (stands m) (h.ready (sym c.if-finishes.ensures)) in
    (still_comes (world_seen m) _ _ c.in-Err.stop c.execute.new.machine comes x).shape

pub returns-in-Err-clause-apart : goal.returns-in-Err-clause-apart
returns-in-Err-clause-apart g c =
    let comes = comes_behind c.loop-kind.invariant.comes c.take_blocks-steps.ensures.comes in
    let m = c.take_blocks-steps.new.machine in
    let h = here (world_seen m) c.faultless_worlds_go_on.ensures c.requires.legal comes c.get-instr.ensures
    c.in_default.ensures in
    let x = c.in-Err.ensures.steps (world_seen m) (stands m) (h.ready (sym c.if-finishes.ensures)) in
    (still_comes (world_seen m) _ _ c.in-Err.stop c.execute.new.machine comes x).apart
