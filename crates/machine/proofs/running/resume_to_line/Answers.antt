use Rattle.std.proofs.Common.{sym, ap, subst, ◌∙◌}
use Rattle.run_steps.specs.Machines.{LegMachine}
use Rattle.run_steps.specs.Safe.{IsSafe}
use Rattle.run_steps.specs.Tables.{IsDecoded}
use Rattle.run_steps.specs.World.{EnvState}
use Rattle.run_values.specs.Standing.{IsByKind}
use Rattle.work_area.specs.Areas.{StoreState, IsWithinLimit, NoOpenIndexIsStale}
use Rattle.machine.specs.Twins.{banks_of}
use Rattle.machine.proofs.Runs.{TablesAre, safe_from, goes_to}
use Rattle.machine.proofs.running.resume_to_line.Goals as goal

pub run_to_line-leg-requires-clause-safe : goal.run_to_line-leg-requires-clause-safe
run_to_line-leg-requires-clause-safe g c =
    let w = c.requires.0 in
    let b = c.banks.inside in
    let runs = c.accepted_codes_run_well.ensures in
    let s = safe_from c.args.verified.now w b.machine b.decoded _ c.banks.view_is runs c.requires.1 in
    (w, (s.stands, subst (λ k. IsSafe k w) (sym c.code.ensures.same) s.safe))

pub run_to_line-leg-requires-clause-decoded : goal.run_to_line-leg-requires-clause-decoded
run_to_line-leg-requires-clause-decoded g c =
    let w = c.requires.0 in
    let b = c.banks.inside in
    let runs = c.accepted_codes_run_well.ensures in
    let s = safe_from c.args.verified.now w b.machine b.decoded _ c.banks.view_is runs c.requires.1 in
    subst (λ k. IsDecoded k c.banks.inside.machine.values.cells.registers c.banks.inside.decoded)
    (sym c.code.ensures.same) s.decoded

pub returns : goal.returns
returns g c = λ w twin.
    let same = c.code.ensures.same in
    let runs = c.accepted_codes_run_well.ensures in
    let n = c.run_to_line-leg.new in
    let b = c.banks.inside in
    let s = safe_from c.args.verified.now w b.machine b.decoded _ c.banks.view_is runs twin in
    let safe = subst (λ k. IsSafe k w) (sym same) s.safe in
    let tables : TablesAre w (banks_of n.machine b.decoded) = record {
      within = subst (λ (z : StoreState). IsWithinLimit z.limit z)
          (c.store.ensures ∙ ap (λ (e : EnvState). e.store) s.stands.env_is) c.tables_are_within_the_limit.ensures;
      fresh = subst NoOpenIndexIsStale c.store-2.ensures c.no_open_index_is_stale.ensures;
    } in
    goes_to c.args.verified.now runs w c.args.budget c.args.marks.now c.run_to_line-leg.result
    (banks_of n.machine b.decoded) s.fits
    tables
    (subst (λ k. IsDecoded k n.machine.values.cells.registers b.decoded) same c.run_to_line-leg.ensures.decoded)
    (subst (λ k. LegMachine k w c.args.budget c.args.marks.now c.run_to_line-leg.result IsByKind n.machine) same
    (c.run_to_line-leg.ensures.leg w s.stands safe))
