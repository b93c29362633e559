use Rattle.std.proofs.Common.{sym, ap, subst, ◌∙◌}
use Rattle.open_table.specs.Tried.{TriedRow}
use Rattle.work_area.specs.Areas.{here}
use Rattle.run_steps.specs.Filters.{viewing, shown_by, is_visible, RunsOnRows}
use Rattle.run_steps.proofs.Walks.{both_there, may_there}
use Rattle.run_steps.proofs.on_moves.look_and_walk.Goals as goal

pub walk-requires-clause-callable : goal.walk-requires-clause-callable
walk-requires-clause-callable g c =
    let view = c.args.view.now in
    let can = c.requires.filter in
    may_there (here c.args.store.now) can.1.2 (λ o fits r same. (
      c.requires.block,
      (
        c.requires.work,
        (
          can.0,
          (
            can.1.0,
            can.1.1,
            subst (RunsOnRows view.code.now (viewing can.0 view.moment) view.filter) (sym same)
                fits,
          ),
        ),
      ),
    ))

pub returns : goal.returns
returns g c = λ t s n fits given.
    let view = c.args.view.now in
    let code = view.code.now in
    let v = viewing t view.moment in
    both_there (here c.args.store.now) (c.walk.ensures t s given) fits (λ o walked fits_there.
    walked (shown_by code v view.filter o.table.structure o.table.rows) (λ k r low high said.
    said.says.met t s n
    (subst (λ (x : TriedRow). RunsOnRows code v view.filter x.structure) (sym said.shows) fits_there)
    ∙ ap (λ (x : TriedRow). is_visible code v view.filter x) said.shows))
