use Rattle.std.proofs.Common.{refl, sym, ◌∙◌}
use Rattle.open_table.specs.Open.{replaced_here}
use Rattle.work_area.specs.Areas.{here, change_here}
use Rattle.run_steps.proofs.Walks.{takes_here, with_top}
use Rattle.run_steps.proofs.on_records.replace.Goals as goal

pub returns-in-Ok-clause-stands : goal.returns-in-Ok-clause-stands
returns-in-Ok-clause-stands g c = λ t s f k.
    let there = takes_here (here c.args.store.now) c.args.field c.kind_here-kind.result t f.0
    c.kind_here-kind.ensures k in (
      c.discard.ensures.stands t s there,
      (rw c.from.ensures at c.in-Ok.ensures.ok) ∙ sym (with_top t c.top_lent-value.result
          c.args.store.now (λ value. change_here (replaced_here c.args.field value) c.args.store.now)
          (c.top_lent-value.ensures t s there)),
      refl,
    )
