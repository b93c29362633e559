use Rattle.std.proofs.Common.{◌∙◌, ap, arith, set, add-one}
use Rattle.code_items.specs.declared.desk.AreaState.TheVariants.{Closed}
use Rattle.code_items.proofs.PairLists.{fill_next}
use Rattle.code_items.proofs.desk.Desk.close_all.Goals as goal

pub loop-number-preserved : goal.loop-number-preserved
loop-number-preserved c = rw add-one (record {
  selected = c.loop-number.invariant.selected;
  areas = c.set.ensures ∙ (ap (λ xs. set xs c.loop-number.number Closed) c.loop-number.invariant.areas
      ∙ fill_next c.loop-number.number Closed c.args.self.now.areas (search arith));
})
