use Rattle.std.proofs.Common.{◌≡◌, ap, sym, subst}
use Rattle.open_table.specs.Tables.{IndexedState, indexed, replaced}
use Rattle.open_table.specs.Open.{IsOpen}
use Rattle.open_table.proofs.OpenLemmas.{open_left, either}
use Rattle.open_table.proofs.opened.OpenTable.replace.Goals as goal

pub invariant_of-self : goal.invariant_of-self
invariant_of-self g c =
    let old : IndexedState = indexed c.self.inside.table c.self.inside.slots.items in
    let new : IndexedState = indexed c.replace.new.table c.replace.new.slots.items in
    let list = c.self.inside.list.items in
    let numbers = c.as_slice-list.result.now in
    let after : IndexedState = replaced numbers c.in-Some.r c.args.f c.args.from.now old in
    record {
      lists = c.replace.ensures.lists;
      is_open = either c.replace.result (new ≡ after) (new ≡ old) (IsOpen new list c.self.inside.order)
          c.replace.ensures.ok c.replace.ensures.err
          (λ e. open_left old new list numbers c.self.inside.order c.as_slice-list.ensures.value
          c.self.invariant.is_open (ap (λ (t : IndexedState). t.marks) {y = after} e))
          (λ e. subst (λ t. IsOpen t list c.self.inside.order) (sym e) c.self.invariant.is_open);
    }
