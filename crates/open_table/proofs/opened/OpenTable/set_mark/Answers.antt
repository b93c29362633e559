use Rattle.std.proofs.Common.{◌≤◌, sym, subst}
use Rattle.dbf_file.specs.Rows.{with_mark}
use Rattle.open_table.specs.Slots.{IsSlot}
use Rattle.open_table.specs.Open.{IsInUse}
use Rattle.std.proofs.lemmas.List.{length-set}
use Rattle.open_table.proofs.SlotLemmas.{weaker}
use Rattle.open_table.proofs.ChangeLemmas.{same_lists}
use Rattle.open_table.proofs.opened.OpenTable.set_mark.Goals as goal

pub invariant_of-self : goal.invariant_of-self
invariant_of-self g c =
    let old = c.self.inside.table in
    let r = c.in-Some.r in
    let marked = with_mark old.rows r c.args.marked in
    let slots = c.self.inside.slots.items in
    subst (λ t. IsInUse t slots c.self.inside.list.items c.self.inside.order) (sym c.set_mark.ensures) (record {
      lists = record {
        few = subst (λ n. n ≤ 1000000) (sym (length-set old.rows r _)) c.self.invariant.lists.few;
        exact = weaker (IsSlot old.structure old.rows) (IsSlot old.structure marked)
            (same_lists old.structure old.rows marked
            (λ parts. (c.index_lists.ensures parts old.rows).marked r c.args.marked)) slots
            c.self.invariant.lists.exact;
      };
      is_open = record {
        few = c.self.invariant.is_open.few;
        fresh = c.self.invariant.is_open.fresh;
        order_within = c.self.invariant.is_open.order_within;
      };
    })
