use Rattle.std.proofs.Common.{List, subst}
use Rattle.std.specs.Bool.{IsTrue}
use Rattle.std.specs.Prelude.{◌↔◌}
use Rattle.key_lists.specs.Order.{Each}
use Rattle.key_lists.specs.Rising.{IsRising}
use Rattle.ndx_tree.specs.Reads.{IsBetween}
use Rattle.ndx_tree.specs.declared.walk.Separator.{Separator}
use Rattle.ndx_tree.proofs.Between.{in_order_from, in_order_to}
use Rattle.ndx_tree.proofs.order.is_in_order.Goals as goal

pub returns-then-is_rising : goal.returns-then-is_rising
returns-then-is_rising c = λ items e f.
    let rising : IsRising c.args.found.now.entries.items = c.is_rising.ensures.0 c.if-is_rising.true in
    let between : IsTrue c.are_between.result ↔ Each (IsBetween c.args.found.now.entries.items)
    c.args.found.now.separators.items =
    subst (λ (m : List Separator). IsTrue c.are_between.result ↔ Each (IsBetween c.args.found.now.entries.items) m)
    c.deref.ensures.value c.are_between.ensures in
    (λ t. in_order_from items _ _ e f rising (between.0 t), λ o. between.1 (in_order_to items _ _ e f o).1)
