use Rattle.std.proofs.Common.{arith}
use Rattle.ndx_tree.proofs.Between.{right_row_test}
use Rattle.ndx_tree.proofs.order.bounds_right.Goals as goal

pub returns : goal.returns
returns c = right_row_test c.args.entries.now.items c.args.place c.args.key.now c.key.result.now c.is_key_before.result
    c.requires (omega arith) c.key.ensures.value c.is_key_before.ensures
