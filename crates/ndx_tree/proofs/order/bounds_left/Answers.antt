use Rattle.std.proofs.Common.{arith}
use Rattle.ndx_tree.proofs.Between.{left_row_test}
use Rattle.ndx_tree.proofs.order.bounds_left.Goals as goal

pub returns : goal.returns
returns c = left_row_test c.args.entries.now.items c.args.place c.args.key.now c.key.result.now c.is_key_before.result
    c.requires.rising (omega arith) c.requires.inside c.key.ensures.value c.is_key_before.ensures
