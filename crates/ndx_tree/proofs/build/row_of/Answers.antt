use Rattle.std.proofs.Common.{◌+◌, ◌≤◌, length, arith}
use Rattle.std.proofs.Math.Nat.{mul-le-mul}
use Rattle.ndx_tree.proofs.build.row_of.Goals as goal

pub overflow_mul-entries : goal.overflow_mul-entries
overflow_mul-entries c =
    let few : length c.args.entries.now ≤ 4294967295 = omega (arith, c.requires.few) in
    let short : c.args.key_length + 4 ≤ 104 = omega (arith, c.requires.short) in
    omega (arith, mul-le-mul few short)

pub fill_row-requires-clause-keyed : goal.fill_row-requires-clause-keyed
fill_row-requires-clause-keyed c = (c.args.key_length, c.requires.keys, omega (arith, c.in_ok-row.ensures.room))
