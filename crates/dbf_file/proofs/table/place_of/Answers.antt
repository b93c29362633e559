use Rattle.std.proofs.Common.{◌≡◌, ◌*◌, ◌^◌, ◌≤◌, ap, arith}
use Rattle.std.proofs.Math.Nat.{mul-le-mul}
use Rattle.dbf_file.specs.Fields.{size_of}
use Rattle.dbf_file.specs.Tables.{row_widths}
use Rattle.dbf_file.proofs.table.place_of.Goals as goal

pub overflow_mul-result : goal.overflow_mul-result
overflow_mul-result c =
    let most : c.args.r * c.args.size ≤ 2 ^ 32 * 4000 =
    let r : c.args.r ≤ 2 ^ 32 = omega arith in mul-le-mul r c.requires.small in
    omega (arith, most)

pub overflow_add-result : goal.overflow_add-result
overflow_add-result c =
    let most : c.args.r * c.args.size ≤ 2 ^ 32 * 4000 =
    let r : c.args.r ≤ 2 ^ 32 = omega arith in mul-le-mul r c.requires.small in
    omega (arith, most, c.place.ensures.bound)

pub returns : goal.returns
returns c =
    let size : c.args.r * c.args.size ≡ c.args.r * size_of (row_widths c.args.structure.now) =
    ap (λ n. c.args.r * n) c.requires.size in
    omega (arith, size, c.place.ensures.value)
