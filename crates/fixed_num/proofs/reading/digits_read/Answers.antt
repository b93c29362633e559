use Rattle.std.proofs.Common.{◌∙◌}
use Rattle.fixed_num.proofs.ReadingLemmas.{read_few, read_up, read_down}
use Rattle.fixed_num.proofs.reading.digits_read.Goals as goal

pub returns-then-fraction-most : goal.returns-then-fraction-most
returns-then-fraction-most c =
    let made = rw (c.from.ensures) at c.from_magnitude.ensures in
    made ∙ read_few c.args.negative c.args.whole.now c.args.fraction.now _ _ c.if-fraction-most.true
    c.with_digits-number.ensures c.with_digits-magnitude.ensures

pub returns-then-fraction-most-ge53 : goal.returns-then-fraction-most-ge53
returns-then-fraction-most-ge53 c =
    let made = rw (c.from-magnitude.ensures) at c.from_magnitude-then-fraction-most-ge53.ensures in
    made ∙ read_up c.args.negative c.args.whole.now c.args.fraction.now _ _ c.requires c.if-fraction-most.false
    c.if-fraction-most-ge53.true c.with_digits-number.ensures c.with_digits.ensures

pub returns : goal.returns
returns c =
    let made = rw (c.from-magnitude.ensures) at c.from_magnitude-2.ensures in
    made ∙ read_down c.args.negative c.args.whole.now c.args.fraction.now _ _ c.requires c.if-fraction-most.false
    c.if-fraction-most-ge53.false c.with_digits-number.ensures c.with_digits.ensures
