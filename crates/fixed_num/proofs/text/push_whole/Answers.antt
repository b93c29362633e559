use Rattle.std.proofs.Common.{◌∙◌, refl, ap, sym, ◌^◌, ◌++◌, arith}
use Rattle.fixed_num.proofs.TextLemmas.{whole_digits_counted, digits_fit}
use Rattle.fixed_num.proofs.text.push_whole.Goals as goal

pub returns-clause-items : goal.returns-clause-items
returns-clause-items c =
    let parts = c.args.parts in
    let whole = c.whole_digits-whole.result in
    let count = c.digit_count.result in
    let digits = whole_digits_counted count whole c.digit_count.ensures.some c.digit_count.ensures.few
    c.digit_count.ensures.all c.digit_count.ensures.no_more in
    rw (← c.whole_digits-whole.ensures)
    (c.push_digits.ensures.items ∙ ap (λ ds. c.args.text.now.items ++ ds) (sym digits))

pub returns-clause-room : goal.returns-clause-room
returns-clause-room c =
    let parts = c.args.parts in
    let whole = c.whole_digits-whole.result in
    let fit = digits_fit parts.magnitude parts.decimals whole (10 ^ parts.decimals) c.digit_count.result
    c.requires.in_range.magnitude_fits refl c.whole_digits-whole.ensures c.digit_count.ensures.no_more
    c.requires.in_range.decimals_fit in
    omega (arith, c.push_digits.ensures.len, fit)
