use Rattle.std.proofs.Common.{ℕ, ◌<◌, ◌^◌, pos, sym, ap, subst, ◌∙◌}
use Rattle.fixed_num.specs.Number.{finite}
use Rattle.dbf_file.proofs.DigitLemmas.{field_of_digits}
use Rattle.dbf_file.proofs.values.number_in.Goals as goal

pub returns-in-Some : goal.returns-in-Some
returns-in-Some c =
    let m = c.in-Some.ensures in
    c.number_with.ensures ∙ ap (λ (n : ℕ). finite (pos n) 0) m.value
    ∙ sym (field_of_digits c.args.decimals c.args.text.now c.without_blanks.result.now
    (sym c.without_blanks.ensures.same) m.some m.digits (subst (λ (n : ℕ). n < 10 ^ 18) m.value m.small))
