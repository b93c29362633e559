use Rattle.std.proofs.Common.{◌≡◌, ◌∙◌, ◌-◌, ap, sym, length}
use Rattle.xvalue.specs.Shown.{shown_number, in_ten_places}
use Rattle.xvalue.proofs.TextLemmas.{ten_places}
use Rattle.xvalue.proofs.shown.shown_number.Goals as goal

pub returns : goal.returns
unfolding shown_number
returns c =
    let digits = c.as_slice.result.now in
    let same = c.as_slice.ensures.value in
    let places : c.saturating_sub.result ≡ 10 - length digits =
    c.saturating_sub.ensures ∙ ap (λ n. 10 - n) (c.len.ensures.value ∙ ap length (sym same)) in
    c.append.ensures
    ∙ ten_places digits c.write_blanks.new.text.items c.saturating_sub.result c.as_slice.ensures.fits places
    c.write_blanks.ensures
    ∙ ap in_ten_places (same ∙ c.text-digits.ensures)
