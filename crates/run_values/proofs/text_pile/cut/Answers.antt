use Rattle.std.proofs.Common.{◌≡◌, ◌+◌, ◌-◌, length, take, ap, ◌∙◌, arith}
use Rattle.std.specs.Prelude.{min}
use Rattle.std.specs.List.{copy_within}
use Rattle.arrayvec.specs.ArrayVec.{array_vec_len}
use Rattle.run_values.proofs.CutBytes.{lent_back, cut_is}
use Rattle.run_values.proofs.text_pile.cut.Goals as goal

pub returns : goal.returns
returns c =
    let xs = c.args.text.now.items in
    let start = c.min-start.result in
    let kept = c.min-kept.result in
    let s : start ≡ min c.args.skipped (length xs) = c.min-start.ensures
    ∙ ap (min c.args.skipped) c.len.ensures.value in
    let k : kept ≡ min c.args.count (length xs - start) = c.min-kept.ensures
    ∙ ap (λ n. min c.args.count (n - start)) c.len-2.ensures.value in
    let after : c.copy_within.new.self ≡ copy_within xs start (start + kept) 0 = c.copy_within.ensures.after
    ∙ ap (λ l. copy_within l start (start + kept) 0) c.as_mut_slice.ensures.value in
    let back = lent_back (array_vec_len c.args.text.now) xs c.copy_within.new.self (c.copy_within.ensures.len
    ∙ ap length c.as_mut_slice.ensures.value) in
    ap (λ l. record { items = l }) (c.truncate.ensures.items ∙ ap (take kept) back
    ∙ cut_is xs c.copy_within.new.self c.args.skipped c.args.count start kept (omega
    (arith, c.len.ensures.fits, c.len.ensures.value)) s k after)
