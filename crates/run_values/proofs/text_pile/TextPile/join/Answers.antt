use Rattle.std.proofs.Common.{◌≡◌, ◌+◌, ◌-◌, ◌≤◌, length, take, ap, sym, ◌∙◌, arith}
use Rattle.std.specs.Prelude.{reverse, slice_get, slice_set}
use Rattle.std.proofs.lemmas.List.{length-reverse, length-take-le}
use Rattle.run_values.specs.TextPile.{texts_joined, top_joined}
use Rattle.std.specs.Prelude.{vec_len}
use Rattle.run_values.proofs.CutBytes.{lent_back}
use Rattle.run_values.proofs.TextTops.{joined_held}
use Rattle.run_values.proofs.text_pile.TextPile.join.Goals as goal

pub returns : goal.returns
returns c =
    let texts = c.self.inside.texts.items in
    let count = c.self.inside.count in
    let after = c.append_next.new.texts in
    let within : count ≤ length texts = omega (arith, c.self.invariant.0, c.self.invariant.1) in
    let two : 2 ≤ count = omega (
      arith,
      c.requires,
      ap length c.self.view_is,
      length-reverse
          (take count texts),
      length-take-le count texts within,
    ) in
    let more : count - 2 + 1 ≡ count - 1 = omega (arith, two) in
    let whole : count - 2 + 1 + 1 ≡ count = omega (arith, two) in
    let lent = c.as_mut_slice.ensures.value in
    let joined = joined_held texts after (count - 2) (omega (arith, within, two))
    (λ first second there next. c.append_next.ensures.appended first second (ap (λ l. slice_get l (count - 2)) lent
    ∙ there) (ap (λ l. slice_get l (count - 2 + 1)) lent ∙ next)
    ∙ ap (λ l. slice_set l (count - 2) (texts_joined first second)) lent) in
    let same_length : length after ≡ vec_len c.self.inside.texts = c.append_next.ensures.same_length
    ∙ c.as_mut_slice.ensures.len in
    ap (λ l. reverse (take (count - 1) l)) (lent_back (vec_len c.self.inside.texts) texts after same_length)
    ∙ ap (λ n. reverse (take n after)) (sym more) ∙ joined ∙ ap (λ n. top_joined (reverse (take n texts))) whole
    ∙ ap top_joined c.self.view_is
