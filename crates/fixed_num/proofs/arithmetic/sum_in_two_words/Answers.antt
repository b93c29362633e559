use Rattle.std.proofs.Common.{arith, max, ap₂, sym, ◌∙◌}
use Rattle.std.specs.Prelude.{FitsSigned}
use Rattle.std.specs.Int.{w128}
use Rattle.std.proofs.lemmas.Int.{to_z-of_z, fits_signed_from_abs}
use Rattle.fixed_num.specs.Arithmetic.{sum_of}
use Rattle.fixed_num.proofs.PowerLemmas.{sum_passed}
use Rattle.fixed_num.proofs.arithmetic.sum_in_two_words.Goals as goal

pub returns : goal.returns
returns c =
    let a = c.in-Some-Some.a in
    let b = c.in-Some-Some.b in
    let most = max a.decimals b.decimals in
    let fa : FitsSigned w128 a.numerator =
    fits_signed_from_abs w128 a.numerator (omega (arith, c.in-Some-Some.ensures.numerator_fits)) in
    let fb : FitsSigned w128 b.numerator =
    fits_signed_from_abs w128 b.numerator (omega (arith, c.in-Some-Some.ensures'.numerator_fits)) in
    let l = rw (to_z-of_z w128 a.numerator fa, c.max-decimals.ensures) at c.scaled-left.ensures.value in
    let r = rw (to_z-of_z w128 b.numerator fb, c.max-decimals.ensures) at c.scaled-right.ensures.value in
    let total = rw (
      sum_passed _ _ c.scaled-left.ensures.bound c.scaled-right.ensures.bound,
      l,
      r,
      c.max-decimals.ensures,
    ) at c.from_fraction.ensures in
    total ∙ sym (ap₂ sum_of c.in-Some-Some.ensures.same c.in-Some-Some.ensures'.same)
