-- Numbers in a page.
use Rattle.std.proofs.Common.{◌≡◌, ℕ, ◌^◌, ◌<◌, List, ◌++◌, length, ap, ◌∙◌}
use Rattle.std.proofs.lemmas.List.{drop_at}
use Rattle.byteorder.specs.Numbers.{little_number-reads_back, length-bytes_low_first}
use Rattle.byteorder.specs.Endian.{little_number}
use Rattle.ndx_page.specs.Numbers.{number_at, number_text}

pub length-number_text : (n x : ℕ) → length (number_text n x) ≡ n
unfolding number_text
length-number_text n x = length-bytes_low_first 0 n x

-- a number that stands behind other bytes reads as it was written
pub number_at-text : (n x place : ℕ) (front rest : List ℕ) → length front ≡ place → x < 256 ^ n
    → number_at n place (front ++ (number_text n x ++ rest)) ≡ x
unfolding number_at number_text
number_at-text n x place front rest at_place fits =
    ap (little_number n) (drop_at front _ place at_place) ∙ little_number-reads_back n x rest fits
