-- Names and their endings.
use Rattle.std.proofs.Common.{◌≡◌, ◌-◌, ℕ, List, ◌++◌, length, drop, refl, sym, ap, ◌∙◌, arith}
use Rattle.std.proofs.Common.{length-append}
use Rattle.std.proofs.Math.Seq.{drop-append_seam}

-- what a name ends with
pub ending_is : (name front ending : List ℕ) → name ≡ front ++ ending → drop (length name - length ending) name ≡ ending
ending_is name front ending e =
    let whole = ap length e ∙ length-append front ending in
    let place : length name - length ending ≡ length front = omega arith in
    ap (λ n. drop n name) place ∙ ap (drop (length front)) e ∙ drop-append_seam front ending

-- no name ends with two endings of one length
pub one_ending : (front other first second : List ℕ) → length first ≡ length second
    → front ++ first ≡ other ++ second → first ≡ second
one_ending front other first second long e =
    sym (ending_is (front ++ first) front first refl)
    ∙ ap (λ n. drop (length (front ++ first) - n) (front ++ first)) long ∙ ending_is (front ++ first) other second e
