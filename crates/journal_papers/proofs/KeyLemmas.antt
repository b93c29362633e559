-- The key of a file's sum.
use Rattle.std.proofs.Common.{◌≡◌, ◌≢◌, ap, refl, sym, subst, ℕ, Bool, true, false, arith, List, [], ◌∷◌}
use Rattle.std.proofs.lemmas.Bool.Decides.{nat_tests}
use Rattle.std.specs.Prelude.{◌==◌, ◌&&◌, if◌then◌else◌}
use Rattle.journal_papers.specs.Papers.{begins_with_hyphen, sum_key}

chosen : (b : Bool) (rest name : List ℕ) → b ≡ true → rest ≡ (if b then rest else name)
chosen true rest name e = refl
chosen false rest name e = absurd (cc)

left : (b : Bool) (rest name : List ℕ) → b ≡ false → name ≡ (if b then rest else name)
left false rest name e = refl
left true rest name e = absurd (cc)

-- behind a hyphen stands another one, or none does
pub of_two : (name rest : List ℕ) → name ≡ 45 ∷ rest → begins_with_hyphen rest ≡ true → rest ≡ sum_key name
of_two name rest is two = subst (λ (n : List ℕ). rest ≡ sum_key n) (sym is)
    (chosen (begins_with_hyphen rest) rest (45 ∷ rest) two)

pub of_one : (name rest : List ℕ) → name ≡ 45 ∷ rest → begins_with_hyphen rest ≡ false → name ≡ sum_key name
of_one name rest is one = subst (λ (n : List ℕ). n ≡ sum_key n) (sym is)
    (left (begins_with_hyphen rest) rest (45 ∷ rest) one)

-- no hyphen stands in front
pub of_none : (name : List ℕ) → ((rest : List ℕ) → name ≢ 45 ∷ rest) → name ≡ sum_key name
of_none [] other = refl
of_none (first ∷ rest) other = by_test (first == 45) refl
  where
    by_test : (b : Bool) → (first == 45) ≡ b
        → (first ∷ rest) ≡ (if b && begins_with_hyphen rest then rest else first ∷ rest)
    by_test false is = refl
    by_test true is =
        let same : first ≡ 45 = grind (arith, nat_tests, is) in
        absurd (other rest (ap (λ (n : ℕ). n ∷ rest) same))
