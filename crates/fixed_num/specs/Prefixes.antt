-- Numbers with which texts begin. The byte 43 is `+`, 45 is `-`.
use Rattle.std.specs.Prelude.{◌≡◌, ℕ, ◌<◌, ◌≤◌, pos, Bool, true, false, List, [], ◌∷◌, length, take, ◌==◌, ◌⊎◌}
use Rattle.std.specs.Prelude.{if◌then◌else◌}
use Rattle.fixed_num.specs.Number.{Number, finite}
use Rattle.fixed_num.specs.Reading.{before_point, after_point, is_numeral}

-- digits with at most one point and at least one digit
abbrev pub is_unsigned : List ℕ → Bool
is_unsigned cs = is_numeral (before_point cs) (after_point cs)

-- the same behind an optional sign
abbrev pub is_signed : List ℕ → Bool
is_signed [] = false
is_signed (c ∷ cs) = if c == 45 then is_unsigned cs else (if c == 43 then is_unsigned cs else is_unsigned (c ∷ cs))

-- the first `n` bytes pass the test, and no more do
pub record IsLongest (test : List ℕ → Bool) (cs : List ℕ) (n : ℕ) : Type 0 where
  pub there : test (take n cs) ≡ true
  pub longest : (k : ℕ) → n < k → k ≤ length cs → test (take k cs) ≡ false

-- no beginning of the text passes the test
abbrev pub HasNone : (List ℕ → Bool) → List ℕ → Type 0
HasNone test cs = (k : ℕ) → k ≤ length cs → test (take k cs) ≡ false

-- `x` is what the longest beginning that passes the test is read as, and 0 where there is none
abbrev pub IsOfLongest : (List ℕ → Bool) → (List ℕ → Number) → List ℕ → Number → Type 0
IsOfLongest test read cs x =
    ((n : ℕ) × (IsLongest test cs n × (x ≡ read (take n cs)))) ⊎ (HasNone test cs × (x ≡ finite (pos 0) 0))
