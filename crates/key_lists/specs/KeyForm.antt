-- What the keys of a list look like, and what such a list holds.
use Rattle.std.specs.Prelude.{◌≡◌, ℕ, ◌≤◌, List, Contains, length}
use Rattle.key_lists.specs.Order.{Each, IsAscending}
use Rattle.key_lists.specs.Pairs.{Pair, is_before}

-- the length in bytes that each key has, and the text that says how a key is made
pub record KeyForm : Type 0 where
  pub key_length : ℕ
  pub key_text : List ℕ

-- a length that keys can have
abbrev pub IsKeyLength : ℕ → Type 0
IsKeyLength n = (1 ≤ n) × (n ≤ 100)

-- at most 100 bytes, none of them zero
abbrev pub IsKeyText : List ℕ → Type 0
IsKeyText text = (length text ≤ 100) × (Contains text 0 → ⊥)

-- a key of the list's length, with the number of a record, which are counted from 1
abbrev pub IsPairOf : ℕ → Pair → Type 0
IsPairOf key_length p = (length p.0 ≡ key_length) × (1 ≤ p.1)

-- pairs of the form in strict order: by key, equal keys by rising record, no pair twice
pub record IsKeyList (form : KeyForm) (pairs : List Pair) : Type 0 where
  pub key_length : IsKeyLength form.key_length
  pub ordered : IsAscending is_before pairs
  pub keys : Each (IsPairOf form.key_length) pairs
