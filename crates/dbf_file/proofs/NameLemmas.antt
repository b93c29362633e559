-- Names have no zero byte, and begin with no byte 13.
use Rattle.std.proofs.Common.{◌≡◌, ◌==◌, ℕ, zero, suc, ◌<◌, ◌≤◌, List, [], ◌∷◌, length, get_or, true, false, Contains}
use Rattle.std.proofs.Common.{sym, ap, ◌∙◌, arith}
use Rattle.std.specs.List.{list_all}
use Rattle.std.specs.Char.{is_ascii_alphabetic}
use Rattle.std.proofs.lemmas.Bool.{ne_eqb, leb-true, and_parts}
use Rattle.dbf_file.specs.Names.{is_name_byte, is_name}

zero_at : (name : List ℕ) (k : ℕ) → list_all is_name_byte name ≡ true → k < length name → get_or name k 0 ≡ 0 → ⊥
zero_at [] k all within is_zero = omega arith
zero_at (c ∷ cs) zero all within is_zero =
    let first = and_parts _ _ all in
    let same : is_name_byte 0 ≡ true = ap is_name_byte (sym is_zero) ∙ first.0 in
    let clash : false ≡ true = same in
    cc
zero_at (c ∷ cs) (suc k) all within is_zero = zero_at cs k (and_parts _ _ all).1 (omega arith) is_zero

pub no_zero : (name : List ℕ) → is_name name ≡ true → Contains name 0 → ⊥
unfolding is_name
no_zero name good (k, within, is_zero) = zero_at name k (and_parts _ _ good).1 within is_zero

no_end : (c : ℕ) → is_ascii_alphabetic c ≡ true → c == 13 ≡ false
no_end c letter = ne_eqb c 13 (λ is_end. let clash : is_ascii_alphabetic 13 ≡ true = ap is_ascii_alphabetic (sym is_end)
    ∙ letter in let no : false ≡ true = clash in cc)

-- a name has a first byte, and that is none of 13
pub first_of_name : (name : List ℕ) → is_name name ≡ true → (0 < length name) × (get_or name 0 0 == 13 ≡ false)
unfolding is_name
first_of_name [] good = let clash : false ≡ true = good in cc
first_of_name (c ∷ cs) good = (omega arith, no_end c (and_parts _ _ (and_parts _ _ good).0).1)

pub short_name : (name : List ℕ) → is_name name ≡ true → length name ≤ 10
unfolding is_name
short_name name good = leb-true (length name) 10 (and_parts _ _ (and_parts _ _ good).0).0
