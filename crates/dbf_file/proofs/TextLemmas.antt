-- A text that a zero byte ends.
use Rattle.std.proofs.Common.{◌≡◌, ◌==◌, ℕ, ◌+◌, ◌-◌, ◌<◌, List, ◌∷◌, ◌++◌, length, take, drop, get_or, Bool, true}
use Rattle.std.proofs.Common.{false, Some, None, position, Contains, refl, sym, ap, ◌∙◌, arith, eqb-true, eq-eqb}
use Rattle.std.proofs.Common.{length-append, nat_lt, cond}
use Rattle.std.proofs.lemmas.List.{take-append-drop, drop_more, get_or_append_left, get_or-append_right}
use Rattle.std.proofs.lemmas.List.Sums.{position_or_len_is}
use Rattle.std.proofs.lemmas.Bool.{ne_eqb, lt-ltb}
use Rattle.std.proofs.lemmas.List.Quantifiers.{position-Some}

-- behind the bytes before the first zero byte that byte stands
pub ended_at : (bytes : List ℕ) (i : ℕ) → position (λ byte. byte == 0) bytes ≡ Some i
    → bytes ≡ take i bytes ++ 0 ∷ drop (i + 1) bytes
ended_at bytes i found =
    let facts = position-Some (λ byte. byte == 0) bytes i 0 found in
    let zero_there : get_or bytes i 0 ≡ 0 = eqb-true _ 0 facts.1 in
    sym (take-append-drop i bytes) ∙ ap (λ (rest : List ℕ). take i bytes ++ rest)
    (drop_more bytes i 0 facts.0 ∙ ap (λ (byte : ℕ). byte ∷ drop (i + 1) bytes) zero_there)

-- a zero byte behind a text without one is the first
pub zero_behind : (text rest : List ℕ) → (Contains text 0 → ⊥) → position (λ byte. byte == 0) (text ++ 0 ∷ rest)
    ≡ Some (length text)
zero_behind text rest none =
    let zero_test : ℕ → Bool = λ byte. byte == 0 in
    let whole : List ℕ = text ++ 0 ∷ rest in
    let longer = length-append text (0 ∷ rest) in
    let shorter : length text < length whole = omega (arith, longer) in
    let none_left : length text - length text ≡ 0 = omega arith in
    let before : (k : ℕ) → k < length text → zero_test (get_or whole k 0) ≡ false =
    λ k within. ap zero_test (get_or_append_left text (0 ∷ rest) 0 k within)
    ∙ ne_eqb (get_or text k 0) 0 (λ is_zero. none (k, within, is_zero)) in
    let here : get_or (0 ∷ rest) (length text - length text) 0 ≡ 0 = ap (λ (k : ℕ). get_or (0 ∷ rest) k 0) none_left in
    let at_end : zero_test (get_or whole (length text) 0) ≡ true =
    eq-eqb (get_or whole (length text) 0) 0
    (get_or-append_right text (0 ∷ rest) (length text) (length text) 0 refl (omega arith) ∙ here) in
    let first = position_or_len_is zero_test whole (length text) 0 (omega arith) before (λ _. at_end) in
    ap (λ (k : ℕ). cond (nat_lt k (length whole)) (Some k) None) first
    ∙ ap (λ (b : Bool). cond b (Some (length text)) None) (lt-ltb (length text) (length whole) shorter)
