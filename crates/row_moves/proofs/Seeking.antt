-- Keys that begin with a text stand together, and keys of one length that equal a text but for blanks begin with it.
use Rattle.std.proofs.Common.{◌≡◌, ℕ, zero, suc, ◌≤◌, Bool, true, false, not, ◌&&◌, cond, eqb, Option, Some, None, List}
use Rattle.std.proofs.Common.{[], ◌∷◌, ◌++◌, length, get_or, drop, refl, sym, ap, ◌∙◌, subst, arith}
use Rattle.std.specs.List.{filter, starts_with, Contains}
use Rattle.std.specs.Prelude.{nat_eq}
use Rattle.std.proofs.lemmas.Bool.{not-true, and_right}
use Rattle.key_lists.specs.KeyForm.{IsPairOf}
use Rattle.key_lists.specs.Laws.{MeetsEach, StandTogether, begins_with}
use Rattle.key_lists.specs.Order.{Each, above, first}
use Rattle.key_lists.specs.Pairs.{Pair, is_before, pairs_from}
use Rattle.row_moves.specs.Moves.{is_all_blanks, is_same, matching}
use Rattle.row_moves.specs.Seeking.{all_starting, begun_or_none, cut_or_filled, front_run, starting}
use Rattle.row_moves.proofs.Steps.{Turn, turn_cons, each_listed, filter_each, first_each}

pub starts_is : (start key : List ℕ) → starts_with nat_eq key start ≡ begins_with start key
starts_is [] [] = refl
starts_is [] (b ∷ key) = refl
starts_is (a ∷ start) [] = refl
starts_is (a ∷ start) (b ∷ key) = ap (λ t. eqb a b && t) (starts_is start key)

-- ---- a run at the front

pub first_run : (start : List ℕ) (pairs : List Pair) → begun_or_none start (first pairs) ≡ first (front_run start pairs)
first_run start [] = refl
first_run start (p ∷ pairs) = elim (begins_with start p.0) as
    (λ b. cond b (Some p) None ≡ first (cond b (p ∷ front_run start pairs) [])) [ true ↦ refl | false ↦ refl ]

run_each : (P : Pair → Type 0) (start : List ℕ) (pairs : List Pair) → Each P pairs → Each P (front_run start pairs)
run_each P start [] e = tt
run_each P start (p ∷ pairs) e = elim (begins_with start p.0) as
    (λ b. Each P (cond b (p ∷ front_run start pairs) [])) [ true ↦ (e.0, run_each P start pairs e.1) | false ↦ tt ]

starting_each : (P : Pair → Type 0) (start : List ℕ) (at : Option Pair) (pairs : List Pair) → Each P pairs
    → Each P (starting start at pairs)
starting_each P start None pairs e = run_each P start (pairs_from start pairs) (filter_each P _ pairs e)
starting_each P start (Some p) pairs e =
    run_each P start (above is_before p pairs) (filter_each P (is_before p) pairs e)

-- what holds of all pairs holds of the next whose key begins so
pub begun_each : (P : Pair → Type 0) (start : List ℕ) (at : Option Pair) (pairs : List Pair) (q : Pair)
    → ((p : Pair) → Contains pairs p → P p) → Some q ≡ first (starting start at pairs) → P q
begun_each P start at pairs q h f =
    first_each P (starting start at pairs) q (starting_each P start at pairs (each_listed P pairs h)) f

-- the first of a run is the first of the list, and the run goes on
run_step : (start : List ℕ) (pairs rest : List Pair) (q : Pair) → Some q ≡ first (front_run start pairs)
    → (first pairs ≡ Some q → pairs ≡ q ∷ rest) → front_run start pairs ≡ q ∷ front_run start rest
run_step start [] rest q f h = cc
run_step start (p ∷ pairs) rest q f h = elim (begins_with start p.0) as
    (λ b. begins_with start p.0 ≡ b → Some q ≡ first (cond b (p ∷ front_run start pairs) [])
    → cond b (p ∷ front_run start pairs) [] ≡ q ∷ front_run start rest) [
      | true ↦ λ e g.
          let same : p ≡ q = cc in
          let whole : p ∷ pairs ≡ q ∷ rest = h (ap Some same) in
          let there : begins_with start q.0 ≡ true = ap (λ (r : Pair). begins_with start r.0) (sym same) ∙ e in
          sym (ap (λ b. cond b (p ∷ front_run start pairs) []) e) ∙ ap (front_run start) whole
          ∙ ap (λ b. cond b (q ∷ front_run start rest) []) there
      | false ↦ λ e g. cc
    ] refl f

begun_step : (start : List ℕ) (at : Option Pair) (pairs : List Pair) (q : Pair) → MeetsEach pairs
    → Some q ≡ first (starting start at pairs) → starting start at pairs ≡ q ∷ starting start (Some q) pairs
begun_step start None pairs q m f =
    run_step start (pairs_from start pairs) (above is_before q pairs) q f (m.least_from start q)
begun_step start (Some p) pairs q m f =
    run_step start (above is_before p pairs) (above is_before q pairs) q f (m.next p q)

pub begun_turn : (shown : ℕ → Bool) (start : List ℕ) (at : Option Pair) (pairs : List Pair) (q : Pair) → MeetsEach pairs
    → Some q ≡ first (starting start at pairs) → Turn shown (starting start at pairs) (starting start (Some q) pairs) q
begun_turn shown start at pairs q m f =
    subst (λ ps. Turn shown ps (starting start (Some q) pairs) q) (sym (begun_step start at pairs q m f))
    (turn_cons shown (starting start (Some q) pairs) q)

-- ---- the run is all there is

filter_pass : (p : Pair → Bool) (xs : List Pair) → Each (λ x. p x ≡ true) (filter p xs)
filter_pass p [] = tt
filter_pass p (x ∷ xs) = elim (p x) as
    (λ b. p x ≡ b → Each (λ y. p y ≡ true) (cond b (x ∷ filter p xs) (filter p xs))) [
      | true ↦ λ e. (e, filter_pass p xs)
      | false ↦ λ e. filter_pass p xs
    ] refl

run_of : (start : List ℕ) (xs ys : List Pair) → Each (λ p. begins_with start p.0 ≡ true) xs
    → Each (λ p. not (begins_with start p.0) ≡ true) ys → front_run start (xs ++ ys) ≡ xs
run_of start [] [] e f = refl
run_of start [] (y ∷ ys) e f = rw (not-true (begins_with start y.0) f.0) refl
run_of start (x ∷ xs) ys e f = rw e.0 (ap (λ (ps : List Pair). x ∷ ps) (run_of start xs ys e.1 f))

pub starting_all : (start : List ℕ) (pairs : List Pair) → StandTogether pairs
    → starting start None pairs ≡ all_starting start pairs
starting_all start pairs t =
    ap (front_run start) (t start)
    ∙ run_of start (all_starting start pairs) (filter (λ p. not (begins_with start p.0)) (pairs_from start pairs))
    (filter_pass (λ p. begins_with start p.0) pairs)
    (filter_pass (λ p. not (begins_with start p.0)) (pairs_from start pairs))

-- ---- EXACT

pub cut_or_filled_more : (n : ℕ) (text : List ℕ) → cut_or_filled (suc n) text
    ≡ cut_or_filled n text ++ get_or text n 32 ∷ []
cut_or_filled_more zero [] = refl
cut_or_filled_more zero (b ∷ text) = refl
cut_or_filled_more (suc n) [] = ap (λ (bs : List ℕ). 32 ∷ bs) (cut_or_filled_more n [])
cut_or_filled_more (suc n) (b ∷ text) = ap (λ (bs : List ℕ). b ∷ bs) (cut_or_filled_more n text)

pub drop_all : (xs : List ℕ) (n : ℕ) → length xs ≤ n → drop n xs ≡ []
drop_all [] zero le = refl
drop_all [] (suc n) le = refl
drop_all (x ∷ xs) zero le = absurd (omega arith)
drop_all (x ∷ xs) (suc n) le = drop_all xs n (omega arith)

and_true : (a : Bool) → a ≡ (a && true)
and_true true = refl
and_true false = refl

and_apart : (a b d : Bool) → (a && (b && d)) ≡ ((a && b) && d)
and_apart true b d = refl
and_apart false b d = refl

blank_cut_or_filled : (key : List ℕ) → is_all_blanks key ≡ begins_with (cut_or_filled (length key) []) key
blank_cut_or_filled [] = refl
blank_cut_or_filled (b ∷ key) = ap (λ t. eqb 32 b && t) (blank_cut_or_filled key)

-- a key is the text but for blanks where it begins with the text, cut or filled to its length, and the text goes on
-- blank
same_cut_or_filled : (text key : List ℕ)
    → is_same text key ≡ (begins_with (cut_or_filled (length key) text) key && is_all_blanks (drop (length key) text))
same_cut_or_filled [] key = blank_cut_or_filled key ∙ and_true (begins_with (cut_or_filled (length key) []) key)
    ∙ ap (λ (bs : List ℕ). begins_with (cut_or_filled (length key) []) key && is_all_blanks bs)
    (sym (drop_all [] (length key) (omega arith)))
same_cut_or_filled (a ∷ text) [] = refl
same_cut_or_filled (a ∷ text) (b ∷ key) = ap (λ t. eqb a b && t) (same_cut_or_filled text key)
    ∙ and_apart (eqb a b) (begins_with (cut_or_filled (length key) text) key) (is_all_blanks (drop (length key) text))

matching_each : (n : ℕ) (text : List ℕ) (pairs : List Pair) → Each (IsPairOf n) pairs → (b : Bool)
    → is_all_blanks (drop n text) ≡ b → matching true text pairs ≡ cond b (all_starting (cut_or_filled n text) pairs) []
matching_each n text [] e true t = refl
matching_each n text [] e false t = refl
matching_each n text (p ∷ pairs) e true t =
    let one : is_same text p.0 ≡ begins_with (cut_or_filled n text) p.0 = same_cut_or_filled text p.0
    ∙ ap (λ k. begins_with (cut_or_filled k text) p.0 && is_all_blanks (drop k text)) e.0.0
    ∙ ap (λ b. begins_with (cut_or_filled n text) p.0 && b) t ∙ sym
    (and_true (begins_with (cut_or_filled n text) p.0)) in
    rw (one, matching_each n text pairs e.1 true t) refl
matching_each n text (p ∷ pairs) e false t =
    let one : is_same text p.0 ≡ false = same_cut_or_filled text p.0
    ∙ ap (λ k. begins_with (cut_or_filled k text) p.0 && is_all_blanks (drop k text)) e.0.0
    ∙ ap (λ b. begins_with (cut_or_filled n text) p.0 && b) t
    ∙ and_right (begins_with (cut_or_filled n text) p.0) false refl in
    rw one (matching_each n text pairs e.1 false t)

pub matching_cut_or_filled : (n : ℕ) (text : List ℕ) (pairs : List Pair) → Each (IsPairOf n) pairs
    → is_all_blanks (drop n text) ≡ true → matching true text pairs ≡ all_starting (cut_or_filled n text) pairs
matching_cut_or_filled n text pairs e t = matching_each n text pairs e true t

pub matching_none : (n : ℕ) (text : List ℕ) (pairs : List Pair) → Each (IsPairOf n) pairs
    → is_all_blanks (drop n text) ≡ false → matching true text pairs ≡ []
matching_none n text pairs e t = matching_each n text pairs e false t
