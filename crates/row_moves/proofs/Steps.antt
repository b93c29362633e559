-- Steps of a move along rows in order.
use Rattle.std.proofs.Common.{◌≡◌, ℕ, zero, suc, ◌+◌, ◌-◌, ◌<◌, ◌≤◌, Bool, true, false, ◌&&◌, cond, Option, Some, None}
use Rattle.std.proofs.Common.{List, [], ◌∷◌, ◌++◌, reverse, refl, sym, subst, arith}
use Rattle.std.specs.List.{filter, Contains}
use Rattle.std.specs.Option.{is_none, option_map}
use Rattle.std.proofs.lemmas.List.{reverse-append}
use Rattle.key_lists.specs.Laws.{MeetsEach}
use Rattle.key_lists.specs.Order.{Each, first, flip}
use Rattle.key_lists.specs.Pairs.{Pair, is_before}
use Rattle.row_moves.specs.Orders.{candidates}
use Rattle.row_moves.specs.declared.landed.Landed.{Landed}
use Rattle.row_moves.specs.Moves.{first_shown, met, hop, hops, Landing, Lands}

append_each : (P : Pair → Type 0) (xs ys : List Pair) → Each P xs → Each P ys → Each P (xs ++ ys)
append_each P [] ys e f = f
append_each P (x ∷ xs) ys e f = (e.0, append_each P xs ys e.1 f)

reverse_each : (P : Pair → Type 0) (xs : List Pair) → Each P xs → Each P (reverse xs)
reverse_each P [] e = tt
reverse_each P (x ∷ xs) e =
    rw (reverse-append (x ∷ []) xs) (append_each P (reverse xs) (x ∷ []) (reverse_each P xs e.1) (e.0, tt))

pub filter_each : (P : Pair → Type 0) (p : Pair → Bool) (xs : List Pair) → Each P xs → Each P (filter p xs)
filter_each P p [] e = tt
filter_each P p (x ∷ xs) e = elim (p x) as
    (λ b. Each P (cond b (x ∷ filter p xs) (filter p xs))) [
      | true ↦ (e.0, filter_each P p xs e.1)
      | false ↦ filter_each
          P p xs e.1
    ]

candidates_each : (P : Pair → Type 0) (forward : Bool) (at : Option Pair) (pairs : List Pair) → Each P pairs
    → Each P (candidates forward at pairs)
candidates_each P true None pairs e = e
candidates_each P true (Some p) pairs e = filter_each P (is_before p) pairs e
candidates_each P false None pairs e = reverse_each P pairs e
candidates_each P false (Some p) pairs e = filter_each P (flip is_before p) (reverse pairs) (reverse_each P pairs e)

pub first_each : (P : Pair → Type 0) (pairs : List Pair) (q : Pair) → Each P pairs → Some q ≡ first pairs → P q
first_each P [] q e f = cc
first_each P (p ∷ pairs) q e f = let same : p ≡ q = cc in subst P same e.0

-- what holds of each listed pair holds of each
pub each_listed : (P : Pair → Type 0) (pairs : List Pair) → ((p : Pair) → Contains pairs p → P p) → Each P pairs
each_listed P [] h = tt
each_listed P (p ∷ pairs) h =
    (h p (0, omega arith, refl), each_listed P pairs (λ q c. h q (suc c.0, omega (arith, c.1), c.2)))

-- and of the next
pub next_each : (P : Pair → Type 0) (forward : Bool) (at : Option Pair) (pairs : List Pair) (q : Pair)
    → ((p : Pair) → Contains pairs p → P p) → Some q ≡ first (candidates forward at pairs) → P q
next_each P forward at pairs q h f =
    first_each P (candidates forward at pairs) q (candidates_each P forward at pairs (each_listed P pairs h)) f

-- a step goes to the first candidate, and leaves the others
step : (forward : Bool) (at : Option Pair) (pairs : List Pair) (q : Pair) → MeetsEach pairs
    → first (candidates forward at pairs) ≡ Some q → candidates forward at pairs ≡ q ∷ candidates forward (Some q) pairs
step true None pairs q m f = m.least q f
step true (Some p) pairs q m f = m.next p q f
step false None pairs q m f = m.greatest q f
step false (Some p) pairs q m f = m.previous p q f

-- what a step to a pair tells of a search
pub record Turn (shown : ℕ → Bool) (pairs later : List Pair) (q : Pair) : Type 0 where
  pub hit : shown q.1 ≡ true → (first_shown shown pairs ≡ Some q) × (met shown pairs ≡ 1)
  pub miss : shown q.1 ≡ false → (first_shown shown pairs ≡ first_shown shown later)
      × (met shown pairs ≡ met shown later + 1)
  pub some : 0 < met shown pairs

pub turn_cons : (shown : ℕ → Bool) (later : List Pair) (q : Pair) → Turn shown (q ∷ later) later q
turn_cons shown later q = record {
  hit = λ e. rw e (refl, refl);
  miss = λ e. rw e (refl, refl);
  some = elim (shown q.1) as (λ b. 0 < cond b 1 (met shown later + 1)) [ true ↦ omega arith | false ↦ omega arith ];
}

pub turn : (shown : ℕ → Bool) (forward : Bool) (at : Option Pair) (pairs : List Pair) (q : Pair) → MeetsEach pairs
    → Some q ≡ first (candidates forward at pairs) → Turn shown (candidates forward at pairs)
    (candidates forward (Some q) pairs) q
turn shown forward at pairs q m f =
    subst (λ ps. Turn shown ps (candidates forward (Some q) pairs) q) (sym (step forward at pairs q m (sym f)))
    (turn_cons shown (candidates forward (Some q) pairs) q)

none_left : (pairs : List Pair) → None ≡ first pairs → pairs ≡ []
none_left [] e = refl
none_left (p ∷ pairs) e = cc

-- where no step is left, nothing is found
pub at_end : (shown : ℕ → Bool) (pairs : List Pair) → None ≡ first pairs
    → (first_shown shown pairs ≡ None) × (met shown pairs ≡ 0)
at_end shown pairs e = rw (none_left pairs e) (refl, refl)

-- at the end of file a move forward stays
pub hops_past : (shown : ℕ → Bool) (forward : Bool) (n : ℕ) (at : Option Pair) (pairs : List Pair)
    → forward && is_none at ≡ true → hops shown forward n at pairs
    ≡ record { at = None; met = 0; bof = false; found = false }
hops_past shown true n (Some p) pairs e = cc
hops_past shown false n at pairs e = cc
hops_past shown true zero None pairs e = refl
hops_past shown true (suc n) None pairs e = refl

-- else a step comes first
pub hops_step : (shown : ℕ → Bool) (forward : Bool) (n : ℕ) (at : Option Pair) (pairs : List Pair) → 0 < n
    → forward && is_none at ≡ false
    → hops shown forward n at pairs ≡ hop forward at (met shown (candidates forward at pairs))
    (first_shown shown (candidates forward at pairs)) (λ q. hops shown forward (n - 1) (Some q) pairs)
hops_step shown forward zero at pairs lt e = absurd (omega arith)
hops_step shown forward (suc n) at pairs lt e = let one : suc n - 1 ≡ n = omega arith in rw (one, e) refl

hops_found : (shown : ℕ → Bool) (forward : Bool) (n : ℕ) (at : Option Pair) (pairs : List Pair)
    → (hops shown forward n at pairs).found ≡ false
hops_found shown forward zero at pairs = refl
hops_found shown forward (suc n) at pairs = elim (forward && is_none at) as
    (λ b. (cond b (record { at = None; met = 0; bof = false; found = false })
    (hop forward at (met shown (candidates forward at pairs)) (first_shown shown (candidates forward at pairs))
    (λ q. hops shown forward n (Some q) pairs))).found ≡ false) [
      | true ↦ refl
      | false ↦ elim (first_shown shown (candidates forward at pairs)) as
          (λ a. (hop forward at (met shown (candidates forward at pairs)) a
          (λ q. hops shown forward n (Some q) pairs)).found ≡ false) [ None ↦ refl | Some q ↦ refl ]
    ]

pub not_sought : (shown : ℕ → Bool) (forward : Bool) (n : ℕ) (at : Option Pair) (pairs : List Pair)
    → false ≡ (hops shown forward n at pairs).found
not_sought shown forward n at pairs = sym (hops_found shown forward n at pairs)

-- a step that finds a row goes on from it
pub hop_on : (shown : ℕ → Bool) (forward : Bool) (n : ℕ) (at : Option Pair) (pairs : List Pair) (m : ℕ)
    (a : Option Pair) → is_none a ≡ false
    → hop forward at m a (λ q. hops shown forward n (Some q) pairs)
    ≡ record {
      at = (hops shown forward n a pairs).at;
      met = m + (hops shown forward n a pairs).met;
      bof =
          (hops shown forward n a pairs).bof;
      found = false;
    }
hop_on shown forward n at pairs m None e = cc
hop_on shown forward n at pairs m (Some q) e = refl

pub hop_met : (forward : Bool) (at : Option Pair) (m : ℕ) (a : Option Pair) (rest : Pair → Landing)
    → m ≤ (hop forward at m a rest).met
hop_met forward at m None rest = omega arith
hop_met forward at m (Some q) rest = omega arith

-- an answer with the record, the cost and BOF() of a SKIP is the SKIP's
pub lands_at : (shown : ℕ → Bool) (forward : Bool) (n : ℕ) (from : Option Pair) (pairs : List Pair) (budget : ℕ)
    (landed : Landed) (row : Option ℕ) (cost : ℕ) (bof : Bool)
    → landed ≡ record { row = row; cost = cost; bof = bof; found = false }
    → row ≡ option_map (λ p. p.1) (hops shown forward n from pairs).at
    → cost ≡ 1 + (hops shown forward n from pairs).met → cost ≤ budget → bof ≡ (hops shown forward n from pairs).bof
    → Lands (hops shown forward n from pairs) budget landed
lands_at shown forward n from pairs budget landed row cost bof is place paid within start =
    subst (λ l. Lands (hops shown forward n from pairs) budget l) (sym is) (record {
      row = place;
      cost = paid;
      within = within;
      bof = start;
      found = not_sought shown forward n from pairs;
    })

-- ---- places of an order, each with its pair

pub none_mapped : {P : Type 0} (pair : P → Pair) (at : Option P) → is_none (option_map pair at) ≡ is_none at
none_mapped pair None = refl
none_mapped pair (Some p) = refl

pub row_mapped : {P : Type 0} (pair : P → Pair) (at : Option P) → option_map (λ p. (pair p).1) at
    ≡ option_map (λ (q : Pair). q.1) (option_map pair at)
row_mapped pair None = refl
row_mapped pair (Some p) = refl

pub end_mapped : {P : Type 0} (pair : P → Pair) (forward : Bool) (at : Option P)
    → cond forward None (option_map (λ p. (pair p).1) at) ≡ option_map (λ (q : Pair). q.1)
    (cond forward None (option_map pair at))
end_mapped pair true at = refl
end_mapped pair false at = row_mapped pair at
