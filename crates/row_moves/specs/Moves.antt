-- Moves over rows in an order: where each leads, and how many rows it meets.
use Rattle.std.specs.Prelude.{◌≡◌, ℕ, zero, suc, not, ◌&&◌, ◌==◌, ◌+◌, ◌≤◌, ◌<◌, ℤ, pos, negsuc, Bool, true, false}
use Rattle.std.specs.Prelude.{List, [], ◌∷◌, filter, Option, Some, None, Result, find, if◌then◌else◌, option_map}
use Rattle.std.specs.Prelude.{is_none, is_some, MatchResult}
use Rattle.key_lists.specs.Laws.{begins_with}
use Rattle.key_lists.specs.Pairs.{Pair}
use Rattle.row_moves.specs.declared.landed.Landed.{Landed}
use Rattle.row_moves.specs.declared.landed.Spent.{Spent}
use Rattle.row_moves.specs.declared.moves.RowMove.{RowMove}
use Rattle.row_moves.specs.declared.moves.RowMove.TheVariants.{Top, Bottom, Skip}
use Rattle.row_moves.specs.Orders.{candidates}

-- the first pair whose row is shown
abbrev pub first_shown : (ℕ → Bool) → List Pair → Option Pair
first_shown shown pairs = find (λ p. shown p.1) pairs

-- how many rows are met, hidden ones passed over and a shown one come to, or all where none is shown
abbrev pub met : (ℕ → Bool) → List Pair → ℕ
met shown [] = 0
met shown (p ∷ pairs) = if shown p.1 then 1 else met shown pairs + 1

-- where a move leads: to a row or the end of file; how many rows it met; whether it ran into the start of file; and
-- whether it found what was sought
pub record Landing : Type 0 where
  pub at : Option Pair
  pub met : ℕ
  pub bof : Bool
  pub found : Bool

-- TOP and BOTTOM: the first or last shown row; where none is shown, the end of file, with BOF() true
abbrev pub end_of : (ℕ → Bool) → Bool → List Pair → Landing
end_of shown forward pairs = record {
  at = first_shown shown (candidates forward None pairs);
  met = met shown (candidates forward None pairs);
  bof = is_none (first_shown shown (candidates forward None pairs));
  found = false;
}

-- A step met these rows and found this one, and the rest goes on from there. A step that finds none ends the move:
-- forward at the end of file, back where it stands, with BOF() true.
abbrev pub hop : Bool → Option Pair → ℕ → Option Pair → (Pair → Landing) → Landing
hop forward at m None rest = record { at = if forward then None else at; met = m; bof = not forward; found = false }
hop forward at m (Some q) rest = record { at = (rest q).at; met = m + (rest q).met; bof = (rest q).bof; found = false }

-- a number of steps, each to the next shown row; forward from the end of file none is made
abbrev pub hops : (ℕ → Bool) → Bool → ℕ → Option Pair → List Pair → Landing
hops shown forward zero at pairs = record { at = at; met = 0; bof = false; found = false }
hops shown forward (suc n) at pairs =
    if forward && is_none at then record { at = None; met = 0; bof = false; found = false }
    else hop forward at (met shown (candidates forward at pairs)) (first_shown shown (candidates forward at pairs))
    (λ q. hops shown forward n (Some q) pairs)

-- SKIP: so many shown rows on, or back where the number is below 0
abbrev pub skipped : (ℕ → Bool) → ℤ → Option Pair → List Pair → Landing
skipped shown (pos n) at pairs = hops shown true n at pairs
skipped shown (negsuc n) at pairs = hops shown false (suc n) at pairs

-- where a move leads from a pair, or from the end of file
abbrev pub landing_of : (ℕ → Bool) → RowMove → Option Pair → List Pair → Landing
landing_of shown Top at pairs = end_of shown true pairs
landing_of shown Bottom at pairs = end_of shown false pairs
landing_of shown (Skip forward rows) at pairs = hops shown forward rows at pairs

-- nothing but blanks
abbrev pub is_all_blanks : List ℕ → Bool
is_all_blanks [] = true
is_all_blanks (b ∷ bytes) = 32 == b && is_all_blanks bytes

-- the same but for blanks at the end of either
abbrev pub is_same : List ℕ → List ℕ → Bool
is_same [] key = is_all_blanks key
is_same (a ∷ text) [] = is_all_blanks (a ∷ text)
is_same (a ∷ text) (b ∷ key) = a == b && is_same text key

-- whether a text that is sought matches a key: with EXACT on they are the same but for blanks at their ends; with EXACT
-- off the key begins with the text
abbrev pub matches : Bool → List ℕ → List ℕ → Bool
matches true text key = is_same text key
matches false text key = begins_with text key

-- the pairs whose keys match
abbrev pub matching : Bool → List ℕ → List Pair → List Pair
matching exact text pairs = filter (λ p. matches exact text p.0) pairs

-- SEEK: the first shown row among those whose keys match, which alone are met; without one the end of file
abbrev pub sought : (ℕ → Bool) → Bool → List ℕ → List Pair → Landing
sought shown exact text pairs = record {
  at = first_shown shown (matching exact text pairs);
  met = met shown (matching exact text pairs);
  bof = false;
  found = is_some (first_shown shown (matching exact text pairs));
}

-- the answer tells where the move leads, at a cost of one and the rows met
pub record Lands (landing : Landing) (budget : ℕ) (landed : Landed) : Type 0 where
  pub row : landed.row ≡ option_map (λ p. p.1) landing.at
  pub cost : landed.cost ≡ 1 + landing.met
  pub within : landed.cost ≤ budget
  pub bof : landed.bof ≡ landing.bof
  pub found : landed.found ≡ landing.found

-- a move that the budget covers, or one whose cost is above it
abbrev pub IsMove : Landing → ℕ → Result Landed Spent → Type 0
IsMove landing budget result =
    MatchResult result (λ landed. Lands landing budget landed) (λ _. budget < 1 + landing.met)

-- a search that had this cost before ends at the first shown pair, or goes over the budget
abbrev pub IsScan : (ℕ → Bool) → List Pair → ℕ → ℕ → Result (Option Pair × ℕ) Spent → Type 0
IsScan shown pairs cost budget result = MatchResult result
    (λ r. (r.0 ≡ first_shown shown pairs) × (r.1 ≡ cost + met shown pairs) × (r.1 ≤ budget))
    (λ _. budget < cost + met shown pairs)
