-- TOP found by passes over rows in record order, where there is no list of them.
use Rattle.std.specs.Prelude.{ℕ, ◌+◌, ◌<◌, ◌≤◌, Bool, true, not, Result, MatchResult, Option, Some, None, List, filter}
use Rattle.std.specs.Prelude.{length, if◌then◌else◌}
use Rattle.key_lists.specs.Pairs.{Pair, is_before}
use Rattle.row_moves.specs.declared.landed.Landed.{Landed}
use Rattle.row_moves.specs.Moves.{Landing, Lands}
use Rattle.open_table.specs.declared.refused.Refused.{Refused}
use Rattle.open_table.specs.declared.refused.Refused.TheVariants.{Spent, NoMemory}

-- the one of two pairs that comes first
abbrev pub lesser : Pair → Option Pair → Pair
lesser p None = p
lesser p (Some q) = if is_before q p then q else p

-- the first shown pair so far, after one more
abbrev pub with_tried : Bool → Pair → Option Pair → Option Pair
with_tried shown p best = if shown then Some (lesser p best) else best

-- whether a move from the start that ends at a pair, or at the end of file, meets this one
abbrev pub is_met : Option Pair → Pair → Bool
is_met None p = true
is_met (Some q) p = not (is_before q p)

-- how many such a move meets
abbrev pub count_met : Option Pair → List Pair → ℕ
count_met best pairs = length (filter (is_met best) pairs)

-- a move at a higher cost
abbrev pub at_higher_cost : ℕ → Landing → Landing
at_higher_cost base landing =
    record { at = landing.at; met = base + landing.met; bof = landing.bof; found = landing.found }

-- what stands against a move: its cost is above the budget, or it isn't, and memory was missing
abbrev pub IsRefusal : Landing → ℕ → Refused → Type 0
IsRefusal landing budget Spent = budget < 1 + landing.met
IsRefusal landing budget NoMemory = 1 + landing.met ≤ budget

-- a change that ends with a move
abbrev pub EndsWithMove : Landing → ℕ → Result Landed Refused → Type 0
EndsWithMove landing budget result =
    MatchResult result (λ landed. Lands landing budget landed) (λ refused. IsRefusal landing budget refused)
