-- The states before the places of a block.
use Rattle.std.proofs.Common.{◌≡◌, ◌≤◌, ℕ, suc, ◌+◌, false, Option, Some, None, refl, ap, subst, arith}
use Rattle.std.specs.Prelude.{is_none}
use Rattle.std.proofs.lemmas.Bool.{ne_eqb}
use Rattle.code_items.specs.declared.code.Code.{Code}
use Rattle.code_items.specs.declared.state.State.{State}
use Rattle.code_rules.specs.Places.{block_at, map_at, start_of, or_state, incoming_at, state_at}
use Rattle.code_rules.proofs.Incoming.{at_first}
use Rattle.fit_laws.specs.Connects.{left_at}

at_next : (code : Code) (place : ℕ) → (block_at code (suc place)).first ≤ place
    → incoming_at code (suc place) ≡ left_at code place
unfolding incoming_at state_at
at_next code place le =
    rw (ne_eqb (block_at code (suc place)).first (suc place) (λ e. absurd (omega (arith, le, e)))) refl

pub state_first : (code : Code) (place : ℕ) → (block_at code place).first ≡ place
    → state_at code place ≡ or_state (map_at code place) (start_of code (block_at code place).number)
unfolding state_at
state_first code place e = ap (or_state (map_at code place)) (at_first code place e)

pub state_next : (code : Code) (place : ℕ) → (block_at code (suc place)).first ≤ place
    → state_at code (suc place) ≡ or_state (map_at code (suc place)) (left_at code place)
unfolding state_at
state_next code place le = ap (or_state (map_at code (suc place))) (at_next code place le)

same_state : (o : Option State) (a b : State) → is_none o ≡ false → or_state o a ≡ or_state o b
same_state None a b e = absurd (cc)
same_state (Some m) a b e = refl

pub state_mapped : (code : Code) (place : ℕ) (s : State) → is_none (map_at code place) ≡ false
    → state_at code place ≡ or_state (map_at code place) s
unfolding state_at
state_mapped code place s e = same_state (map_at code place) (incoming_at code place) s e

pub next_state : (code : Code) (place next : ℕ) → next ≡ place + 1 → (block_at code next).first ≤ place
    → state_at code next ≡ or_state (map_at code next) (left_at code place)
next_state code place next e =
    subst (λ n. (block_at code n).first ≤ place → state_at code n ≡ or_state (map_at code n) (left_at code place))
    (omega (arith, e)) (state_next code place)
