-- What comes in at a block's beginning.
use Rattle.std.proofs.Common.{◌≡◌, ℕ, zero, suc, refl}
use Rattle.std.proofs.lemmas.Bool.{eq-eqb}
use Rattle.code_items.specs.declared.code.Code.{Code}
use Rattle.code_rules.specs.Places.{block_at, start_of, incoming_at}

pub at_first : (code : Code) (place : ℕ) → (block_at code place).first ≡ place
    → incoming_at code place ≡ start_of code (block_at code place).number
unfolding incoming_at
at_first code zero e = refl
at_first code (suc place) e = rw (eq-eqb (block_at code (suc place)).first (suc place) e) refl
