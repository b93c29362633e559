-- What is told of what was found.
use Rattle.std.proofs.Common.{◌≡◌, ℕ, ◌+◌, List, [], ◌∷◌, Result, Ok, Err, IfOk}
use Rattle.std.specs.List.{IsFirstAndRest}
use Rattle.prg_commands.specs.Acts.{IsNumbered}
use Rattle.prg_commands.specs.Layout.{Laying}
use Rattle.prg_laid.specs.Layout.{IsDeclaredList}

pub on_done : {A E : Type 0} {P Q : A → Type 0} (r : Result A E) → ((b : A) → P b → Q b) → IfOk r P → IfOk r Q
on_done (Ok b) f h = f b h
on_done (Err e) f h = tt

-- a list that is found has its number, from 1
pub numbered : (f : Laying) (indexes : List ℕ) (i : ℕ) (is : List ℕ) (n number : ℕ) → IsFirstAndRest indexes i is
    → number ≡ n + 1 → IsDeclaredList f indexes n → IsNumbered f indexes number
numbered f [] i is n number e k h = absurd (let z = e in cc)
numbered f (x ∷ xs) i is n number e k h = (n, h.0, k, h.1, h.2)
