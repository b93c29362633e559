-- Lists of which each element has a property: their ends.
use Rattle.std.proofs.Common.{List, [], ◌∷◌, ◌++◌}
use Rattle.key_lists.specs.Order.{Each}

-- the last element, and those before it
pub each_last : {X : Type 0} (P : X → Type 0) (xs : List X) (x : X) → Each P (xs ++ x ∷ []) → Each P xs × P x
each_last P [] x a = (tt, a.0)
each_last P (y ∷ xs) x a = let r = each_last P xs x a.1 in ((a.0, r.0), r.1)

pub each_more : {X : Type 0} (P : X → Type 0) (xs : List X) (x : X) → Each P xs → P x → Each P (xs ++ x ∷ [])
each_more P [] x a p = (p, tt)
each_more P (y ∷ xs) x a p = (a.0, each_more P xs x a.1 p)
