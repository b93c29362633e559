-- Rising lists of pairs, and the parts of one on either side of a pair.
use Rattle.std.specs.Prelude.{◌≡◌, ℕ, suc, Option, Some, None, Bool, true, false, cond, List, [], ◌∷◌, take}
use Rattle.key_lists.specs.Order.{Each, IsAscending, inserted}
use Rattle.key_lists.specs.Pairs.{Pair, is_before}

-- each pair stands before x
abbrev pub AllBefore : List Pair → Pair → Type 0
AllBefore pairs x = Each (λ y. is_before y x ≡ true) pairs

-- each pair stands after x
abbrev pub AllAfter : Pair → List Pair → Type 0
AllAfter x pairs = Each (λ y. is_before x y ≡ true) pairs

-- each pair stands before all later ones
abbrev pub IsRising : List Pair → Type 0
IsRising pairs = IsAscending is_before pairs

-- the pairs with x in its place
abbrev pub with_pair : Pair → List Pair → List Pair
with_pair x pairs = inserted is_before x pairs

-- x is none of the pairs
abbrev pub IsAbsent : Pair → List Pair → Type 0
IsAbsent x pairs = Each (λ y. y ≡ x → ⊥) pairs

-- how many pairs at the front stand before x
abbrev pub place_of : Pair → List Pair → ℕ
place_of x [] = 0
place_of x (y ∷ ys) = cond (is_before y x) (suc (place_of x ys)) 0

-- the last pair
abbrev pub last_of : List Pair → Option Pair
last_of [] = None
last_of (y ∷ []) = Some y
last_of (y ∷ z ∷ zs) = last_of (z ∷ zs)

-- the first pair that does not stand before x
abbrev pub first_from : Pair → List Pair → Option Pair
first_from x [] = None
first_from x (y ∷ ys) = cond (is_before y x) (first_from x ys) (Some y)

-- the last of the pairs at the front that stand before x
abbrev pub last_below : Pair → List Pair → Option Pair
last_below x pairs = last_of (take (place_of x pairs) pairs)

-- whether x is one of rising pairs
abbrev pub has : Pair → List Pair → Bool
has x [] = false
has x (y ∷ ys) = cond (is_before y x) (has x ys) (cond (is_before x y) false true)

-- rising pairs but x
abbrev pub without_pair : Pair → List Pair → List Pair
without_pair x [] = []
without_pair x (y ∷ ys) = cond (is_before y x) (y ∷ without_pair x ys) (cond (is_before x y) (y ∷ ys) ys)
