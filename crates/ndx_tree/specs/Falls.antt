-- Each child has a smaller height.
use Rattle.std.specs.Prelude.{ℕ, ◌+◌, ◌≤◌, List, [], ◌∷◌}
use Rattle.std.proofs.Common.{subst, sym, zero-le, max}
use Rattle.std.proofs.Math.Nat.{max-le, le_refl}
use denote.Param.Weighed.{most}
use Rattle.ndx_tree.specs.Pages.{PageView, AreChildren, IsFramed, height_of}
use Rattle.key_lists.specs.Pairs.{Pair}

most_le : (h m : ℕ) (cs : List PageView) → AreChildren h m cs → most (λ c. c.height + 1) cs ≤ h + 1
most_le h m [] a = zero-le
most_le h m (c ∷ cs) a = max-le (subst (λ n. n + 1 ≤ h + 1) (sym a.0.level) (le_refl (h + 1))) (most_le h m cs a.1)

least_height : (m : ℕ) (es : List Pair) (cs : List PageView) → IsFramed m es cs
    → most (λ c. c.height + 1) cs ≤ height_of cs
least_height m es [] a = zero-le
least_height m es (c ∷ cs) a = most_le c.height m (c ∷ cs) a.1

-- the greatest of the children's heights, each with one more, is at most the page's
pub falls : (m : ℕ) (es : List Pair) (cs : List PageView) → IsFramed m es cs
    → max (most (λ c. c.height + 1) cs) 0 ≤ height_of cs
falls m es cs a = max-le (least_height m es cs a) zero-le
