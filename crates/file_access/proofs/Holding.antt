-- Files that hold what they held, and counts of failures that rose.
use Rattle.std.proofs.Common.{◌≤◌, ℕ, inl, inr, arith}
use Rattle.file_access.specs.Holding.{Holds, Rose, SameFiles}

pub same_self : (a : Holds) → SameFiles a a
same_self a name found = (λ h. h, λ h. h)

pub same_then : (a b c : Holds) → SameFiles a b → SameFiles b c → SameFiles a c
same_then a b c s t name found =
    (λ h. (t name found).0 ((s name found).0 h), λ h. (s name found).1 ((t name found).1 h))

-- a count that rose later rose
pub rose_later : (a b c : ℕ) → a ≤ b → b ≤ c → Rose b c → Rose a c
rose_later a b c l m (inl r) = inl (omega (arith, l, m, r))
rose_later a b c l m (inr r) = grind (arith, l, m, r)
