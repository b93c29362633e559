-- What became of rows, counted as often as they stand there and without regard to their places.
use Rattle.std.specs.Prelude.{◌≡◌, ℕ, ◌-◌, List, ◌++◌, length, Contains, IsPermutation, min}
use Rattle.row_changes.specs.declared.comparing.RowCounts.{RowCounts}

-- What stays, goes and comes: what was is what stays and goes, what is now is what stays and comes, and no row both
-- goes and comes.
pub record IsParted (before after stayed gone come : List (List ℕ)) : Type 0 where
  pub before_is : IsPermutation before (stayed ++ gone)
  pub after_is : IsPermutation after (stayed ++ come)
  pub apart : (row : List ℕ) → Contains gone row → Contains come row → ⊥

-- so many rows go and come
pub record GoesAndComes (before after : List (List ℕ)) (goes comes : ℕ) : Type 0 where
  pub stayed : List (List ℕ)
  pub gone : List (List ℕ)
  pub come : List (List ℕ)
  pub parted : IsParted before after stayed gone come
  pub goes_are : goes ≡ length gone
  pub comes_are : comes ≡ length come

-- Of the rows that go and those that come the lesser number is changed, and the rest is removed or added.
pub record AreCounted (before after : List (List ℕ)) (counts : RowCounts) : Type 0 where
  pub goes : ℕ
  pub comes : ℕ
  pub there : GoesAndComes before after goes comes
  pub were : counts.before ≡ length before
  pub are : counts.after ≡ length after
  pub changed : counts.changed ≡ min goes comes
  pub removed : counts.removed ≡ goes - comes
  pub added : counts.added ≡ comes - goes
