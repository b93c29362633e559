-- Lines with their end, and why one isn't kept.
use Rattle.std.specs.Prelude.{◌≡◌, ℕ, List, [], ◌∷◌, ◌++◌}
use Rattle.file_access.specs.Holding.{Rose}
use Rattle.line_journal.specs.declared.kept.NotKept.{NotKept}
use Rattle.line_journal.specs.declared.kept.NotKept.TheVariants.{Journal, Memory}

-- a line with LF behind it
abbrev pub ended_by_lf : List ℕ → List ℕ
ended_by_lf line = line ++ 10 ∷ []

-- the count of the journal's failures before and after a line wasn't kept: it rose, or is at its greatest, where the
-- journal is why, and else it stays
abbrev pub NotKeptIs : ℕ → ℕ → NotKept → Type 0
NotKeptIs before after Journal = Rose before after
NotKeptIs before after Memory = after ≡ before
