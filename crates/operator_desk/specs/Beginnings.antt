-- Which of the files that a run has read isn't as the text of a conversation's beginning says.
use Rattle.std.specs.Prelude.{ℕ, List, Option, not, position}
use Rattle.journal_papers.specs.Papers.{is_said}
use Rattle.journal_papers.specs.declared.paper.JournalPaper.{JournalPaper}
use Rattle.journal_papers.specs.declared.sums.FileSum.{FileSum}
use Rattle.toml.specs.View.{table_view}

-- the number of the first file whose sum isn't the one that is told of it
abbrev pub changed_of : JournalPaper → List FileSum → Option ℕ
changed_of paper files = position (λ file. not (is_said (table_view paper.table) file)) files
