use Rattle.std.proofs.Common.{◌≡◌, ◌<◌, ℕ}
use Rattle.code_pages.specs.Pages.{page_letter}
use Rattle.code_pages.proofs.pages.byte_of.Given as goal

abbrev pub invariant-loop-number : goal.invariant-loop-number
invariant-loop-number l = (k : ℕ) → k < l.number → page_letter l.page k ≡ l.letter → ⊥
