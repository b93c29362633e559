use Rattle.std.proofs.Common.{◌≡◌, ◌+◌, length}
use Rattle.xvalue.specs.Texts.{is_text_before}
use Rattle.xvalue.proofs.texts.less_text.Given as goal

abbrev pub invariant-loop-first : goal.invariant-loop-first
invariant-loop-first l = is_text_before l.first l.second ≡ is_text_before l.left l.right

abbrev pub decreases-loop-first : goal.decreases-loop-first
decreases-loop-first l = length l.first + length l.second
