use Rattle.save_rules.proofs.ReplacedLemmas.{AreSoFar}
use Rattle.save_rules.proofs.unchanged.files_replaced.Given as goal

abbrev pub invariant-loop-number : goal.invariant-loop-number
invariant-loop-number l = AreSoFar l.keep_unchanged l.files l.number l.numbers.items
