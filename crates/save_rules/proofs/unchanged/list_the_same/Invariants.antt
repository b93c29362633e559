use Rattle.std.proofs.Common.{◌≡◌, ◌↔◌, length}
use Rattle.key_lists.specs.Laws.{MeetsEach}
use Rattle.save_rules.proofs.PairLemmas.{left}
use Rattle.save_rules.proofs.unchanged.list_the_same.Given as goal

abbrev pub invariant-loop-next : goal.invariant-loop-next
invariant-loop-next l = record {
  one : l.one.pairs ≡ l.fn.one.pairs;
  other : l.other.pairs ≡ l.fn.other.pairs;
  meets : MeetsEach l.fn.one.pairs;
  meets_other : MeetsEach l.fn.other.pairs;
  alike : (l.fn.one.pairs ≡ l.fn.other.pairs)
      ↔ (left l.next l.fn.one.pairs ≡ left l.other_next l.fn.other.pairs);
}

abbrev pub decreases-loop-next : goal.decreases-loop-next
decreases-loop-next l = length (left l.next l.fn.one.pairs)
