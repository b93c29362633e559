use Rattle.std.proofs.Common.{◌≡◌, ◌++◌, length}
use Rattle.std.specs.List.{flat_map}
use Rattle.key_lists.specs.Laws.{MeetsEach}
use Rattle.file_commands.specs.Lines.{pair_line}
use Rattle.file_commands.proofs.IndexPairs.{left}
use Rattle.file_commands.proofs.index_listing.put_pairs.Given as goal

abbrev pub invariant-loop-next : goal.invariant-loop-next
invariant-loop-next l = record {
  pairs : l.tree.pairs ≡ l.fn.tree.pairs;
  meets : MeetsEach l.fn.tree.pairs;
  lines : l.out.items ++ flat_map pair_line (left l.next l.fn.tree.pairs) ≡ l.fn.out.items
      ++ flat_map pair_line l.fn.tree.pairs;
}

abbrev pub decreases-loop-next : goal.decreases-loop-next
decreases-loop-next l = length (left l.next l.fn.tree.pairs)
