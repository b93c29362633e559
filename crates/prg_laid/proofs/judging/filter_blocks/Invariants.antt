use Rattle.std.proofs.Common.{◌≡◌, length}
use Rattle.prg_laid.specs.Whole.{AreFilters}
use Rattle.prg_laid.proofs.judging.filter_blocks.Given as goal

abbrev pub invariant-loop-number : goal.invariant-loop-number
invariant-loop-number l = record {
  many : length l.filters.items ≡ l.number;
  are : AreFilters l.code l.filters.items;
}
