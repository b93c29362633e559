use Rattle.std.proofs.Common.{◌≡◌, vec_capacity}
use Rattle.dbf_file.proofs.PackLemmas.{Packed}
use Rattle.dbf_file.proofs.table.keep_unmarked.Given as goal

abbrev pub invariant-loop-r : goal.invariant-loop-r
invariant-loop-r l = (vec_capacity l.records ≡ vec_capacity l.fn.records)
    × Packed l.size l.fn.records.items l.records.items l.kept l.r
