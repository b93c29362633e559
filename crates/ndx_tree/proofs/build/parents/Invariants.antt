use Rattle.std.proofs.Common.{◌≡◌, ℕ, ◌+◌, ◌*◌, ◌/◌, ◌<◌, ◌≤◌, ◌++◌, reverse}
use Rattle.std.specs.Vec.{vec_len}
use Rattle.ndx_tree.specs.Pages.{AreChildren, pairs_of_pages}
use Rattle.ndx_tree.proofs.build.parents.Given as goal

-- the row that is left stands before what is below the pages that were made
abbrev pub invariant-loop-alloc : goal.invariant-loop-alloc
invariant-loop-alloc l = record {
  whole : pairs_of_pages l.row.items ++ pairs_of_pages (reverse l.above.items) ≡ pairs_of_pages l.fn.row.items;
  level : (h : ℕ) → AreChildren h l.most l.fn.row.items → AreChildren h l.most l.row.items;
  made : (h : ℕ) → AreChildren h l.most l.fn.row.items → AreChildren (h + 1) l.most (reverse l.above.items);
  enough : 0 < vec_len l.row → l.most / 2 + 1 ≤ vec_len l.row;
  none : vec_len l.above ≡ 0 → l.most + 1 < vec_len l.row;
  two : 1 < vec_len l.above + vec_len l.row;
  fewer : 2 * vec_len l.above + vec_len l.row ≤ vec_len l.fn.row;
}

abbrev pub decreases-loop-alloc : goal.decreases-loop-alloc
decreases-loop-alloc l = vec_len l.row
