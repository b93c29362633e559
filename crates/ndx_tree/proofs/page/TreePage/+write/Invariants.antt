use Rattle.std.proofs.Common.{◌≡◌, ◌+◌, ◌-◌, ◌*◌, ◌≤◌, length, take}
use Rattle.std.specs.Vec.{vec_len}
use Rattle.ndx_tree.specs.Pages.{pairs_of_pages}
use Rattle.ndx_tree.specs.Writes.{AreWritten, ArePages}
use Rattle.ndx_tree.proofs.page.TreePage.+write.Given as goal

abbrev pub decreases-write : goal.decreases-write
decreases-write l = goal.size-write l

abbrev pub invariant-loop-at : goal.invariant-loop-at
invariant-loop-at l = record {
  written : AreWritten l.head.length (l.self.height - 1) l.pages l.number l.body.items l.page.entries.items
      (take l.at l.children);
  text : ArePages l.head.length l.pages l.number l.fn.body.items l.body.items;
  end : vec_len l.body ≡ l.number * 512;
  later : l.pages ≤ l.number;
  few : l.number + l.at ≤ l.pages + length (pairs_of_pages (take l.at l.children));
  count : length l.page.entries.items ≡ l.at;
}
