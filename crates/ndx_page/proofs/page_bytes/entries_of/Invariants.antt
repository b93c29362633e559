use Rattle.std.proofs.Common.{◌≡◌, ◌+◌, ◌-◌, ◌*◌, ◌++◌}
use Rattle.arrayvec.specs.ArrayVec.{array_vec_len}
use Rattle.ndx_page.specs.Layout.{entry_size}
use Rattle.ndx_page.specs.PageLayout.{entries_at}
use Rattle.ndx_page.proofs.page_bytes.entries_of.Given as goal

abbrev pub invariant-loop-index : goal.invariant-loop-index
invariant-loop-index l = record {
  left : l.entries.items ++ entries_at l.key_length (l.count - l.index) (4 + l.index * entry_size l.key_length) l.bytes
      ≡ entries_at l.key_length l.count 4 l.bytes;
  count : array_vec_len l.entries ≡ l.index;
}
