use Rattle.std.proofs.Common.{◌≡◌, ◌+◌, ◌-◌, ◌*◌, ◌≤◌, length, drop}
use Rattle.key_rows.specs.Flat.{HaveKeys}
use Rattle.ndx_tree.specs.IndexFile.{page_count, links}
use Rattle.ndx_tree.specs.Walk.{Seen, walk, pages_of}
use Rattle.ndx_tree.specs.Reads.{ShowsSeen, unset}
use Rattle.ndx_tree.proofs.Reading.{IsLeft}
use Rattle.ndx_tree.proofs.walk.+read_below.Given as goal

abbrev pub decreases-read_below : goal.decreases-read_below
decreases-read_below l = l.left

-- what is left to walk, from what was found, is the whole walk
abbrev pub invariant-loop-entry : goal.invariant-loop-entry
invariant-loop-entry l = record {
  left : (s : Seen) → ShowsSeen l.head.length (page_count l.bytes) l.fn.found s
      → IsLeft l.head.length (page_count l.bytes) l.found
      (walk (pages_of l.head.length l.bytes) (page_count l.bytes) l.left l.number s)
      (walk (pages_of l.head.length l.bytes) (page_count l.bytes) (l.left - 1))
      (links (drop l.entry-index l.entry-items) l.last);
  bits : length l.found.reached.items ≡ page_count l.bytes;
  alike : HaveKeys l.head.length l.found.entries.items;
  few : length l.found.entries.items + 42 * unset l.found.reached.items
      ≤ length l.fn.found.entries.items + 42 * unset l.fn.found.reached.items;
}
