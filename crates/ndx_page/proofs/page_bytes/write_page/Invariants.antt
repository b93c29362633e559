use Rattle.std.proofs.Common.{◌≡◌, ◌+◌, ◌*◌, ◌<◌, ◌++◌, ℕ, take, get_or}
use Rattle.ndx_page.specs.declared.page.PageEntry.{PageEntry}
use Rattle.ndx_page.proofs.EntryLemmas.{HasNumbers}
use Rattle.std.specs.List.{flat_map}
use Rattle.arrayvec.specs.ArrayVec.{array_vec_len}
use Rattle.ndx_page.specs.Layout.{entry_size}
use Rattle.ndx_page.specs.PageLayout.{entry_text}
use Rattle.ndx_page.proofs.page_bytes.write_page.Given as goal

abbrev pub invariant-loop-entry : goal.invariant-loop-entry
invariant-loop-entry l = record {
  written : l.sheet.items ≡ l.initial.sheet.items ++ flat_map (entry_text l.head.length)
      (take l.entry-index l.entry-items);
  numbers : (k : ℕ) → k < l.entry-index → (e : PageEntry) → HasNumbers (get_or l.entry-items k e);
  room : array_vec_len l.sheet ≡ array_vec_len l.initial.sheet + l.entry-index * entry_size l.head.length;
}
