use Rattle.std.proofs.Common.{◌≡◌, ◌++◌, length, take, All}
use Rattle.std.specs.Int.{w32, to_be_bytes}
use Rattle.std.specs.List.{flat_map}
use Rattle.save_papers.specs.Papers.{FitsEntry, head, noted_text, paper_entry_text, entry_view, entry_views}
use Rattle.save_papers.proofs.writing.write.Given as goal

abbrev pub invariant-loop-entry : goal.invariant-loop-entry
invariant-loop-entry l = record {
  text : l.out.items
      ≡ ((head ++ noted_text l.paper.noted) ++ to_be_bytes w32 (length l.paper.entries.items)) ++ flat_map
      paper_entry_text (entry_views (take l.entry-index l.paper.entries.items));
  fits : All (λ e. FitsEntry (entry_view e)) (take l.entry-index l.paper.entries.items);
}
