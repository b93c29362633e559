use Rattle.std.proofs.Common.{◌≡◌, ◌+◌, ◌≤◌, length}
use Rattle.std.specs.Prelude.{true}
use Rattle.file_access.specs.Holding.{SameFiles}
use Rattle.shape.specs.Whole.{is_shape}
use Rattle.text_lines.specs.Lines.{lines}
use Rattle.shape_files.specs.Shapes.{shape_of}
use Rattle.shape_files.proofs.ListingLemmas.{Judged}
use Rattle.shape_files.proofs.listing.judge_all.Given as goal

abbrev pub invariant-loop-rest : goal.invariant-loop-rest
invariant-loop-rest g l = record {
  kept : SameFiles (g.F.Files.holds l.fn.files) (g.F.Files.holds l.files);
  counted : g.F.Files.failed l.fn.files ≤ g.F.Files.failed l.files;
  legal : is_shape (shape_of l.declarations) ≡ true;
  room : l.line + length l.rest ≤ length l.fn.bytes;
  judged : Judged (g.F.Files.holds l.fn.files) (lines l.fn.bytes) (lines l.rest) l.line (shape_of l.declarations)
      l.found.items;
}

abbrev pub decreases-loop-rest : goal.decreases-loop-rest
decreases-loop-rest g l = length l.rest
