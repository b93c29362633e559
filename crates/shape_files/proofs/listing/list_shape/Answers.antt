-- What stands in the file.
use Rattle.std.proofs.Common.{List, ℕ, subst}
use Rattle.text_lines.specs.Lines.{lines}
use Rattle.shape_files.specs.Listing.{IsOfDeviceAtOne, JudgedLines}
use Rattle.shape_files.proofs.ListingLemmas.{device_told, lines_before, no_line_of, none_faulty}
use Rattle.shape_files.proofs.listing.list_shape.Goals as goal

pub returns-in-Ok-clause-judged : goal.returns-in-Ok-clause-judged
returns-in-Ok-clause-judged g c =
    let first = g.F.Files.holds c.args.files.now in
    let read = g.F.Files.holds c.declaration_bytes.new.files in
    let bytes = c.in_ok-bytes.bytes.items in
    let listed = c.in-Ok.listed in
    record {
      bytes = bytes;
      held = c.in_ok-bytes.ensures.held;
      short = c.in_ok-bytes.ensures.short;
      judged =
          lines_before first read (lines bytes) listed.shape listed.faults.items c.declaration_bytes.ensures.kept
          (subst (λ (b : List ℕ). JudgedLines read (lines b) listed.shape listed.faults.items) c.as_slice.ensures.value
          c.in-Ok.ensures.judged);
    }

pub returns-in-Ok-clause-declared : goal.returns-in-Ok-clause-declared
returns-in-Ok-clause-declared g c = λ none.
    let all = returns-in-Ok-clause-judged g c in
    let listed = c.in-Ok.listed in
    record {
      bytes = all.bytes;
      held = all.held;
      short = all.short;
      declared = none_faulty (g.F.Files.holds c.args.files.now) (lines all.bytes) listed.shape listed.faults.items
          all.judged none;
    }

pub returns-clause-refused : goal.returns-clause-refused
returns-clause-refused g c =
    let before = g.F.Files.failed c.args.files.now in
    let read = g.F.Files.failed c.declaration_bytes.new.files in
    let after = g.F.Files.failed c.judge_all.new.files in
    device_told c.in-Err.refusal (g.F.Files.holds c.args.files.now) c.args.decl.now c.in_ok-bytes.bytes.items before
    read after c.in_ok-bytes.ensures.held c.declaration_bytes.ensures.counted c.judge_all.ensures.counted
    (subst (λ (b : List ℕ). IsOfDeviceAtOne (lines b) read after c.in-Err.refusal) c.as_slice.ensures.value
    c.in-Err.ensures.refused)

pub returns-clause-lines : goal.returns-clause-lines
returns-clause-lines g c =
    no_line_of c.in-Err.refusal (lines c.as_slice.result.now) (g.F.Files.failed c.declaration_bytes.new.files)
    (g.F.Files.failed c.judge_all.new.files) c.in-Err.ensures.refused
