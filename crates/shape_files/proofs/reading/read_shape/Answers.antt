use Rattle.std.proofs.Common.{List, ℕ, sym, subst}
use Rattle.shape.specs.declared.whole.Shape.{Shape}
use Rattle.text_lines.specs.Lines.{lines}
use Rattle.shape_files.specs.Refusals.{LinesRefusalIs}
use Rattle.shape_files.specs.Shapes.{Declare, no_shape, shape_of}
use Rattle.shape_files.proofs.FileLemmas.{declare_before, lines_told}
use Rattle.shape_files.proofs.reading.read_shape.Goals as goal

pub returns-in-Ok-clause-declared : goal.returns-in-Ok-clause-declared
returns-in-Ok-clause-declared g c =
    let first = g.F.Files.holds c.args.files.now in
    let read = g.F.Files.holds c.declaration_bytes.new.files in
    let bytes = c.in_ok-bytes.bytes.items in
    let shape = shape_of c.in-Ok.declarations in
    let said = subst (λ (b : List ℕ). Declare read (lines b) no_shape shape) c.as_slice.ensures.value
    c.in-Ok.ensures.declared in
    record {
      bytes = bytes;
      held = c.in_ok-bytes.ensures.held;
      short = c.in_ok-bytes.ensures.short;
      declared = subst (λ (s : Shape). Declare first (lines bytes) no_shape s) (sym c.whole.ensures)
          (declare_before first read (lines bytes) no_shape shape c.declaration_bytes.ensures.kept said);
    }

pub returns-clause-refused : goal.returns-clause-refused
returns-clause-refused g c =
    let before = g.F.Files.failed c.args.files.now in
    let read = g.F.Files.failed c.declaration_bytes.new.files in
    let after = g.F.Files.failed c.declare_all.new.files in
    let told = subst (λ (b : List ℕ). LinesRefusalIs (g.F.Files.holds c.declaration_bytes.new.files) (lines b) read
    after c.in-Err.refusal) c.as_slice.ensures.value c.in-Err.ensures.refused in
    lines_told c.in-Err.refusal (g.F.Files.holds c.args.files.now) (g.F.Files.holds c.declaration_bytes.new.files)
    c.args.decl.now c.in_ok-bytes.bytes.items before read after
    c.declaration_bytes.ensures.kept c.in_ok-bytes.ensures.held c.declaration_bytes.ensures.counted
    c.declare_all.ensures.counted told
