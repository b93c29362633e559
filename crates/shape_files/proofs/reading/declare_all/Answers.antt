-- Line by line.
use Rattle.std.proofs.Common.{◌≡◌, length, sym, subst, ◌∙◌, arith}
use Rattle.std.specs.Prelude.{true}
use Rattle.std.proofs.lemmas.Bool.{eqb-true}
use Rattle.std.proofs.lemmas.Result.{err_from_is_err_and}
use Rattle.shape.specs.declared.whole.Shape.{Shape}
use Rattle.shape.specs.Whole.{is_shape}
use Rattle.text_lines.specs.Lines.{lines}
use Rattle.shape_files.specs.Lines.{said_in_line}
use Rattle.shape_files.specs.Shapes.{shape_of}
use Rattle.file_access.proofs.Holding.{same_self, same_then}
use Rattle.shape_files.proofs.FileLemmas.{Passed, declares_before, no_lines, none_passed}
use Rattle.shape_files.proofs.FileLemmas.{one_passed, all_passed, line_told}
use Rattle.shape_files.proofs.ShapeLemmas.{nothing_legal}
use Rattle.shape_files.proofs.reading.declare_all.Goals as goal

pub loop-rest-init : goal.loop-rest-init
loop-rest-init g c =
    let holds = g.F.Files.holds c.args.files.now in
    let all = lines c.args.bytes.now in
    record {
      kept = same_self holds;
      counted = omega arith;
      legal = subst (λ (s : Shape). is_shape s ≡ true) (sym c.none-declarations.ensures) nothing_legal;
      room = omega arith;
      passed = subst (λ (s : Shape). Passed holds all all 0 s) (sym c.none-declarations.ensures)
          (none_passed holds all);
    }

pub loop-rest-preserved : goal.loop-rest-preserved
loop-rest-preserved g c =
    let i = c.loop-rest.invariant in
    let first = g.F.Files.holds c.args.files.now in
    let now = g.F.Files.holds c.loop-rest.files in
    let text = c.first_line.result.0.now in
    let before = shape_of c.loop-rest.declarations in
    let after = shape_of c.declare_at.new.declarations in
    record {
      kept = same_then first now (g.F.Files.holds c.declare_at.new.files) i.kept c.declare_at.ensures.kept;
      counted = omega (arith, i.counted, c.declare_at.ensures.counted);
      legal = c.in_ok-declare_at.ensures.legal i.legal;
      room = omega (arith, i.room, c.first_line.ensures.shorter);
      passed =
          one_passed first (lines c.args.bytes.now) (lines c.loop-rest.rest.now) (lines c.first_line.result.1.now) text
          c.loop-rest.line before after c.first_line.ensures.first i.passed
          (declares_before first now (said_in_line text) before after i.kept c.in_ok-declare_at.ensures.declared);
    }

pub returns-in_err-declare_at-clause-refused : goal.returns-in_err-declare_at-clause-refused
returns-in_err-declare_at-clause-refused g c =
    let p = err_from_is_err_and c.from_residual.result c.from_residual.ensures.1 in
    let i = c.loop-rest.invariant in
    let first = g.F.Files.holds c.args.files.now in
    let now = g.F.Files.holds c.loop-rest.files in
    rw (p.1, p.2)
    (line_told c.in_err-declare_at.field-0.0 first now (lines c.args.bytes.now) (lines c.loop-rest.rest.now)
    (lines c.first_line.result.1.now) c.first_line.result.0.now c.loop-rest.line (shape_of c.loop-rest.declarations)
    (g.F.Files.failed c.args.files.now) (g.F.Files.failed c.loop-rest.files) (g.F.Files.failed c.declare_at.new.files)
    c.first_line.ensures.first i.kept i.passed i.counted c.declare_at.ensures.counted
    c.in_err-declare_at.ensures.refused)

pub returns-in_err-declare_at-clause-counted : goal.returns-in_err-declare_at-clause-counted
returns-in_err-declare_at-clause-counted g c =
    omega (arith, c.loop-rest.invariant.counted, c.declare_at.ensures.counted)

pub returns-in_err-declare_at-clause-kept : goal.returns-in_err-declare_at-clause-kept
returns-in_err-declare_at-clause-kept g c =
    same_then (g.F.Files.holds c.args.files.now) (g.F.Files.holds c.loop-rest.files)
    (g.F.Files.holds c.declare_at.new.files) c.loop-rest.invariant.kept c.declare_at.ensures.kept

pub returns-clause-declared : goal.returns-clause-declared
returns-clause-declared g c =
    all_passed (g.F.Files.holds c.args.files.now) (lines c.args.bytes.now) (lines c.loop-rest.rest.now) c.loop-rest.line
    (shape_of c.loop-rest.declarations)
    (no_lines c.loop-rest.rest.now (eqb-true (length c.loop-rest.rest.now) 0
    (sym c.is_empty.ensures ∙ c.loop-rest-test.false))) c.loop-rest.invariant.passed
