-- Line by line.
use Rattle.std.proofs.Common.{◌≡◌, ◌+◌, List, length, sym, subst, ◌∙◌, arith}
use Rattle.std.specs.Prelude.{true}
use Rattle.std.proofs.lemmas.Bool.{eqb-true}
use Rattle.std.proofs.lemmas.Result.{err_from_is_err_and}
use Rattle.shape.specs.declared.whole.Shape.{Shape}
use Rattle.shape.specs.Whole.{is_shape}
use Rattle.text_lines.specs.Lines.{lines}
use Rattle.shape_files.specs.declared.refusal.DeclFault.{DeclFault}
use Rattle.shape_files.specs.Listing.{JudgedLines}
use Rattle.shape_files.specs.Shapes.{no_shape, shape_of}
use Rattle.file_access.proofs.Holding.{same_self, same_then}
use Rattle.shape_files.proofs.FileLemmas.{no_lines}
use Rattle.shape_files.proofs.ListingLemmas.{Judged, all_judged, device_at, line_before, none_judged, one_judged}
use Rattle.shape_files.proofs.ShapeLemmas.{nothing_legal}
use Rattle.shape_files.proofs.listing.judge_all.Goals as goal

pub loop-rest-init : goal.loop-rest-init
loop-rest-init g c =
    let holds = g.F.Files.holds c.args.files.now in
    let all = lines c.args.bytes.now in
    record {
      kept = same_self holds;
      counted = omega arith;
      legal = subst (λ (s : Shape). is_shape s ≡ true) (sym c.none-declarations.ensures) nothing_legal;
      room = omega arith;
      judged =
          subst (λ (s : Shape). Judged holds all all 0 s c.new-found.result.items) (sym c.none-declarations.ensures)
          (subst (λ (l : List DeclFault). Judged holds all all 0 no_shape l) (sym c.new-found.ensures.items)
          (none_judged holds all));
    }

pub loop-rest-preserved : goal.loop-rest-preserved
loop-rest-preserved g c =
    let i = c.loop-rest.invariant in
    let first = g.F.Files.holds c.args.files.now in
    let now = g.F.Files.holds c.loop-rest.files in
    let text = c.first_line.result.0.now in
    let before = shape_of c.loop-rest.declarations in
    let after = shape_of c.judge.new.declarations in
    let found = c.loop-rest.found.items in
    let more = c.judge.new.found.items in
    record {
      kept = same_then first now (g.F.Files.holds c.judge.new.files) i.kept c.judge.ensures.kept;
      counted = omega (arith, i.counted, c.judge.ensures.counted);
      legal = c.in_ok-judge.ensures.legal i.legal;
      room = omega (arith, i.room, c.first_line.ensures.shorter);
      judged =
          one_judged first (lines c.args.bytes.now) (lines c.loop-rest.rest.now) (lines c.first_line.result.1.now) text
          c.loop-rest.line before after found more c.first_line.ensures.first i.judged
          (line_before first now (c.loop-rest.line + 1) text before after found more i.kept
          c.in_ok-judge.ensures.judged);
    }

pub returns-in_err-judge-clause-refused : goal.returns-in_err-judge-clause-refused
returns-in_err-judge-clause-refused g c =
    let p = err_from_is_err_and c.from_residual.result c.from_residual.ensures.1 in
    let i = c.loop-rest.invariant in
    rw (p.1, p.2)
    (device_at c.in_err-judge.field-0.0 (g.F.Files.holds c.args.files.now) (lines c.args.bytes.now)
    (lines c.loop-rest.rest.now) (lines c.first_line.result.1.now) c.first_line.result.0.now c.loop-rest.line
    (shape_of c.loop-rest.declarations) c.loop-rest.found.items (g.F.Files.failed c.args.files.now)
    (g.F.Files.failed c.loop-rest.files) (g.F.Files.failed c.judge.new.files) c.first_line.ensures.first i.judged
    i.counted c.judge.ensures.counted c.in_err-judge.ensures.refused)

pub returns-in_err-judge-clause-counted : goal.returns-in_err-judge-clause-counted
returns-in_err-judge-clause-counted g c = omega (arith, c.loop-rest.invariant.counted, c.judge.ensures.counted)

pub returns-in_err-judge-clause-kept : goal.returns-in_err-judge-clause-kept
returns-in_err-judge-clause-kept g c =
    same_then (g.F.Files.holds c.args.files.now) (g.F.Files.holds c.loop-rest.files) (g.F.Files.holds c.judge.new.files)
    c.loop-rest.invariant.kept c.judge.ensures.kept

pub returns-clause-judged : goal.returns-clause-judged
returns-clause-judged g c =
    let first = g.F.Files.holds c.args.files.now in
    let all = lines c.args.bytes.now in
    let found = c.loop-rest.found.items in
    let none = no_lines c.loop-rest.rest.now
    (eqb-true (length c.loop-rest.rest.now) 0 (sym c.is_empty.ensures ∙ c.loop-rest-test.false)) in
    subst (λ (s : Shape). JudgedLines first all s found) (sym c.whole.ensures)
    (all_judged first all (lines c.loop-rest.rest.now) c.loop-rest.line (shape_of c.loop-rest.declarations) found none
    c.loop-rest.invariant.judged)
