use Rattle.std.proofs.Common.{◌≤◌, ◌+◌, ◌∙◌, ap, subst, sym, length, map, List, ℕ, None, [], arith}
use Rattle.std.proofs.lemmas.Result.{err_from_is_err_and}
use Rattle.prg_parser.specs.HalfRead.{IsHalfRead}
use Rattle.prg_parser.specs.Joined.{joined_of}
use Rattle.prg_parser.specs.Lines as spec
use Rattle.prg_parser.specs.Lines.{Joined}
use Rattle.prg_parser.specs.Marks.{line_mark, marks}
use Rattle.prg_parser.specs.Verdict.{verdict}
use Rattle.text_lines.specs.Lines as text
use Rattle.prg_parser.proofs.HalfReadLemmas.{all_stand, before_within, goes_on, tells_whole}
use Rattle.prg_parser.proofs.JoinLemmas.{is_nothing}
use Rattle.prg_parser.proofs.half_read.read_file.Goals as goal

pub loop-rest-init : goal.loop-rest-init
loop-rest-init c = record {
  stands = subst (λ (r : List ℕ). IsHalfRead (spec.joined_lines c.args.bytes.now)
      (spec.joined 1 (text.lines r)) c.unread-half.result.parts.items c.unread-half.result.unended
      c.unread-half.result.builder)
      (sym c.before_end-rest.ensures) (c.unread-half.ensures (spec.joined_lines c.args.bytes.now));
  numbered = subst (λ (r : List ℕ). 1 + length r ≤ 1 + length c.args.bytes.now) (sym c.before_end-rest.ensures)
      (let within : length (spec.before_end c.args.bytes.now) ≤ length c.args.bytes.now = before_within
      c.args.bytes.now in omega (arith, within));
}

pub returns-in_err-half-clause-told : goal.returns-in_err-half-clause-told
returns-in_err-half-clause-told c =
    let p = err_from_is_err_and c.from_residual-in_err-half.result c.from_residual-in_err-half.ensures.1 in
    let half = c.loop-rest.half in
    rw (p.1, p.2) (tells_whole (verdict [] None (marks c.args.bytes.now)) half.parts.items half.unended
    (joined_of c.in_ok-found.found.joined)
    (spec.joined c.in_ok-found.found.line (text.lines c.in_ok-found.found.rest.now)) c.in_err-half.field-0.0
    c.in_err-half.ensures.told
    (ap (λ (js : List Joined). verdict half.parts.items half.unended (map line_mark js))
    (sym c.in_ok-found.ensures.joined) ∙ c.loop-rest.invariant.stands.fault))

pub loop-rest-preserved : goal.loop-rest-preserved
loop-rest-preserved c =
    let half = c.loop-rest.half in
    let all = spec.joined_lines c.args.bytes.now in
    record {
      stands =
          goes_on all (spec.joined c.in_ok-found.found.line (text.lines c.in_ok-found.found.rest.now))
          (joined_of c.in_ok-found.found.joined)
          half.parts.items c.in_ok-half.half.parts.items half.unended c.in_ok-half.half.unended half.builder
          c.in_ok-half.half.builder c.in_ok-half.ensures.passed
          (subst (λ (js : List Joined). IsHalfRead all js half.parts.items half.unended half.builder)
          c.in_ok-found.ensures.joined c.loop-rest.invariant.stands);
      numbered = omega (arith, c.in_ok-found.ensures.numbered, c.loop-rest.invariant.numbered);
    }

pub returns-clause-read : goal.returns-clause-read
returns-clause-read c =
    all_stand (spec.joined_lines c.args.bytes.now) c.loop-rest.line c.loop-rest.rest.now c.loop-rest.half.parts.items
    c.loop-rest.half.unended c.loop-rest.half.builder c.loop-rest.invariant.stands
    (is_nothing c.loop-rest.rest.now c.is_empty.result c.loop-rest-test.false c.is_empty.ensures)
