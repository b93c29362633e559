use Rattle.std.proofs.Common.{◌≡◌, ◌∙◌, ap, sym, ℕ, Option}
use Rattle.std.specs.Prelude.{option_map}
use Rattle.prg_parser.specs.Verdict as spec
use Rattle.prg_parser.proofs.VerdictLemmas.{at-end}
use Rattle.prg_parser.proofs.HalfReadLemmas.{ends}
use Rattle.prg_parser.proofs.half_read.finished.Goals as goal

pub returns-in-Some-clause-told : goal.returns-in-Some-clause-told
returns-in-Some-clause-told c =
    let ps = c.args.half.parts.items in
    let o = c.args.half.unended in
    let opening : c.opening_line.result ≡ spec.opening_line ps =
    c.opening_line.ensures ∙ ap spec.opening_line c.deref.ensures.0 in
    let line : c.earlier.result ≡ spec.earlier o (spec.opening_line ps) =
    c.earlier.ensures ∙ ap (λ (l : Option ℕ). spec.earlier o l) opening in
    at-end ps o ∙ sym (c.left_open.ensures ∙ ap (λ (l : Option ℕ). option_map spec.block_fault_at l) line)
    ∙ c.in-Some.is

pub returns-in_ok-finish-in-None-clause-whole : goal.returns-in_ok-finish-in-None-clause-whole
returns-in_ok-finish-in-None-clause-whole c =
    let ps = c.args.half.parts.items in
    let o = c.args.half.unended in
    let opening : c.opening_line.result ≡ spec.opening_line ps =
    c.opening_line.ensures ∙ ap spec.opening_line c.deref.ensures.0 in
    let line : c.earlier.result ≡ spec.earlier o (spec.opening_line ps) =
    c.earlier.ensures ∙ ap (λ (l : Option ℕ). spec.earlier o l) opening in
    ends ps o c.args.half.builder c.in_ok-finish-in-None.field-0
    (sym (c.left_open.ensures ∙ ap (λ (l : Option ℕ). option_map spec.block_fault_at l) line) ∙ c.in-None.is)
    c.in_ok-finish-in-None.ensures.lines c.in_ok-finish-in-None.ensures.unnamed
