use Rattle.std.proofs.Common.{◌≡◌, ◌+◌, ◌∷◌, ℕ, List, [], Some, None, sym, subst, ap, ◌∙◌, arith}
use Rattle.prg_parser.specs.Lines as spec
use Rattle.text_lines.specs.Lines as text
use Rattle.prg_parser.specs.Lines.{Joined}
use Rattle.prg_parser.proofs.JoinLemmas.{starts, goes_on, ends, stops, is_nothing}
use Rattle.folder_shapes.proofs.joining.join_line.Goals as goal

pub loop-rest-init : goal.loop-rest-init
loop-rest-init c =
    let all = spec.joined c.args.first (text.lines c.args.bytes.now) in
    record {
      joined =
          subst (λ (t : List ℕ). spec.glue c.args.first t all ≡ all) (sym c.new-text.ensures.items)
          (starts c.args.first c.args.bytes.now c.requires.some);
      within = omega arith;
      numbered = omega arith;
    }

pub returns-in_default-clause-joined : goal.returns-in_default-clause-joined
returns-in_default-clause-joined c =
    let found = c.first_line.result.0.now in
    let others = text.lines c.first_line.result.1.now in
    let none : spec.continued found ≡ None = sym c.in_default.ensures in
    sym c.loop-rest.invariant.joined
    ∙ ends c.args.first c.loop-rest.line c.loop-rest.text.items found others (text.lines c.loop-rest.rest.now) none
    c.first_line.ensures.first
    ∙ ap (λ (t : List ℕ). let j : Joined = record { first = c.args.first; text = t } in j ∷ spec.joined
    (c.loop-rest.line + 1) others) (sym c.in_ok-extend_from_slice.ensures.items)

pub loop-rest-preserved : goal.loop-rest-preserved
loop-rest-preserved c =
    let found = c.first_line.result.0.now in
    let others = text.lines c.first_line.result.1.now in
    let some : spec.continued found ≡ Some c.in-Some.front.now = sym c.in-Some.ensures in
    record {
      joined =
          ap (λ (t : List ℕ). spec.glue c.args.first t (spec.joined (c.loop-rest.line + 1) others))
          c.in_ok-extend_from_slice-2.ensures.items
          ∙ sym (goes_on c.args.first c.loop-rest.line c.loop-rest.text.items found c.in-Some.front.now others
          (text.lines c.loop-rest.rest.now) some c.first_line.ensures.first)
          ∙ c.loop-rest.invariant.joined;
      within = omega (arith, c.first_line.ensures.shorter, c.loop-rest.invariant.within);
      numbered = omega (arith, c.first_line.ensures.shorter, c.loop-rest.invariant.numbered);
    }

pub returns-clause-joined : goal.returns-clause-joined
returns-clause-joined c =
    let nothing : c.loop-rest.rest.now ≡ [] =
    is_nothing c.loop-rest.rest.now c.is_empty.result c.loop-rest-test.false c.is_empty.ensures in
    sym c.loop-rest.invariant.joined
    ∙ stops c.args.first c.loop-rest.line c.loop-rest.text.items c.loop-rest.rest.now nothing
