use Rattle.std.proofs.Common.{None, ◌∙◌, sym, ap, subst}
use Rattle.std.specs.Prelude.{replicate}
use Rattle.code_items.specs.Legal.{IsCode}
use Rattle.code_items.specs.declared.code.Code.{Code}
use Rattle.run_values.specs.Standing.{TaggedState}
use Rattle.run_steps.specs.Opening.{opening}
use Rattle.fit_laws.specs.Fits.{IsFitting}
use Rattle.tagged_machine.proofs.Going.{opened}
use Rattle.tagged_machine.proofs.Worlds.{same_world}
use Rattle.tagged_machine.proofs.world.World.opening.Goals as goal

pub returns-clause-shape : goal.returns-clause-shape
returns-clause-shape g c =
    let code = c.args.code.now in
    let legal = subst IsCode c.code.ensures.same c.code.ensures.legal in
    let slots = c.from.ensures ∙ ap (λ (code : Code). code.declared.slots) c.code.ensures.same in
    opened c.openings_have_the_shape.ensures code c.args.store c.args.lines c.args.today
    c.in_ok-opening.field-0 legal c.requires.fits (c.in_ok-opening.ensures.opens code (record {
      slots = ap (λ (s : TaggedState). s.slots) c.in_ok-values.ensures ∙ ap (λ n. replicate n None) slots;
      stack = ap (λ (s : TaggedState). s.stack) c.in_ok-values.ensures;
    }))

pub returns-clause-fits : goal.returns-clause-fits
returns-clause-fits g c = λ accepted.
    let code = c.args.code.now in
    let legal = subst IsCode c.code.ensures.same c.code.ensures.legal in
    let slots = c.from.ensures ∙ ap (λ (code : Code). code.declared.slots) c.code.ensures.same in
    let stands = c.in_ok-opening.ensures.opens code (record {
      slots = ap (λ (s : TaggedState). s.slots) c.in_ok-values.ensures ∙ ap (λ n. replicate n None) slots;
      stack = ap (λ (s : TaggedState). s.stack) c.in_ok-values.ensures;
    }) in
    subst (IsFitting code) (sym (same_world c.in_ok-opening.field-0 (opening code c.args.store c.args.lines c.args.today)
    stands)) (c.openings_fit.ensures code c.args.store c.args.lines c.args.today legal accepted c.requires.fits)
