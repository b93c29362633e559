use Rattle.std.proofs.Common.{None, [], refl, sym, ap, subst, ◌∙◌}
use Rattle.std.specs.Prelude.{replicate}
use Rattle.code_items.specs.declared.code.Code.{Code}
use Rattle.run_values.specs.declared.untagged.Untagged.{Untagged}
use Rattle.run_values.specs.Standing.{IsByKind}
use Rattle.run_steps.specs.Opening.{opening}
use Rattle.run_steps.specs.Tables.{IsDecoded}
use Rattle.machine.specs.Twins.{banks_of}
use Rattle.machine.proofs.Runs.{agrees}
use Rattle.machine.proofs.banks.Banks.opening.Goals as goal

pub returns : goal.returns
returns g c =
    let code = c.args.verified.now in
    let m = c.in_ok-opening.field-0 in
    let free = subst (λ n. IsByKind c.in_ok-values.values (record { slots = replicate n None; stack = [] }))
    (c.from.ensures ∙ ap (λ (k : Code). k.declared.slots) c.code.ensures.same) c.in_ok-values.ensures.stands in
    record {
      store = c.args.store;
      lines = c.args.lines;
      today = c.args.today;
      declared = c.requires;
      opens = refl;
      agrees = agrees (banks_of m c.of-decoded.result) (opening code c.args.store c.args.lines c.args.today)
          (c.in_ok-opening.ensures.opens code (c.of-decoded.ensures.stands _ free));
      decoded = subst (λ (v : Untagged). IsDecoded code v.cells.registers c.of-decoded.result)
          (sym c.in_ok-opening.ensures.values)
          (subst (λ k. IsDecoded k c.of-decoded.new.values.cells.registers c.of-decoded.result) c.code-2.ensures.same
          c.of-decoded.ensures.decoded);
    }
