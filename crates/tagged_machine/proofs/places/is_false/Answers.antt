use Rattle.std.proofs.Common.{◌∙◌, sym, refl}
use Rattle.run_values.specs.Standing.{tagged_of}
use Rattle.tagged_machine.proofs.Held.{not_false, truth_on_top, false_there}
use Rattle.tagged_machine.proofs.places.is_false.Goals as goal

pub truth-requires : goal.truth-requires
truth-requires c = (
  tagged_of c.args.values.now,
  (
    record { slots = refl; stack = refl },
    truth_on_top c.kinds.result.now c.args.values.now.stack c.in-Some.kind.now
        c.kinds.ensures c.in-Some.ensures.value (sym c.if-is.ensures),
  ),
)

pub returns-then-is : goal.returns-then-is
returns-then-is c =
    let top = truth_on_top c.kinds.result.now c.args.values.now.stack c.in-Some.kind.now c.kinds.ensures
    c.in-Some.ensures.value (sym c.if-is.ensures) in
    false_there c.args.values.now.stack c.truth.result
    (c.truth.ensures (tagged_of c.args.values.now) (record { slots = refl; stack = refl }) top)

pub returns-else-is : goal.returns-else-is
returns-else-is c =
    c.if-is.false ∙ not_false c.kinds.result.now c.args.values.now.stack c.in-Some.kind.now c.kinds.ensures
    c.in-Some.ensures.value (sym c.if-is.ensures)
