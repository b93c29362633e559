use Rattle.std.proofs.Common.{ap, sym, ◌∙◌, arith}
use Rattle.run_values.specs.Operands.{FromSlot}
use Rattle.run_values.proofs.CellRows.{slot_at, register_at}
use Rattle.run_values.proofs.Keeping.{kept, stands_for, given, number_in_slot, number_in_register}
use Rattle.run_values.proofs.tagged.TaggedRegistered.put_number.Goals as goal

pub invariant_of-self : goal.invariant_of-self
invariant_of-self c =
    let t = c.requires.0 in
    let k = given _ _ _ _ t c.self.view_is c.self.invariant c.requires.1.0 in
    let at = slot_at c.args.to.place (omega (arith, c.if-to-lt-SLOT_PLACES.true)) in
    kept _ _ _ _ (number_in_slot _ _ _ _ t _ _ c.args.number k (at ∙ ap (λ n. FromSlot n) (sym c.from.ensures))
    (c.put_number.ensures.stands t k.stands))

pub invariant_of-self-else-to-lt-SLOT_PLACES : goal.invariant_of-self-else-to-lt-SLOT_PLACES
invariant_of-self-else-to-lt-SLOT_PLACES c =
    let t = c.requires.0 in
    let k = given _ _ _ _ t c.self.view_is c.self.invariant c.requires.1.0 in
    let at = register_at c.args.to.place (omega (arith, c.if-to-lt-SLOT_PLACES.false)) in
    kept _ _ _ _ (number_in_register _ _ _ _ t _ _ c.args.number k at (c.put_number.ensures.stands t k.stands))

pub returns-then-to-lt-SLOT_PLACES-clause-stands : goal.returns-then-to-lt-SLOT_PLACES-clause-stands
returns-then-to-lt-SLOT_PLACES-clause-stands c = λ t s.
    let k = given _ _ _ _ t c.self.view_is c.self.invariant s in
    let at = slot_at c.args.to.place (omega (arith, c.if-to-lt-SLOT_PLACES.true)) in
    stands_for _ _ _ _ (number_in_slot _ _ _ _ t _ _ c.args.number k (at ∙ ap (λ n. FromSlot n) (sym c.from.ensures))
    (c.put_number.ensures.stands t k.stands))

pub returns-else-to-lt-SLOT_PLACES-clause-stands : goal.returns-else-to-lt-SLOT_PLACES-clause-stands
returns-else-to-lt-SLOT_PLACES-clause-stands c = λ t s.
    let k = given _ _ _ _ t c.self.view_is c.self.invariant s in
    let at = register_at c.args.to.place (omega (arith, c.if-to-lt-SLOT_PLACES.false)) in
    stands_for _ _ _ _ (number_in_register _ _ _ _ t _ _ c.args.number k at (c.put_number.ensures.stands t k.stands))
