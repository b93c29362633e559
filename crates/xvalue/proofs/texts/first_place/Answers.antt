use Rattle.std.proofs.Common.{◌≡◌, ◌∙◌, ap, sym, true, false, drop}
use Rattle.xvalue.specs.Texts.{text_begins_with, first_place}
use Rattle.xvalue.proofs.TextLemmas.{first_place-passed, first_place-there}
use Rattle.xvalue.proofs.texts.first_place.Goals as goal

pub returns-then-begins_with-clause-value : goal.returns-then-begins_with-clause-value
returns-then-begins_with-clause-value c =
    let there : text_begins_with (drop c.loop-place.place c.args.bytes.now) c.args.part.now
    ≡ true = ap (λ ds. text_begins_with ds c.args.part.now) (sym c.behind.ensures) ∙ sym c.begins_with.ensures
    ∙ c.if-begins_with.true in
    first_place-there c.args.part.now (drop c.loop-place.place c.args.bytes.now) c.loop-place.place
    (first_place c.args.part.now c.args.bytes.now) there c.loop-place.invariant

pub loop-place-preserved : goal.loop-place-preserved
loop-place-preserved c =
    let there : text_begins_with (drop c.loop-place.place c.args.bytes.now) c.args.part.now
    ≡ false = ap (λ ds. text_begins_with ds c.args.part.now) (sym c.behind.ensures)
    ∙ sym c.begins_with.ensures ∙ c.if-begins_with.false in
    first_place-passed c.args.part.now c.args.bytes.now c.loop-place.place c.loop-place-test.true there
    ∙ c.loop-place.invariant
