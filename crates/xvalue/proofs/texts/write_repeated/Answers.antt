use Rattle.std.proofs.Common.{◌≡◌, ◌∙◌, ap, arith}
use Rattle.std.specs.Prelude.{min}
use Rattle.xvalue.specs.Texts.{fitting, repeated}
use Rattle.xvalue.proofs.TextLemmas.{repeated_more, repeated-most}
use Rattle.xvalue.proofs.texts.write_repeated.Goals as goal

pub loop-preserved : goal.loop-preserved
loop-preserved c = repeated_more c.loop.counter c.args.bytes.now c.loop.text.items c.append.new.text.items
    c.loop.invariant c.append.ensures

pub returns : goal.returns
returns c =
    c.loop.invariant
    ∙ ap (λ n. fitting (repeated n c.args.bytes.now))
    (let h : c.loop.counter ≡ min c.args.count 254 = omega
    (arith, c.loop-test.false, c.loop.auto.counter-end, c.min-end.ensures) in h)
    ∙ repeated-most c.args.count c.args.bytes.now
