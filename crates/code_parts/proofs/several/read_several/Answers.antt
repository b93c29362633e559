use Rattle.std.proofs.lemmas.Result.{err_from_is_err_and}
use Rattle.code_parts.specs.Reading.{several, in_list}
use Rattle.code_parts.proofs.Loops.{goes_on, ends, is_done}
use Rattle.code_parts.proofs.several.read_several.Goals as goal

pub returns-in_err-one : goal.returns-in_err-one
returns-in_err-one g c =
    let p = err_from_is_err_and c.from_residual.result c.from_residual.ensures.1 in
    let one = g.R.Reads.at c.args.reader.now in
    rw (p.1, p.2) (ends one c.in_err-one.field-0.0 (in_list c.loop.things) c.args.count c.loop.counter c.loop.rest.now
    (several one c.args.count c.args.bytes.now) c.loop-test.true c.in_err-one.ensures c.loop.invariant)

pub loop-preserved : goal.loop-preserved
loop-preserved g c =
    let one = g.R.Reads.at c.args.reader.now in
    rw c.in_ok-things.ensures (goes_on one (in_list c.loop.things) c.args.count c.loop.counter c.loop.rest.now
    c.in_ok-one.one c.in_ok-one.after.now (several one c.args.count c.args.bytes.now) c.loop-test.true
    c.in_ok-one.ensures c.loop.invariant)

pub returns : goal.returns
returns g c =
    let one = g.R.Reads.at c.args.reader.now in
    is_done one (in_list c.loop.things) c.args.count c.loop.counter c.loop.rest.now
    (several one c.args.count c.args.bytes.now) c.loop-test.false c.loop.invariant
