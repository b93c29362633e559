use Rattle.std.proofs.Common.{◌≡◌, true, false, [], sym, ap, ◌∙◌, List}
use Rattle.std.proofs.lemmas.Result.{err_from_is_err_and}
use Rattle.xcode.specs.Decoding.{items_at}
use Rattle.xcode.proofs.Loops.{goes_on, ends, is_refused, is_done}
use Rattle.xcode.proofs.sections.items_of.Goals as goal

pub returns-in_err-one : goal.returns-in_err-one
returns-in_err-one g c =
    let p = err_from_is_err_and c.from_residual.result c.from_residual.ensures.1 in
    let one = g.R.Reads.at c.args.reader.now in
    let follows = g.J.Judges.follows c.args.judge.now in
    rw (p.1, p.2) (ends one follows c.in_err-one.field-0.0 c.args.count c.loop.counter c.loop.things.items
    c.loop.rest.now (items_at one follows c.args.count [] c.args.bytes.now) c.loop-test.true c.in_err-one.ensures
    c.loop.invariant)

pub returns-then-not-may_follow : goal.returns-then-not-may_follow
returns-then-not-may_follow g c =
    let one = g.R.Reads.at c.args.reader.now in
    let follows = g.J.Judges.follows c.args.judge.now in
    let illegal : follows c.loop.things.items c.in_ok-one.one ≡ false =
    ap (λ (l : List _). follows l c.in_ok-one.one) (sym c.as_slice.ensures.value) ∙ sym c.may_follow.ensures
    ∙ c.if-not-may_follow.true in
    is_refused one follows c.args.count c.loop.counter c.loop.things.items c.loop.rest.now c.in_ok-one.one
    c.in_ok-one.after.now (items_at one follows c.args.count [] c.args.bytes.now) c.loop-test.true
    c.in_ok-one.ensures illegal c.loop.invariant

pub loop-preserved : goal.loop-preserved
loop-preserved g c =
    let one = g.R.Reads.at c.args.reader.now in
    let follows = g.J.Judges.follows c.args.judge.now in
    let legal : follows c.loop.things.items c.in_ok-one.one ≡ true =
    ap (λ (l : List _). follows l c.in_ok-one.one) (sym c.as_slice.ensures.value) ∙ sym c.may_follow.ensures
    ∙ c.if-not-may_follow.false in
    rw c.in_ok-push.ensures.items (goes_on one follows c.args.count c.loop.counter c.loop.things.items c.loop.rest.now
    c.in_ok-one.one c.in_ok-one.after.now
    (items_at one follows c.args.count [] c.args.bytes.now) c.loop-test.true c.in_ok-one.ensures legal
    c.loop.invariant)

pub returns : goal.returns
returns g c =
    let one = g.R.Reads.at c.args.reader.now in
    let follows = g.J.Judges.follows c.args.judge.now in
    is_done one follows c.args.count c.loop.counter c.loop.things.items c.loop.rest.now
    (items_at one follows c.args.count [] c.args.bytes.now) c.loop-test.false c.loop.invariant
