use Rattle.std.proofs.Common.{◌≡◌, ◌∙◌, ◌&&◌, sym, ap, true, false, Bool, get_or, drop, length, arith, ◌-◌, ◌+◌}
use Rattle.std.proofs.lemmas.List.{length-drop}
use Rattle.dbf_file.specs.Rows.{is_mark, are_marked}
use Rattle.dbf_file.proofs.FaultLemmas.{marks_turn, marks_none, room_turn, mark_front}
use Rattle.dbf_file.proofs.reading.are_marked.Goals as goal

pub returns-then-not-is_mark : goal.returns-then-not-is_mark
returns-then-not-is_mark c =
    let rest = c.loop.rest.now in
    let mark : is_mark (get_or rest 0 0) ≡ false =
    mark_front c.args.size _ rest c.requires.some c.split_at.ensures.front ∙ sym c.if-not-is_mark.ensures in
    sym (sym c.loop.invariant.1 ∙ marks_turn c.args.size c.args.count c.loop.counter rest c.loop-test.true
    ∙ ap (λ (b : Bool). b && are_marked c.args.size (c.args.count - (c.loop.counter + 1)) (drop c.args.size rest))
    mark)

pub loop-preserved : goal.loop-preserved
loop-preserved c =
    let rest = c.loop.rest.now in
    let mark : is_mark (get_or rest 0 0) ≡ true =
    mark_front c.args.size _ rest c.requires.some c.split_at.ensures.front ∙ sym c.if-not-is_mark.ensures in
    let turn = sym (marks_turn c.args.size c.args.count c.loop.counter rest c.loop-test.true
    ∙ ap (λ (b : Bool). b && are_marked c.args.size (c.args.count - (c.loop.counter + 1)) (drop c.args.size rest))
    mark) ∙ c.loop.invariant.1 in
    let room = room_turn c.args.size c.args.count c.loop.counter (length rest) c.loop-test.true c.loop.invariant.0 in
    rw c.split_at.ensures.back (omega (arith, room, length-drop c.args.size rest), turn)

pub returns : goal.returns
returns c = sym (marks_none c.args.size c.args.count c.loop.counter _ (omega arith)) ∙ c.loop.invariant.1
