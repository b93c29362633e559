use Rattle.std.proofs.Common.{◌∙◌, sym, length, arith}
use Rattle.std.proofs.lemmas.List.{length-drop}
use Rattle.dbf_file.proofs.FaultLemmas.{room_turn}
use Rattle.dbf_file.proofs.WriteLemmas.{rows_turn, rows_done}
use Rattle.dbf_file.proofs.writing.put_rows.Goals as goal

pub loop-preserved : goal.loop-preserved
loop-preserved c =
    let rest = c.loop.rest.now in
    let room = room_turn c.args.size c.args.count c.loop.counter (length rest) c.loop-test.true c.loop.invariant.0 in
    rw c.split_at.ensures.back (
      omega (arith, room, length-drop c.args.size rest),
      λ ws right. rows_turn ws c.args.size c.args.count c.loop.counter c.loop.out.items _ _ rest right c.loop-test.true
          c.split_at.ensures.front c.in_ok-put_record.ensures ∙ c.loop.invariant.1 ws right,
    )

pub returns : goal.returns
returns c = λ ws right. sym (rows_done ws c.args.count c.loop.counter c.loop.out.items c.loop.rest.now (omega arith))
    ∙ c.loop.invariant.1 ws right
