use Rattle.std.proofs.Common.{◌+◌, take}
use Rattle.prg_code.proofs.Growth.{grown_twice}
use Rattle.prg_values.proofs.Emitting.{one_more, take_next}
use Rattle.prg_values.proofs.compiling.all_numbered.Goals as goal

pub loop-piece-preserved : goal.loop-piece-preserved
loop-piece-preserved c =
    let i = c.loop-piece.piece-index in
    record {
      are = one_more c.loop-piece.pool c.numbered.new.pool (take i c.args.pieces.now) c.loop-piece.code.items
          c.piece-item.result c.in_ok-numbered.field-0 (take (i + 1) c.args.pieces.now) c.push.new.self.items
          (take_next c.args.pieces.now i c.piece-item.result c.loop-piece-test.true c.piece-item.is)
          c.in_ok-push.ensures.items c.in_ok-numbered.ensures.grown c.loop-piece.invariant.are
          c.in_ok-numbered.ensures.is;
      grown = grown_twice c.args.pool.now c.loop-piece.pool c.numbered.new.pool c.loop-piece.invariant.grown
          c.in_ok-numbered.ensures.grown;
    }
