use Rattle.std.proofs.Common.{take}
use Rattle.std.specs.List.{AllZip}
use Rattle.prg_code.specs.Numbers.{Grows}
use Rattle.prg_values.specs.Written.{IsPiece}
use Rattle.prg_values.proofs.compiling.all_numbered.Given as goal

abbrev pub invariant-loop-piece : goal.invariant-loop-piece
invariant-loop-piece l = record {
  are : AllZip (IsPiece l.pool) (take l.piece-index l.pieces) l.code.items;
  grown : Grows l.initial.pool l.pool;
}
