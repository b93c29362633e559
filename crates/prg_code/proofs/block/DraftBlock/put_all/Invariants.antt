use Rattle.std.proofs.Common.{◌≡◌, take}
use Rattle.prg_code.specs.Growth.{BlockGrows, Puts}
use Rattle.prg_code.proofs.block.DraftBlock.put_all.Given as goal

abbrev pub invariant-loop-instr : goal.invariant-loop-instr
invariant-loop-instr l = record {
  put : Puts (take l.instr-index l.instrs) l.initial.self l.self;
  grown : BlockGrows l.initial.self l.self;
  reached : l.self.reached ≡ l.initial.self.reached;
}
