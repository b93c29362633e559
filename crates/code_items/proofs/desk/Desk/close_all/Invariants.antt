use Rattle.std.proofs.Common.{◌≡◌, ◌++◌, drop, replicate}
use Rattle.code_items.specs.declared.desk.AreaState.TheVariants.{Closed}
use Rattle.code_items.proofs.desk.Desk.close_all.Given as goal

abbrev pub invariant-loop-number : goal.invariant-loop-number
invariant-loop-number l = record {
  selected : l.self.selected ≡ 1;
  areas : l.self.areas ≡ replicate l.number Closed ++ drop l.number l.initial.self.areas;
}
