use Rattle.std.proofs.Common.{◌≡◌, length, take}
use Rattle.std.specs.Prelude.{map}
use Rattle.run_steps.specs.World.{area_state}
use Rattle.tagged_machine.proofs.areas.TenAreas.show.Given as goal

abbrev pub invariant-loop-number : goal.invariant-loop-number
invariant-loop-number g l = record {
  selected : l.self-inside.desk.selected ≡ l.store.selected;
  long : length l.self-inside.desk.areas ≡ 10;
  filled : take l.number l.self-inside.desk.areas ≡ take l.number (map (area_state l.store.tables) l.store.areas);
}
