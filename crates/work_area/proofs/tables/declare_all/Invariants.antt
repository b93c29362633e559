use Rattle.std.proofs.Common.{◌≡◌, ◌≤◌, ℕ, None, List, [], length, get_or, take}
use Rattle.dbf_file.specs.Tables.{TableState}
use Rattle.work_area.specs.Making.{AreReady, AreNewTables, lists_just}
use Rattle.work_area.proofs.tables.declare_all.Given as goal

abbrev pub invariant-loop-n : goal.invariant-loop-n
invariant-loop-n g l = record {
  ready : AreReady l.shape l.made.items;
  count : length l.keys.items ≡ length l.fn.keys.items;
  later : (k : ℕ) → l.n ≤ k → get_or l.keys.items k None ≡ get_or l.fn.keys.items k None;
  made : (tables : List TableState) → AreNewTables l.shape (lists_just g.K.KeyList.pairs l.fn.keys.items) [] tables
      l.fn.made.items → AreNewTables l.shape (lists_just g.K.KeyList.pairs l.fn.keys.items) (take l.n l.shape.indexes)
      tables l.made.items;
}
