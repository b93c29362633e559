use Rattle.std.proofs.Common.{◌≡◌, ℕ, ◌<◌, ◌≤◌, Some, length, get_or}
use Rattle.std.specs.Prelude.{slice_get}
use Rattle.dbf_file.specs.Tables.{TableState}
use Rattle.shape.specs.declared.tables.TableShape.{TableShape}
use Rattle.work_area.specs.Making.{HaveAlikeFields}
use Rattle.work_area.proofs.handed.are_of_shape.Given as goal

abbrev pub invariant-loop-t : goal.invariant-loop-t
invariant-loop-t l = record {
  fields : (k : ℕ) (d : TableState) (s : TableShape) → k < l.t → slice_get l.shape.tables k ≡ Some s
      → HaveAlikeFields (get_or l.tables.items k d).structure.fields s.fields;
  few : (k : ℕ) (d : TableState) → k < l.t → length (get_or l.tables.items k d).rows ≤ l.limit;
}
