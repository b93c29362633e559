use Rattle.std.proofs.Common.{◌≡◌, ℕ, ◌<◌, None, Some, get_or}
use Rattle.std.specs.Prelude.{slice_get, IfSome}
use Rattle.shape.specs.declared.indexes.IndexShape.{IndexShape}
use Rattle.shape.specs.declared.tables.TableShape.{TableShape}
use Rattle.work_area.specs.Making.{key_form}
use Rattle.work_area.proofs.handed.are_lists.Given as goal

abbrev pub invariant-loop-n : goal.invariant-loop-n
invariant-loop-n g l = (k : ℕ) (x : IndexShape) (s : TableShape) → k < l.n → slice_get l.shape.indexes k ≡ Some x
    → slice_get l.shape.tables x.table ≡ Some s → IfSome (get_or l.keys.items k None)
    (λ a. g.K.KeyList.form a ≡ key_form s x)
