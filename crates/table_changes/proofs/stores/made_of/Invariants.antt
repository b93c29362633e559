use Rattle.std.proofs.Common.{◌≡◌, length}
use Rattle.table_changes.specs.Stores.{EachMade}
use Rattle.table_changes.proofs.stores.made_of.Given as goal

abbrev pub invariant-loop-n : goal.invariant-loop-n
invariant-loop-n g l = (length l.made.items ≡ l.n) × EachMade l.fresh l.store l.made.items
