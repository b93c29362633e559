-- A finished code with what is known of it, as the checker holds it.
use Rattle.std.specs.Prelude.{◌≡◌, ℕ, List, Some, slice_get}
use Rattle.shape.specs.declared.lists.IndexList.{IndexList}
use Rattle.prg_commands.specs.Layout.{Laying}
use Rattle.prg_values.specs.Placed as placed
use Rattle.prg_laid.specs.declared.layout.Layout.{Layout}

abbrev pub laying : Layout → Laying
laying l = record {
  text = placed.text l.text;
  declared = l.declared.now;
  names = l.names.now;
  known = l.known.now;
  filters = l.filters.now;
}

-- the declared list of a number, counted from 0, is that of the indexes of these numbers
abbrev pub IsDeclaredList : Laying → List ℕ → ℕ → Type 0
IsDeclaredList f indexes n = (list : IndexList) × (slice_get f.declared.lists n ≡ Some list) × (list.indexes.items ≡ indexes)
