use Rattle.std.proofs.Common.{◌≡◌, map, take}
use Rattle.table_changes.specs.Rows.{texts_of}
use Rattle.table_changes.proofs.rows.texts_of.Given as goal

abbrev pub invariant-loop-r : goal.invariant-loop-r
invariant-loop-r l = map (λ text. text.items) l.texts.items ≡ texts_of (take l.r l.fn.table.rows)
