use Rattle.std.proofs.Common.{◌≡◌, ◌++◌, drop}
use Rattle.folder_shapes.specs.Owners.{lists, numbers_of}
use Rattle.folder_shapes.proofs.owners.listed.Given as goal

abbrev pub invariant-loop-t : goal.invariant-loop-t
invariant-loop-t l =
    l.numbers.items ++ numbers_of (lists l.tree.form.key_length l.plain l.tree.pairs) l.t (drop l.t l.tables)
    ≡ numbers_of (lists l.tree.form.key_length l.plain l.tree.pairs) 0 l.tables
