use Rattle.std.proofs.Common.{◌≡◌, ◌≤◌, ◌+◌, ◌++◌, length, map, take}
use Rattle.std.specs.Char.{to_ascii_uppercase}
use Rattle.prg_expr.proofs.names.name_of.Given as goal

abbrev pub invariant-loop-letter : goal.invariant-loop-letter
invariant-loop-letter l = (l.name.items ++ map to_ascii_uppercase l.rest ≡ take 10 (map to_ascii_uppercase l.word))
    × (length l.name.items + length l.rest ≤ 10)

abbrev pub decreases-loop-letter : goal.decreases-loop-letter
decreases-loop-letter l = length l.rest
