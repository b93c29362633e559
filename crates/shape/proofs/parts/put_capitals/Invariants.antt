use Rattle.std.proofs.Common.{◌≡◌, ◌≤◌, ◌+◌, ◌++◌, length, map}
use Rattle.std.specs.Char.{to_ascii_uppercase}
use Rattle.shape.proofs.parts.put_capitals.Given as goal

abbrev pub invariant-loop-letter : goal.invariant-loop-letter
invariant-loop-letter l = (l.key.items ++ map to_ascii_uppercase l.rest
    ≡ l.fn.key.items ++ map to_ascii_uppercase l.text) × (length l.key.items + length l.rest ≤ 100)

abbrev pub decreases-loop-letter : goal.decreases-loop-letter
decreases-loop-letter l = length l.rest
