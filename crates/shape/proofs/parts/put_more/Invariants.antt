use Rattle.std.proofs.Common.{◌≡◌, ◌≤◌, ◌+◌, ◌*◌, ◌++◌, length}
use Rattle.shape.specs.Keys.{more_spelled}
use Rattle.shape.proofs.parts.put_more.Given as goal

abbrev pub invariant-loop-part : goal.invariant-loop-part
invariant-loop-part l = record {
  text : l.text.items ++ more_spelled l.fields l.rest ≡ l.fn.text.items ++ more_spelled l.fields l.parts;
  room : length l.text.items + 18 * length l.rest ≤ 143;
}

abbrev pub decreases-loop-part : goal.decreases-loop-part
decreases-loop-part l = length l.rest
