use Rattle.std.proofs.Common.{◌≡◌, ◌≤◌, ◌+◌, ◌*◌, length}
use Rattle.shape.specs.Keys.{key_bytes}
use Rattle.shape.proofs.parts.bytes_in.Given as goal

abbrev pub invariant-loop-part : goal.invariant-loop-part
invariant-loop-part l =
    (l.bytes + key_bytes l.fields l.rest ≡ key_bytes l.fields l.parts) × (l.bytes + 256 * length l.rest ≤ 2048)

abbrev pub decreases-loop-part : goal.decreases-loop-part
decreases-loop-part l = length l.rest
