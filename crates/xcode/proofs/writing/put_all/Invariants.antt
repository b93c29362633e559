use Rattle.std.proofs.Common.{◌≡◌, ◌++◌, take}
use Rattle.std.specs.List.{flat_map}
use Rattle.xcode.proofs.writing.put_all.Given as goal

abbrev pub invariant-loop-thing : goal.invariant-loop-thing
invariant-loop-thing g l = l.out.items ≡ l.fn.out.items ++ flat_map g.T.Writes.text (take l.thing-index l.things)
