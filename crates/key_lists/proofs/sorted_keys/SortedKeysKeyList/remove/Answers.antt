use Rattle.key_lists.proofs.Sound.{IsKeyList-without}
use Rattle.key_lists.proofs.sorted_keys.SortedKeysKeyList.remove.Goals as goal

pub invariant_of-self : goal.invariant_of-self
invariant_of-self c = rw c.take_out.ensures.pairs
    (IsKeyList-without _ (c.args.key.now, c.args.number) _ c.self.invariant)

pub returns-clause-sound : goal.returns-clause-sound
returns-clause-sound c =
    rw c.take_out.ensures.pairs (IsKeyList-without _ (c.args.key.now, c.args.number) _ c.self.invariant)
