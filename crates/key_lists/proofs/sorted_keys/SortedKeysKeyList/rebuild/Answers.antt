use Rattle.key_lists.proofs.Sound.{IsKeyList-rebuilt}
use Rattle.key_lists.proofs.sorted_keys.SortedKeysKeyList.rebuild.Goals as goal

pub invariant_of-result : goal.invariant_of-result
invariant_of-result c =
    IsKeyList-rebuilt _ _ _ c.requires.key_length c.requires.keys c.requires.distinct c.put_in_order.ensures.pairs

pub returns-clause-sound : goal.returns-clause-sound
returns-clause-sound c =
    IsKeyList-rebuilt _ _ _ c.requires.key_length c.requires.keys c.requires.distinct c.put_in_order.ensures.pairs
