use Rattle.std.proofs.Common.{◌≡◌, true, false, not, rules, ap, arith}
use Rattle.std.proofs.lemmas.List.Sorted.{IsPartitionPoint-from_clause}
use Rattle.key_lists.specs.Pairs.{Pair, key_before}
use Rattle.key_lists.specs.Pairs.{is_before}
use Rattle.key_lists.proofs.Ordered.{Each-take, Each-drop, parted, above-parted}
use Rattle.key_lists.proofs.PairOrder.{key_before_down}
use Rattle.key_lists.proofs.sorted_keys.place_from.Goals as goal

pub returns-clause-rest : goal.returns-clause-rest
returns-clause-rest c =
    let x = c.args.key.now in
    let point = IsPartitionPoint-from_clause (λ (p : Pair). key_before p.0 x) _ _ c.partition_point.ensures.partitioned
    (parted is_before (λ (p : Pair). key_before p.0 x) (key_before_down x) _ c.requires)
    (λ a r g called. search rules) in
    above-parted (λ (p : Pair). not (key_before p.0 x)) _ _
    (Each-take (λ (p : Pair). not (key_before p.0 x) ≡ false) _ _ (λ k d lt. ap not (point.0 k d (omega arith) lt))
    c.partition_point.ensures.bound)
    (Each-drop (λ (p : Pair). not (key_before p.0 x) ≡ true) _ _ (λ k d le lt. ap not (point.1 k d le lt)))
