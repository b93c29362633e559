use Rattle.std.proofs.Common.{◌≡◌, true, false, not, rules, arith}
use Rattle.std.proofs.lemmas.Bool.{not-true, not-false}
use Rattle.std.proofs.lemmas.List.Sorted.{IsPartitionPoint-from_clause}
use Rattle.key_lists.specs.Pairs.{Pair, is_before}
use Rattle.key_lists.proofs.Ordered.{Each-take, Each-drop, parted, above-parted}
use Rattle.key_lists.proofs.PairOrder.{not_after_down}
use Rattle.key_lists.proofs.sorted_keys.place_after.Goals as goal

pub returns-clause-rest : goal.returns-clause-rest
returns-clause-rest c =
    let x : Pair = (c.args.key.now, c.args.number) in
    let point = IsPartitionPoint-from_clause (λ p. not (is_before x p)) _ _ c.partition_point.ensures.partitioned
    (parted is_before (λ p. not (is_before x p)) (not_after_down x) _ c.requires) (λ a r g called. search rules) in
    above-parted (is_before x) _ _
    (Each-take (λ p. is_before x p ≡ false) _ _ (λ k d lt. not-true _ (point.0 k d (omega arith) lt))
    c.partition_point.ensures.bound)
    (Each-drop (λ p. is_before x p ≡ true) _ _ (λ k d le lt. not-false _ (point.1 k d le lt)))
