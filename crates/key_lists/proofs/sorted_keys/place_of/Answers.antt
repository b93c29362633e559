use Rattle.std.proofs.Common.{◌≡◌, true, false, rules, arith}
use Rattle.std.proofs.lemmas.List.Sorted.{IsPartitionPoint-from_clause}
use Rattle.key_lists.specs.Pairs.{Pair, is_before}
use Rattle.key_lists.proofs.Ordered.{Each-take, Each-drop, parted, below-parted, inserted-parted}
use Rattle.key_lists.proofs.PairOrder.{is_before_strict}
use Rattle.key_lists.proofs.sorted_keys.place_of.Goals as goal

pub returns : goal.returns
returns c =
    let x : Pair = (c.args.key.now, c.args.number) in
    let point = IsPartitionPoint-from_clause (λ p. is_before p x) _ _ c.partition_point.ensures.partitioned
    (parted is_before (λ p. is_before p x) (λ p q e f. is_before_strict.trans p q x e f) _ c.requires)
    (λ a r g called. search rules) in
    let front = Each-take (λ p. is_before p x ≡ true) _ _ (λ k d lt. point.0 k d (omega arith) lt)
    c.partition_point.ensures.bound in
    let rest = Each-drop (λ p. is_before p x ≡ false) _ _ point.1 in
    record {
      bound = c.partition_point.ensures.bound;
      front = front;
      rest = rest;
      below = below-parted is_before x _ _ front rest;
      inserted = inserted-parted is_before x _ _ front rest;
    }
