use Rattle.std.proofs.Common.{◌∙◌, sym, Bool, rules}
use Rattle.std.specs.Ordering.{is_lt}
use Rattle.std.proofs.lemmas.List.Sorted.{answers_always, ranks_by, sorted_far}
use Rattle.key_lists.specs.Pairs.{Pair, is_before, pair_cmp}
use Rattle.key_lists.proofs.Ordered.{in_order-permutation, in_order-sorted}
use Rattle.key_lists.proofs.PairOrder.{is_before_strict, is_before_is, pair_cmp_total}
use Rattle.key_lists.proofs.sorted_keys.put_in_order.Goals as goal

pub returns : goal.returns
returns c =
    let facts = c.sort_unstable_by.ensures in
    let lt : Pair → Pair → Bool = λ p q. is_lt (pair_cmp p q) in
    let weak = ranks_by pair_cmp_total (λ (p : Pair). p) in
    let sorted = facts.sorted lt weak (answers_always _ _ _ (λ f a r g called. search rules)) in
    let entries = c.sort_unstable_by.new.self.items in
    record {
      pairs = sym (in_order-sorted is_before is_before_strict entries
          (λ i j d le within. is_before_is _ _ ∙ sorted_far lt weak entries sorted i j d le within))
          ∙ in_order-permutation is_before is_before_strict c.args.entries.now.items entries facts.permutation;
    }
