-- By the law that a walk meets each pair in turn.
use Rattle.std.proofs.Common.{◌≡◌, ◌++◌, refl, ap, subst, ◌∙◌}
use Rattle.std.specs.List.{flat_map}
use Rattle.key_lists.specs.Order.{above}
use Rattle.key_lists.specs.Pairs.{is_before}
use Rattle.file_commands.specs.Lines.{pair_line}
use Rattle.file_commands.proofs.IndexPairs.{left, begins, goes_on, written, found_of}
use Rattle.file_commands.proofs.index_listing.put_pairs.Goals as goal

pub loop-next-init : goal.loop-next-init
loop-next-init c =
    let meets = c.meets_each.ensures c.args.tree.now.pairs c.len.ensures.sound.ordered in
    record {
      pairs = c.first-next.ensures.pairs;
      meets = meets;
      lines = ap (λ ps. c.args.out.now.items ++ flat_map pair_line ps)
          (begins c.args.tree.now.pairs c.first-next.result meets c.first-next.ensures.found);
    }

pub loop-next-preserved : goal.loop-next-preserved
loop-next-preserved c =
    let pairs = c.args.tree.now.pairs in
    let p = c.in-Some.pair in
    let meets = c.loop-next.invariant.meets in
    let found = found_of c.key.result.now c.number.result p c.loop-next.tree.pairs pairs c.after-next.result
    c.key.ensures.value c.number.ensures c.loop-next.invariant.pairs c.after-next.ensures.found in
    let whole = subst (λ next. c.loop-next.out.items ++ flat_map pair_line (left next pairs)
    ≡ c.args.out.now.items ++ flat_map pair_line pairs) c.in-Some.is c.loop-next.invariant.lines in
    record {
      pairs = ap (λ t. t.pairs) c.after-next.ensures.same ∙ c.loop-next.invariant.pairs;
      meets = meets;
      lines =
          ap (λ ps. c.put_pair.new.out.items ++ flat_map pair_line ps) (goes_on pairs p c.after-next.result meets found)
          ∙ written c.loop-next.out.items (c.args.out.now.items ++ flat_map pair_line pairs) (pair_line p) p
          (above is_before p pairs) refl whole c.put_pair.new.out.items c.in_ok-put_pair.ensures;
    }
