use Rattle.std.proofs.Common.{◌-◌, ◌∷◌, ◌++◌, List, refl, sym, ◌∙◌, subst}
use Rattle.key_lists.specs.Pairs.{Pair, is_before}
use Rattle.key_lists.specs.Order.{Each}
use Rattle.key_lists.specs.KeyForm.{IsPairOf}
use Rattle.ndx_tree.specs.Blanks.{IsPool}
use Rattle.key_lists.proofs.Ordered.{Each-inserted, Each-append_left}
use Rattle.ndx_tree.proofs.Keyed.{tree_keyed}
use Rattle.ndx_tree.proofs.TreeLemmas.{tree_kept, tree_grown, split_rising}
use Rattle.ndx_tree.proofs.tree.grow.Goals as goal

pub insert_by_splits-requires-clause-keyed : goal.insert_by_splits-requires-clause-keyed
insert_by_splits-requires-clause-keyed c =
    let k = c.requires.tree.0.key_length in
    let t = c.requires.tree.2 in
    let root = c.args.root.now in
    tree_keyed k root.most (c.args.entry ∷ root.pairs) t.most (c.requires.tree.4, t.list.keys)

pub raise-requires-clause-rising : goal.raise-requires-clause-rising
raise-requires-clause-rising c =
    let k = c.requires.tree.0.key_length in
    let t = c.requires.tree.2 in
    let root = c.args.root.now in
    split_rising root c.insert_by_splits.new.self c.in-Some.right c.in-Some.separator c.args.entry t.top
    c.requires.absent c.in-Some.ensures.inserts

pub raise-requires-clause-keyed : goal.raise-requires-clause-keyed
raise-requires-clause-keyed c =
    let k = c.requires.tree.0.key_length in
    let t = c.requires.tree.2 in
    let root = c.args.root.now in
    let i = c.in-Some.ensures.inserts in
    let all : Each (IsPairOf k) (c.insert_by_splits.new.self.pairs ++ c.in-Some.right.pairs) = subst
    (λ (m : List Pair). Each (IsPairOf k) m) (sym i.0)
    (Each-inserted is_before (IsPairOf k) c.args.entry root.pairs c.requires.tree.4 t.list.keys) in
    tree_keyed k c.insert_by_splits.new.self.most c.insert_by_splits.new.self.pairs (i.2.same_most ∙ t.most)
    (Each-append_left (IsPairOf k) c.insert_by_splits.new.self.pairs c.in-Some.right.pairs all)

pub returns-in-Some-clause-tree : goal.returns-in-Some-clause-tree
returns-in-Some-clause-tree c = λ form reserved tree some fits.
    tree_grown form c.args.root.now c.insert_by_splits.new.self c.in-Some.right c.raise.new.self c.args.pool.now
    c.take_inner-blank.new.pool reserved (reserved - 1) c.in-Some.separator c.args.entry tree some refl fits
    c.requires.absent c.in-Some.ensures.inserts c.raise.ensures.pairs c.raise.ensures.height c.raise.ensures.most
    c.raise.ensures.count (subst (λ m. IsPool m c.take_inner-blank.new.pool) c.most.ensures
    c.take_inner-blank.ensures.pool)

pub returns-in_default-clause-tree : goal.returns-in_default-clause-tree
returns-in_default-clause-tree c = λ form reserved tree some fits.
    tree_kept form c.args.root.now c.insert_by_splits.new.self c.args.pool.now c.insert_by_splits.new.pool reserved
    (reserved - 1) c.args.entry tree some refl fits c.requires.absent c.in_default.ensures.inserts
    c.insert_by_splits.ensures.pool
