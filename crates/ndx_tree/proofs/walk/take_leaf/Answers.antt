use Rattle.std.proofs.Common.{◌≡◌, ◌∙◌, ◌++◌, List, length, sym, ap, subst, refl}
use Rattle.key_lists.specs.Pairs.{Pair}
use Rattle.key_lists.proofs.Ordered.{Each-append}
use Rattle.key_rows.specs.Flat.{HaveKeys}
use Rattle.ndx_page.specs.declared.page.PageEntry.{PageEntry}
use Rattle.ndx_tree.specs.IndexFile.{leaf_pairs}
use Rattle.ndx_tree.proofs.Reading.{leaf_given}
use Rattle.ndx_tree.proofs.walk.take_leaf.Goals as goal

pub returns-clause-leaf : goal.returns-clause-leaf
returns-clause-leaf c = λ k count s f fits h.
    leaf_given k count c.args.level c.args.page.now f c.args.found.now _ s
    (sym c.may_stand.ensures ∙ c.if-not-may_stand.false) h refl refl
    (c.in_ok-add_pairs.ensures.items ∙ ap (λ (m : List PageEntry). c.args.found.now.entries.items ++ leaf_pairs m)
    c.as_slice.ensures.value) refl fits

pub add_pairs-requires : goal.add_pairs-requires
add_pairs-requires c =
    let a = c.requires.alike in
    record {
      alike = (
        a.0,
        a.1,
        a.2,
        subst (λ (m : List PageEntry). HaveKeys a.0 (leaf_pairs m))
            (sym c.as_slice.ensures.value) a.3,
      );
    }

pub returns-clause-alike : goal.returns-clause-alike
returns-clause-alike c = λ k a b.
    let items : c.add_pairs.new.pairs.items ≡ c.args.found.now.entries.items ++ leaf_pairs
    c.args.page.now.entries.items = c.in_ok-add_pairs.ensures.items
    ∙ ap (λ (m : List PageEntry). c.args.found.now.entries.items ++ leaf_pairs m) c.as_slice.ensures.value in
    subst (λ (m : List Pair). HaveKeys k m) (sym items)
    (Each-append (λ p. length p.0 ≡ k) c.args.found.now.entries.items (leaf_pairs c.args.page.now.entries.items) a
    b)
