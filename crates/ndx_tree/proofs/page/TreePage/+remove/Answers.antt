use Rattle.std.proofs.Common.{◌≡◌, true, false, ◌+◌, ◌*◌, ◌<◌, ◌≤◌, List, [], length, set, length-set, get_or, refl, ap}
use Rattle.std.proofs.Common.{sym, ◌∙◌, subst, arith}
use Rattle.std.proofs.lemmas.Bool.{eqb-true, eqb-false}
use Rattle.std.proofs.lemmas.List.{nil_from_length}
use Rattle.key_lists.specs.Pairs.{Pair, is_before}
use Rattle.key_lists.specs.Rising.{has, place_of}
use Rattle.ndx_tree.specs.Pages.{PageView, pairs_of_pages, view_of, pairs_of, IsCut, Removes}
use Rattle.ndx_tree.proofs.Cut.{entries_rising}
use Rattle.ndx_tree.proofs.Take.{placed_child}
use Rattle.ndx_tree.proofs.Remove.{has_past, has_at_place}
use Rattle.ndx_tree.proofs.Lose.{leaf_loses, losing_child, child_keeps, child_loses, IsLosing}
use Rattle.key_rows.specs.Flat.{HaveKeys}
use Rattle.ndx_tree.proofs.Keyed.{page_keyed, below_keyed, all_keyed, lost_keyed, entries_room, most_is}
use Rattle.std.proofs.lemmas.List.Edits.{length-remove}
use Rattle.ndx_tree.proofs.page.TreePage.+remove.Goals as goal

pub returns-then-at-len : goal.returns-then-at-len
returns-then-at-len t c =
    let placed = c.place_of_pair-at.ensures.value in
    let none : c.self.inside.children.items ≡ [] =
    nil_from_length _ (omega (arith, eqb-true _ 0 (sym c.is_empty.ensures ∙ c.if-is_empty.true))) in
    let pairs : c.args.self.now.pairs ≡ c.self.inside.entries.items =
    sym (ap (λ (v : PageView). v.pairs) c.self.view_is) ∙ ap (pairs_of c.self.inside.entries.items) none in
    let at : length c.self.inside.entries.items ≤ place_of (c.args.key.now, c.args.number) c.self.inside.entries.items =
    omega (arith, placed) in (
      ap (has (c.args.key.now, c.args.number)) pairs ∙ has_past (c.args.key.now, c.args.number)
          c.self.inside.entries.items at,
      refl,
    )

pub returns-then-is_after : goal.returns-then-is_after
returns-then-is_after t c =
    let placed = c.place_of_pair-at.ensures.value in
    let none : c.self.inside.children.items ≡ [] =
    nil_from_length _ (omega (arith, eqb-true _ 0 (sym c.is_empty.ensures ∙ c.if-is_empty.true))) in
    let pairs : c.args.self.now.pairs ≡ c.self.inside.entries.items =
    sym (ap (λ (v : PageView). v.pairs) c.self.view_is) ∙ ap (pairs_of c.self.inside.entries.items) none in
    let d = c.get.result in
    let at : place_of (c.args.key.now, c.args.number) c.self.inside.entries.items < length c.self.inside.entries.items =
    omega (arith, placed) in
    let is : is_before (c.args.key.now, c.args.number)
    (get_or c.self.inside.entries.items (place_of (c.args.key.now, c.args.number) c.self.inside.entries.items) d)
    ≡ true = ap (λ i. is_before (c.args.key.now, c.args.number) (get_or c.self.inside.entries.items i d))
    (sym placed) ∙ ap (is_before (c.args.key.now, c.args.number)) (sym (c.get.ensures c.get.result))
    ∙ sym c.is_after.ensures ∙ c.if-is_after.true in (
      ap (has (c.args.key.now, c.args.number)) pairs ∙ has_at_place (c.args.key.now, c.args.number)
          c.self.inside.entries.items d at ∙ rw is refl,
      refl,
    )

pub invariant_of-self : goal.invariant_of-self
invariant_of-self t c =
    let placed = c.place_of_pair-at.ensures.value in
    let none : c.self.inside.children.items ≡ [] =
    nil_from_length _ (omega (arith, eqb-true _ 0 (sym c.is_empty.ensures ∙ c.if-is_empty.true))) in
    let pairs : c.args.self.now.pairs ≡ c.self.inside.entries.items =
    sym (ap (λ (v : PageView). v.pairs) c.self.view_is) ∙ ap (pairs_of c.self.inside.entries.items) none in
    let within : c.place_of_pair-at.result < length c.self.inside.entries.items = omega arith in
    let d = c.get.result in
    let there : is_before (c.args.key.now, c.args.number)
    (get_or c.self.inside.entries.items c.place_of_pair-at.result d)
    ≡ false = ap (is_before (c.args.key.now, c.args.number)) (sym (c.get.ensures c.get.result))
    ∙ sym c.is_after.ensures ∙ c.if-is_after.false in
    let loses = leaf_loses c.args.self.now c.self.inside.most c.self.inside.entries.items c.remove.new.self.items
    c.self.inside.children.items (c.args.key.now, c.args.number) d c.place_of_pair-at.result c.self.view_is
    c.self.invariant.0 none placed within there c.remove.ensures.items in (
      loses.0,
      omega (
        arith,
        ap (λ (m : List Pair). length m + 1) c.remove.ensures.items
            ∙ length-remove c.self.inside.entries.items c.place_of_pair-at.result within,
        c.self.invariant.1,
      ),
      omega
          (arith, c.remove.ensures.room, c.self.invariant.2),
      c.self.invariant.3,
    )

pub returns-then-is_empty : goal.returns-then-is_empty
returns-then-is_empty t c =
    let placed = c.place_of_pair-at.ensures.value in
    let none : c.self.inside.children.items ≡ [] =
    nil_from_length _ (omega (arith, eqb-true _ 0 (sym c.is_empty.ensures ∙ c.if-is_empty.true))) in
    let pairs : c.args.self.now.pairs ≡ c.self.inside.entries.items =
    sym (ap (λ (v : PageView). v.pairs) c.self.view_is) ∙ ap (pairs_of c.self.inside.entries.items) none in
    let within : c.place_of_pair-at.result < length c.self.inside.entries.items = omega arith in
    let d = c.get.result in
    let there : is_before (c.args.key.now, c.args.number)
    (get_or c.self.inside.entries.items c.place_of_pair-at.result d)
    ≡ false = ap (is_before (c.args.key.now, c.args.number)) (sym (c.get.ensures c.get.result))
    ∙ sym c.is_after.ensures ∙ c.if-is_after.false in
    let loses = leaf_loses c.args.self.now c.self.inside.most c.self.inside.entries.items c.remove.new.self.items
    c.self.inside.children.items (c.args.key.now, c.args.number) d c.place_of_pair-at.result c.self.view_is
    c.self.invariant.0 none placed within there c.remove.ensures.items in
    loses.1

pub index_mut-requires : goal.index_mut-requires
index_mut-requires t c =
    let placed = c.place_of_pair-at.ensures.value in
    let some : 0 < length c.self.inside.children.items =
    omega (arith, eqb-false _ 0 (sym c.is_empty.ensures ∙ c.if-is_empty.false)) in
    let child = placed_child c.self.inside.most c.self.inside.entries.items c.self.inside.children.items
    (c.args.key.now, c.args.number) c.place_of_pair-at.result c.args.self.now c.self.invariant.0 some placed in
    omega (arith, child.0)

pub remove-requires-2 : goal.remove-requires-2
remove-requires-2 t c =
    let placed = c.place_of_pair-at.ensures.value in
    let some : 0 < length c.self.inside.children.items =
    omega (arith, eqb-false _ 0 (sym c.is_empty.ensures ∙ c.if-is_empty.false)) in
    let child = losing_child c.self.inside.most c.self.inside.entries.items c.self.inside.children.items
    (c.args.key.now, c.args.number) c.place_of_pair-at.result c.index_mut.result.now c.self.invariant.0 some placed
    c.index_mut.ensures.value in
    let height : c.args.self.now.height ≡ c.index_mut.result.now.height + 1 = sym
    (ap (λ (v : PageView). v.height) c.self.view_is) ∙ child.2 in (
      omega (arith, c.decreases),
      (
        (λ _. omega (arith, child.3.half, c.self.invariant.0.four)),
        record {
          key_length = c.requires.keyed.key_length;
          fits = subst
              (λ m. (c.requires.keyed.key_length + 8) * m ≤ 504)
              (sym (child.3.same_most ∙ most_is c.args.self.now c.self.inside.most c.self.inside.entries.items
              c.self.inside.children.items c.self.view_is)) c.requires.keyed.fits;
          keys = below_keyed c.args.self.now
              c.requires.keyed.key_length c.self.inside.most c.self.inside.entries.items c.self.inside.children.items
              c.place_of_pair-at.result c.index_mut.result.now c.self.view_is child.0 c.index_mut.ensures.value
              c.requires.keyed.keys;
        },
      ),
    )

pub returns-then-not-remove : goal.returns-then-not-remove
returns-then-not-remove t c =
    let placed = c.place_of_pair-at.ensures.value in
    let some : 0 < length c.self.inside.children.items =
    omega (arith, eqb-false _ 0 (sym c.is_empty.ensures ∙ c.if-is_empty.false)) in
    let r : Removes c.index_mut.result.now (c.args.key.now, c.args.number) c.remove-2.new.self false = subst
    (λ b. Removes c.index_mut.result.now (c.args.key.now, c.args.number) c.remove-2.new.self b) c.if-not-remove.true
    c.remove-2.ensures in
    let keeps = child_keeps c.args.self.now c.self.inside.most c.self.inside.entries.items c.self.inside.children.items
    (c.args.key.now, c.args.number) c.place_of_pair-at.result c.index_mut.result.now c.remove-2.new.self
    c.self.view_is c.self.invariant.0 some placed c.index_mut.ensures.value r in
    (keeps.1, ap (view_of c.self.inside.most c.self.inside.entries.items) keeps.0 ∙ c.self.view_is)

pub refresh-requires-clause-within : goal.refresh-requires-clause-within
refresh-requires-clause-within t c =
    let placed = c.place_of_pair-at.ensures.value in
    let some : 0 < length c.self.inside.children.items =
    omega (arith, eqb-false _ 0 (sym c.is_empty.ensures ∙ c.if-is_empty.false)) in
    let child = losing_child c.self.inside.most c.self.inside.entries.items c.self.inside.children.items
    (c.args.key.now, c.args.number) c.place_of_pair-at.result c.index_mut.result.now c.self.invariant.0 some placed
    c.index_mut.ensures.value in
    rw c.deref.ensures.value
    (omega (arith, child.0, length-set c.self.inside.children.items c.place_of_pair-at.result c.remove-2.new.self))

pub refresh-requires-clause-some : goal.refresh-requires-clause-some
refresh-requires-clause-some t c =
    let placed = c.place_of_pair-at.ensures.value in
    let some : 0 < length c.self.inside.children.items =
    omega (arith, eqb-false _ 0 (sym c.is_empty.ensures ∙ c.if-is_empty.false)) in
    let r : Removes c.index_mut.result.now (c.args.key.now, c.args.number) c.remove-2.new.self true = subst
    (λ b. Removes c.index_mut.result.now (c.args.key.now, c.args.number) c.remove-2.new.self b)
    c.if-not-remove.false c.remove-2.ensures in
    let lost : IsLosing c.args.self.now c.self.inside.most c.self.inside.entries.items c.self.inside.children.items
    (c.args.key.now, c.args.number) c.place_of_pair-at.result c.remove-2.new.self = child_loses c.args.self.now
    c.self.inside.most c.self.inside.entries.items c.self.inside.children.items (c.args.key.now, c.args.number)
    c.place_of_pair-at.result c.index_mut.result.now c.remove-2.new.self c.self.view_is c.self.invariant.0 some
    c.requires.inner c.self.invariant.1 placed c.index_mut.ensures.value r in
    rw c.deref.ensures.value lost.some

pub refresh-requires-clause-kept : goal.refresh-requires-clause-kept
refresh-requires-clause-kept t c =
    let placed = c.place_of_pair-at.ensures.value in
    let some : 0 < length c.self.inside.children.items =
    omega (arith, eqb-false _ 0 (sym c.is_empty.ensures ∙ c.if-is_empty.false)) in
    let r : Removes c.index_mut.result.now (c.args.key.now, c.args.number) c.remove-2.new.self true = subst
    (λ b. Removes c.index_mut.result.now (c.args.key.now, c.args.number) c.remove-2.new.self b)
    c.if-not-remove.false c.remove-2.ensures in
    let lost : IsLosing c.args.self.now c.self.inside.most c.self.inside.entries.items c.self.inside.children.items
    (c.args.key.now, c.args.number) c.place_of_pair-at.result c.remove-2.new.self = child_loses c.args.self.now
    c.self.inside.most c.self.inside.entries.items c.self.inside.children.items (c.args.key.now, c.args.number)
    c.place_of_pair-at.result c.index_mut.result.now c.remove-2.new.self c.self.view_is c.self.invariant.0 some
    c.requires.inner c.self.invariant.1 placed c.index_mut.ensures.value r in
    rw c.deref.ensures.value lost.kept

pub refresh-requires-clause-cut : goal.refresh-requires-clause-cut
refresh-requires-clause-cut t c =
    let placed = c.place_of_pair-at.ensures.value in
    let some : 0 < length c.self.inside.children.items =
    omega (arith, eqb-false _ 0 (sym c.is_empty.ensures ∙ c.if-is_empty.false)) in
    let r : Removes c.index_mut.result.now (c.args.key.now, c.args.number) c.remove-2.new.self true = subst
    (λ b. Removes c.index_mut.result.now (c.args.key.now, c.args.number) c.remove-2.new.self b)
    c.if-not-remove.false c.remove-2.ensures in
    let lost : IsLosing c.args.self.now c.self.inside.most c.self.inside.entries.items c.self.inside.children.items
    (c.args.key.now, c.args.number) c.place_of_pair-at.result c.remove-2.new.self = child_loses c.args.self.now
    c.self.inside.most c.self.inside.entries.items c.self.inside.children.items (c.args.key.now, c.args.number)
    c.place_of_pair-at.result c.index_mut.result.now c.remove-2.new.self c.self.view_is c.self.invariant.0 some
    c.requires.inner c.self.invariant.1 placed c.index_mut.ensures.value r in
    rw c.deref.ensures.value lost.cut

pub mend-requires-clause-mending : goal.mend-requires-clause-mending
mend-requires-clause-mending t c =
    let placed = c.place_of_pair-at.ensures.value in
    let some : 0 < length c.self.inside.children.items =
    omega (arith, eqb-false _ 0 (sym c.is_empty.ensures ∙ c.if-is_empty.false)) in
    let r : Removes c.index_mut.result.now (c.args.key.now, c.args.number) c.remove-2.new.self true = subst
    (λ b. Removes c.index_mut.result.now (c.args.key.now, c.args.number) c.remove-2.new.self b)
    c.if-not-remove.false c.remove-2.ensures in
    let lost : IsLosing c.args.self.now c.self.inside.most c.self.inside.entries.items c.self.inside.children.items
    (c.args.key.now, c.args.number) c.place_of_pair-at.result c.remove-2.new.self = child_loses c.args.self.now
    c.self.inside.most c.self.inside.entries.items c.self.inside.children.items (c.args.key.now, c.args.number)
    c.place_of_pair-at.result c.index_mut.result.now c.remove-2.new.self c.self.view_is c.self.invariant.0 some
    c.requires.inner c.self.invariant.1 placed c.index_mut.ensures.value r in
    let cut : IsCut c.refresh.new.entries.items
    (set c.self.inside.children.items c.place_of_pair-at.result c.remove-2.new.self) =
    subst (IsCut c.refresh.new.entries.items) c.deref.ensures.value c.refresh.ensures.cut in
    let size : length c.refresh.new.entries.items ≡ length c.self.inside.entries.items =
    omega (arith, c.refresh.ensures.len) in
    lost.mending c.refresh.new.entries.items cut size

pub returns : goal.returns
returns t c =
    let placed = c.place_of_pair-at.ensures.value in
    let some : 0 < length c.self.inside.children.items =
    omega (arith, eqb-false _ 0 (sym c.is_empty.ensures ∙ c.if-is_empty.false)) in
    let r : Removes c.index_mut.result.now (c.args.key.now, c.args.number) c.remove-2.new.self true = subst
    (λ b. Removes c.index_mut.result.now (c.args.key.now, c.args.number) c.remove-2.new.self b)
    c.if-not-remove.false c.remove-2.ensures in
    let lost : IsLosing c.args.self.now c.self.inside.most c.self.inside.entries.items c.self.inside.children.items
    (c.args.key.now, c.args.number) c.place_of_pair-at.result c.remove-2.new.self = child_loses c.args.self.now
    c.self.inside.most c.self.inside.entries.items c.self.inside.children.items (c.args.key.now, c.args.number)
    c.place_of_pair-at.result c.index_mut.result.now c.remove-2.new.self c.self.view_is c.self.invariant.0 some
    c.requires.inner c.self.invariant.1 placed c.index_mut.ensures.value r in
    let cut : IsCut c.refresh.new.entries.items
    (set c.self.inside.children.items c.place_of_pair-at.result c.remove-2.new.self) =
    subst (IsCut c.refresh.new.entries.items) c.deref.ensures.value c.refresh.ensures.cut in
    let size : length c.refresh.new.entries.items ≡ length c.self.inside.entries.items =
    omega (arith, c.refresh.ensures.len) in
    lost.done c.refresh.new.entries.items c.mend.new.entries.items c.mend.new.children.items size c.mend.ensures.mends

pub place_of_pair-at-requires : goal.place_of_pair-at-requires
place_of_pair-at-requires t c =
    entries_rising c.self.inside.most c.self.inside.entries.items c.self.inside.children.items c.self.invariant.0

pub refresh-requires-clause-alike : goal.refresh-requires-clause-alike
refresh-requires-clause-alike t c =
    let placed = c.place_of_pair-at.ensures.value in
    let some : 0 < length c.self.inside.children.items =
    omega (arith, eqb-false _ 0 (sym c.is_empty.ensures ∙ c.if-is_empty.false)) in
    let child = losing_child c.self.inside.most c.self.inside.entries.items c.self.inside.children.items
    (c.args.key.now, c.args.number) c.place_of_pair-at.result c.index_mut.result.now c.self.invariant.0 some placed
    c.index_mut.ensures.value in
    let r : Removes c.index_mut.result.now (c.args.key.now, c.args.number) c.remove-2.new.self true = subst
    (λ b. Removes c.index_mut.result.now (c.args.key.now, c.args.number) c.remove-2.new.self b)
    c.if-not-remove.false c.remove-2.ensures in
    let k = c.requires.keyed.key_length in
    let m = c.self.inside.most in
    let es = c.self.inside.entries.items in
    let cs = c.self.inside.children.items in
    let same = most_is c.args.self.now m es cs c.self.view_is in
    let fits : (k + 8) * m ≤ 504 = subst (λ j. (k + 8) * j ≤ 504) (sym same) c.requires.keyed.fits in
    let keys : HaveKeys k es =
    page_keyed c.args.self.now k m es cs c.self.view_is c.self.invariant.0 c.requires.keyed.keys in
    let below = below_keyed c.args.self.now k m es cs c.place_of_pair-at.result c.index_mut.result.now c.self.view_is
    child.0 c.index_mut.ensures.value c.requires.keyed.keys in
    let left = lost_keyed k cs c.place_of_pair-at.result (c.args.key.now, c.args.number) c.index_mut.result.now
    c.remove-2.new.self (all_keyed c.args.self.now k m es cs c.self.view_is some c.requires.keyed.keys) below r in (
      k,
      keys,
      subst (λ (l : List PageView). HaveKeys k (pairs_of_pages l)) (sym c.deref.ensures.value) left,
      entries_room m k (length es) _ (omega (arith, c.self.invariant.0.four)) fits (omega (arith, c.self.invariant.1))
          c.self.invariant.2,
    )

pub mend-requires-clause-keyed : goal.mend-requires-clause-keyed
mend-requires-clause-keyed t c =
    let placed = c.place_of_pair-at.ensures.value in
    let some : 0 < length c.self.inside.children.items =
    omega (arith, eqb-false _ 0 (sym c.is_empty.ensures ∙ c.if-is_empty.false)) in
    let child = losing_child c.self.inside.most c.self.inside.entries.items c.self.inside.children.items
    (c.args.key.now, c.args.number) c.place_of_pair-at.result c.index_mut.result.now c.self.invariant.0 some placed
    c.index_mut.ensures.value in
    let r : Removes c.index_mut.result.now (c.args.key.now, c.args.number) c.remove-2.new.self true = subst
    (λ b. Removes c.index_mut.result.now (c.args.key.now, c.args.number) c.remove-2.new.self b)
    c.if-not-remove.false c.remove-2.ensures in
    let k = c.requires.keyed.key_length in
    let m = c.self.inside.most in
    let es = c.self.inside.entries.items in
    let cs = c.self.inside.children.items in
    let same = most_is c.args.self.now m es cs c.self.view_is in
    let fits : (k + 8) * m ≤ 504 = subst (λ j. (k + 8) * j ≤ 504) (sym same) c.requires.keyed.fits in
    let keys : HaveKeys k es =
    page_keyed c.args.self.now k m es cs c.self.view_is c.self.invariant.0 c.requires.keyed.keys in
    let below = below_keyed c.args.self.now k m es cs c.place_of_pair-at.result c.index_mut.result.now c.self.view_is
    child.0 c.index_mut.ensures.value c.requires.keyed.keys in
    let left = lost_keyed k cs c.place_of_pair-at.result (c.args.key.now, c.args.number) c.index_mut.result.now
    c.remove-2.new.self (all_keyed c.args.self.now k m es cs c.self.view_is some c.requires.keyed.keys) below r in
    record { key_length = k; fits = fits; keys = left }
