use Rattle.std.proofs.Common.{◌≡◌, suc, List, ◌++◌, ap, ◌+◌, ◌*◌, ◌/◌, ◌<◌, ◌≤◌, length, get_or, sym, ◌∙◌, subst, arith}
use Rattle.ndx_tree.specs.Pages.{PageView, IsUneven}
use Rattle.ndx_tree.proofs.Cut.{cut_length}
use Rattle.ndx_tree.proofs.Mend.{mend_none, here, here_one, here_two, IsHere}
use Rattle.std.proofs.lemmas.List.Edits.{length-remove}
use Rattle.key_lists.specs.Pairs.{Pair}
use Rattle.key_rows.specs.Flat.{HaveKeys}
use Rattle.key_lists.proofs.Ordered.{Each-append, Each-append_left}
use Rattle.ndx_tree.proofs.Keyed.{child_keyed, cut_keyed, last_keyed, taken_keyed, entries_room}
use Rattle.ndx_tree.proofs.page.mend.Goals as goal

pub returns-then-count-most-clause-mends : goal.returns-then-count-most-clause-mends
returns-then-count-most-clause-mends c =
    let h = c.requires.mending.0 in
    let w = c.requires.mending.1 in
    let d = c.index.result.now in
    mend_none h c.args.most c.args.at c.args.entries.now.items c.args.children.now.items d w
    (subst (λ (v : PageView). c.args.most / 2 ≤ v.count) c.index.ensures (omega arith))

pub first_of_two-first-requires-clause-within : goal.first_of_two-first-requires-clause-within
first_of_two-first-requires-clause-within c =
    let h = c.requires.mending.0 in
    let w = c.requires.mending.1 in
    let d = c.index.result.now in
    let n : length c.args.children.now.items ≡ length c.args.entries.now.items + 1 =
    cut_length c.args.entries.now.items c.args.children.now.items w.cut in
    omega (arith, w.within)

pub remove-right-requires : goal.remove-right-requires
remove-right-requires c =
    let h = c.requires.mending.0 in
    let w = c.requires.mending.1 in
    let d = c.index.result.now in
    let n : length c.args.children.now.items ≡ length c.args.entries.now.items + 1 =
    cut_length c.args.entries.now.items c.args.children.now.items w.cut in
    omega arith

pub join-requires-clause-same_height : goal.join-requires-clause-same_height
join-requires-clause-same_height c =
    let h = c.requires.mending.0 in
    let w = c.requires.mending.1 in
    let d = c.index.result.now in
    let n : length c.args.children.now.items ≡ length c.args.entries.now.items + 1 =
    cut_length c.args.entries.now.items c.args.children.now.items w.cut in
    let light : (get_or c.args.children.now.items c.args.at d).count < c.args.most / 2 =
    subst (λ (v : PageView). v.count < c.args.most / 2) c.index.ensures (omega arith) in
    let place : c.first_of_two-first.result < length c.args.entries.now.items = omega arith in
    let q : IsHere h c.args.most c.args.children.now.items c.first_of_two-first.result c.remove-right.new.self.items
    c.index_mut.result.now c.remove-right.result c.get-separator.result d = here h c.args.most c.args.at
    c.first_of_two-first.result c.args.entries.now.items c.args.children.now.items c.remove-right.new.self.items d
    c.index_mut.result.now c.remove-right.result c.get-separator.result w light place
    c.first_of_two-first.ensures.near c.remove-right.ensures.items c.index_mut.ensures.value
    c.remove-right.ensures.value (c.get-separator.ensures c.get-separator.result) in
    q.two.r_height ∙ sym q.two.l_height

pub join-requires-clause-same_most : goal.join-requires-clause-same_most
join-requires-clause-same_most c =
    let h = c.requires.mending.0 in
    let w = c.requires.mending.1 in
    let d = c.index.result.now in
    let n : length c.args.children.now.items ≡ length c.args.entries.now.items + 1 =
    cut_length c.args.entries.now.items c.args.children.now.items w.cut in
    let light : (get_or c.args.children.now.items c.args.at d).count < c.args.most / 2 =
    subst (λ (v : PageView). v.count < c.args.most / 2) c.index.ensures (omega arith) in
    let place : c.first_of_two-first.result < length c.args.entries.now.items = omega arith in
    let q : IsHere h c.args.most c.args.children.now.items c.first_of_two-first.result c.remove-right.new.self.items
    c.index_mut.result.now c.remove-right.result c.get-separator.result d = here h c.args.most c.args.at
    c.first_of_two-first.result c.args.entries.now.items c.args.children.now.items c.remove-right.new.self.items d
    c.index_mut.result.now c.remove-right.result c.get-separator.result w light place
    c.first_of_two-first.ensures.near c.remove-right.ensures.items c.index_mut.ensures.value
    c.remove-right.ensures.value (c.get-separator.ensures c.get-separator.result) in
    q.two.r_most ∙ sym q.two.l_most

pub join-requires-clause-rising : goal.join-requires-clause-rising
join-requires-clause-rising c =
    let h = c.requires.mending.0 in
    let w = c.requires.mending.1 in
    let d = c.index.result.now in
    let n : length c.args.children.now.items ≡ length c.args.entries.now.items + 1 =
    cut_length c.args.entries.now.items c.args.children.now.items w.cut in
    let light : (get_or c.args.children.now.items c.args.at d).count < c.args.most / 2 =
    subst (λ (v : PageView). v.count < c.args.most / 2) c.index.ensures (omega arith) in
    let place : c.first_of_two-first.result < length c.args.entries.now.items = omega arith in
    let q : IsHere h c.args.most c.args.children.now.items c.first_of_two-first.result c.remove-right.new.self.items
    c.index_mut.result.now c.remove-right.result c.get-separator.result d = here h c.args.most c.args.at
    c.first_of_two-first.result c.args.entries.now.items c.args.children.now.items c.remove-right.new.self.items d
    c.index_mut.result.now c.remove-right.result c.get-separator.result w light place
    c.first_of_two-first.ensures.near c.remove-right.ensures.items c.index_mut.ensures.value
    c.remove-right.ensures.value (c.get-separator.ensures c.get-separator.result) in
    q.two.rising

pub join-requires-clause-separator : goal.join-requires-clause-separator
join-requires-clause-separator c =
    let h = c.requires.mending.0 in
    let w = c.requires.mending.1 in
    let d = c.index.result.now in
    let n : length c.args.children.now.items ≡ length c.args.entries.now.items + 1 =
    cut_length c.args.entries.now.items c.args.children.now.items w.cut in
    let light : (get_or c.args.children.now.items c.args.at d).count < c.args.most / 2 =
    subst (λ (v : PageView). v.count < c.args.most / 2) c.index.ensures (omega arith) in
    let place : c.first_of_two-first.result < length c.args.entries.now.items = omega arith in
    let q : IsHere h c.args.most c.args.children.now.items c.first_of_two-first.result c.remove-right.new.self.items
    c.index_mut.result.now c.remove-right.result c.get-separator.result d = here h c.args.most c.args.at
    c.first_of_two-first.result c.args.entries.now.items c.args.children.now.items c.remove-right.new.self.items d
    c.index_mut.result.now c.remove-right.result c.get-separator.result w light place
    c.first_of_two-first.ensures.near c.remove-right.ensures.items c.index_mut.ensures.value
    c.remove-right.ensures.value (c.get-separator.ensures c.get-separator.result) in
    q.two.separator

pub join-requires-clause-uneven : goal.join-requires-clause-uneven
join-requires-clause-uneven c =
    let h = c.requires.mending.0 in
    let w = c.requires.mending.1 in
    let d = c.index.result.now in
    let n : length c.args.children.now.items ≡ length c.args.entries.now.items + 1 =
    cut_length c.args.entries.now.items c.args.children.now.items w.cut in
    let light : (get_or c.args.children.now.items c.args.at d).count < c.args.most / 2 =
    subst (λ (v : PageView). v.count < c.args.most / 2) c.index.ensures (omega arith) in
    let place : c.first_of_two-first.result < length c.args.entries.now.items = omega arith in
    let q : IsHere h c.args.most c.args.children.now.items c.first_of_two-first.result c.remove-right.new.self.items
    c.index_mut.result.now c.remove-right.result c.get-separator.result d = here h c.args.most c.args.at
    c.first_of_two-first.result c.args.entries.now.items c.args.children.now.items c.remove-right.new.self.items d
    c.index_mut.result.now c.remove-right.result c.get-separator.result w light place
    c.first_of_two-first.ensures.near c.remove-right.ensures.items c.index_mut.ensures.value
    c.remove-right.ensures.value (c.get-separator.ensures c.get-separator.result) in
    subst (λ k. IsUneven k c.index_mut.result.now.count c.remove-right.result.count) (sym q.two.l_most) q.two.uneven

pub returns-in_default-clause-mends : goal.returns-in_default-clause-mends
returns-in_default-clause-mends c =
    let h = c.requires.mending.0 in
    let w = c.requires.mending.1 in
    let d = c.index.result.now in
    let n : length c.args.children.now.items ≡ length c.args.entries.now.items + 1 =
    cut_length c.args.entries.now.items c.args.children.now.items w.cut in
    let light : (get_or c.args.children.now.items c.args.at d).count < c.args.most / 2 =
    subst (λ (v : PageView). v.count < c.args.most / 2) c.index.ensures (omega arith) in
    let place : c.first_of_two-first.result < length c.args.entries.now.items = omega arith in
    let q : IsHere h c.args.most c.args.children.now.items c.first_of_two-first.result c.remove-right.new.self.items
    c.index_mut.result.now c.remove-right.result c.get-separator.result d = here h c.args.most c.args.at
    c.first_of_two-first.result c.args.entries.now.items c.args.children.now.items c.remove-right.new.self.items d
    c.index_mut.result.now c.remove-right.result c.get-separator.result w light place
    c.first_of_two-first.ensures.near c.remove-right.ensures.items c.index_mut.ensures.value
    c.remove-right.ensures.value (c.get-separator.ensures c.get-separator.result) in
    here_one h c.args.most c.args.at c.first_of_two-first.result c.args.entries.now.items c.remove.new.self.items
    c.args.children.now.items c.remove-right.new.self.items d c.index_mut.result.now c.remove-right.result
    c.join.new.self c.get-separator.result w place c.first_of_two-first.ensures.near q c.remove.ensures.items
    c.in_default.ensures

pub returns-clause-mends : goal.returns-clause-mends
returns-clause-mends c =
    let h = c.requires.mending.0 in
    let w = c.requires.mending.1 in
    let d = c.index.result.now in
    let n : length c.args.children.now.items ≡ length c.args.entries.now.items + 1 =
    cut_length c.args.entries.now.items c.args.children.now.items w.cut in
    let light : (get_or c.args.children.now.items c.args.at d).count < c.args.most / 2 =
    subst (λ (v : PageView). v.count < c.args.most / 2) c.index.ensures (omega arith) in
    let place : c.first_of_two-first.result < length c.args.entries.now.items = omega arith in
    let q : IsHere h c.args.most c.args.children.now.items c.first_of_two-first.result c.remove-right.new.self.items
    c.index_mut.result.now c.remove-right.result c.get-separator.result d = here h c.args.most c.args.at
    c.first_of_two-first.result c.args.entries.now.items c.args.children.now.items c.remove-right.new.self.items d
    c.index_mut.result.now c.remove-right.result c.get-separator.result w light place
    c.first_of_two-first.ensures.near c.remove-right.ensures.items c.index_mut.ensures.value
    c.remove-right.ensures.value (c.get-separator.ensures c.get-separator.result) in
    here_two h c.args.most c.args.at c.first_of_two-first.result c.args.entries.now.items c.remove.new.self.items
    c.put.new.self.items c.args.children.now.items c.remove-right.new.self.items c.put-2.new.items.items d
    c.index_mut.result.now c.remove-right.result c.join.new.self c.in-Some.right c.get-separator.result
    c.in-Some.separator w place c.first_of_two-first.ensures.near q c.remove.ensures.items c.put.ensures.items
    c.put-2.ensures.items c.in-Some.ensures

pub join-requires-clause-keyed : goal.join-requires-clause-keyed
join-requires-clause-keyed c =
    let h = c.requires.mending.0 in
    let w = c.requires.mending.1 in
    let d = c.index.result.now in
    let n : length c.args.children.now.items ≡ length c.args.entries.now.items + 1 =
    cut_length c.args.entries.now.items c.args.children.now.items w.cut in
    let light : (get_or c.args.children.now.items c.args.at d).count < c.args.most / 2 =
    subst (λ (v : PageView). v.count < c.args.most / 2) c.index.ensures (omega arith) in
    let place : c.first_of_two-first.result < length c.args.entries.now.items = omega arith in
    let q : IsHere h c.args.most c.args.children.now.items c.first_of_two-first.result c.remove-right.new.self.items
    c.index_mut.result.now c.remove-right.result c.get-separator.result d = here h c.args.most c.args.at
    c.first_of_two-first.result c.args.entries.now.items c.args.children.now.items c.remove-right.new.self.items d
    c.index_mut.result.now c.remove-right.result c.get-separator.result w light place
    c.first_of_two-first.ensures.near c.remove-right.ensures.items c.index_mut.ensures.value
    c.remove-right.ensures.value (c.get-separator.ensures c.get-separator.result) in
    let k = c.requires.keyed.key_length in
    let cs = c.args.children.now.items in
    let es = c.args.entries.now.items in
    let at : c.first_of_two-first.result < length cs = omega arith in
    let next : c.first_of_two-first.result + 1 < length cs = omega arith in
    let keys = c.requires.keyed.keys in
    let l = c.index_mut.result.now in
    let r = c.remove-right.result in
    let two : HaveKeys k (l.pairs ++ r.pairs) = Each-append (λ p. length p.0 ≡ k) l.pairs r.pairs
    (subst (λ (v : PageView). HaveKeys k v.pairs) (sym q.l_is)
    (child_keyed k cs c.first_of_two-first.result d at keys))
    (subst (λ (v : PageView). HaveKeys k v.pairs) (sym q.r_is)
    (child_keyed k cs (suc c.first_of_two-first.result) d (omega arith) keys)) in
    record {
      key_length = k;
      fits = subst (λ j. (k + 8) * j ≤ 504) (sym q.two.l_most) c.requires.keyed.fits;
      keys =
          two;
    }

pub put-requires-clause-alike : goal.put-requires-clause-alike
put-requires-clause-alike c =
    let h = c.requires.mending.0 in
    let w = c.requires.mending.1 in
    let d = c.index.result.now in
    let n : length c.args.children.now.items ≡ length c.args.entries.now.items + 1 =
    cut_length c.args.entries.now.items c.args.children.now.items w.cut in
    let light : (get_or c.args.children.now.items c.args.at d).count < c.args.most / 2 =
    subst (λ (v : PageView). v.count < c.args.most / 2) c.index.ensures (omega arith) in
    let place : c.first_of_two-first.result < length c.args.entries.now.items = omega arith in
    let q : IsHere h c.args.most c.args.children.now.items c.first_of_two-first.result c.remove-right.new.self.items
    c.index_mut.result.now c.remove-right.result c.get-separator.result d = here h c.args.most c.args.at
    c.first_of_two-first.result c.args.entries.now.items c.args.children.now.items c.remove-right.new.self.items d
    c.index_mut.result.now c.remove-right.result c.get-separator.result w light place
    c.first_of_two-first.ensures.near c.remove-right.ensures.items c.index_mut.ensures.value
    c.remove-right.ensures.value (c.get-separator.ensures c.get-separator.result) in
    let k = c.requires.keyed.key_length in
    let cs = c.args.children.now.items in
    let es = c.args.entries.now.items in
    let at : c.first_of_two-first.result < length cs = omega arith in
    let next : c.first_of_two-first.result + 1 < length cs = omega arith in
    let keys = c.requires.keyed.keys in
    let l = c.index_mut.result.now in
    let r = c.remove-right.result in
    let two : HaveKeys k (l.pairs ++ r.pairs) = Each-append (λ p. length p.0 ≡ k) l.pairs r.pairs
    (subst (λ (v : PageView). HaveKeys k v.pairs) (sym q.l_is)
    (child_keyed k cs c.first_of_two-first.result d at keys))
    (subst (λ (v : PageView). HaveKeys k v.pairs) (sym q.r_is)
    (child_keyed k cs (suc c.first_of_two-first.result) d (omega arith) keys)) in
    let joins = c.in-Some.ensures in
    let size : length c.in-Some.separator.0 ≡ k = last_keyed k c.join.new.self.pairs c.in-Some.separator
    (Each-append_left (λ p. length p.0 ≡ k) c.join.new.self.pairs c.in-Some.right.pairs
    (subst (λ (m : List Pair). HaveKeys k m) (sym joins.0) two)) joins.1 in
    let own : HaveKeys k es = cut_keyed k es cs w.cut keys in
    let left : length c.remove.new.self.items + 1 ≡ length es = ap (λ (m : List Pair). length m + 1)
    c.remove.ensures.items ∙ length-remove es c.first_of_two-first.result place in
    subst (λ j. HaveKeys j c.remove.new.self.items) (sym size)
    (taken_keyed k es c.remove.new.self.items c.first_of_two-first.result own c.remove.ensures.items)

pub put-requires-clause-room : goal.put-requires-clause-room
put-requires-clause-room c =
    let h = c.requires.mending.0 in
    let w = c.requires.mending.1 in
    let d = c.index.result.now in
    let n : length c.args.children.now.items ≡ length c.args.entries.now.items + 1 =
    cut_length c.args.entries.now.items c.args.children.now.items w.cut in
    let light : (get_or c.args.children.now.items c.args.at d).count < c.args.most / 2 =
    subst (λ (v : PageView). v.count < c.args.most / 2) c.index.ensures (omega arith) in
    let place : c.first_of_two-first.result < length c.args.entries.now.items = omega arith in
    let q : IsHere h c.args.most c.args.children.now.items c.first_of_two-first.result c.remove-right.new.self.items
    c.index_mut.result.now c.remove-right.result c.get-separator.result d = here h c.args.most c.args.at
    c.first_of_two-first.result c.args.entries.now.items c.args.children.now.items c.remove-right.new.self.items d
    c.index_mut.result.now c.remove-right.result c.get-separator.result w light place
    c.first_of_two-first.ensures.near c.remove-right.ensures.items c.index_mut.ensures.value
    c.remove-right.ensures.value (c.get-separator.ensures c.get-separator.result) in
    let k = c.requires.keyed.key_length in
    let cs = c.args.children.now.items in
    let es = c.args.entries.now.items in
    let at : c.first_of_two-first.result < length cs = omega arith in
    let next : c.first_of_two-first.result + 1 < length cs = omega arith in
    let keys = c.requires.keyed.keys in
    let l = c.index_mut.result.now in
    let r = c.remove-right.result in
    let two : HaveKeys k (l.pairs ++ r.pairs) = Each-append (λ p. length p.0 ≡ k) l.pairs r.pairs
    (subst (λ (v : PageView). HaveKeys k v.pairs) (sym q.l_is)
    (child_keyed k cs c.first_of_two-first.result d at keys))
    (subst (λ (v : PageView). HaveKeys k v.pairs) (sym q.r_is)
    (child_keyed k cs (suc c.first_of_two-first.result) d (omega arith) keys)) in
    let joins = c.in-Some.ensures in
    let size : length c.in-Some.separator.0 ≡ k = last_keyed k c.join.new.self.pairs c.in-Some.separator
    (Each-append_left (λ p. length p.0 ≡ k) c.join.new.self.pairs c.in-Some.right.pairs
    (subst (λ (m : List Pair). HaveKeys k m) (sym joins.0) two)) joins.1 in
    let own : HaveKeys k es = cut_keyed k es cs w.cut keys in
    let left : length c.remove.new.self.items + 1 ≡ length es = ap (λ (m : List Pair). length m + 1)
    c.remove.ensures.items ∙ length-remove es c.first_of_two-first.result place in
    subst (λ j. (length c.remove.new.self.items + 1) * (j + 4) ≤ c.remove.new.self.room) (sym size)
    (entries_room c.args.most k (length c.remove.new.self.items + 1) _ (omega (arith, w.four)) c.requires.keyed.fits
    (omega (arith, left, w.full)) (omega (arith, c.requires.room, c.remove.ensures.room)))
