use Rattle.std.proofs.Common.{◌≡◌, Some, ◌+◌, ◌*◌, ◌/◌, ◌<◌, ◌≤◌, List, [], ◌∷◌, ◌++◌, length, ap, sym, ◌∙◌, subst}
use Rattle.std.proofs.Common.{arith, append_assoc, length-append}
use Rattle.std.proofs.lemmas.Bool.{eqb-true, eqb-false}
use Rattle.std.proofs.lemmas.List.{nil_from_length}
use Rattle.key_lists.specs.Pairs.{Pair}
use Rattle.key_rows.specs.Flat.{HaveKeys}
use Rattle.ndx_tree.specs.Pages.{PageView, Joins, view_of}
use Rattle.ndx_tree.proofs.Keyed.{most_is}
use Rattle.ndx_tree.proofs.Join.{leaf_joins, inner_joined, inner_joins, IsJoined, beside, page_children, other_children}
use Rattle.ndx_tree.proofs.Join.{uneven_enough, leaf_evened, leaf_childless, inner_evened, pushed_keyed}
use Rattle.ndx_tree.proofs.page.TreePage.join.Goals as goal

pub copy_all-requires : goal.copy_all-requires
copy_all-requires c =
    let l = c.args.self.now in
    let r = c.args.right in
    let m = c.self.inside.most in
    let rm = c.right.inside.most in
    let es = c.self.inside.entries.items in
    let fs = c.right.inside.entries.items in
    let cs = c.self.inside.children.items in
    let ds = c.right.inside.children.items in
    let b = beside l r m rm es fs cs ds c.args.separator c.self.inside.entries.room c.right.inside.entries.room
    c.self.view_is c.right.view_is c.self.invariant.0 c.right.invariant.0 c.self.invariant.2 c.right.invariant.2
    c.requires.same_most c.requires.keyed c.requires.separator in
    let here : c.len.result ≡ length es = c.len.ensures in
    let there : c.len-2.result ≡ length fs = c.len-2.ensures in
    (b.k, b.others, b.keys, b.here (length es + length fs) (omega arith))

pub returns-then-both-self : goal.returns-then-both-self
returns-then-both-self c =
    let l = c.args.self.now in
    let r = c.args.right in
    let m = c.self.inside.most in
    let rm = c.right.inside.most in
    let es = c.self.inside.entries.items in
    let fs = c.right.inside.entries.items in
    let cs = c.self.inside.children.items in
    let ds = c.right.inside.children.items in
    let none : cs ≡ [] = nil_from_length _
    (omega (arith, eqb-true _ 0 (sym c.is_empty.ensures ∙ c.if-is_empty.true))) in
    let here : c.len.result ≡ length es = c.len.ensures in
    let there : c.len-2.result ≡ length fs = c.len-2.ensures in
    let four : 4 ≤ l.most = subst (λ k. 4 ≤ k) (most_is l m es cs c.self.view_is) c.self.invariant.0.four in
    let enough : l.most / 2 ≤ l.count + r.count = uneven_enough l.most l.count r.count four c.requires.uneven in
    leaf_joins l r m rm es fs c.copy_all.new.to.items cs ds c.self.view_is c.right.view_is none c.right.invariant.0
    c.requires.same_height c.self.invariant.0.four c.copy_all.ensures.items enough
    (omega (arith, ap (λ (x : List Pair). length x) c.copy_all.ensures.items, length-append es fs))

pub even_leaves-last-requires-clause-keyed : goal.even_leaves-last-requires-clause-keyed
even_leaves-last-requires-clause-keyed c =
    let l = c.args.self.now in
    let r = c.args.right in
    let m = c.self.inside.most in
    let rm = c.right.inside.most in
    let es = c.self.inside.entries.items in
    let fs = c.right.inside.entries.items in
    let cs = c.self.inside.children.items in
    let ds = c.right.inside.children.items in
    let b = beside l r m rm es fs cs ds c.args.separator c.self.inside.entries.room c.right.inside.entries.room
    c.self.view_is c.right.view_is c.self.invariant.0 c.right.invariant.0 c.self.invariant.2 c.right.invariant.2
    c.requires.same_most c.requires.keyed c.requires.separator in (
      b.k,
      b.keys,
      b.others,
      b.here (length es + 1) (omega (arith, c.self.invariant.1)),
      b.there (length fs + 1)
          (subst (λ i. length fs + 1 ≤ i + 1) b.same (omega (arith, c.right.invariant.1))),
    )

pub of_parts-requires-clause-parts : goal.of_parts-requires-clause-parts
of_parts-requires-clause-parts c =
    let l = c.args.self.now in
    let r = c.args.right in
    let m = c.self.inside.most in
    let rm = c.right.inside.most in
    let es = c.self.inside.entries.items in
    let fs = c.right.inside.entries.items in
    let cs = c.self.inside.children.items in
    let ds = c.right.inside.children.items in
    let b = beside l r m rm es fs cs ds c.args.separator c.self.inside.entries.room c.right.inside.entries.room
    c.self.view_is c.right.view_is c.self.invariant.0 c.right.invariant.0 c.self.invariant.2 c.right.invariant.2
    c.requires.same_most c.requires.keyed c.requires.separator in
    let none : cs ≡ [] = nil_from_length _
    (omega (arith, eqb-true _ 0 (sym c.is_empty.ensures ∙ c.if-is_empty.true))) in
    let here : c.len.result ≡ length es = c.len.ensures in
    let there : c.len-2.result ≡ length fs = c.len-2.ensures in
    let e = leaf_evened l r m rm es fs c.even_leaves-last.new.low.items c.even_leaves-last.new.high.items cs ds
    c.even_leaves-last.result c.self.view_is c.right.view_is none c.self.invariant.0 c.right.invariant.0
    c.requires.same_height c.requires.rising c.requires.uneven (omega arith) c.even_leaves-last.ensures.whole
    c.even_leaves-last.ensures.last c.even_leaves-last.ensures.evens in
    e.later

pub of_parts-requires-clause-full : goal.of_parts-requires-clause-full
of_parts-requires-clause-full c =
    let l = c.args.self.now in
    let r = c.args.right in
    let m = c.self.inside.most in
    let rm = c.right.inside.most in
    let es = c.self.inside.entries.items in
    let fs = c.right.inside.entries.items in
    let cs = c.self.inside.children.items in
    let ds = c.right.inside.children.items in
    let b = beside l r m rm es fs cs ds c.args.separator c.self.inside.entries.room c.right.inside.entries.room
    c.self.view_is c.right.view_is c.self.invariant.0 c.right.invariant.0 c.self.invariant.2 c.right.invariant.2
    c.requires.same_most c.requires.keyed c.requires.separator in
    let none : cs ≡ [] = nil_from_length _
    (omega (arith, eqb-true _ 0 (sym c.is_empty.ensures ∙ c.if-is_empty.true))) in
    let here : c.len.result ≡ length es = c.len.ensures in
    let there : c.len-2.result ≡ length fs = c.len-2.ensures in
    let e = leaf_evened l r m rm es fs c.even_leaves-last.new.low.items c.even_leaves-last.new.high.items cs ds
    c.even_leaves-last.result c.self.view_is c.right.view_is none c.self.invariant.0 c.right.invariant.0
    c.requires.same_height c.requires.rising c.requires.uneven (omega arith) c.even_leaves-last.ensures.whole
    c.even_leaves-last.ensures.last c.even_leaves-last.ensures.evens in
    e.later_full

pub of_parts-requires-clause-room : goal.of_parts-requires-clause-room
of_parts-requires-clause-room c =
    let l = c.args.self.now in
    let r = c.args.right in
    let m = c.self.inside.most in
    let rm = c.right.inside.most in
    let es = c.self.inside.entries.items in
    let fs = c.right.inside.entries.items in
    let cs = c.self.inside.children.items in
    let ds = c.right.inside.children.items in
    let b = beside l r m rm es fs cs ds c.args.separator c.self.inside.entries.room c.right.inside.entries.room
    c.self.view_is c.right.view_is c.self.invariant.0 c.right.invariant.0 c.self.invariant.2 c.right.invariant.2
    c.requires.same_most c.requires.keyed c.requires.separator in
    let none : cs ≡ [] = nil_from_length _
    (omega (arith, eqb-true _ 0 (sym c.is_empty.ensures ∙ c.if-is_empty.true))) in
    let here : c.len.result ≡ length es = c.len.ensures in
    let there : c.len-2.result ≡ length fs = c.len-2.ensures in
    let e = leaf_evened l r m rm es fs c.even_leaves-last.new.low.items c.even_leaves-last.new.high.items cs ds
    c.even_leaves-last.result c.self.view_is c.right.view_is none c.self.invariant.0 c.right.invariant.0
    c.requires.same_height c.requires.rising c.requires.uneven (omega arith) c.even_leaves-last.ensures.whole
    c.even_leaves-last.ensures.last c.even_leaves-last.ensures.evens in
    omega (arith, b.all, c.even_leaves-last.ensures.high_room)

pub of_parts-requires-clause-child_room : goal.of_parts-requires-clause-child_room
of_parts-requires-clause-child_room c =
    let l = c.args.self.now in
    let r = c.args.right in
    let m = c.self.inside.most in
    let rm = c.right.inside.most in
    let es = c.self.inside.entries.items in
    let fs = c.right.inside.entries.items in
    let cs = c.self.inside.children.items in
    let ds = c.right.inside.children.items in
    let b = beside l r m rm es fs cs ds c.args.separator c.self.inside.entries.room c.right.inside.entries.room
    c.self.view_is c.right.view_is c.self.invariant.0 c.right.invariant.0 c.self.invariant.2 c.right.invariant.2
    c.requires.same_most c.requires.keyed c.requires.separator in
    let none : cs ≡ [] = nil_from_length _
    (omega (arith, eqb-true _ 0 (sym c.is_empty.ensures ∙ c.if-is_empty.true))) in
    let here : c.len.result ≡ length es = c.len.ensures in
    let there : c.len-2.result ≡ length fs = c.len-2.ensures in
    let e = leaf_evened l r m rm es fs c.even_leaves-last.new.low.items c.even_leaves-last.new.high.items cs ds
    c.even_leaves-last.result c.self.view_is c.right.view_is none c.self.invariant.0 c.right.invariant.0
    c.requires.same_height c.requires.rising c.requires.uneven (omega arith) c.even_leaves-last.ensures.whole
    c.even_leaves-last.ensures.last c.even_leaves-last.ensures.evens in
    λ n. absurd (omega (
      arith,
      n,
      ap (λ (x : List PageView). length x)
          (leaf_childless l r m rm es fs cs ds c.self.view_is c.right.view_is none c.right.invariant.0
          c.requires.same_height),
    ))

pub invariant_of-self-then-is_empty : goal.invariant_of-self-then-is_empty
invariant_of-self-then-is_empty c =
    let l = c.args.self.now in
    let r = c.args.right in
    let m = c.self.inside.most in
    let rm = c.right.inside.most in
    let es = c.self.inside.entries.items in
    let fs = c.right.inside.entries.items in
    let cs = c.self.inside.children.items in
    let ds = c.right.inside.children.items in
    let none : cs ≡ [] = nil_from_length _
    (omega (arith, eqb-true _ 0 (sym c.is_empty.ensures ∙ c.if-is_empty.true))) in
    let here : c.len.result ≡ length es = c.len.ensures in
    let there : c.len-2.result ≡ length fs = c.len-2.ensures in
    let e = leaf_evened l r m rm es fs c.even_leaves-last.new.low.items c.even_leaves-last.new.high.items cs ds
    c.even_leaves-last.result c.self.view_is c.right.view_is none c.self.invariant.0 c.right.invariant.0
    c.requires.same_height c.requires.rising c.requires.uneven (omega arith) c.even_leaves-last.ensures.whole
    c.even_leaves-last.ensures.last c.even_leaves-last.ensures.evens in
    (e.page, e.full, omega (arith, c.self.invariant.2, c.even_leaves-last.ensures.low_room), c.self.invariant.3)

pub returns-then-is_empty : goal.returns-then-is_empty
returns-then-is_empty c =
    let l = c.args.self.now in
    let r = c.args.right in
    let m = c.self.inside.most in
    let rm = c.right.inside.most in
    let es = c.self.inside.entries.items in
    let fs = c.right.inside.entries.items in
    let cs = c.self.inside.children.items in
    let ds = c.right.inside.children.items in
    let none : cs ≡ [] = nil_from_length _
    (omega (arith, eqb-true _ 0 (sym c.is_empty.ensures ∙ c.if-is_empty.true))) in
    let here : c.len.result ≡ length es = c.len.ensures in
    let there : c.len-2.result ≡ length fs = c.len-2.ensures in
    let e = leaf_evened l r m rm es fs c.even_leaves-last.new.low.items c.even_leaves-last.new.high.items cs ds
    c.even_leaves-last.result c.self.view_is c.right.view_is none c.self.invariant.0 c.right.invariant.0
    c.requires.same_height c.requires.rising c.requires.uneven (omega arith) c.even_leaves-last.ensures.whole
    c.even_leaves-last.ensures.last c.even_leaves-last.ensures.evens in
    subst (λ (v : PageView). Joins l r (view_of m c.even_leaves-last.new.low.items cs)
    (Some (c.even_leaves-last.result, v))) (sym c.of_parts.ensures) e.joins

pub push-requires-clause-alike : goal.push-requires-clause-alike
push-requires-clause-alike c =
    let l = c.args.self.now in
    let r = c.args.right in
    let m = c.self.inside.most in
    let rm = c.right.inside.most in
    let es = c.self.inside.entries.items in
    let fs = c.right.inside.entries.items in
    let cs = c.self.inside.children.items in
    let ds = c.right.inside.children.items in
    let b = beside l r m rm es fs cs ds c.args.separator c.self.inside.entries.room c.right.inside.entries.room
    c.self.view_is c.right.view_is c.self.invariant.0 c.right.invariant.0 c.self.invariant.2 c.right.invariant.2
    c.requires.same_most c.requires.keyed c.requires.separator in
    subst (λ j. HaveKeys j es) (sym b.size) b.keys

pub push-requires-clause-room : goal.push-requires-clause-room
push-requires-clause-room c =
    let l = c.args.self.now in
    let r = c.args.right in
    let m = c.self.inside.most in
    let rm = c.right.inside.most in
    let es = c.self.inside.entries.items in
    let fs = c.right.inside.entries.items in
    let cs = c.self.inside.children.items in
    let ds = c.right.inside.children.items in
    let b = beside l r m rm es fs cs ds c.args.separator c.self.inside.entries.room c.right.inside.entries.room
    c.self.view_is c.right.view_is c.self.invariant.0 c.right.invariant.0 c.self.invariant.2 c.right.invariant.2
    c.requires.same_most c.requires.keyed c.requires.separator in
    subst (λ j. (length es + 1) * (j + 4) ≤ c.self.inside.entries.room) (sym b.size)
    (b.here (length es + 1) (omega (arith, c.self.invariant.1)))

pub copy_all-requires-then-both-self-2 : goal.copy_all-requires-then-both-self-2
copy_all-requires-then-both-self-2 c =
    let l = c.args.self.now in
    let r = c.args.right in
    let m = c.self.inside.most in
    let rm = c.right.inside.most in
    let es = c.self.inside.entries.items in
    let fs = c.right.inside.entries.items in
    let cs = c.self.inside.children.items in
    let ds = c.right.inside.children.items in
    let b = beside l r m rm es fs cs ds c.args.separator c.self.inside.entries.room c.right.inside.entries.room
    c.self.view_is c.right.view_is c.self.invariant.0 c.right.invariant.0 c.self.invariant.2 c.right.invariant.2
    c.requires.same_most c.requires.keyed c.requires.separator in
    let here : c.len.result ≡ length es = c.len.ensures in
    let there : c.len-2.result ≡ length fs = c.len-2.ensures in
    let keys : HaveKeys b.k c.push.new.self.items =
    pushed_keyed b.k es c.push.new.self.items c.args.separator b.keys b.size c.push.ensures.items in
    let more : length c.push.new.self.items ≡ length es + 1 =
    ap (λ (x : List Pair). length x) c.push.ensures.items ∙ length-append es (c.args.separator ∷ []) in (
      b.k,
      b.others,
      keys,
      omega (
        arith,
        b.here (length c.push.new.self.items + length fs) (omega arith),
        c.push.ensures.room,
      ),
    )

pub move_all-requires : goal.move_all-requires
move_all-requires c =
    let l = c.args.self.now in
    let r = c.args.right in
    let m = c.self.inside.most in
    let rm = c.right.inside.most in
    let es = c.self.inside.entries.items in
    let fs = c.right.inside.entries.items in
    let cs = c.self.inside.children.items in
    let ds = c.right.inside.children.items in
    let some : 0 < length cs = omega (arith, eqb-false _ 0 (sym c.is_empty.ensures ∙ c.if-is_empty.false)) in
    let here : c.len.result ≡ length es = c.len.ensures in
    let there : c.len-2.result ≡ length fs = c.len-2.ensures in
    let mine : length cs ≡ length es + 1 = page_children m es cs c.self.invariant.0 some in
    let others : length ds ≡ length fs + 1 = other_children l r m rm es fs cs ds c.self.view_is c.right.view_is
    c.self.invariant.0 c.right.invariant.0 some c.requires.same_height in
    omega (arith, c.self.invariant.3 some)

pub invariant_of-self-then-both-self-2 : goal.invariant_of-self-then-both-self-2
invariant_of-self-then-both-self-2 c =
    let l = c.args.self.now in
    let r = c.args.right in
    let m = c.self.inside.most in
    let rm = c.right.inside.most in
    let es = c.self.inside.entries.items in
    let fs = c.right.inside.entries.items in
    let cs = c.self.inside.children.items in
    let ds = c.right.inside.children.items in
    let some : 0 < length cs = omega (arith, eqb-false _ 0 (sym c.is_empty.ensures ∙ c.if-is_empty.false)) in
    let here : c.len.result ≡ length es = c.len.ensures in
    let there : c.len-2.result ≡ length fs = c.len-2.ensures in
    let is = inner_joined l r m rm es fs cs ds c.args.separator c.self.view_is c.right.view_is c.self.invariant.0
    c.right.invariant.0 some c.requires.same_height c.requires.same_most c.requires.rising c.requires.separator in
    let es_is : c.copy_all-then-both-self-2.new.to.items ≡ es ++ c.args.separator ∷ fs =
    c.copy_all-then-both-self-2.ensures.items ∙ ap (λ (x : List Pair). x ++ fs) c.push.ensures.items
    ∙ append_assoc es (c.args.separator ∷ []) fs in
    let both : IsJoined l r m c.copy_all-then-both-self-2.new.to.items c.move_all.new.to.items = subst
    (λ (x : List Pair). IsJoined l r m x c.move_all.new.to.items) (sym es_is)
    (subst (λ (x : List PageView). IsJoined l r m (es ++ c.args.separator ∷ fs) x) (sym c.move_all.ensures.moved)
    is) in
    let size : length c.copy_all-then-both-self-2.new.to.items ≡ length es + (length fs + 1) =
    omega (arith, ap (λ (x : List Pair). length x) es_is, length-append es (c.args.separator ∷ fs)) in (
      both.page,
      omega arith,
      omega (
        arith,
        c.self.invariant.2,
        c.push.ensures.room,
        c.copy_all-then-both-self-2.ensures.room,
      ),
      λ _. omega
          (arith, c.self.invariant.3 some, c.move_all.ensures.capacity),
    )

pub returns-then-both-self-2 : goal.returns-then-both-self-2
returns-then-both-self-2 c =
    let l = c.args.self.now in
    let r = c.args.right in
    let m = c.self.inside.most in
    let rm = c.right.inside.most in
    let es = c.self.inside.entries.items in
    let fs = c.right.inside.entries.items in
    let cs = c.self.inside.children.items in
    let ds = c.right.inside.children.items in
    let some : 0 < length cs = omega (arith, eqb-false _ 0 (sym c.is_empty.ensures ∙ c.if-is_empty.false)) in
    let here : c.len.result ≡ length es = c.len.ensures in
    let there : c.len-2.result ≡ length fs = c.len-2.ensures in
    let four : 4 ≤ l.most = subst (λ k. 4 ≤ k) (most_is l m es cs c.self.view_is) c.self.invariant.0.four in
    let enough : l.most / 2 ≤ l.count + r.count = uneven_enough l.most l.count r.count four c.requires.uneven in
    let is = inner_joined l r m rm es fs cs ds c.args.separator c.self.view_is c.right.view_is c.self.invariant.0
    c.right.invariant.0 some c.requires.same_height c.requires.same_most c.requires.rising c.requires.separator in
    let es_is : c.copy_all-then-both-self-2.new.to.items ≡ es ++ c.args.separator ∷ fs =
    c.copy_all-then-both-self-2.ensures.items ∙ ap (λ (x : List Pair). x ++ fs) c.push.ensures.items
    ∙ append_assoc es (c.args.separator ∷ []) fs in
    let both : IsJoined l r m c.copy_all-then-both-self-2.new.to.items c.move_all.new.to.items = subst
    (λ (x : List Pair). IsJoined l r m x c.move_all.new.to.items) (sym es_is)
    (subst (λ (x : List PageView). IsJoined l r m (es ++ c.args.separator ∷ fs) x) (sym c.move_all.ensures.moved)
    is) in
    let size : length c.copy_all-then-both-self-2.new.to.items ≡ length es + (length fs + 1) =
    omega (arith, ap (λ (x : List Pair). length x) es_is, length-append es (c.args.separator ∷ fs)) in
    inner_joins l r m c.copy_all-then-both-self-2.new.to.items c.move_all.new.to.items both enough (omega arith)

pub even_inner-last-requires-clause-keyed : goal.even_inner-last-requires-clause-keyed
even_inner-last-requires-clause-keyed c =
    let l = c.args.self.now in
    let r = c.args.right in
    let m = c.self.inside.most in
    let rm = c.right.inside.most in
    let es = c.self.inside.entries.items in
    let fs = c.right.inside.entries.items in
    let cs = c.self.inside.children.items in
    let ds = c.right.inside.children.items in
    let b = beside l r m rm es fs cs ds c.args.separator c.self.inside.entries.room c.right.inside.entries.room
    c.self.view_is c.right.view_is c.self.invariant.0 c.right.invariant.0 c.self.invariant.2 c.right.invariant.2
    c.requires.same_most c.requires.keyed c.requires.separator in (
      b.k,
      b.keys,
      b.others,
      b.size,
      b.here (length es + 1) (omega (arith, c.self.invariant.1)),
      b.there (length fs + 1)
          (subst (λ i. length fs + 1 ≤ i + 1) b.same (omega (arith, c.right.invariant.1))),
    )

pub even_inner-last-requires-clause-left : goal.even_inner-last-requires-clause-left
even_inner-last-requires-clause-left c =
    let l = c.args.self.now in
    let r = c.args.right in
    let m = c.self.inside.most in
    let rm = c.right.inside.most in
    let es = c.self.inside.entries.items in
    let fs = c.right.inside.entries.items in
    let cs = c.self.inside.children.items in
    let ds = c.right.inside.children.items in
    let some : 0 < length cs = omega (arith, eqb-false _ 0 (sym c.is_empty.ensures ∙ c.if-is_empty.false)) in
    let mine : length cs ≡ length es + 1 = page_children m es cs c.self.invariant.0 some in
    omega (arith, mine)

pub even_inner-last-requires-clause-right : goal.even_inner-last-requires-clause-right
even_inner-last-requires-clause-right c =
    let l = c.args.self.now in
    let r = c.args.right in
    let m = c.self.inside.most in
    let rm = c.right.inside.most in
    let es = c.self.inside.entries.items in
    let fs = c.right.inside.entries.items in
    let cs = c.self.inside.children.items in
    let ds = c.right.inside.children.items in
    let some : 0 < length cs = omega (arith, eqb-false _ 0 (sym c.is_empty.ensures ∙ c.if-is_empty.false)) in
    let others : length ds ≡ length fs + 1 = other_children l r m rm es fs cs ds c.self.view_is c.right.view_is
    c.self.invariant.0 c.right.invariant.0 some c.requires.same_height in
    omega (arith, others)

pub even_inner-last-requires-clause-left_room : goal.even_inner-last-requires-clause-left_room
even_inner-last-requires-clause-left_room c =
    let l = c.args.self.now in
    let r = c.args.right in
    let m = c.self.inside.most in
    let rm = c.right.inside.most in
    let es = c.self.inside.entries.items in
    let fs = c.right.inside.entries.items in
    let cs = c.self.inside.children.items in
    let ds = c.right.inside.children.items in
    let some : 0 < length cs = omega (arith, eqb-false _ 0 (sym c.is_empty.ensures ∙ c.if-is_empty.false)) in
    let mine : length cs ≡ length es + 1 = page_children m es cs c.self.invariant.0 some in
    omega (arith, c.self.invariant.3 some, c.self.invariant.1)

pub even_inner-last-requires-clause-right_room : goal.even_inner-last-requires-clause-right_room
even_inner-last-requires-clause-right_room c =
    let l = c.args.self.now in
    let r = c.args.right in
    let m = c.self.inside.most in
    let rm = c.right.inside.most in
    let es = c.self.inside.entries.items in
    let fs = c.right.inside.entries.items in
    let cs = c.self.inside.children.items in
    let ds = c.right.inside.children.items in
    let some : 0 < length cs = omega (arith, eqb-false _ 0 (sym c.is_empty.ensures ∙ c.if-is_empty.false)) in
    let others : length ds ≡ length fs + 1 = other_children l r m rm es fs cs ds c.self.view_is c.right.view_is
    c.self.invariant.0 c.right.invariant.0 some c.requires.same_height in
    omega (arith, c.right.invariant.3 (omega (arith, others)), c.right.invariant.1)

pub of_parts-requires-2-clause-parts : goal.of_parts-requires-2-clause-parts
of_parts-requires-2-clause-parts c =
    let l = c.args.self.now in
    let r = c.args.right in
    let m = c.self.inside.most in
    let rm = c.right.inside.most in
    let es = c.self.inside.entries.items in
    let fs = c.right.inside.entries.items in
    let cs = c.self.inside.children.items in
    let ds = c.right.inside.children.items in
    let b = beside l r m rm es fs cs ds c.args.separator c.self.inside.entries.room c.right.inside.entries.room
    c.self.view_is c.right.view_is c.self.invariant.0 c.right.invariant.0 c.self.invariant.2 c.right.invariant.2
    c.requires.same_most c.requires.keyed c.requires.separator in
    let some : 0 < length cs = omega (arith, eqb-false _ 0 (sym c.is_empty.ensures ∙ c.if-is_empty.false)) in
    let here : c.len.result ≡ length es = c.len.ensures in
    let there : c.len-2.result ≡ length fs = c.len-2.ensures in
    let size : length cs ≡ length es + 1 = page_children m es cs c.self.invariant.0 some in
    let e = inner_evened l r m rm es fs c.even_inner-last.new.low.items c.even_inner-last.new.high.items cs ds
    c.even_inner-last.new.left.items c.even_inner-last.new.right.items c.args.separator c.even_inner-last.result
    c.self.view_is c.right.view_is c.self.invariant.0 c.right.invariant.0 some c.requires.same_height
    c.requires.same_most c.requires.rising c.requires.separator c.requires.uneven (omega arith)
    c.even_inner-last.ensures.whole c.even_inner-last.ensures.children
    (omega (arith, c.even_inner-last.ensures.more)) c.even_inner-last.ensures.evens in
    let others : length ds ≡ length fs + 1 = other_children l r m rm es fs cs ds c.self.view_is c.right.view_is
    c.self.invariant.0 c.right.invariant.0 some c.requires.same_height in
    e.later

pub of_parts-requires-2-clause-full : goal.of_parts-requires-2-clause-full
of_parts-requires-2-clause-full c =
    let l = c.args.self.now in
    let r = c.args.right in
    let m = c.self.inside.most in
    let rm = c.right.inside.most in
    let es = c.self.inside.entries.items in
    let fs = c.right.inside.entries.items in
    let cs = c.self.inside.children.items in
    let ds = c.right.inside.children.items in
    let b = beside l r m rm es fs cs ds c.args.separator c.self.inside.entries.room c.right.inside.entries.room
    c.self.view_is c.right.view_is c.self.invariant.0 c.right.invariant.0 c.self.invariant.2 c.right.invariant.2
    c.requires.same_most c.requires.keyed c.requires.separator in
    let some : 0 < length cs = omega (arith, eqb-false _ 0 (sym c.is_empty.ensures ∙ c.if-is_empty.false)) in
    let here : c.len.result ≡ length es = c.len.ensures in
    let there : c.len-2.result ≡ length fs = c.len-2.ensures in
    let size : length cs ≡ length es + 1 = page_children m es cs c.self.invariant.0 some in
    let e = inner_evened l r m rm es fs c.even_inner-last.new.low.items c.even_inner-last.new.high.items cs ds
    c.even_inner-last.new.left.items c.even_inner-last.new.right.items c.args.separator c.even_inner-last.result
    c.self.view_is c.right.view_is c.self.invariant.0 c.right.invariant.0 some c.requires.same_height
    c.requires.same_most c.requires.rising c.requires.separator c.requires.uneven (omega arith)
    c.even_inner-last.ensures.whole c.even_inner-last.ensures.children
    (omega (arith, c.even_inner-last.ensures.more)) c.even_inner-last.ensures.evens in
    let others : length ds ≡ length fs + 1 = other_children l r m rm es fs cs ds c.self.view_is c.right.view_is
    c.self.invariant.0 c.right.invariant.0 some c.requires.same_height in
    e.later_full

pub of_parts-requires-2-clause-room : goal.of_parts-requires-2-clause-room
of_parts-requires-2-clause-room c =
    let l = c.args.self.now in
    let r = c.args.right in
    let m = c.self.inside.most in
    let rm = c.right.inside.most in
    let es = c.self.inside.entries.items in
    let fs = c.right.inside.entries.items in
    let cs = c.self.inside.children.items in
    let ds = c.right.inside.children.items in
    let b = beside l r m rm es fs cs ds c.args.separator c.self.inside.entries.room c.right.inside.entries.room
    c.self.view_is c.right.view_is c.self.invariant.0 c.right.invariant.0 c.self.invariant.2 c.right.invariant.2
    c.requires.same_most c.requires.keyed c.requires.separator in
    let some : 0 < length cs = omega (arith, eqb-false _ 0 (sym c.is_empty.ensures ∙ c.if-is_empty.false)) in
    let here : c.len.result ≡ length es = c.len.ensures in
    let there : c.len-2.result ≡ length fs = c.len-2.ensures in
    let size : length cs ≡ length es + 1 = page_children m es cs c.self.invariant.0 some in
    let e = inner_evened l r m rm es fs c.even_inner-last.new.low.items c.even_inner-last.new.high.items cs ds
    c.even_inner-last.new.left.items c.even_inner-last.new.right.items c.args.separator c.even_inner-last.result
    c.self.view_is c.right.view_is c.self.invariant.0 c.right.invariant.0 some c.requires.same_height
    c.requires.same_most c.requires.rising c.requires.separator c.requires.uneven (omega arith)
    c.even_inner-last.ensures.whole c.even_inner-last.ensures.children
    (omega (arith, c.even_inner-last.ensures.more)) c.even_inner-last.ensures.evens in
    let others : length ds ≡ length fs + 1 = other_children l r m rm es fs cs ds c.self.view_is c.right.view_is
    c.self.invariant.0 c.right.invariant.0 some c.requires.same_height in
    omega (arith, b.all, c.even_inner-last.ensures.high_room)

pub of_parts-requires-2-clause-child_room : goal.of_parts-requires-2-clause-child_room
of_parts-requires-2-clause-child_room c =
    let l = c.args.self.now in
    let r = c.args.right in
    let m = c.self.inside.most in
    let rm = c.right.inside.most in
    let es = c.self.inside.entries.items in
    let fs = c.right.inside.entries.items in
    let cs = c.self.inside.children.items in
    let ds = c.right.inside.children.items in
    let b = beside l r m rm es fs cs ds c.args.separator c.self.inside.entries.room c.right.inside.entries.room
    c.self.view_is c.right.view_is c.self.invariant.0 c.right.invariant.0 c.self.invariant.2 c.right.invariant.2
    c.requires.same_most c.requires.keyed c.requires.separator in
    let some : 0 < length cs = omega (arith, eqb-false _ 0 (sym c.is_empty.ensures ∙ c.if-is_empty.false)) in
    let here : c.len.result ≡ length es = c.len.ensures in
    let there : c.len-2.result ≡ length fs = c.len-2.ensures in
    let size : length cs ≡ length es + 1 = page_children m es cs c.self.invariant.0 some in
    let e = inner_evened l r m rm es fs c.even_inner-last.new.low.items c.even_inner-last.new.high.items cs ds
    c.even_inner-last.new.left.items c.even_inner-last.new.right.items c.args.separator c.even_inner-last.result
    c.self.view_is c.right.view_is c.self.invariant.0 c.right.invariant.0 some c.requires.same_height
    c.requires.same_most c.requires.rising c.requires.separator c.requires.uneven (omega arith)
    c.even_inner-last.ensures.whole c.even_inner-last.ensures.children
    (omega (arith, c.even_inner-last.ensures.more)) c.even_inner-last.ensures.evens in
    let others : length ds ≡ length fs + 1 = other_children l r m rm es fs cs ds c.self.view_is c.right.view_is
    c.self.invariant.0 c.right.invariant.0 some c.requires.same_height in
    λ _. let room = c.right.invariant.3 (omega (arith, others)) in omega
    (arith, b.same, room, c.even_inner-last.ensures.right_capacity)

pub invariant_of-self-2 : goal.invariant_of-self-2
invariant_of-self-2 c =
    let l = c.args.self.now in
    let r = c.args.right in
    let m = c.self.inside.most in
    let rm = c.right.inside.most in
    let es = c.self.inside.entries.items in
    let fs = c.right.inside.entries.items in
    let cs = c.self.inside.children.items in
    let ds = c.right.inside.children.items in
    let some : 0 < length cs = omega (arith, eqb-false _ 0 (sym c.is_empty.ensures ∙ c.if-is_empty.false)) in
    let here : c.len.result ≡ length es = c.len.ensures in
    let there : c.len-2.result ≡ length fs = c.len-2.ensures in
    let size : length cs ≡ length es + 1 = page_children m es cs c.self.invariant.0 some in
    let e = inner_evened l r m rm es fs c.even_inner-last.new.low.items c.even_inner-last.new.high.items cs ds
    c.even_inner-last.new.left.items c.even_inner-last.new.right.items c.args.separator c.even_inner-last.result
    c.self.view_is c.right.view_is c.self.invariant.0 c.right.invariant.0 some c.requires.same_height
    c.requires.same_most c.requires.rising c.requires.separator c.requires.uneven (omega arith)
    c.even_inner-last.ensures.whole c.even_inner-last.ensures.children
    (omega (arith, c.even_inner-last.ensures.more)) c.even_inner-last.ensures.evens in (
      e.page,
      e.full,
      omega (arith, c.self.invariant.2, c.even_inner-last.ensures.low_room),
      λ _. omega
          (arith, c.self.invariant.3 some, c.even_inner-last.ensures.left_capacity),
    )

pub returns : goal.returns
returns c =
    let l = c.args.self.now in
    let r = c.args.right in
    let m = c.self.inside.most in
    let rm = c.right.inside.most in
    let es = c.self.inside.entries.items in
    let fs = c.right.inside.entries.items in
    let cs = c.self.inside.children.items in
    let ds = c.right.inside.children.items in
    let some : 0 < length cs = omega (arith, eqb-false _ 0 (sym c.is_empty.ensures ∙ c.if-is_empty.false)) in
    let here : c.len.result ≡ length es = c.len.ensures in
    let there : c.len-2.result ≡ length fs = c.len-2.ensures in
    let size : length cs ≡ length es + 1 = page_children m es cs c.self.invariant.0 some in
    let e = inner_evened l r m rm es fs c.even_inner-last.new.low.items c.even_inner-last.new.high.items cs ds
    c.even_inner-last.new.left.items c.even_inner-last.new.right.items c.args.separator c.even_inner-last.result
    c.self.view_is c.right.view_is c.self.invariant.0 c.right.invariant.0 some c.requires.same_height
    c.requires.same_most c.requires.rising c.requires.separator c.requires.uneven (omega arith)
    c.even_inner-last.ensures.whole c.even_inner-last.ensures.children
    (omega (arith, c.even_inner-last.ensures.more)) c.even_inner-last.ensures.evens in
    subst (λ (v : PageView). Joins l r (view_of m c.even_inner-last.new.low.items c.even_inner-last.new.left.items)
    (Some (c.even_inner-last.result, v))) (sym c.of_parts-2.ensures) e.joins
