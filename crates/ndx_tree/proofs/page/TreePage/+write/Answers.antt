use Rattle.std.proofs.Common.{◌≡◌, ◌∙◌, ◌+◌, ◌-◌, ◌/◌, ◌≤◌, ◌<◌, ◌++◌, ◌∷◌, [], ℕ, List, length, take, get_or, refl}
use Rattle.std.proofs.Common.{sym, ap, subst, arith, length-append, lit<}
use Rattle.std.proofs.lemmas.Bool.{eqb-true, eqb-false}
use Rattle.std.proofs.lemmas.List.{nil_from_length, take_all, get_or_default}
use Rattle.ndx_page.specs.declared.page.PageEntry.{PageEntry}
use Rattle.key_lists.specs.Order.{Each}
use Rattle.key_lists.specs.Pairs.{Pair}
use Rattle.key_lists.specs.KeyForm.{IsPairOf}
use Rattle.ndx_tree.specs.IndexFile.{leaf_pairs}
use Rattle.ndx_tree.specs.Pages.{PageView, view_of, pairs_of, IsFramedPage, pairs_of_pages, height_of}
use Rattle.ndx_tree.specs.Writes.{AreWritten, IsWritten, IsPageText}
use Rattle.ndx_tree.proofs.Cut.{cut_length, cut_from, pairs_from}
use Rattle.ndx_tree.proofs.Between.{take_next}
use Rattle.ndx_page.proofs.LayoutLemmas.{most_entries-bound}
use Rattle.ndx_tree.proofs.Writing.{leaf_written, inner_written, none_written, child_written, child_at_place}
use Rattle.ndx_tree.proofs.Writing.{inner_fits, leaf_page_fits, inner_own, leaf_own}
use Rattle.ndx_tree.proofs.TextPages.{no_pages, more_pages, page_behind_pages}
use Rattle.ndx_tree.specs.IndexText.{pages_text}
use Rattle.ndx_tree.proofs.page.TreePage.+write.Goals as goal

nothing : Pair
nothing = ([], 0)

pub leaf_of-requires : goal.leaf_of-requires
leaf_of-requires t c =
    let most = most_entries-bound c.args.head.now.length c.args.head.now.some_key in
    let none : c.self.inside.children.items ≡ [] =
    nil_from_length _ (omega (arith, eqb-true _ 0 (sym c.is_empty.ensures ∙ c.if-is_empty.true))) in
    let same : c.self.inside.most ≡ c.args.self.now.most = ap (λ (v : PageView). v.most) c.self.view_is in
    omega (arith, c.self.invariant.1, c.requires.most, same)

pub append_page-requires-clause-fits : goal.append_page-requires-clause-fits
append_page-requires-clause-fits t c =
    let most = most_entries-bound c.args.head.now.length c.args.head.now.some_key in
    let none : c.self.inside.children.items ≡ [] =
    nil_from_length _ (omega (arith, eqb-true _ 0 (sym c.is_empty.ensures ∙ c.if-is_empty.true))) in
    let same : c.self.inside.most ≡ c.args.self.now.most = ap (λ (v : PageView). v.most) c.self.view_is in
    let pairs : leaf_pairs c.leaf_of.result.entries.items ≡ c.args.self.now.pairs = c.leaf_of.ensures.pairs
    ∙ ap (pairs_of c.self.inside.entries.items) (sym none) ∙ ap (λ (v : PageView). v.pairs) c.self.view_is in
    leaf_page_fits c.args.head.now.length c.leaf_of.result
    (subst (Each (IsPairOf c.args.head.now.length)) (sym pairs) c.requires.keys) c.leaf_of.ensures.children
    c.leaf_of.ensures.last (omega (arith, c.leaf_of.ensures.count, c.self.invariant.1, c.requires.most, same))

pub returns-then-is_empty-clause-written : goal.returns-then-is_empty-clause-written
returns-then-is_empty-clause-written t c =
    let most = most_entries-bound c.args.head.now.length c.args.head.now.some_key in
    let none : c.self.inside.children.items ≡ [] =
    nil_from_length _ (omega (arith, eqb-true _ 0 (sym c.is_empty.ensures ∙ c.if-is_empty.true))) in
    let same : c.self.inside.most ≡ c.args.self.now.most = ap (λ (v : PageView). v.most) c.self.view_is in
    let pairs : leaf_pairs c.leaf_of.result.entries.items ≡ c.args.self.now.pairs = c.leaf_of.ensures.pairs
    ∙ ap (pairs_of c.self.inside.entries.items) (sym none) ∙ ap (λ (v : PageView). v.pairs) c.self.view_is in
    let height : c.args.self.now.height ≡ 1 =
    sym (ap (λ (v : PageView). v.height) c.self.view_is) ∙ ap height_of none in
    subst (λ n. IsWritten c.args.head.now.length c.args.pages n c.append_page.new.body.items c.args.self.now)
    (sym c.in_ok-own.ensures.number) (leaf_written c.args.head.now.length c.args.pages c.args.body.now.items
    c.append_page.new.body.items c.leaf_of.result c.args.self.now c.in_ok-own.ensures.text
    (omega (arith, c.requires.start)) c.leaf_of.ensures.last pairs height)

pub returns-then-is_empty-clause-text : goal.returns-then-is_empty-clause-text
returns-then-is_empty-clause-text t c =
    let k = c.args.head.now.length in
    let most = most_entries-bound k c.args.head.now.some_key in
    let none : c.self.inside.children.items ≡ [] =
    nil_from_length _ (omega (arith, eqb-true _ 0 (sym c.is_empty.ensures ∙ c.if-is_empty.true))) in
    let same : c.self.inside.most ≡ c.args.self.now.most = ap (λ (v : PageView). v.most) c.self.view_is in
    let pairs : leaf_pairs c.leaf_of.result.entries.items ≡ c.args.self.now.pairs = c.leaf_of.ensures.pairs
    ∙ ap (pairs_of c.self.inside.entries.items) (sym none) ∙ ap (λ (v : PageView). v.pairs) c.self.view_is in
    let fits = leaf_page_fits k c.leaf_of.result (subst (Each (IsPairOf k)) (sym pairs) c.requires.keys)
    c.leaf_of.ensures.children c.leaf_of.ensures.last
    (omega (arith, c.leaf_of.ensures.count, c.self.invariant.1, c.requires.most, same)) in
    let count : length c.leaf_of.result.entries.items ≡ c.args.self.now.count =
    c.leaf_of.ensures.count ∙ ap (λ (v : PageView). v.count) c.self.view_is in
    subst (λ n. IsPageText k c.args.pages n c.args.body.now.items c.append_page.new.body.items c.args.self.now.count)
    (sym c.in_ok-own.ensures.number)
    (page_behind_pages k c.args.pages c.args.pages c.args.self.now.count c.args.body.now.items c.args.body.now.items
    c.append_page.new.body.items c.leaf_of.result (no_pages k c.args.pages c.args.body.now.items)
    c.in_ok-own.ensures.text (leaf_own k c.leaf_of.result c.leaf_of.ensures.last fits) count)

pub loop-at-init : goal.loop-at-init
loop-at-init t c =
    let es = c.self.inside.entries.items in
    let cs = c.as_slice-children.result.now in
    let some : 0 < length cs =
    omega (arith, c.as_slice-children.ensures.len, eqb-false _ 0 (sym c.is_empty.ensures ∙ c.if-is_empty.false)) in
    let view : view_of c.self.inside.most es cs ≡ c.args.self.now = ap
    (view_of c.self.inside.most c.self.inside.entries.items) c.as_slice-children.ensures.value ∙ c.self.view_is in
    let page : IsFramedPage c.self.inside.most es cs = subst
    (IsFramedPage c.self.inside.most c.self.inside.entries.items) (sym c.as_slice-children.ensures.value)
    c.self.invariant.0 in
    let more : length cs ≡ length es + 1 = cut_length es cs (cut_from c.self.inside.most es cs page.framed some) in
    record {
      written = subst (λ (m : List PageEntry). AreWritten c.args.head.now.length (c.args.self.now.height - 1)
          c.args.pages c.args.pages c.args.body.now.items m []) (sym c.new.ensures)
          (none_written c.args.head.now.length (c.args.self.now.height - 1) c.args.pages c.args.body.now.items);
      text = no_pages c.args.head.now.length c.args.pages c.args.body.now.items;
      end = c.requires.start;
      later = omega arith;
      few = omega arith;
      count = ap (λ (m : List PageEntry). length m) c.new.ensures;
    }

pub bounds-children-at : goal.bounds-children-at
bounds-children-at t c =
    let es = c.self.inside.entries.items in
    let cs = c.as_slice-children.result.now in
    let some : 0 < length cs =
    omega (arith, c.as_slice-children.ensures.len, eqb-false _ 0 (sym c.is_empty.ensures ∙ c.if-is_empty.false)) in
    let view : view_of c.self.inside.most es cs ≡ c.args.self.now = ap
    (view_of c.self.inside.most c.self.inside.entries.items) c.as_slice-children.ensures.value ∙ c.self.view_is in
    let page : IsFramedPage c.self.inside.most es cs = subst
    (IsFramedPage c.self.inside.most c.self.inside.entries.items) (sym c.as_slice-children.ensures.value)
    c.self.invariant.0 in
    let more : length cs ≡ length es + 1 = cut_length es cs (cut_from c.self.inside.most es cs page.framed some) in
    omega (arith, more)

pub write-requires : goal.write-requires
write-requires t c =
    let es = c.self.inside.entries.items in
    let cs = c.as_slice-children.result.now in
    let some : 0 < length cs =
    omega (arith, c.as_slice-children.ensures.len, eqb-false _ 0 (sym c.is_empty.ensures ∙ c.if-is_empty.false)) in
    let view : view_of c.self.inside.most es cs ≡ c.args.self.now = ap
    (view_of c.self.inside.most c.self.inside.entries.items) c.as_slice-children.ensures.value ∙ c.self.view_is in
    let page : IsFramedPage c.self.inside.most es cs = subst
    (IsFramedPage c.self.inside.most c.self.inside.entries.items) (sym c.as_slice-children.ensures.value)
    c.self.invariant.0 in
    let more : length cs ≡ length es + 1 = cut_length es cs (cut_from c.self.inside.most es cs page.framed some) in
    let q = child_at_place c.args.head.now.length c.self.inside.most c.args.self.now es cs c.loop-at.at
    c.index-children-at.result view page c.requires.keys (omega (arith, more)) c.index-children-at.is in (
      omega (arith, c.decreases, q.level),
      (
        λ _. q.some,
        (
          q.most ∙ c.requires.most,
          (
            q.keys,
            (
              omega (arith, c.loop-at.invariant.few, q.fits, c.requires.room),
              (omega (arith, c.loop-at.invariant.few, q.fits, q.two, c.requires.room), c.loop-at.invariant.end),
            ),
          ),
        ),
      ),
    )

pub push-requires : goal.push-requires
push-requires t c =
    let es = c.self.inside.entries.items in
    let cs = c.as_slice-children.result.now in
    let some : 0 < length cs =
    omega (arith, c.as_slice-children.ensures.len, eqb-false _ 0 (sym c.is_empty.ensures ∙ c.if-is_empty.false)) in
    let view : view_of c.self.inside.most es cs ≡ c.args.self.now = ap
    (view_of c.self.inside.most c.self.inside.entries.items) c.as_slice-children.ensures.value ∙ c.self.view_is in
    let page : IsFramedPage c.self.inside.most es cs = subst
    (IsFramedPage c.self.inside.most c.self.inside.entries.items) (sym c.as_slice-children.ensures.value)
    c.self.invariant.0 in
    let more : length cs ≡ length es + 1 = cut_length es cs (cut_from c.self.inside.most es cs page.framed some) in
    let most = most_entries-bound c.args.head.now.length c.args.head.now.some_key in
    let same : c.self.inside.most ≡ c.args.self.now.most = ap (λ (v : PageView). v.most) c.self.view_is in
    (lit< tt, omega (arith, c.loop-at.invariant.count, most, c.self.invariant.1, c.requires.most, same))

pub loop-at-preserved : goal.loop-at-preserved
loop-at-preserved t c =
    let es = c.self.inside.entries.items in
    let cs = c.as_slice-children.result.now in
    let some : 0 < length cs =
    omega (arith, c.as_slice-children.ensures.len, eqb-false _ 0 (sym c.is_empty.ensures ∙ c.if-is_empty.false)) in
    let view : view_of c.self.inside.most es cs ≡ c.args.self.now = ap
    (view_of c.self.inside.most c.self.inside.entries.items) c.as_slice-children.ensures.value ∙ c.self.view_is in
    let page : IsFramedPage c.self.inside.most es cs = subst
    (IsFramedPage c.self.inside.most c.self.inside.entries.items) (sym c.as_slice-children.ensures.value)
    c.self.invariant.0 in
    let more : length cs ≡ length es + 1 = cut_length es cs (cut_from c.self.inside.most es cs page.framed some) in
    let q = child_at_place c.args.head.now.length c.self.inside.most c.args.self.now es cs c.loop-at.at
    c.index-children-at.result view page c.requires.keys (omega (arith, more)) c.index-children-at.is in
    let inv = c.loop-at.invariant in
    let d = c.index-children-at.result in
    let s = get_or es c.loop-at.at nothing in
    let g = c.in_ok-child.ensures.text in
    let sep = q.separator s (omega arith) (get_or_default es c.loop-at.at nothing s (omega arith)) in
    let key : s.0 ≡ c.between.result.key.items = sym (c.between.ensures.key ∙ c.key.ensures.value nothing) in
    let fits : length c.between.result.key.items ≡ c.args.head.now.length =
    ap (λ (m : List ℕ). length m) (sym key) ∙ sep.1.0 in
    let next : take (c.loop-at.at + 1) cs ≡ take c.loop-at.at cs ++ d ∷ [] =
    take_next cs c.loop-at.at d (omega (arith, more)) c.index-children-at.is in
    record {
      written = subst (λ (m : List PageEntry). AreWritten c.args.head.now.length (c.args.self.now.height - 1)
          c.args.pages c.in_ok-child.child c.write.new.body.items m (take (c.loop-at.at + 1) cs))
          (sym c.push.ensures.items)
          (subst (λ (m : List PageView). AreWritten c.args.head.now.length (c.args.self.now.height - 1) c.args.pages
          c.in_ok-child.child c.write.new.body.items (c.loop-at.page.entries.items ++ c.between.result ∷ []) m)
          (sym next)
          (child_written c.args.head.now.length (c.args.self.now.height - 1) c.args.pages c.loop-at.number
          c.in_ok-child.child c.loop-at.body.items (pages_text c.args.head.now.length (g.pages ++ g.page ∷ []))
          c.write.new.body.items c.loop-at.page.entries.items (take c.loop-at.at cs) d c.between.result s
          inv.written c.in_ok-child.ensures.written g.items (omega (arith, q.level)) inv.later
          c.in_ok-child.ensures.later c.between.ensures.child fits sep.0 key c.between.ensures.number));
      text = more_pages c.args.head.now.length c.args.pages c.loop-at.number c.in_ok-child.child d.count
          c.args.body.now.items c.loop-at.body.items c.write.new.body.items inv.text g
          (subst (λ m. m / 2 ≤ d.count) c.requires.most q.half);
      end = c.in_ok-child.ensures.end;
      later = omega (arith, inv.later, c.in_ok-child.ensures.later);
      few = omega (
        arith,
        inv.few,
        c.in_ok-child.ensures.few q.two,
        ap (λ (m : List Pair). length m) q.more,
        length-append (pairs_of_pages (take c.loop-at.at cs)) d.pairs,
      );
      count = ap (λ (m : List PageEntry). length m) c.push.ensures.items
          ∙ length-append c.loop-at.page.entries.items (c.between.result ∷ []) ∙ omega (arith, inv.count);
    }

pub bounds-children-len : goal.bounds-children-len
bounds-children-len t c =
    let es = c.self.inside.entries.items in
    let cs = c.as_slice-children.result.now in
    let some : 0 < length cs =
    omega (arith, c.as_slice-children.ensures.len, eqb-false _ 0 (sym c.is_empty.ensures ∙ c.if-is_empty.false)) in
    let view : view_of c.self.inside.most es cs ≡ c.args.self.now = ap
    (view_of c.self.inside.most c.self.inside.entries.items) c.as_slice-children.ensures.value ∙ c.self.view_is in
    let page : IsFramedPage c.self.inside.most es cs = subst
    (IsFramedPage c.self.inside.most c.self.inside.entries.items) (sym c.as_slice-children.ensures.value)
    c.self.invariant.0 in
    let more : length cs ≡ length es + 1 = cut_length es cs (cut_from c.self.inside.most es cs page.framed some) in
    omega (arith, more)

pub write-requires-2 : goal.write-requires-2
write-requires-2 t c =
    let es = c.self.inside.entries.items in
    let cs = c.as_slice-children.result.now in
    let some : 0 < length cs =
    omega (arith, c.as_slice-children.ensures.len, eqb-false _ 0 (sym c.is_empty.ensures ∙ c.if-is_empty.false)) in
    let view : view_of c.self.inside.most es cs ≡ c.args.self.now = ap
    (view_of c.self.inside.most c.self.inside.entries.items) c.as_slice-children.ensures.value ∙ c.self.view_is in
    let page : IsFramedPage c.self.inside.most es cs = subst
    (IsFramedPage c.self.inside.most c.self.inside.entries.items) (sym c.as_slice-children.ensures.value)
    c.self.invariant.0 in
    let more : length cs ≡ length es + 1 = cut_length es cs (cut_from c.self.inside.most es cs page.framed some) in
    let at : c.loop-at.at ≡ length es = omega arith in
    let inv = c.loop-at.invariant in
    let d = c.index-children-len.result in
    let q = child_at_place c.args.head.now.length c.self.inside.most c.args.self.now es cs (length es) d view page
    c.requires.keys (omega (arith, more))
    (subst (λ i. c.index-children-len.result ≡ get_or cs i c.index-children-len.result) c.len.ensures
    c.index-children-len.is) in
    let few : c.loop-at.number + length es ≤ c.args.pages + length (pairs_of_pages (take (length es) cs)) =
    subst (λ n. c.loop-at.number + n ≤ c.args.pages + length (pairs_of_pages (take n cs))) at inv.few in (
      omega (arith, c.decreases, q.level),
      (
        λ _. q.some,
        (
          q.most ∙ c.requires.most,
          (
            q.keys,
            (
              omega (arith, few, q.fits, c.requires.room),
              (omega (arith, few, q.fits, q.two, c.requires.room), inv.end),
            ),
          ),
        ),
      ),
    )

pub append_page-requires-2-clause-room : goal.append_page-requires-2-clause-room
append_page-requires-2-clause-room t c =
    let es = c.self.inside.entries.items in
    let cs = c.as_slice-children.result.now in
    let some : 0 < length cs =
    omega (arith, c.as_slice-children.ensures.len, eqb-false _ 0 (sym c.is_empty.ensures ∙ c.if-is_empty.false)) in
    let view : view_of c.self.inside.most es cs ≡ c.args.self.now = ap
    (view_of c.self.inside.most c.self.inside.entries.items) c.as_slice-children.ensures.value ∙ c.self.view_is in
    let page : IsFramedPage c.self.inside.most es cs = subst
    (IsFramedPage c.self.inside.most c.self.inside.entries.items) (sym c.as_slice-children.ensures.value)
    c.self.invariant.0 in
    let more : length cs ≡ length es + 1 = cut_length es cs (cut_from c.self.inside.most es cs page.framed some) in
    let at : c.loop-at.at ≡ length es = omega arith in
    let inv = c.loop-at.invariant in
    let d = c.index-children-len.result in
    let q = child_at_place c.args.head.now.length c.self.inside.most c.args.self.now es cs (length es) d view page
    c.requires.keys (omega (arith, more))
    (subst (λ i. c.index-children-len.result ≡ get_or cs i c.index-children-len.result) c.len.ensures
    c.index-children-len.is) in
    let few : c.loop-at.number + length es ≤ c.args.pages + length (pairs_of_pages (take (length es) cs)) =
    subst (λ n. c.loop-at.number + n ≤ c.args.pages + length (pairs_of_pages (take n cs))) at inv.few in
    omega (arith, few, q.fits, c.requires.room, c.in_ok-page.ensures.few q.two)

pub append_page-requires-2-clause-fits : goal.append_page-requires-2-clause-fits
append_page-requires-2-clause-fits t c =
    let es = c.self.inside.entries.items in
    let cs = c.as_slice-children.result.now in
    let some : 0 < length cs =
    omega (arith, c.as_slice-children.ensures.len, eqb-false _ 0 (sym c.is_empty.ensures ∙ c.if-is_empty.false)) in
    let view : view_of c.self.inside.most es cs ≡ c.args.self.now = ap
    (view_of c.self.inside.most c.self.inside.entries.items) c.as_slice-children.ensures.value ∙ c.self.view_is in
    let page : IsFramedPage c.self.inside.most es cs = subst
    (IsFramedPage c.self.inside.most c.self.inside.entries.items) (sym c.as_slice-children.ensures.value)
    c.self.invariant.0 in
    let more : length cs ≡ length es + 1 = cut_length es cs (cut_from c.self.inside.most es cs page.framed some) in
    let at : c.loop-at.at ≡ length es = omega arith in
    let inv = c.loop-at.invariant in
    let d = c.index-children-len.result in
    let q = child_at_place c.args.head.now.length c.self.inside.most c.args.self.now es cs (length es) d view page
    c.requires.keys (omega (arith, more))
    (subst (λ i. c.index-children-len.result ≡ get_or cs i c.index-children-len.result) c.len.ensures
    c.index-children-len.is) in
    let few : c.loop-at.number + length es ≤ c.args.pages + length (pairs_of_pages (take (length es) cs)) =
    subst (λ n. c.loop-at.number + n ≤ c.args.pages + length (pairs_of_pages (take n cs))) at inv.few in
    let same : c.self.inside.most ≡ c.args.self.now.most = ap (λ (v : PageView). v.most) c.self.view_is in
    inner_fits c.args.head.now.length _ inv.written.entries
    (omega (arith, inv.count, at, c.self.invariant.1, c.requires.most, same))
    (omega (arith, c.in_ok-page.ensures.later))

pub returns-clause-written : goal.returns-clause-written
returns-clause-written t c =
    let es = c.self.inside.entries.items in
    let cs = c.as_slice-children.result.now in
    let some : 0 < length cs =
    omega (arith, c.as_slice-children.ensures.len, eqb-false _ 0 (sym c.is_empty.ensures ∙ c.if-is_empty.false)) in
    let view : view_of c.self.inside.most es cs ≡ c.args.self.now = ap
    (view_of c.self.inside.most c.self.inside.entries.items) c.as_slice-children.ensures.value ∙ c.self.view_is in
    let page : IsFramedPage c.self.inside.most es cs = subst
    (IsFramedPage c.self.inside.most c.self.inside.entries.items) (sym c.as_slice-children.ensures.value)
    c.self.invariant.0 in
    let more : length cs ≡ length es + 1 = cut_length es cs (cut_from c.self.inside.most es cs page.framed some) in
    let at : c.loop-at.at ≡ length es = omega arith in
    let inv = c.loop-at.invariant in
    let d = c.index-children-len.result in
    let q = child_at_place c.args.head.now.length c.self.inside.most c.args.self.now es cs (length es) d view page
    c.requires.keys (omega (arith, more))
    (subst (λ i. c.index-children-len.result ≡ get_or cs i c.index-children-len.result) c.len.ensures
    c.index-children-len.is) in
    let few : c.loop-at.number + length es ≤ c.args.pages + length (pairs_of_pages (take (length es) cs)) =
    subst (λ n. c.loop-at.number + n ≤ c.args.pages + length (pairs_of_pages (take n cs))) at inv.few in
    let g = c.in_ok-page.ensures.text in
    let n = c.in_ok-page.field-0 in
    let written = subst (λ i. AreWritten c.args.head.now.length (c.args.self.now.height - 1) c.args.pages
    c.loop-at.number c.loop-at.body.items c.loop-at.page.entries.items (take i cs)) at inv.written in
    let pairs : c.args.self.now.pairs ≡ pairs_of_pages (take (length es) cs ++ d ∷ []) = sym
    (ap (λ (v : PageView). v.pairs) view) ∙ pairs_from es cs some
    ∙ ap pairs_of_pages (sym (take_all (length es + 1) cs (omega (arith, more)))
    ∙ take_next cs (length es) d (omega (arith, more))
    (subst (λ i. c.index-children-len.result ≡ get_or cs i c.index-children-len.result) c.len.ensures
    c.index-children-len.is)) in
    subst (λ m. IsWritten c.args.head.now.length c.args.pages m c.append_page-2.new.body.items c.args.self.now)
    (sym c.in_ok-own-2.ensures.number)
    (inner_written c.args.head.now.length (c.args.self.now.height - 1) c.args.pages c.loop-at.number n
    c.loop-at.body.items (pages_text c.args.head.now.length (g.pages ++ g.page ∷ [])) c.write-2.new.body.items
    c.append_page-2.new.body.items (take (length es) cs) d c.args.self.now _ written c.in_ok-page.ensures.written
    g.items (omega (arith, q.level)) inv.later c.in_ok-page.ensures.later c.in_ok-own-2.ensures.text refl
    (omega (arith, c.in_ok-page.ensures.end)) (omega (arith, q.level)) pairs)

pub returns-clause-text : goal.returns-clause-text
returns-clause-text t c =
    let es = c.self.inside.entries.items in
    let cs = c.as_slice-children.result.now in
    let some : 0 < length cs =
    omega (arith, c.as_slice-children.ensures.len, eqb-false _ 0 (sym c.is_empty.ensures ∙ c.if-is_empty.false)) in
    let view : view_of c.self.inside.most es cs ≡ c.args.self.now = ap
    (view_of c.self.inside.most c.self.inside.entries.items) c.as_slice-children.ensures.value ∙ c.self.view_is in
    let page : IsFramedPage c.self.inside.most es cs = subst
    (IsFramedPage c.self.inside.most c.self.inside.entries.items) (sym c.as_slice-children.ensures.value)
    c.self.invariant.0 in
    let more : length cs ≡ length es + 1 = cut_length es cs (cut_from c.self.inside.most es cs page.framed some) in
    let at : c.loop-at.at ≡ length es = omega arith in
    let inv = c.loop-at.invariant in
    let d = c.index-children-len.result in
    let q = child_at_place c.args.head.now.length c.self.inside.most c.args.self.now es cs (length es) d view page
    c.requires.keys (omega (arith, more))
    (subst (λ i. c.index-children-len.result ≡ get_or cs i c.index-children-len.result) c.len.ensures
    c.index-children-len.is) in
    let few : c.loop-at.number + length es ≤ c.args.pages + length (pairs_of_pages (take (length es) cs)) =
    subst (λ n. c.loop-at.number + n ≤ c.args.pages + length (pairs_of_pages (take n cs))) at inv.few in
    let g = c.in_ok-page.ensures.text in
    let k = c.args.head.now.length in
    let same : c.self.inside.most ≡ c.args.self.now.most = ap (λ (v : PageView). v.most) c.self.view_is in
    let all = more_pages k c.args.pages c.loop-at.number c.in_ok-page.field-0 d.count c.args.body.now.items
    c.loop-at.body.items c.write-2.new.body.items inv.text g
    (subst (λ m. m / 2 ≤ d.count) c.requires.most q.half) in
    let count : c.args.self.now.count ≡ length es = sym (ap (λ (v : PageView). v.count) view) in
    subst (λ n. IsPageText k c.args.pages n c.args.body.now.items c.append_page-2.new.body.items c.args.self.now.count)
    (sym c.in_ok-own-2.ensures.number)
    (page_behind_pages k c.args.pages c.in_ok-page.field-0 c.args.self.now.count c.args.body.now.items
    c.write-2.new.body.items c.append_page-2.new.body.items _ all c.in_ok-own-2.ensures.text
    (inner_own k _ inv.written.entries
    (inner_fits k _ inv.written.entries (omega (arith, inv.count, at, c.self.invariant.1, c.requires.most, same))
    (omega (arith, c.in_ok-page.ensures.later)))) (omega (arith, inv.count, at, count)))

pub returns-clause-few : goal.returns-clause-few
returns-clause-few t c =
    let es = c.self.inside.entries.items in
    let cs = c.as_slice-children.result.now in
    let some : 0 < length cs =
    omega (arith, c.as_slice-children.ensures.len, eqb-false _ 0 (sym c.is_empty.ensures ∙ c.if-is_empty.false)) in
    let view : view_of c.self.inside.most es cs ≡ c.args.self.now = ap
    (view_of c.self.inside.most c.self.inside.entries.items) c.as_slice-children.ensures.value ∙ c.self.view_is in
    let page : IsFramedPage c.self.inside.most es cs = subst
    (IsFramedPage c.self.inside.most c.self.inside.entries.items) (sym c.as_slice-children.ensures.value)
    c.self.invariant.0 in
    let more : length cs ≡ length es + 1 = cut_length es cs (cut_from c.self.inside.most es cs page.framed some) in
    let at : c.loop-at.at ≡ length es = omega arith in
    let inv = c.loop-at.invariant in
    let d = c.index-children-len.result in
    let q = child_at_place c.args.head.now.length c.self.inside.most c.args.self.now es cs (length es) d view page
    c.requires.keys (omega (arith, more))
    (subst (λ i. c.index-children-len.result ≡ get_or cs i c.index-children-len.result) c.len.ensures
    c.index-children-len.is) in
    let few : c.loop-at.number + length es ≤ c.args.pages + length (pairs_of_pages (take (length es) cs)) =
    subst (λ n. c.loop-at.number + n ≤ c.args.pages + length (pairs_of_pages (take n cs))) at inv.few in
    let count : c.args.self.now.count ≡ length es = sym (ap (λ (v : PageView). v.count) view) in
    let two : 0 < length es = subst (λ n. 0 < n) count (c.requires.inner (omega (arith, q.level, q.deep))) in
    λ _. omega (arith, few, q.fits, two, c.in_ok-page.ensures.few q.two, c.in_ok-own-2.ensures.number)

pub returns-clause-fits : goal.returns-clause-fits
returns-clause-fits t c =
    let es = c.self.inside.entries.items in
    let cs = c.as_slice-children.result.now in
    let some : 0 < length cs =
    omega (arith, c.as_slice-children.ensures.len, eqb-false _ 0 (sym c.is_empty.ensures ∙ c.if-is_empty.false)) in
    let view : view_of c.self.inside.most es cs ≡ c.args.self.now = ap
    (view_of c.self.inside.most c.self.inside.entries.items) c.as_slice-children.ensures.value ∙ c.self.view_is in
    let page : IsFramedPage c.self.inside.most es cs = subst
    (IsFramedPage c.self.inside.most c.self.inside.entries.items) (sym c.as_slice-children.ensures.value)
    c.self.invariant.0 in
    let more : length cs ≡ length es + 1 = cut_length es cs (cut_from c.self.inside.most es cs page.framed some) in
    let at : c.loop-at.at ≡ length es = omega arith in
    let inv = c.loop-at.invariant in
    let d = c.index-children-len.result in
    let q = child_at_place c.args.head.now.length c.self.inside.most c.args.self.now es cs (length es) d view page
    c.requires.keys (omega (arith, more))
    (subst (λ i. c.index-children-len.result ≡ get_or cs i c.index-children-len.result) c.len.ensures
    c.index-children-len.is) in
    let few : c.loop-at.number + length es ≤ c.args.pages + length (pairs_of_pages (take (length es) cs)) =
    subst (λ n. c.loop-at.number + n ≤ c.args.pages + length (pairs_of_pages (take n cs))) at inv.few in
    omega (arith, few, q.fits, c.in_ok-page.ensures.few q.two, c.in_ok-own-2.ensures.number)
