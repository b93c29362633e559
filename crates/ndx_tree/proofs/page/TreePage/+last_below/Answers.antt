use Rattle.std.proofs.Common.{◌≡◌, ℕ, ◌+◌, ◌<◌, List, Some, None, length, take, get_or, refl, ap, sym, ◌∙◌, subst}
use Rattle.std.proofs.Common.{arith, true, false, Option}
use Rattle.std.specs.Prelude.{is_some}
use Rattle.std.proofs.lemmas.Bool.{eqb-false}
use Rattle.key_lists.specs.Pairs.{Pair}
use Rattle.key_lists.specs.Rising.{last_below, last_of, place_of, IsRising}
use Rattle.ndx_tree.specs.Pages.{PageView, pairs_of_pages, view_of, IsFramedPage, IsChild}
use Rattle.ndx_tree.proofs.Cut.{pairs_from, cut_from, entries_rising}
use Rattle.ndx_tree.proofs.Search.{below_in_child, below_at_place}
use Rattle.ndx_tree.proofs.Take.{placed_child}
use Rattle.ndx_tree.proofs.page.TreePage.+last_below.Goals as goal

pub place-at-requires : goal.place-at-requires
place-at-requires t c =
    entries_rising c.self.inside.most c.self.inside.entries.items c.self.inside.children.items c.self.invariant.0

-- the child that the search goes into
record IsInto (now : PageView) (m : ℕ) (es : List Pair) (cs : List PageView) (x : Pair) (at : ℕ) (d : PageView) : Type 0
  where
    within : at < length cs
    height : now.height ≡ d.height + 1
    found : (t : Pair) → last_below x d.pairs ≡ Some t → last_below x now.pairs ≡ Some t
    none : last_below x d.pairs ≡ None → last_below x now.pairs ≡ last_of (take at es)

into : (now : PageView) (m : ℕ) (es : List Pair) (cs : List PageView) (x : Pair) (at : ℕ) (d : PageView)
    → view_of m es cs ≡ now → IsFramedPage m es cs → 0 < length cs → at ≡ place_of x es → d ≡ get_or cs at d
    → IsInto now m es cs x at d
into now m es cs x at d e p some placed is =
    let child = placed_child m es cs x at d p some placed in
    let one : IsChild child.2.0 m d = subst (IsChild child.2.0 m) (sym is) child.2.2 in
    let joins : now.pairs ≡ pairs_of_pages cs = sym (ap (λ (v : PageView). v.pairs) e) ∙ pairs_from es cs some in
    let rising : IsRising (pairs_of_pages cs) = subst IsRising (pairs_from es cs some) p.rising in
    let cut = cut_from m es cs p.framed some in
    let there : d.pairs ≡ (get_or cs (place_of x es) d).pairs =
    ap (λ (v : PageView). v.pairs) (is ∙ ap (λ i. get_or cs i d) placed) in
    record {
      within = child.0;
      height = sym (ap (λ (v : PageView). v.height) e) ∙ child.2.1 ∙ ap (λ k. k + 1) (sym one.level);
      found = λ t h. ap (last_below x) joins ∙ below_in_child x t es cs d cut rising
          (ap (last_below x) (sym there) ∙ h);
      none = λ h. ap (last_below x) joins ∙ below_at_place x es cs d cut rising (ap (last_below x) (sym there) ∙ h)
          ∙ ap (λ i. last_of (take i es)) (sym placed);
    }

some_from : (o : Option Pair) (r : Option Pair) → is_some o ≡ true → ((t : Pair) → o ≡ Some t → r ≡ Some t) → o ≡ r
some_from None r e h = absurd cc
some_from (Some t) r e h = sym (h t refl)

none_from : (o : Option Pair) → is_some o ≡ false → o ≡ None
none_from None e = refl
none_from (Some t) e = absurd cc

pub index-requires : goal.index-requires
index-requires t c =
    let some : 0 < length c.self.inside.children.items =
    omega (arith, eqb-false _ 0 (sym c.is_empty.ensures ∙ c.if-is_empty.false)) in
    let placed = c.place-at.ensures.value in
    let child = placed_child c.self.inside.most c.self.inside.entries.items c.self.inside.children.items
    (c.args.key.now, c.args.number) c.place-at.result c.args.self.now c.self.invariant.0 some placed in
    omega (arith, child.0)

pub last_below-below-requires : goal.last_below-below-requires
last_below-below-requires t c =
    let some : 0 < length c.self.inside.children.items =
    omega (arith, eqb-false _ 0 (sym c.is_empty.ensures ∙ c.if-is_empty.false)) in
    let placed = c.place-at.ensures.value in
    let q = into c.args.self.now c.self.inside.most c.self.inside.entries.items c.self.inside.children.items
    (c.args.key.now, c.args.number) c.place-at.result c.index.result.now c.self.view_is c.self.invariant.0 some
    placed c.index.ensures in
    omega (arith, q.height, c.decreases)

pub returns-then-is_some-clause-found : goal.returns-then-is_some-clause-found
returns-then-is_some-clause-found t c =
    let some : 0 < length c.self.inside.children.items =
    omega (arith, eqb-false _ 0 (sym c.is_empty.ensures ∙ c.if-is_empty.false)) in
    let placed = c.place-at.ensures.value in
    let q = into c.args.self.now c.self.inside.most c.self.inside.entries.items c.self.inside.children.items
    (c.args.key.now, c.args.number) c.place-at.result c.index.result.now c.self.view_is c.self.invariant.0 some
    placed c.index.ensures in
    some_from c.last_below-below.result _ (sym c.is_some.ensures ∙ c.if-is_some.true)
    (λ v h. q.found v (sym c.last_below-below.ensures.found ∙ h))

pub returns-then-is_some-clause-seen : goal.returns-then-is_some-clause-seen
returns-then-is_some-clause-seen t c =
    let some : 0 < length c.self.inside.children.items =
    omega (arith, eqb-false _ 0 (sym c.is_empty.ensures ∙ c.if-is_empty.false)) in
    let placed = c.place-at.ensures.value in
    let q = into c.args.self.now c.self.inside.most c.self.inside.entries.items c.self.inside.children.items
    (c.args.key.now, c.args.number) c.place-at.result c.index.result.now c.self.view_is c.self.invariant.0 some
    placed c.index.ensures in
    omega (arith, q.height, c.last_below-below.ensures.seen, c.look.ensures)

pub returns-clause-found : goal.returns-clause-found
returns-clause-found t c =
    let some : 0 < length c.self.inside.children.items =
    omega (arith, eqb-false _ 0 (sym c.is_empty.ensures ∙ c.if-is_empty.false)) in
    let placed = c.place-at.ensures.value in
    let q = into c.args.self.now c.self.inside.most c.self.inside.entries.items c.self.inside.children.items
    (c.args.key.now, c.args.number) c.place-at.result c.index.result.now c.self.view_is c.self.invariant.0 some
    placed c.index.ensures in
    c.before-2.ensures ∙ sym
    (q.none (sym c.last_below-below.ensures.found ∙ none_from c.last_below-below.result
    (sym c.is_some.ensures ∙ c.if-is_some.false)))

pub returns-clause-seen : goal.returns-clause-seen
returns-clause-seen t c =
    let some : 0 < length c.self.inside.children.items =
    omega (arith, eqb-false _ 0 (sym c.is_empty.ensures ∙ c.if-is_empty.false)) in
    let placed = c.place-at.ensures.value in
    let q = into c.args.self.now c.self.inside.most c.self.inside.entries.items c.self.inside.children.items
    (c.args.key.now, c.args.number) c.place-at.result c.index.result.now c.self.view_is c.self.invariant.0 some
    placed c.index.ensures in
    omega (arith, q.height, c.last_below-below.ensures.seen, c.look.ensures)
