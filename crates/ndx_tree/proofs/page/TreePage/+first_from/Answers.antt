use Rattle.std.proofs.Common.{◌≡◌, ◌+◌, ◌<◌, ◌≤◌, [], Some, length, get_or, refl, ap, sym, ◌∙◌, subst, arith}
use Rattle.std.proofs.lemmas.Bool.{eqb-true, eqb-false}
use Rattle.std.proofs.lemmas.List.{nil_from_length}
use Rattle.key_lists.specs.Pairs.{Pair}
use Rattle.key_lists.specs.Rising.{first_from, place_of, IsRising}
use Rattle.ndx_tree.specs.Pages.{PageView, pairs_of, pairs_of_pages, IsChild}
use Rattle.ndx_tree.proofs.Cut.{pairs_from, cut_from}
use Rattle.ndx_tree.proofs.Search.{first_at_place, none_at_place, first_in_child}
use Rattle.ndx_tree.proofs.Cut.{entries_rising}
use Rattle.ndx_tree.proofs.Take.{placed_child}
use Rattle.ndx_tree.proofs.page.TreePage.+first_from.Goals as goal

pub returns-then-at-len-clause-found : goal.returns-then-at-len-clause-found
returns-then-at-len-clause-found t c =
    let none : c.self.inside.children.items ≡ [] =
    nil_from_length _ (omega (arith, eqb-true _ 0 (sym c.is_empty.ensures ∙ c.if-is_empty.true))) in
    let placed = c.place-at.ensures.value in
    let pairs : c.args.self.now.pairs ≡ c.self.inside.entries.items =
    sym (ap (λ (v : PageView). v.pairs) c.self.view_is) ∙ ap (pairs_of c.self.inside.entries.items) none in
    let at : place_of (c.args.key.now, c.args.number) c.self.inside.entries.items
    < length c.self.inside.entries.items = omega arith in let e : c.get.result
    ≡ get_or c.self.inside.entries.items c.place-at.result c.get.result = c.get.ensures c.get.result in ap
    (λ (v : Pair). Some v) (e ∙ ap (λ i. get_or c.self.inside.entries.items i c.get.result) placed)
    ∙ sym (first_at_place (c.args.key.now, c.args.number) c.self.inside.entries.items c.get.result at)
    ∙ ap (first_from (c.args.key.now, c.args.number)) (sym pairs)

pub returns-then-is_empty-clause-found : goal.returns-then-is_empty-clause-found
returns-then-is_empty-clause-found t c =
    let none : c.self.inside.children.items ≡ [] =
    nil_from_length _ (omega (arith, eqb-true _ 0 (sym c.is_empty.ensures ∙ c.if-is_empty.true))) in
    let placed = c.place-at.ensures.value in
    let pairs : c.args.self.now.pairs ≡ c.self.inside.entries.items =
    sym (ap (λ (v : PageView). v.pairs) c.self.view_is) ∙ ap (pairs_of c.self.inside.entries.items) none in
    let past : length c.self.inside.entries.items ≤ place_of (c.args.key.now, c.args.number)
    c.self.inside.entries.items =
    omega arith in rw (pairs, none_at_place (c.args.key.now, c.args.number) c.self.inside.entries.items past) refl

pub index-requires : goal.index-requires
index-requires t c =
    let some : 0 < length c.self.inside.children.items =
    omega (arith, eqb-false _ 0 (sym c.is_empty.ensures ∙ c.if-is_empty.false)) in
    let placed = c.place-at.ensures.value in
    let child = placed_child c.self.inside.most c.self.inside.entries.items c.self.inside.children.items
    (c.args.key.now, c.args.number) c.place-at.result c.args.self.now c.self.invariant.0 some placed in
    omega (arith, child.0)

pub first_from-requires : goal.first_from-requires
first_from-requires t c =
    let some : 0 < length c.self.inside.children.items =
    omega (arith, eqb-false _ 0 (sym c.is_empty.ensures ∙ c.if-is_empty.false)) in
    let placed = c.place-at.ensures.value in
    let child = placed_child c.self.inside.most c.self.inside.entries.items c.self.inside.children.items
    (c.args.key.now, c.args.number) c.place-at.result c.index.result.now c.self.invariant.0 some placed in
    let at : c.place-at.result < length c.self.inside.children.items = child.0 in
    let is : c.index.result.now ≡ get_or c.self.inside.children.items c.place-at.result c.index.result.now =
    c.index.ensures in
    let one : IsChild child.2.0 c.self.inside.most c.index.result.now =
    subst (IsChild child.2.0 c.self.inside.most) (sym is) child.2.2 in
    let height : c.args.self.now.height ≡ c.index.result.now.height + 1 =
    sym (ap (λ (v : PageView). v.height) c.self.view_is) ∙ child.2.1 ∙ ap (λ k. k + 1) (sym one.level) in
    omega (arith, height, c.decreases)

pub returns-clause-found : goal.returns-clause-found
returns-clause-found t c =
    let some : 0 < length c.self.inside.children.items =
    omega (arith, eqb-false _ 0 (sym c.is_empty.ensures ∙ c.if-is_empty.false)) in
    let placed = c.place-at.ensures.value in
    let child = placed_child c.self.inside.most c.self.inside.entries.items c.self.inside.children.items
    (c.args.key.now, c.args.number) c.place-at.result c.index.result.now c.self.invariant.0 some placed in
    let at : c.place-at.result < length c.self.inside.children.items = child.0 in
    let is : c.index.result.now ≡ get_or c.self.inside.children.items c.place-at.result c.index.result.now =
    c.index.ensures in
    let one : IsChild child.2.0 c.self.inside.most c.index.result.now =
    subst (IsChild child.2.0 c.self.inside.most) (sym is) child.2.2 in
    let height : c.args.self.now.height ≡ c.index.result.now.height + 1 =
    sym (ap (λ (v : PageView). v.height) c.self.view_is) ∙ child.2.1 ∙ ap (λ k. k + 1) (sym one.level) in
    let joins : c.args.self.now.pairs ≡ pairs_of_pages c.self.inside.children.items = sym
    (ap (λ (v : PageView). v.pairs) c.self.view_is) ∙ pairs_from c.self.inside.entries.items
    c.self.inside.children.items some in
    let x : Pair = (c.args.key.now, c.args.number) in
    let d = c.index.result.now in
    let rising : IsRising (pairs_of_pages c.self.inside.children.items) = subst IsRising
    (pairs_from c.self.inside.entries.items c.self.inside.children.items some) c.self.invariant.0.rising in
    let there : d ≡ get_or c.self.inside.children.items (place_of x c.self.inside.entries.items) d =
    is ∙ ap (λ i. get_or c.self.inside.children.items i d) placed in
    c.first_from.ensures.found ∙ ap (λ (v : PageView). first_from x v.pairs) there
    ∙ sym (first_in_child x c.self.inside.entries.items c.self.inside.children.items d
    (cut_from c.self.inside.most c.self.inside.entries.items c.self.inside.children.items c.self.invariant.0.framed
    some) rising) ∙ ap (first_from x) (sym joins)

pub returns-clause-seen : goal.returns-clause-seen
returns-clause-seen t c =
    let some : 0 < length c.self.inside.children.items =
    omega (arith, eqb-false _ 0 (sym c.is_empty.ensures ∙ c.if-is_empty.false)) in
    let placed = c.place-at.ensures.value in
    let child = placed_child c.self.inside.most c.self.inside.entries.items c.self.inside.children.items
    (c.args.key.now, c.args.number) c.place-at.result c.index.result.now c.self.invariant.0 some placed in
    let at : c.place-at.result < length c.self.inside.children.items = child.0 in
    let is : c.index.result.now ≡ get_or c.self.inside.children.items c.place-at.result c.index.result.now =
    c.index.ensures in
    let one : IsChild child.2.0 c.self.inside.most c.index.result.now =
    subst (IsChild child.2.0 c.self.inside.most) (sym is) child.2.2 in
    let height : c.args.self.now.height ≡ c.index.result.now.height + 1 =
    sym (ap (λ (v : PageView). v.height) c.self.view_is) ∙ child.2.1 ∙ ap (λ k. k + 1) (sym one.level) in
    omega (arith, height, c.first_from.ensures, c.look.ensures)

pub place-at-requires : goal.place-at-requires
place-at-requires t c =
    entries_rising c.self.inside.most c.self.inside.entries.items c.self.inside.children.items c.self.invariant.0
