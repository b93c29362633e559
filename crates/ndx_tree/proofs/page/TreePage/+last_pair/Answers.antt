use Rattle.std.proofs.Common.{◌≡◌, ◌+◌, ◌-◌, ◌<◌, List, [], Some, length, get_or, ap, sym, ◌∙◌, subst, arith}
use Rattle.std.proofs.lemmas.Bool.{eqb-true, eqb-false}
use Rattle.std.proofs.lemmas.List.{nil_from_length}
use Rattle.key_lists.specs.Pairs.{Pair}
use Rattle.key_lists.specs.Rising.{last_of}
use Rattle.ndx_tree.specs.Pages.{PageView, pairs_of, height_of}
use Rattle.ndx_tree.proofs.Cut.{height_of-pos}
use Rattle.ndx_tree.proofs.Remove.{last_index, last_child}
use Rattle.ndx_tree.proofs.page.TreePage.+last_pair.Goals as goal

pub returns-then-is_empty-clause-found : goal.returns-then-is_empty-clause-found
returns-then-is_empty-clause-found t c =
    let none : c.self.inside.children.items ≡ [] =
    nil_from_length _ (omega (arith, eqb-true _ 0 (sym c.is_empty.ensures ∙ c.if-is_empty.true))) in
    let pairs : c.args.self.now.pairs ≡ c.self.inside.entries.items =
    sym (ap (λ (v : PageView). v.pairs) c.self.view_is) ∙ ap (pairs_of c.self.inside.entries.items) none in
    let n : 0 < length c.self.inside.entries.items = subst (λ (m : List Pair). 0 < length m) pairs c.requires in
    let is : c.get.result ≡ get_or c.self.inside.entries.items (length c.self.inside.entries.items - 1) c.get.result =
    c.get.ensures c.get.result ∙ ap (λ i. get_or c.self.inside.entries.items (i - 1) c.get.result)
    (let e : c.len.result ≡ length c.self.inside.entries.items = omega arith in e) in
    ap last_of pairs ∙ last_index c.self.inside.entries.items c.get.result n ∙ ap (λ (v : Pair). Some v) (sym is)

pub last_pair-requires : goal.last_pair-requires
last_pair-requires t c =
    let some : 0 < length c.self.inside.children.items =
    omega (arith, eqb-false _ 0 (sym c.is_empty.ensures ∙ c.if-is_empty.false)) in
    let d = c.index.result.now in
    let is : d ≡ get_or c.self.inside.children.items (length c.self.inside.children.items - 1) d = c.index.ensures
    ∙ ap (λ i. get_or c.self.inside.children.items (i - 1) d)
    (let e : c.len-2.result ≡ length c.self.inside.children.items = omega arith in e) in
    let last = last_child c.self.inside.most c.self.inside.entries.items c.self.inside.children.items d
    c.self.invariant.0 some in
    let height : c.args.self.now.height ≡ d.height + 1 =
    sym (ap (λ (v : PageView). v.height) c.self.view_is) ∙ last.2 ∙ ap (λ (v : PageView). v.height + 1) (sym is) in
    (omega (arith, c.decreases), subst (λ (v : PageView). 0 < length v.pairs) (sym is) last.1)

pub returns-clause-found : goal.returns-clause-found
returns-clause-found t c =
    let some : 0 < length c.self.inside.children.items =
    omega (arith, eqb-false _ 0 (sym c.is_empty.ensures ∙ c.if-is_empty.false)) in
    let d = c.index.result.now in
    let is : d ≡ get_or c.self.inside.children.items (length c.self.inside.children.items - 1) d = c.index.ensures
    ∙ ap (λ i. get_or c.self.inside.children.items (i - 1) d)
    (let e : c.len-2.result ≡ length c.self.inside.children.items = omega arith in e) in
    let last = last_child c.self.inside.most c.self.inside.entries.items c.self.inside.children.items d
    c.self.invariant.0 some in
    let height : c.args.self.now.height ≡ d.height + 1 =
    sym (ap (λ (v : PageView). v.height) c.self.view_is) ∙ last.2 ∙ ap (λ (v : PageView). v.height + 1) (sym is) in
    sym (ap (λ (v : PageView). last_of v.pairs) c.self.view_is) ∙ last.0
    ∙ ap (λ (v : PageView). last_of v.pairs) (sym is) ∙ c.last_pair.ensures.found

pub returns-then-is_empty-clause-seen : goal.returns-then-is_empty-clause-seen
returns-then-is_empty-clause-seen t c =
    let h : height_of c.self.inside.children.items ≡ c.args.self.now.height =
    ap (λ (v : PageView). v.height) c.self.view_is in
    omega (arith, height_of-pos c.self.inside.children.items, c.look.ensures)

pub returns-clause-seen : goal.returns-clause-seen
returns-clause-seen t c =
    let some : 0 < length c.self.inside.children.items =
    omega (arith, eqb-false _ 0 (sym c.is_empty.ensures ∙ c.if-is_empty.false)) in
    let d = c.index.result.now in
    let is : d ≡ get_or c.self.inside.children.items (length c.self.inside.children.items - 1) d = c.index.ensures
    ∙ ap (λ i. get_or c.self.inside.children.items (i - 1) d)
    (let e : c.len-2.result ≡ length c.self.inside.children.items = omega arith in e) in
    let last = last_child c.self.inside.most c.self.inside.entries.items c.self.inside.children.items d
    c.self.invariant.0 some in
    let height : c.args.self.now.height ≡ d.height + 1 =
    sym (ap (λ (v : PageView). v.height) c.self.view_is) ∙ last.2 ∙ ap (λ (v : PageView). v.height + 1) (sym is) in
    omega (arith, height, c.last_pair.ensures.seen, c.look.ensures)
