use Rattle.std.proofs.Common.{◌≡◌, ℕ, ◌+◌, ◌<◌, List, [], ◌∷◌, true, length, sym, ap, ◌∙◌, subst, arith}
use Rattle.std.proofs.lemmas.Bool.{eqb-true, eqb-false}
use Rattle.std.proofs.lemmas.List.{nil_from_length}
use Rattle.std.proofs.lemmas.List.Elements.{Contains-append_left, Contains-append_right}
use Rattle.std.specs.Fn.{FnReturnsAt}
use Rattle.std.specs.List.{Contains}
use Rattle.key_lists.specs.Order.{Each}
use Rattle.key_lists.specs.Pairs.{Pair}
use Rattle.key_lists.proofs.Ordered.{Each-append}
use Rattle.ndx_tree.specs.Pages.{PageView, view_of, pairs_of, pairs_of_pages, IsFramedPage, AreChildren}
use Rattle.ndx_tree.proofs.page.TreePage.+all.Goals as goal

-- what the parts of an inner page are to it
record AreInner (now : PageView) (cs : List PageView) : Type 0 where
  level : (h : ℕ) × (most : ℕ) × (now.height ≡ h + 1) × AreChildren h most cs
  pairs : pairs_of_pages cs ≡ now.pairs

inner : (now : PageView) (m : ℕ) (es : List Pair) (cs : List PageView) → view_of m es cs ≡ now → IsFramedPage m es cs
    → 0 < length cs → AreInner now cs
inner now m es [] e page some = absurd (omega arith)
inner now m es (c ∷ cs) e page some = record {
  level = (c.height, m, sym (ap (λ (v : PageView). v.height) e), page.framed.1);
  pairs = ap (λ (v : PageView). v.pairs) e;
}

pub returns-then-is_empty-clause-all : goal.returns-then-is_empty-clause-all
returns-then-is_empty-clause-all g t c = λ said.
    let none : c.self.inside.children.items ≡ [] =
    nil_from_length _ (omega (arith, eqb-true _ 0 (sym c.is_empty.ensures ∙ c.if-is_empty.true))) in
    let pairs : c.self.inside.entries.items ≡ c.args.self.now.pairs =
    ap (pairs_of c.self.inside.entries.items) (sym none) ∙ ap (λ (v : PageView). v.pairs) c.self.view_is in
    subst (λ (ps : List Pair). Each (λ p. FnReturnsAt g.F.Fn c.args.test.now p true) ps) pairs (c.all.ensures.all said)

pub returns-then-is_empty-clause-one : goal.returns-then-is_empty-clause-one
returns-then-is_empty-clause-one g t c = λ said.
    let none : c.self.inside.children.items ≡ [] =
    nil_from_length _ (omega (arith, eqb-true _ 0 (sym c.is_empty.ensures ∙ c.if-is_empty.true))) in
    let pairs : c.self.inside.entries.items ≡ c.args.self.now.pairs =
    ap (pairs_of c.self.inside.entries.items) (sym none) ∙ ap (λ (v : PageView). v.pairs) c.self.view_is in
    let one = c.all.ensures.one said in
    (one.0, subst (λ (ps : List Pair). Contains ps one.0) pairs one.1, one.2)

pub loop-child-init : goal.loop-child-init
loop-child-init g t c =
    let m = c.self.inside.most in
    let es = c.self.inside.entries.items in
    let cs = c.as_slice-rest.result.now in
    let some : 0 < length cs =
    omega (arith, c.as_slice-rest.ensures.len, eqb-false _ 0 (sym c.is_empty.ensures ∙ c.if-is_empty.false)) in
    let view : view_of m es cs ≡ c.args.self.now =
    ap (view_of m es) c.as_slice-rest.ensures.value ∙ c.self.view_is in
    let page : IsFramedPage m es cs =
    subst (IsFramedPage m es) (sym c.as_slice-rest.ensures.value) c.self.invariant.0 in
    let q = inner c.args.self.now m es cs view page some in
    record {
      children = q.level;
      all = λ h. subst (λ (ps : List Pair). Each (λ p. FnReturnsAt g.F.Fn c.args.test.now p true) ps) q.pairs h;
      there = λ p h. subst (λ (ps : List Pair). Contains ps p) q.pairs h;
    }

pub all-requires-in-Some : goal.all-requires-in-Some
all-requires-in-Some g t c =
    let level = c.loop-child.invariant.children in
    let kids : AreChildren level.0 level.1 (c.in-Some.child.now ∷ c.in-Some.others.now) =
    subst (AreChildren level.0 level.1) c.in-Some.ensures.cases.0 level.3 in
    λ lives within. (omega (arith, c.decreases, level.2, kids.0.level), (λ a there. within a there, c.requires))

pub loop-child-preserved : goal.loop-child-preserved
loop-child-preserved g t c =
    let child = c.in-Some.child.now in
    let others = c.in-Some.others.now in
    let whole = c.in-Some.ensures.cases.0 in
    let level = c.loop-child.invariant.children in
    let kids : AreChildren level.0 level.1 (child ∷ others) = subst (AreChildren level.0 level.1) whole level.3 in
    record {
      children = (level.0, level.1, level.2, kids.1);
      all = λ h. c.loop-child.invariant.all
          (subst (λ (ps : List PageView). Each (λ p. FnReturnsAt g.F.Fn c.args.test.now p true) (pairs_of_pages ps))
          (sym whole) (Each-append (λ p. FnReturnsAt g.F.Fn c.args.test.now p true) child.pairs (pairs_of_pages others)
          (c.all-in-Some.ensures.all c.if-not-all.false) h));
      there = λ p h. c.loop-child.invariant.there p
          (subst (λ (ps : List PageView). Contains (pairs_of_pages ps) p) (sym whole)
          (Contains-append_right child.pairs (pairs_of_pages others) p h));
    }

pub returns-then-not-all-clause-one : goal.returns-then-not-all-clause-one
returns-then-not-all-clause-one g t c = λ _.
    let child = c.in-Some.child.now in
    let others = c.in-Some.others.now in
    let one = c.all-in-Some.ensures.one c.if-not-all.true in (
      one.0,
      c.loop-child.invariant.there one.0
          (subst (λ (ps : List PageView). Contains (pairs_of_pages ps) one.0) (sym c.in-Some.ensures.cases.0)
          (Contains-append_left child.pairs (pairs_of_pages others) one.0 one.1)),
      one.2,
    )

pub returns-clause-all : goal.returns-clause-all
returns-clause-all g t c = λ _. c.loop-child.invariant.all
    (subst (λ (ps : List PageView). Each (λ p. FnReturnsAt g.F.Fn c.args.test.now p true) (pairs_of_pages ps))
    (sym (nil_from_length _ c.in_default.ensures.cases)) tt)
