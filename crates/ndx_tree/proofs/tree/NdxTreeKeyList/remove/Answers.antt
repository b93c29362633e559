use Rattle.std.proofs.Common.{◌≡◌, List, true, false, length, ap, sym, ◌∙◌, subst, refl, arith}
use Rattle.std.specs.List.{Contains}
use Rattle.ndx_tree.specs.Trees.{TreeView}
use Rattle.key_lists.specs.Pairs.{Pair, is_before}
use Rattle.std.proofs.Common.{⊎_elim}
use Rattle.std.proofs.lemmas.Bool.{cases_lt, false≢true}
use Rattle.key_lists.specs.Order.{without}
use Rattle.ndx_tree.specs.Pages.{Removes}
use Rattle.ndx_tree.proofs.TreeLemmas.{tree_low, tree_lost, tree_lowered, is_out, is_not_in}
use Rattle.ndx_tree.proofs.Keyed.{tree_keyed}
use Rattle.ndx_tree.proofs.tree.NdxTreeKeyList.remove.Goals as goal

pub returns-then-not-remove-clause-found : goal.returns-then-not-remove-clause-found
returns-then-not-remove-clause-found c =
    let x : Pair = (c.args.key.now, c.args.number) in
    let pairs : c.self.inside.root.pairs ≡ c.args.self.now.pairs = ap (λ (v : TreeView). v.pairs) c.self.view_is in
    let r : Removes c.self.inside.root x c.remove.new.self false =
    subst (λ b. Removes c.self.inside.root x c.remove.new.self b) c.if-not-remove.true c.remove.ensures in
    let n = is_not_in _ c.self.inside.root c.remove.new.self _ _ x c.self.invariant.0 r in
    (λ e. absurd (false≢true e), λ there. absurd (n.0 (subst (λ (m : List Pair). Contains m x) (sym pairs) there)))

pub returns-then-not-remove-clause-pairs : goal.returns-then-not-remove-clause-pairs
returns-then-not-remove-clause-pairs c =
    let x : Pair = (c.args.key.now, c.args.number) in
    let pairs : c.self.inside.root.pairs ≡ c.args.self.now.pairs = ap (λ (v : TreeView). v.pairs) c.self.view_is in
    let r : Removes c.self.inside.root x c.remove.new.self false =
    subst (λ b. Removes c.self.inside.root x c.remove.new.self b) c.if-not-remove.true c.remove.ensures in
    let n = is_not_in _ c.self.inside.root c.remove.new.self _ _ x c.self.invariant.0 r in
    n.1 ∙ ap (without is_before x) pairs

pub is_idle-requires : goal.is_idle-requires
is_idle-requires c =
    let x : Pair = (c.args.key.now, c.args.number) in
    let pairs : c.self.inside.root.pairs ≡ c.args.self.now.pairs = ap (λ (v : TreeView). v.pairs) c.self.view_is in
    let r : Removes c.self.inside.root x c.remove.new.self true =
    subst (λ b. Removes c.self.inside.root x c.remove.new.self b) c.if-not-remove.false c.remove.ensures in
    let out = is_out _ c.self.inside.root c.remove.new.self _ _ x c.self.invariant.0 r in
    omega (arith, r.2, tree_low _ _ _ _ c.self.invariant.0)

pub invariant_of-self-then-is_idle : goal.invariant_of-self-then-is_idle
invariant_of-self-then-is_idle c =
    let x : Pair = (c.args.key.now, c.args.number) in
    let pairs : c.self.inside.root.pairs ≡ c.args.self.now.pairs = ap (λ (v : TreeView). v.pairs) c.self.view_is in
    let r : Removes c.self.inside.root x c.remove.new.self true =
    subst (λ b. Removes c.self.inside.root x c.remove.new.self b) c.if-not-remove.false c.remove.ensures in
    let out = is_out _ c.self.inside.root c.remove.new.self _ _ x c.self.invariant.0 r in
    let k = c.lower.ensures.child in
    let t = tree_lowered _ c.self.inside.root c.remove.new.self c.lower.new.self _ _ x c.self.invariant.0 r
    c.lower.ensures.pairs c.lower.ensures.height k in
    (t, omega (arith, c.self.invariant.1, out.shorter, ap (λ (m : List Pair). length m) c.lower.ensures.pairs))

pub invariant_of-self-else-is_idle : goal.invariant_of-self-else-is_idle
invariant_of-self-else-is_idle c =
    let x : Pair = (c.args.key.now, c.args.number) in
    let pairs : c.self.inside.root.pairs ≡ c.args.self.now.pairs = ap (λ (v : TreeView). v.pairs) c.self.view_is in
    let r : Removes c.self.inside.root x c.remove.new.self true =
    subst (λ b. Removes c.self.inside.root x c.remove.new.self b) c.if-not-remove.false c.remove.ensures in
    let out = is_out _ c.self.inside.root c.remove.new.self _ _ x c.self.invariant.0 r in
    let t = tree_lost _ c.self.inside.root c.remove.new.self _ _ x c.self.invariant.0 r
    (λ h. ⊎_elim (λ k. k) (λ k. let zero : c.remove.new.self.count
    ≡ 0 = omega arith in absurd (false≢true (sym c.if-is_idle.false ∙ c.is_idle.ensures.1 (h, zero))))
    (cases_lt 0 c.remove.new.self.count)) in
    (t, omega (arith, c.self.invariant.1, out.shorter))

pub returns-then-is_idle-clause-found : goal.returns-then-is_idle-clause-found
returns-then-is_idle-clause-found c =
    let x : Pair = (c.args.key.now, c.args.number) in
    let pairs : c.self.inside.root.pairs ≡ c.args.self.now.pairs = ap (λ (v : TreeView). v.pairs) c.self.view_is in
    let r : Removes c.self.inside.root x c.remove.new.self true =
    subst (λ b. Removes c.self.inside.root x c.remove.new.self b) c.if-not-remove.false c.remove.ensures in
    let out = is_out _ c.self.inside.root c.remove.new.self _ _ x c.self.invariant.0 r in
    (λ _. subst (λ (m : List Pair). Contains m x) pairs out.there, λ _. refl)

pub returns-else-is_idle-clause-found : goal.returns-else-is_idle-clause-found
returns-else-is_idle-clause-found c =
    let x : Pair = (c.args.key.now, c.args.number) in
    let pairs : c.self.inside.root.pairs ≡ c.args.self.now.pairs = ap (λ (v : TreeView). v.pairs) c.self.view_is in
    let r : Removes c.self.inside.root x c.remove.new.self true =
    subst (λ b. Removes c.self.inside.root x c.remove.new.self b) c.if-not-remove.false c.remove.ensures in
    let out = is_out _ c.self.inside.root c.remove.new.self _ _ x c.self.invariant.0 r in
    (λ _. subst (λ (m : List Pair). Contains m x) pairs out.there, λ _. refl)

pub returns-then-is_idle-clause-pairs : goal.returns-then-is_idle-clause-pairs
returns-then-is_idle-clause-pairs c =
    let x : Pair = (c.args.key.now, c.args.number) in
    let pairs : c.self.inside.root.pairs ≡ c.args.self.now.pairs = ap (λ (v : TreeView). v.pairs) c.self.view_is in
    let r : Removes c.self.inside.root x c.remove.new.self true =
    subst (λ b. Removes c.self.inside.root x c.remove.new.self b) c.if-not-remove.false c.remove.ensures in
    let out = is_out _ c.self.inside.root c.remove.new.self _ _ x c.self.invariant.0 r in
    c.lower.ensures.pairs ∙ out.pairs ∙ ap (without is_before x) pairs

pub returns-else-is_idle-clause-pairs : goal.returns-else-is_idle-clause-pairs
returns-else-is_idle-clause-pairs c =
    let x : Pair = (c.args.key.now, c.args.number) in
    let pairs : c.self.inside.root.pairs ≡ c.args.self.now.pairs = ap (λ (v : TreeView). v.pairs) c.self.view_is in
    let r : Removes c.self.inside.root x c.remove.new.self true =
    subst (λ b. Removes c.self.inside.root x c.remove.new.self b) c.if-not-remove.false c.remove.ensures in
    let out = is_out _ c.self.inside.root c.remove.new.self _ _ x c.self.invariant.0 r in
    out.pairs ∙ ap (without is_before x) pairs

pub returns-then-is_idle-clause-sound : goal.returns-then-is_idle-clause-sound
returns-then-is_idle-clause-sound c =
    let x : Pair = (c.args.key.now, c.args.number) in
    let pairs : c.self.inside.root.pairs ≡ c.args.self.now.pairs = ap (λ (v : TreeView). v.pairs) c.self.view_is in
    let r : Removes c.self.inside.root x c.remove.new.self true =
    subst (λ b. Removes c.self.inside.root x c.remove.new.self b) c.if-not-remove.false c.remove.ensures in
    let out = is_out _ c.self.inside.root c.remove.new.self _ _ x c.self.invariant.0 r in
    let k = c.lower.ensures.child in
    let t = tree_lowered _ c.self.inside.root c.remove.new.self c.lower.new.self _ _ x c.self.invariant.0 r
    c.lower.ensures.pairs c.lower.ensures.height k in
    t.list

pub returns-else-is_idle-clause-sound : goal.returns-else-is_idle-clause-sound
returns-else-is_idle-clause-sound c =
    let x : Pair = (c.args.key.now, c.args.number) in
    let pairs : c.self.inside.root.pairs ≡ c.args.self.now.pairs = ap (λ (v : TreeView). v.pairs) c.self.view_is in
    let r : Removes c.self.inside.root x c.remove.new.self true =
    subst (λ b. Removes c.self.inside.root x c.remove.new.self b) c.if-not-remove.false c.remove.ensures in
    let out = is_out _ c.self.inside.root c.remove.new.self _ _ x c.self.invariant.0 r in
    let t = tree_lost _ c.self.inside.root c.remove.new.self _ _ x c.self.invariant.0 r
    (λ h. ⊎_elim (λ k. k) (λ k. let zero : c.remove.new.self.count
    ≡ 0 = omega arith in absurd (false≢true (sym c.if-is_idle.false ∙ c.is_idle.ensures.1 (h, zero))))
    (cases_lt 0 c.remove.new.self.count)) in
    t.list

pub remove-requires-clause-keyed : goal.remove-requires-clause-keyed
remove-requires-clause-keyed c = tree_keyed c.self.inside.key_length c.self.inside.root.most c.self.inside.root.pairs
    c.self.invariant.0.most c.self.invariant.0.list.keys
