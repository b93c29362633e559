use Rattle.std.proofs.Common.{◌≡◌, ◌∙◌, ◌∷◌, ◌++◌, [], ℕ, List, length, get_or, sym, ap, subst, refl, arith}
use Rattle.std.proofs.Common.{length-append}
use Rattle.std.proofs.lemmas.List.{get_or_default}
use Rattle.ndx_page.specs.declared.page.PageEntry.{PageEntry}
use Rattle.key_lists.specs.Pairs.{Pair}
use Rattle.key_lists.specs.Order.{Each}
use Rattle.ndx_tree.specs.IndexFile.{leaf_pairs}
use Rattle.ndx_tree.proofs.BlankLemmas.{each_more}
use Rattle.ndx_tree.proofs.Between.{take_next}
use Rattle.ndx_tree.proofs.Reading.{leaf_pairs_end}
use Rattle.ndx_tree.proofs.page_file.leaf_of.Goals as goal

nothing : Pair
nothing = ([], 0)

pub loop-at-preserved : goal.loop-at-preserved
loop-at-preserved c =
    let e : PageEntry = record { child = 0; number = c.number.result; key = c.held.result } in
    let p : Pair = get_or c.args.entries.now.items c.loop-at.at nothing in
    let made : (let q : Pair = (e.key.items, e.number) in q) ≡ p = ap
    (λ (m : List ℕ). let q : Pair = (m, c.number.result) in q) (c.held.ensures ∙ c.key.ensures.value nothing)
    ∙ ap (λ n. let q : Pair = (p.0, n) in q) (c.number.ensures nothing) in
    let inv = c.loop-at.invariant in
    record {
      pairs = ap leaf_pairs c.push.ensures.items ∙ leaf_pairs_end c.loop-at.page.entries.items e
          ∙ ap (λ (q : Pair). leaf_pairs c.loop-at.page.entries.items ++ q ∷ []) made
          ∙ ap (λ (m : List Pair). m ++ p ∷ []) inv.pairs
          ∙ sym (take_next c.args.entries.now.items c.loop-at.at p (omega arith)
          (get_or_default c.args.entries.now.items c.loop-at.at nothing p (omega arith)));
      children = subst (Each (λ (e : PageEntry). e.child ≡ 0)) (sym c.push.ensures.items)
          (each_more (λ (e : PageEntry). e.child ≡ 0) c.loop-at.page.entries.items e inv.children refl);
      last = inv.last;
      count = ap (λ (m : List PageEntry). length m) c.push.ensures.items
          ∙ length-append c.loop-at.page.entries.items (e ∷ []) ∙ omega (arith, inv.count);
    }
