use Rattle.std.proofs.Common.{◌≡◌, ◌∙◌, ◌≤◌, ◌∷◌, ◌++◌, [], List, ℕ, length, take, sym, ap, subst, arith, append_assoc}
use Rattle.std.proofs.Common.{length-append}
use Rattle.key_lists.specs.Pairs.{Pair}
use Rattle.key_lists.proofs.Ordered.{Each-append}
use Rattle.key_rows.specs.Flat.{HaveKeys}
use Rattle.ndx_tree.specs.IndexFile.{leaf_pairs}
use Rattle.ndx_tree.proofs.Reading.{leaf_pairs_more, leaf_key, leaf_front}
use Rattle.ndx_tree.proofs.walk.add_pairs.Goals as goal

pub add-requires-clause-short : goal.add-requires-clause-short
add-requires-clause-short c =
    let e = c.entry-item.result in
    let k = c.requires.alike.0 in
    let key : c.as_slice.result.now ≡ e.key.items = c.as_slice.ensures.value in
    let size : length e.key.items ≡ k =
    leaf_key k c.args.entries.now c.loop-entry.entry-index e c.requires.alike.3 (omega arith) c.entry-item.is in
    let same : length c.as_slice.result.now ≡ k = ap (λ (m : List ℕ). length m) key ∙ size in
    subst (λ n. n ≤ 100) (sym same) c.requires.alike.1

pub add-requires-clause-alike : goal.add-requires-clause-alike
add-requires-clause-alike c =
    let e = c.entry-item.result in
    let k = c.requires.alike.0 in
    let key : c.as_slice.result.now ≡ e.key.items = c.as_slice.ensures.value in
    let size : length e.key.items ≡ k =
    leaf_key k c.args.entries.now c.loop-entry.entry-index e c.requires.alike.3 (omega arith) c.entry-item.is in
    let same : length c.as_slice.result.now ≡ k = ap (λ (m : List ℕ). length m) key ∙ size in
    let all : HaveKeys k c.loop-entry.pairs.items = subst (λ (m : List Pair). HaveKeys k m)
    (sym c.loop-entry.invariant.items)
    (Each-append (λ p. length p.0 ≡ k) c.args.pairs.now.items
    (leaf_pairs (take c.loop-entry.entry-index c.args.entries.now)) c.requires.alike.2
    (leaf_front k c.args.entries.now c.loop-entry.entry-index c.requires.alike.3)) in
    subst (λ n. HaveKeys n c.loop-entry.pairs.items) (sym same) all

pub loop-entry-preserved : goal.loop-entry-preserved
loop-entry-preserved c =
    let e = c.entry-item.result in
    let key : c.as_slice.result.now ≡ e.key.items = c.as_slice.ensures.value in
    let added : c.add.new.self.items ≡ c.loop-entry.pairs.items ++ (let x : Pair = (e.key.items, e.number) in x) ∷ [] =
    c.in_ok-add.ensures.items ∙ ap (λ (m : List ℕ). c.loop-entry.pairs.items ++ (let x : Pair = (m, e.number) in x)
    ∷ []) key in
    record {
      items = added ∙ ap (λ (m : List Pair). m ++ (e.key.items, e.number) ∷ []) c.loop-entry.invariant.items
          ∙ append_assoc c.args.pairs.now.items _ _ ∙ ap (λ (m : List Pair). c.args.pairs.now.items ++ m)
          (sym (leaf_pairs_more c.args.entries.now c.loop-entry.entry-index e (omega arith) c.entry-item.is));
      few = omega (
        arith,
        c.loop-entry.invariant.few,
        ap (λ (m : List Pair). length m) added,
        length-append
            c.loop-entry.pairs.items ((let x : Pair = (e.key.items, e.number) in x) ∷ []),
      );
    }
