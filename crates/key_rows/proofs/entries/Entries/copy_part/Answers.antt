use Rattle.std.proofs.Common.{◌≡◌, ◌+◌, ◌*◌, ◌≤◌, ℕ, List, ◌++◌, length, take, drop, refl, sym, ap, subst, ◌∙◌, arith}
use Rattle.std.proofs.Math.Nat.{add-mul}
use Rattle.key_lists.specs.Pairs.{Pair}
use Rattle.key_rows.specs.Flat.{FlatView, HaveKeys, pairs_in}
use Rattle.key_rows.proofs.FlatLemmas.{part_at_most, part_length, key_length_is, adopted, pairs_of, count_of}
use Rattle.key_rows.proofs.FlatLemmas.{length-copied, pairs_copied, with_none}
use Rattle.key_rows.proofs.entries.Entries.copy_part.Goals as goal

pub returns-then-size-eq0-clause-items : goal.returns-then-size-eq0-clause-items
returns-then-size-eq0-clause-items c =
    with_none c.args.to.now.items c.args.self.now.items c.args.at c.args.size c.if-size-eq0.true

pub overflow_mul-at : goal.overflow_mul-at
overflow_mul-at c =
    let k = c.self.inside.key_length in
    let n = c.self.inside.count in
    let b = c.self.inside.bytes.items in
    let items = pairs_of k n _ b c.args.self.now c.self.view_is in
    let count = count_of k n b c.args.self.now.items items in
    let within : c.args.at + c.args.size ≤ n = omega (arith, count, c.requires.within) in
    omega (
      arith,
      part_at_most k c.args.at c.args.size n b c.self.invariant.whole within,
      c.self.inside.bytes.small,
      c.self.inside.bytes.ok.0,
      c.self.inside.bytes.ok.1,
    )

pub overflow_mul-size : goal.overflow_mul-size
overflow_mul-size c =
    let k = c.self.inside.key_length in
    let n = c.self.inside.count in
    let b = c.self.inside.bytes.items in
    let items = pairs_of k n _ b c.args.self.now c.self.view_is in
    let count = count_of k n b c.args.self.now.items items in
    let within : c.args.at + c.args.size ≤ n = omega (arith, count, c.requires.within) in
    omega (
      arith,
      part_at_most k c.args.at c.args.size n b c.self.invariant.whole within,
      c.self.inside.bytes.small,
      c.self.inside.bytes.ok.0,
      c.self.inside.bytes.ok.1,
    )

pub part-requires : goal.part-requires
part-requires c =
    let k = c.self.inside.key_length in
    let n = c.self.inside.count in
    let b = c.self.inside.bytes.items in
    let items = pairs_of k n _ b c.args.self.now c.self.view_is in
    let count = count_of k n b c.args.self.now.items items in
    let within : c.args.at + c.args.size ≤ n = omega (arith, count, c.requires.within) in
    omega (
      arith,
      part_at_most k c.args.at c.args.size n b c.self.invariant.whole within,
      ap (λ (r : List ℕ). length r)
          c.deref.ensures.value,
    )

pub add_bytes-requires : goal.add_bytes-requires
add_bytes-requires c =
    let k = c.self.inside.key_length in
    let n = c.self.inside.count in
    let b = c.self.inside.bytes.items in
    let items = pairs_of k n _ b c.args.self.now c.self.view_is in
    let count = count_of k n b c.args.self.now.items items in
    let within : c.args.at + c.args.size ≤ n = omega (arith, count, c.requires.within) in
    let some = c.if-size-eq0.false in
    let j = c.requires.alike.0 in
    let same : k ≡ j = key_length_is k j n b c.self.invariant.whole (omega (arith, some, within))
    (subst (λ (m : List Pair). HaveKeys j m) (sym items) c.requires.alike.1) in
    let i = c.to.inside.key_length in
    let m = c.to.inside.count in
    let t = c.to.inside.bytes.items in
    let others = pairs_of i m _ t c.args.to.now c.to.view_is in
    let most = count_of i m t c.args.to.now.items others in
    let keys : HaveKeys k (pairs_in i m t) = subst (λ (l : List Pair). HaveKeys k l) (sym others)
    (subst (λ h. HaveKeys h c.args.to.now.items) (sym same) c.requires.alike.2) in
    let a = adopted i k m t c.to.invariant.whole keys in
    let part : c.part.result.now ≡ take (c.args.size * (k + 4)) (drop (c.args.at * (k + 4)) b) = c.part.ensures
    ∙ ap (λ (r : List ℕ). take (c.args.size * (k + 4)) (drop (c.args.at * (k + 4)) r)) c.deref.ensures.value in
    let room : (m + c.args.size) * (k + 4) ≤ c.args.to.now.room = subst
    (λ h. (m + c.args.size) * (h + 4) ≤ c.args.to.now.room) (sym same)
    (subst (λ h. (h + c.args.size) * (j + 4) ≤ c.args.to.now.room) (sym most) c.requires.alike.3) in
    omega (
      arith,
      room,
      add-mul m c.args.size (k + 4),
      ap (λ (r : List ℕ). length r) part,
      part_length k c.args.at
          c.args.size n b c.self.invariant.whole within,
      a.0,
      ap (λ (v : FlatView). v.room) c.to.view_is,
      c.to.inside.bytes.small,
      c.to.inside.bytes.ok.0,
      c.to.inside.bytes.ok.1,
    )

pub invariant_of-to : goal.invariant_of-to
invariant_of-to c =
    let k = c.self.inside.key_length in
    let n = c.self.inside.count in
    let b = c.self.inside.bytes.items in
    let items = pairs_of k n _ b c.args.self.now c.self.view_is in
    let count = count_of k n b c.args.self.now.items items in
    let within : c.args.at + c.args.size ≤ n = omega (arith, count, c.requires.within) in
    let some = c.if-size-eq0.false in
    let j = c.requires.alike.0 in
    let same : k ≡ j = key_length_is k j n b c.self.invariant.whole (omega (arith, some, within))
    (subst (λ (m : List Pair). HaveKeys j m) (sym items) c.requires.alike.1) in
    let i = c.to.inside.key_length in
    let m = c.to.inside.count in
    let t = c.to.inside.bytes.items in
    let others = pairs_of i m _ t c.args.to.now c.to.view_is in
    let keys : HaveKeys k (pairs_in i m t) = subst (λ (l : List Pair). HaveKeys k l) (sym others)
    (subst (λ h. HaveKeys h c.args.to.now.items) (sym same) c.requires.alike.2) in
    let a = adopted i k m t c.to.invariant.whole keys in
    let part : c.part.result.now ≡ take (c.args.size * (k + 4)) (drop (c.args.at * (k + 4)) b) = c.part.ensures
    ∙ ap (λ (r : List ℕ). take (c.args.size * (k + 4)) (drop (c.args.at * (k + 4)) r)) c.deref.ensures.value in
    record {
      whole = length-copied k c.args.at c.args.size n m b t _ within c.self.invariant.whole a.0
          (c.add_bytes.ensures.bytes ∙ ap (λ (r : List ℕ). t ++ r) part);
      short = c.self.invariant.short;
    }

pub returns-clause-items : goal.returns-clause-items
returns-clause-items c =
    let k = c.self.inside.key_length in
    let n = c.self.inside.count in
    let b = c.self.inside.bytes.items in
    let items = pairs_of k n _ b c.args.self.now c.self.view_is in
    let count = count_of k n b c.args.self.now.items items in
    let within : c.args.at + c.args.size ≤ n = omega (arith, count, c.requires.within) in
    let some = c.if-size-eq0.false in
    let j = c.requires.alike.0 in
    let same : k ≡ j = key_length_is k j n b c.self.invariant.whole (omega (arith, some, within))
    (subst (λ (m : List Pair). HaveKeys j m) (sym items) c.requires.alike.1) in
    let i = c.to.inside.key_length in
    let m = c.to.inside.count in
    let t = c.to.inside.bytes.items in
    let others = pairs_of i m _ t c.args.to.now c.to.view_is in
    let keys : HaveKeys k (pairs_in i m t) = subst (λ (l : List Pair). HaveKeys k l) (sym others)
    (subst (λ h. HaveKeys h c.args.to.now.items) (sym same) c.requires.alike.2) in
    let a = adopted i k m t c.to.invariant.whole keys in
    let part : c.part.result.now ≡ take (c.args.size * (k + 4)) (drop (c.args.at * (k + 4)) b) = c.part.ensures
    ∙ ap (λ (r : List ℕ). take (c.args.size * (k + 4)) (drop (c.args.at * (k + 4)) r)) c.deref.ensures.value in
    pairs_copied k c.args.at c.args.size n m b t _ within c.self.invariant.whole a.0
    (c.add_bytes.ensures.bytes ∙ ap (λ (r : List ℕ). t ++ r) part) ∙ rw (a.1 ∙ others, items) refl
