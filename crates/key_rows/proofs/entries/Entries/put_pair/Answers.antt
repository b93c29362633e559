use Rattle.std.proofs.Common.{◌≡◌, ◌+◌, ◌*◌, ◌≤◌, List, ◌++◌, length, take, drop, refl, sym, ap, subst, ◌∙◌, arith}
use Rattle.std.specs.List.{insert}
use Rattle.byteorder.specs.Endian.{little_bytes}
use Rattle.key_lists.specs.Pairs.{Pair}
use Rattle.key_rows.specs.Flat.{FlatView, HaveKeys, pairs_in}
use Rattle.key_rows.proofs.FlatLemmas.{place_at_most, next_place, adopted, length-put, pairs_put, pairs_of, count_of}
use Rattle.key_rows.proofs.entries.Entries.put_pair.Goals as goal

pub put_bytes-requires-clause-within : goal.put_bytes-requires-clause-within
put_bytes-requires-clause-within c =
    let k = c.self.inside.key_length in
    let n = c.self.inside.count in
    let b = c.self.inside.bytes.items in
    let items = pairs_of k n _ b c.args.self.now c.self.view_is in
    let count = count_of k n b c.args.self.now.items items in
    let j = length c.args.key.now in
    let keys : HaveKeys j (pairs_in k n b) = subst (λ (m : List Pair). HaveKeys j m) (sym items) c.requires.alike in
    let a = adopted k j n b c.self.invariant.whole keys in
    let at : c.args.at ≤ n = omega (arith, count, c.requires.within) in
    omega (
      arith,
      place_at_most j c.args.at n b a.0 at,
      c.self.inside.bytes.small,
      c.self.inside.bytes.ok.0,
      c.self.inside.bytes.ok.1,
    )

pub put_bytes-requires-clause-room : goal.put_bytes-requires-clause-room
put_bytes-requires-clause-room c =
    let k = c.self.inside.key_length in
    let n = c.self.inside.count in
    let b = c.self.inside.bytes.items in
    let items = pairs_of k n _ b c.args.self.now c.self.view_is in
    let count = count_of k n b c.args.self.now.items items in
    let j = length c.args.key.now in
    let keys : HaveKeys j (pairs_in k n b) = subst (λ (m : List Pair). HaveKeys j m) (sym items) c.requires.alike in
    let a = adopted k j n b c.self.invariant.whole keys in
    let at : c.args.at ≤ n = omega (arith, count, c.requires.within) in
    let room : (n + 1) * (j + 4) ≤ c.args.self.now.room =
    subst (λ i. (i + 1) * (j + 4) ≤ c.args.self.now.room) (sym count) c.requires.room in
    omega (
      arith,
      room,
      next_place j n,
      a.0,
      ap (λ (v : FlatView). v.room) c.self.view_is,
      c.self.inside.bytes.small,
      c.self.inside.bytes.ok.0,
      c.self.inside.bytes.ok.1,
    )

pub invariant_of-self : goal.invariant_of-self
invariant_of-self c =
    let k = c.self.inside.key_length in
    let n = c.self.inside.count in
    let b = c.self.inside.bytes.items in
    let items = pairs_of k n _ b c.args.self.now c.self.view_is in
    let count = count_of k n b c.args.self.now.items items in
    let j = length c.args.key.now in
    let keys : HaveKeys j (pairs_in k n b) = subst (λ (m : List Pair). HaveKeys j m) (sym items) c.requires.alike in
    let a = adopted k j n b c.self.invariant.whole keys in
    let at : c.args.at ≤ n = omega (arith, count, c.requires.within) in
    let bytes : c.put_bytes.new.bytes.items ≡ take (c.args.at * (j + 4)) b
    ++ (c.args.key.now ++ (little_bytes 4 c.args.number ++ drop (c.args.at * (j + 4)) b)) =
    c.put_bytes.ensures.bytes in
    record {
      whole = length-put j c.args.at n c.args.number c.args.key.now b _ refl a.0 at bytes;
      short =
          c.requires.short;
    }

pub returns-clause-items : goal.returns-clause-items
returns-clause-items c =
    let k = c.self.inside.key_length in
    let n = c.self.inside.count in
    let b = c.self.inside.bytes.items in
    let items = pairs_of k n _ b c.args.self.now c.self.view_is in
    let count = count_of k n b c.args.self.now.items items in
    let j = length c.args.key.now in
    let keys : HaveKeys j (pairs_in k n b) = subst (λ (m : List Pair). HaveKeys j m) (sym items) c.requires.alike in
    let a = adopted k j n b c.self.invariant.whole keys in
    let at : c.args.at ≤ n = omega (arith, count, c.requires.within) in
    let bytes : c.put_bytes.new.bytes.items ≡ take (c.args.at * (j + 4)) b
    ++ (c.args.key.now ++ (little_bytes 4 c.args.number ++ drop (c.args.at * (j + 4)) b)) =
    c.put_bytes.ensures.bytes in
    pairs_put j c.args.at n c.args.number c.args.key.now b _ refl c.put_bytes.ensures.fits a.0 at bytes
    ∙ ap (λ (m : List Pair). insert m c.args.at (let x : Pair = (c.args.key.now, c.args.number) in x)) (a.1 ∙ items)
