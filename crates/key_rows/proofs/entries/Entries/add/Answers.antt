use Rattle.std.proofs.Common.{◌≡◌, ℕ, List, [], ◌∷◌, ◌++◌, length, refl, sym, ap, subst, ◌∙◌}
use Rattle.byteorder.specs.Endian.{little_bytes}
use Rattle.key_lists.specs.Pairs.{Pair}
use Rattle.key_rows.specs.Flat.{HaveKeys, pairs_in}
use Rattle.key_rows.proofs.FlatLemmas.{adopted, length-pushed, pairs_pushed, pairs_of}
use Rattle.key_rows.proofs.entries.Entries.add.Goals as goal

pub invariant_of-self-2 : goal.invariant_of-self-2
invariant_of-self-2 c =
    let k = c.self.inside.key_length in
    let n = c.self.inside.count in
    let b = c.self.inside.bytes.items in
    let items = pairs_of k n _ b c.args.self.now c.self.view_is in
    let j = length c.args.key.now in
    let keys : HaveKeys j (pairs_in k n b) = subst (λ (m : List Pair). HaveKeys j m) (sym items) c.requires.alike in
    let a = adopted k j n b c.self.invariant.whole keys in
    let bytes : c.add_pair.new.bytes.items ≡ b ++ (c.args.key.now ++ little_bytes 4 c.args.number) =
    c.add_pair.ensures.bytes ∙ ap (λ (m : List ℕ). m ++ (c.args.key.now ++ little_bytes 4 c.args.number))
    c.reserve.ensures.items in
    record { whole = length-pushed j n c.args.number c.args.key.now b _ refl a.0 bytes; short = c.requires.short }

pub returns-clause-items : goal.returns-clause-items
returns-clause-items c =
    let k = c.self.inside.key_length in
    let n = c.self.inside.count in
    let b = c.self.inside.bytes.items in
    let items = pairs_of k n _ b c.args.self.now c.self.view_is in
    let j = length c.args.key.now in
    let keys : HaveKeys j (pairs_in k n b) = subst (λ (m : List Pair). HaveKeys j m) (sym items) c.requires.alike in
    let a = adopted k j n b c.self.invariant.whole keys in
    let bytes : c.add_pair.new.bytes.items ≡ b ++ (c.args.key.now ++ little_bytes 4 c.args.number) =
    c.add_pair.ensures.bytes ∙ ap (λ (m : List ℕ). m ++ (c.args.key.now ++ little_bytes 4 c.args.number))
    c.reserve.ensures.items in
    pairs_pushed j n c.args.number c.args.key.now b _ refl c.add_pair.ensures.fits a.0 bytes
    ∙ ap (λ (m : List Pair). m ++ (let x : Pair = (c.args.key.now, c.args.number) in x) ∷ []) (a.1 ∙ items)
