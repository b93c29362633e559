use Rattle.std.proofs.Common.{◌+◌, ◌*◌, ℕ, List, length, take, drop, get_or, sym, ap, ◌∙◌, arith}
use Rattle.key_lists.specs.Pairs.{Pair}
use Rattle.key_rows.proofs.FlatLemmas.{key_at, pairs_of, count_of, pair_within}
use Rattle.key_rows.proofs.entries.Entries.key.Goals as goal

pub overflow_mul-at : goal.overflow_mul-at
overflow_mul-at c =
    let k = c.self.inside.key_length in
    let n = c.self.inside.count in
    let b = c.self.inside.bytes.items in
    let items = pairs_of k n _ b c.args.self.now c.self.view_is in
    let within = pair_within k c.args.at n b c.args.self.now.items items c.self.invariant.whole c.requires in
    omega (arith, within, c.self.inside.bytes.small, c.self.inside.bytes.ok.0, c.self.inside.bytes.ok.1)

pub part-requires : goal.part-requires
part-requires c =
    let k = c.self.inside.key_length in
    let n = c.self.inside.count in
    let b = c.self.inside.bytes.items in
    let items = pairs_of k n _ b c.args.self.now c.self.view_is in
    let within = pair_within k c.args.at n b c.args.self.now.items items c.self.invariant.whole c.requires in
    omega (arith, within, ap (λ (r : List ℕ). length r) c.deref.ensures.value)

pub returns-clause-value : goal.returns-clause-value
returns-clause-value c =
    let k = c.self.inside.key_length in
    let n = c.self.inside.count in
    let b = c.self.inside.bytes.items in
    let items = pairs_of k n _ b c.args.self.now c.self.view_is in
    let count = count_of k n b c.args.self.now.items items in
    λ d. c.part.ensures ∙ ap (λ r. take k (drop (c.args.at * (k + 4)) r)) c.deref.ensures.value
    ∙ sym (key_at k n c.args.at b d (omega (arith, count, c.requires)))
    ∙ ap (λ (m : List Pair). (get_or m c.args.at d).0) items
