use Rattle.std.proofs.Common.{◌+◌, ◌*◌, ℕ, List, length, drop, get_or, sym, ap, ◌∙◌, arith}
use Rattle.byteorder.specs.Endian.{little_number}
use Rattle.key_lists.specs.Pairs.{Pair}
use Rattle.key_rows.proofs.FlatLemmas.{number_at, pairs_of, count_of, pair_within}
use Rattle.key_rows.proofs.entries.Entries.number.Goals as goal

pub overflow_mul-start : goal.overflow_mul-start
overflow_mul-start c =
    let k = c.self.inside.key_length in
    let n = c.self.inside.count in
    let b = c.self.inside.bytes.items in
    let items = pairs_of k n _ b c.args.self.now c.self.view_is in
    let within = pair_within k c.args.at n b c.args.self.now.items items c.self.invariant.whole c.requires in
    omega (arith, within, c.self.inside.bytes.small, c.self.inside.bytes.ok.0, c.self.inside.bytes.ok.1)

pub overflow_add-start-2 : goal.overflow_add-start-2
overflow_add-start-2 c =
    let k = c.self.inside.key_length in
    let n = c.self.inside.count in
    let b = c.self.inside.bytes.items in
    let items = pairs_of k n _ b c.args.self.now c.self.view_is in
    let within = pair_within k c.args.at n b c.args.self.now.items items c.self.invariant.whole c.requires in
    omega (arith, within, c.self.inside.bytes.small, c.self.inside.bytes.ok.0, c.self.inside.bytes.ok.1)

pub number_in-requires : goal.number_in-requires
number_in-requires c =
    let k = c.self.inside.key_length in
    let n = c.self.inside.count in
    let b = c.self.inside.bytes.items in
    let items = pairs_of k n _ b c.args.self.now c.self.view_is in
    let within = pair_within k c.args.at n b c.args.self.now.items items c.self.invariant.whole c.requires in
    omega (arith, within, ap (λ (r : List ℕ). length r) c.deref.ensures.value)

pub returns : goal.returns
returns c =
    let k = c.self.inside.key_length in
    let n = c.self.inside.count in
    let b = c.self.inside.bytes.items in
    let items = pairs_of k n _ b c.args.self.now c.self.view_is in
    let count = count_of k n b c.args.self.now.items items in
    λ d. c.number_in.ensures ∙ ap (λ r. little_number 4 (drop (c.args.at * (k + 4) + k) r)) c.deref.ensures.value
    ∙ sym (number_at k n c.args.at b d (omega (arith, count, c.requires)))
    ∙ ap (λ (m : List Pair). (get_or m c.args.at d).1) items
