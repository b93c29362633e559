use Rattle.std.proofs.Common.{List, length, ap, ◌∙◌, arith}
use Rattle.std.specs.List.{remove}
use Rattle.key_lists.specs.Pairs.{Pair}
use Rattle.key_rows.proofs.FlatLemmas.{length-taken, pairs_taken, pairs_of, count_of, pair_within}
use Rattle.key_rows.proofs.entries.Entries.remove.Goals as goal

pub overflow_mul-at : goal.overflow_mul-at
overflow_mul-at c =
    let k = c.self.inside.key_length in
    let n = c.self.inside.count in
    let b = c.self.inside.bytes.items in
    let items = pairs_of k n _ b c.args.self.now c.self.view_is in
    let within = pair_within k c.args.at n b c.args.self.now.items items c.self.invariant.whole c.requires in
    omega (arith, within, c.self.inside.bytes.small, c.self.inside.bytes.ok.0, c.self.inside.bytes.ok.1)

pub take_bytes-requires : goal.take_bytes-requires
take_bytes-requires c =
    let k = c.self.inside.key_length in
    let n = c.self.inside.count in
    let b = c.self.inside.bytes.items in
    let items = pairs_of k n _ b c.args.self.now c.self.view_is in
    let within = pair_within k c.args.at n b c.args.self.now.items items c.self.invariant.whole c.requires in
    omega (arith, within, c.self.inside.bytes.small, c.self.inside.bytes.ok.0, c.self.inside.bytes.ok.1)

pub overflow_sub-self : goal.overflow_sub-self
overflow_sub-self c =
    let k = c.self.inside.key_length in
    let n = c.self.inside.count in
    let b = c.self.inside.bytes.items in
    let items = pairs_of k n _ b c.args.self.now c.self.view_is in
    let count = count_of k n b c.args.self.now.items items in
    omega (arith, count, c.requires)

pub invariant_of-self : goal.invariant_of-self
invariant_of-self c =
    let k = c.self.inside.key_length in
    let n = c.self.inside.count in
    let b = c.self.inside.bytes.items in
    let items = pairs_of k n _ b c.args.self.now c.self.view_is in
    let count = count_of k n b c.args.self.now.items items in
    record {
      whole = length-taken k c.args.at n b _ c.self.invariant.whole (omega (arith, count, c.requires))
          c.take_bytes.ensures.bytes;
      short = c.self.invariant.short;
    }

pub returns-clause-items : goal.returns-clause-items
returns-clause-items c =
    let k = c.self.inside.key_length in
    let n = c.self.inside.count in
    let b = c.self.inside.bytes.items in
    let items = pairs_of k n _ b c.args.self.now c.self.view_is in
    let count = count_of k n b c.args.self.now.items items in
    pairs_taken k c.args.at n b _ c.self.invariant.whole (omega (arith, count, c.requires)) c.take_bytes.ensures.bytes
    ∙ ap (λ (m : List Pair). remove m c.args.at) items
