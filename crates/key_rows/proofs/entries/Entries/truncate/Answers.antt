use Rattle.std.proofs.Common.{ℕ, List, length, take, ap, ◌∙◌, arith}
use Rattle.key_rows.specs.Flat.{pairs_in}
use Rattle.key_rows.proofs.FlatLemmas.{place_at_most, length-cut, pairs_cut, pairs_of, count_of}
use Rattle.key_rows.proofs.entries.Entries.truncate.Goals as goal

pub overflow_mul-kept : goal.overflow_mul-kept
overflow_mul-kept c =
    let k = c.self.inside.key_length in
    let n = c.self.inside.count in
    let b = c.self.inside.bytes.items in
    let items = pairs_of k n _ b c.args.self.now c.self.view_is in
    let count = count_of k n b c.args.self.now.items items in
    omega (
      arith,
      place_at_most k c.args.kept n b c.self.invariant.whole (omega (arith, count, c.requires)),
      c.self.inside.bytes.small,
      c.self.inside.bytes.ok.0,
      c.self.inside.bytes.ok.1,
    )

pub invariant_of-self : goal.invariant_of-self
invariant_of-self c =
    let k = c.self.inside.key_length in
    let n = c.self.inside.count in
    let b = c.self.inside.bytes.items in
    let items = pairs_of k n _ b c.args.self.now c.self.view_is in
    let count = count_of k n b c.args.self.now.items items in
    record {
      whole = ap (λ (r : List ℕ). length r) c.truncate.ensures.items
          ∙ length-cut k c.args.kept n b c.self.invariant.whole (omega (arith, count, c.requires));
      short =
          c.self.invariant.short;
    }

pub returns-clause-items : goal.returns-clause-items
returns-clause-items c =
    let k = c.self.inside.key_length in
    let n = c.self.inside.count in
    let b = c.self.inside.bytes.items in
    let items = pairs_of k n _ b c.args.self.now c.self.view_is in
    let count = count_of k n b c.args.self.now.items items in
    ap (pairs_in k c.args.kept) c.truncate.ensures.items ∙ pairs_cut k c.args.kept n b c.self.invariant.whole
    (omega (arith, count, c.requires)) ∙ ap (take c.args.kept) items
