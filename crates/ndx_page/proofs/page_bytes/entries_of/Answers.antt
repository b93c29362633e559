use Rattle.std.proofs.Common.{◌∙◌, ap, List, [], ℕ, ◌+◌, ◌-◌, ◌*◌, ◌≤◌, ◌∷◌, ◌++◌, length, arith}
use Rattle.ndx_page.specs.declared.page.PageEntry.{PageEntry}
use Rattle.ndx_page.specs.Layout.{entry_size, most_entries}
use Rattle.ndx_page.specs.PageLayout.{entry_at, entries_at}
use Rattle.ndx_page.proofs.LayoutLemmas.{next-size, most_entries-bound}
use Rattle.ndx_page.proofs.EntryLemmas.{entries_more, entries_none, entries_all}
use Rattle.ndx_page.proofs.page_bytes.entries_of.Goals as goal

pub loop-index-init : goal.loop-index-init
loop-index-init c = record {
  left = entries_none c.args.key_length c.args.count c.args.bytes.now _
      c.new-entries.ensures;
  count = ap length c.new-entries.ensures;
}

pub overflow_mul-index : goal.overflow_mul-index
overflow_mul-index c =
    let next : c.loop-index.index + 1 ≤ most_entries c.args.key_length = omega arith in
    let room = next-size c.args.key_length c.loop-index.index next in
    let same = ap (λ (size : ℕ). c.loop-index.index * size) c.entry_len-size.ensures in
    omega (arith, room, same)

pub overflow_add-index : goal.overflow_add-index
overflow_add-index c =
    let next : c.loop-index.index + 1 ≤ most_entries c.args.key_length = omega arith in
    let room = next-size c.args.key_length c.loop-index.index next in
    let same = ap (λ (size : ℕ). c.loop-index.index * size) c.entry_len-size.ensures in
    omega (arith, room, same)

pub entry_of-requires-clause-room : goal.entry_of-requires-clause-room
entry_of-requires-clause-room c =
    let next : c.loop-index.index + 1 ≤ most_entries c.args.key_length = omega arith in
    let room = next-size c.args.key_length c.loop-index.index next in
    let same = ap (λ (size : ℕ). c.loop-index.index * size) c.entry_len-size.ensures in
    omega (arith, room, same)

pub push-requires : goal.push-requires
push-requires c =
    let few = most_entries-bound c.args.key_length c.requires.some in
    omega (arith, few, c.loop-index.invariant.count)

pub loop-index-preserved : goal.loop-index-preserved
loop-index-preserved c =
    let l = c.args.key_length in
    let index = c.loop-index.index in
    let bytes = c.args.bytes.now in
    let es = c.loop-index.entries.items in
    let more = entries_more l c.args.count index bytes es _ c.loop-index-test.true c.loop-index.invariant.left in
    let entry = c.entry_of.ensures ∙ ap (λ (size : ℕ). entry_at l (4 + index * size) bytes) c.entry_len-size.ensures in
    let pushed = c.push.ensures.items ∙ ap (λ (e : PageEntry). es ++ e ∷ []) entry in
    record {
      left = ap (λ (xs : List PageEntry). xs ++ entries_at l (c.args.count - (index + 1))
          (4 + (index + 1) * entry_size l) bytes) pushed ∙ more;
      count = c.push.ensures.len ∙ ap (λ (n : ℕ). n + 1) c.loop-index.invariant.count;
    }

pub returns : goal.returns
returns c = entries_all c.args.key_length c.args.count c.loop-index.index c.args.bytes.now c.loop-index.entries.items
    c.loop-index-test.false c.loop-index.invariant.left
