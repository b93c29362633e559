use Rattle.std.proofs.Common.{rules, ◌≡◌, ◌∙◌, sym, ap, subst, List, ℕ, ◌+◌, ◌≤◌, ◌<◌, ◌++◌, length, min, take, get_or}
use Rattle.std.proofs.Common.{below_more, arith}
use Rattle.std.proofs.lemmas.List.{get_or_default, take_all}
use Rattle.std.specs.List.{flat_map}
use Rattle.ndx_page.specs.Numbers.{number_text, padded}
use Rattle.std.proofs.lemmas.Grind.{common_steps}
use Rattle.std.proofs.Math.Nat.{add-mul}
use Rattle.ndx_page.specs.declared.page.PageEntry.{PageEntry}
use Rattle.ndx_page.specs.PageLayout.{IsPage, entry_text}
use Rattle.ndx_page.proofs.EntryLemmas.{HasNumbers}
use Rattle.ndx_page.proofs.PageLemmas.{page_written, page_again}
use Rattle.ndx_page.specs.Layout.{most_entries}
use Rattle.ndx_page.proofs.LayoutLemmas.{entries-size, next-size}
use Rattle.ndx_page.proofs.page_bytes.write_page.Goals as goal

pub append_entry-requires-clause-room : goal.append_entry-requires-clause-room
append_entry-requires-clause-room c =
    let shown : c.min-shown.result ≤ most_entries c.args.head.now.length =
    omega (arith, c.min-shown.ensures, c.most_entries.ensures) in
    let next : c.loop-entry.entry-index + 1 ≤ most_entries c.args.head.now.length = search (rules, shown) in
    let room = next-size c.args.head.now.length c.loop-entry.entry-index next in
    let empty = ap length c.new-sheet.ensures in
    omega (arith, room, empty)

pub append_four-requires-2 : goal.append_four-requires-2
append_four-requires-2 c =
    let shown : c.min-shown.result ≤ most_entries c.args.head.now.length =
    omega (arith, c.min-shown.ensures, c.most_entries.ensures) in
    let all : c.loop-entry.entry-index ≤ most_entries c.args.head.now.length = search (rules, shown) in
    let room = entries-size c.args.head.now.length c.loop-entry.entry-index all in
    let empty = ap length c.new-sheet.ensures in
    omega (arith, room, empty)

pub loop-entry-preserved : goal.loop-entry-preserved
loop-entry-preserved c = record {
  written = grind (arith, common_steps);
  numbers = below_more (λ k. (e : PageEntry) → HasNumbers (get_or _ k e)) _ c.loop-entry.invariant.numbers (λ e.
      let here = c.entry-item.is ∙ get_or_default _ c.loop-entry.entry-index _ e c.loop-entry-test.true in
      subst HasNumbers here (record { child = c.append_entry.ensures.fits.0; number = c.append_entry.ensures.fits.1 }));
  room = grind (arith, add-mul);
}

pub returns-clause-exact : goal.returns-clause-exact
returns-clause-exact c =
    let shown : c.min-shown.result ≡ min (length c.args.page.now.entries.items) (most_entries c.args.head.now.length) =
    search (rules, c.len.ensures.value) in
    let written = page_written c.args.head.now.length c.min-shown.result c.args.page.now shown in
    let all = take_all c.loop-entry.entry-index (take c.min-shown.result c.deref.result.now) c.loop-entry-test.false in
    let same = ap (take c.min-shown.result) c.deref.ensures.0 in
    let text = entry_text c.args.head.now.length in
    let front : c.append_four.new.sheet.items ≡ number_text 4 c.min-shown.result = c.append_four.ensures.items
    ∙ ap (λ (xs : List ℕ). xs ++ number_text 4 c.min-shown.result) c.new-sheet.ensures in
    let sheet = c.append_four-2.ensures.items ∙ ap (λ (xs : List ℕ). xs ++ number_text 4 c.args.page.now.last)
    (c.loop-entry.invariant.written ∙ ap (λ (es : List PageEntry). c.append_four.new.sheet.items ++ flat_map text es)
    (all ∙ same)
    ∙ ap (λ (xs : List ℕ). xs ++ flat_map text (take c.min-shown.result c.args.page.now.entries.items)) front) in
    c.whole_page.ensures ∙ ap (padded 512) sheet ∙ written

pub returns-clause-reads : goal.returns-clause-reads
returns-clause-reads c = λ fits.
    let most = fits.most in
    let count = length c.args.page.now.entries.items in
    let shown : count ≤ c.min-shown.result = search (rules, c.len.ensures.value, most) in
    let same : take c.min-shown.result c.deref.result.now ≡ c.args.page.now.entries.items = ap (take c.min-shown.result)
    c.deref.ensures.0 ∙ take_all c.min-shown.result c.args.page.now.entries.items shown in
    let passed = ap length same in
    let numbers : (k : ℕ) (d : PageEntry) → k < count → HasNumbers (get_or c.args.page.now.entries.items k d) =
    λ k d within. subst (λ (es : List PageEntry). HasNumbers (get_or es k d)) same
    (c.loop-entry.invariant.numbers k (omega (arith, passed, c.loop-entry-test.false)) d) in
    let reads = page_again c.args.head.now.length c.args.page.now c.args.head.now.some_key fits numbers
    c.append_four-2.ensures.fits in
    subst (λ (bytes : List ℕ). IsPage c.args.head.now.length bytes c.args.page.now) (sym (returns-clause-exact c)) reads
