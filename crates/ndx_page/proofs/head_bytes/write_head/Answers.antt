use Rattle.std.proofs.Common.{rules, ◌∙◌, sym, ap, subst, List, ℕ, [], ◌≤◌, length}
use Rattle.ndx_page.specs.Numbers.{padded}
use Rattle.ndx_page.specs.HeadLayout.{IsHead}
use Rattle.ndx_page.proofs.LayoutLemmas.{most_entries-bound}
use Rattle.ndx_page.proofs.HeadLemmas.{then_part, head_again, parts_written}
use Rattle.ndx_page.proofs.head_bytes.write_head.Goals as goal

pub overflow_cast-most_entries : goal.overflow_cast-most_entries
overflow_cast-most_entries c =
    let few = most_entries-bound c.args.head.now.length c.args.head.now.some_key in
    search (rules, few, c.most_entries.ensures)

pub returns-clause-exact : goal.returns-clause-exact
returns-clause-exact c =
    let one = then_part _ _ _ [] c.append_four.ensures.items c.new-sheet.ensures in
    let two = then_part _ _ _ _ c.append_four-2.ensures.items one in
    let three = then_part _ _ _ _ c.append_zeros.ensures.items two in
    let four = then_part _ _ _ _ c.append_two.ensures.items three in
    let five = then_part _ _ _ _ c.append_two-2.ensures.items four in
    let six = then_part _ _ _ _ c.append_two-3.ensures.items five in
    let seven = then_part _ _ _ _ c.append_two-4.ensures.items six in
    let eight = then_part _ _ _ _ c.append_zeros-2.ensures.items seven in
    let nine = then_part _ _ _ _ c.append.ensures.items eight in
    c.whole_page.ensures ∙ ap (padded 512) nine ∙ parts_written c.args.head.now _ _ _ c.most_entries.ensures
    c.entry_len.ensures c.deref.ensures.0

pub returns-clause-reads : goal.returns-clause-reads
returns-clause-reads c =
    let fits : length c.args.head.now.text.items ≤ 487 = search (rules, c.deref.ensures.0, c.deref.ensures.1) in
    subst (λ (bytes : List ℕ). IsHead bytes c.args.head.now) (sym (returns-clause-exact c))
    (head_again c.args.head.now c.append_four.ensures.fits c.append_four-2.ensures.fits fits)
