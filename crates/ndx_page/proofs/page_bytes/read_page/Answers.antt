use Rattle.std.proofs.Common.{◌≡◌, ◌==◌, ◌∙◌, refl, sym, ap, ℕ, ◌+◌, ◌*◌, true, false, not, Ok, arith}
use Rattle.ndx_page.specs.Numbers.{number_at}
use Rattle.ndx_page.specs.Layout.{entry_size}
use Rattle.ndx_page.specs.PageLayout.{entries_at}
use Rattle.ndx_page.proofs.LayoutLemmas.{entries-size}
use Rattle.ndx_page.proofs.ReadLemmas.{told_of, page_told, same_pages, told_test}
use Rattle.ndx_page.proofs.page_bytes.read_page.Goals as goal
use Rattle.ndx_page.proofs.page_bytes.read_page.Goals.{then-last-eq0-via-then-last-eq0}
use Rattle.ndx_page.proofs.page_bytes.read_page.Goals.{then-last-eq0-via-else-last-eq0+then-any_childless}

pub returns-then-any_child-clause-only : goal.returns-then-any_child-clause-only
returns-then-any_child-clause-only c = λ page is_page.
    let told = told_of c.args.head.now.length c.args.bytes.now page is_page in
    let first = sym c.four_at.ensures ∙ c.if-four_at-eq0.true in
    let any = told_test (λ e. not (e.child == 0)) _ _ _ _ _ _ c.entries_of-entries.ensures c.four_at-count.ensures
    c.deref.ensures.0 c.any_child.ensures c.if-any_child.true in
    let clash : true ≡ false = sym any ∙ (told.leaf first).0 in
    cc

pub returns-then-any_recordless-clause-only : goal.returns-then-any_recordless-clause-only
returns-then-any_recordless-clause-only c = λ page is_page.
    let told = told_of c.args.head.now.length c.args.bytes.now page is_page in
    let first = sym c.four_at.ensures ∙ c.if-four_at-eq0.true in
    let any = told_test (λ e. e.number == 0) _ _ _ _ _ _ c.entries_of-entries.ensures c.four_at-count.ensures
    c.deref-then-four_at-eq0.ensures.0 c.any_recordless.ensures c.if-any_recordless.true in
    let clash : true ≡ false = sym any ∙ (told.leaf first).1 in
    cc

pub returns-then-four_at-eq0-clause-read : goal.returns-then-four_at-eq0-clause-read
returns-then-four_at-eq0-clause-read c =
    let l = c.args.head.now.length in
    let bytes = c.args.bytes.now in
    let first = sym c.four_at.ensures ∙ c.if-four_at-eq0.true in
    let same = c.entries_of-entries.ensures ∙ ap (λ (n : ℕ). entries_at l n 4 bytes) c.four_at-count.ensures in
    let children = told_test (λ e. not (e.child == 0)) _ _ _ _ _ _ c.entries_of-entries.ensures c.four_at-count.ensures
    c.deref.ensures.0 c.any_child.ensures c.if-any_child.false in
    let records = told_test (λ e. e.number == 0) _ _ _ _ _ _ c.entries_of-entries.ensures c.four_at-count.ensures
    c.deref-then-four_at-eq0.ensures.0 c.any_recordless.ensures c.if-any_recordless.false in
    page_told l bytes _ (omega arith) (record {
      entries = same;
      most = omega (arith, c.four_at-count.ensures, c.most_entries.ensures, c.if-count-most_entries.false);
      leaf = λ _. (children, records, refl);
      inner = λ some. absurd (some first);
    })

pub returns-then-four_at-eq0-clause-only : goal.returns-then-four_at-eq0-clause-only
returns-then-four_at-eq0-clause-only c = λ page is_page.
    let l = c.args.head.now.length in
    let bytes = c.args.bytes.now in
    let told = told_of l bytes page is_page in
    let first = sym c.four_at.ensures ∙ c.if-four_at-eq0.true in
    let same = c.entries_of-entries.ensures ∙ ap (λ (n : ℕ). entries_at l n 4 bytes) c.four_at-count.ensures in
    ap Ok (same_pages _ page (same ∙ sym told.entries) (sym (told.leaf first).2))

pub four_at-last-requires : goal.four_at-last-requires
four_at-last-requires c =
    let l = c.args.head.now.length in
    let room = entries-size l c.four_at-count.result
    (omega (arith, c.most_entries.ensures, c.if-count-most_entries.false)) in
    let same = ap (λ (size : ℕ). c.four_at-count.result * size) c.entry_len.ensures in
    omega (arith, room, same)

pub returns-then-last-eq0-clause-only : goal.returns-then-last-eq0-clause-only
returns-then-last-eq0-clause-only c = λ page is_page.
    let l = c.args.head.now.length in
    let bytes = c.args.bytes.now in
    let told = told_of l bytes page is_page in
    let first : number_at 4 4 bytes ≡ 0 → ⊥ = λ none. c.if-four_at-eq0.false (c.four_at.ensures ∙ none) in
    let facts = told.inner first in
    let last = c.four_at-last.ensures ∙ ap (λ (size : ℕ). number_at 4 (4 + c.four_at-count.result * size) bytes)
    c.entry_len.ensures ∙ ap (λ (n : ℕ). number_at 4 (4 + n * entry_size l) bytes) c.four_at-count.ensures in
    elim c.then-last-eq0.branch [
      | then-last-eq0-via-then-last-eq0 w ↦ absurd (facts.2 (sym last ∙ w.if-last-eq0.true))
      | then-last-eq0-via-else-last-eq0+then-any_childless w ↦
          let any = told_test (λ e. e.child == 0) _ _ _ _ _ _ c.entries_of-entries.ensures c.four_at-count.ensures
          w.deref-else-last-eq0.ensures.0 w.any_childless.ensures w.if-any_childless.true in
          let clash : true ≡ false = sym any ∙ facts.0 in
          cc
    ]

pub returns-clause-read : goal.returns-clause-read
returns-clause-read c =
    let l = c.args.head.now.length in
    let bytes = c.args.bytes.now in
    let first : number_at 4 4 bytes ≡ 0 → ⊥ = λ none. c.if-four_at-eq0.false (c.four_at.ensures ∙ none) in
    let same = c.entries_of-entries.ensures ∙ ap (λ (n : ℕ). entries_at l n 4 bytes) c.four_at-count.ensures in
    let last = c.four_at-last.ensures ∙ ap (λ (size : ℕ). number_at 4 (4 + c.four_at-count.result * size) bytes)
    c.entry_len.ensures ∙ ap (λ (n : ℕ). number_at 4 (4 + n * entry_size l) bytes) c.four_at-count.ensures in
    let children = told_test (λ e. e.child == 0) _ _ _ _ _ _ c.entries_of-entries.ensures c.four_at-count.ensures
    c.deref-else-last-eq0.ensures.0 c.any_childless.ensures c.if-any_childless.false in
    page_told l bytes _ (omega arith) (record {
      entries = same;
      most = omega (arith, c.four_at-count.ensures, c.most_entries.ensures, c.if-count-most_entries.false);
      leaf = λ none. absurd (first none);
      inner = λ _. (children, sym last, λ none. c.if-last-eq0.false (last ∙ none));
    })

pub returns-clause-only : goal.returns-clause-only
returns-clause-only c = λ page is_page.
    let l = c.args.head.now.length in
    let bytes = c.args.bytes.now in
    let told = told_of l bytes page is_page in
    let first : number_at 4 4 bytes ≡ 0 → ⊥ = λ none. c.if-four_at-eq0.false (c.four_at.ensures ∙ none) in
    let same = c.entries_of-entries.ensures ∙ ap (λ (n : ℕ). entries_at l n 4 bytes) c.four_at-count.ensures in
    let last = c.four_at-last.ensures ∙ ap (λ (size : ℕ). number_at 4 (4 + c.four_at-count.result * size) bytes)
    c.entry_len.ensures ∙ ap (λ (n : ℕ). number_at 4 (4 + n * entry_size l) bytes) c.four_at-count.ensures in
    ap Ok (same_pages _ page (same ∙ sym told.entries) (last ∙ (told.inner first).1))
