use Rattle.std.proofs.Common.{rules, ◌≡◌, ◌∙◌, sym, ap, subst, List, ℕ, ◌+◌, ◌∷◌, ◌++◌, drop, take, Contains, Ok}
use Rattle.ndx_page.proofs.TextLemmas.{ended_at, no_zero_before, ended_once, never_endless}
use Rattle.ndx_page.proofs.HeadLemmas.{same_heads}
use Rattle.ndx_page.proofs.head_bytes.read_head.Goals as goal

pub returns-in_default-clause-only : goal.returns-in_default-clause-only
returns-in_default-clause-only c = λ head is_head. absurd
    (never_endless head.text.items is_head.text.0 _ head.no_zero is_head.text.1
    (sym c.end_of.ensures ∙ c.in_default.is))

pub invariant_of-result-clause-no_zero : goal.invariant_of-result-clause-no_zero
invariant_of-result-clause-no_zero c =
    let found = sym c.end_of.ensures ∙ c.in-Some.is in
    let P : List ℕ → Type 0 = λ text. Contains text 0 → ⊥ in
    subst P (sym c.key_text.ensures) (no_zero_before _ c.in-Some.end found)

pub returns-clause-read : goal.returns-clause-read
returns-clause-read c =
    let found = sym c.end_of.ensures ∙ c.in-Some.is in
    let expression = take 488 (drop 24 c.args.bytes.now) in
    record {
      whole = c.if-bytes-lt-PAGE_SIZE.false;
      root = sym c.four_at.ensures;
      pages = sym c.four_at-2.ensures;
      key_length = search rules;
      per_page = search rules;
      kind = search rules;
      size = search rules;
      unique = search rules;
      text = (
        drop (c.in-Some.end + 1) expression,
        ended_at _ c.in-Some.end found
            ∙ ap (λ (text : List ℕ). text ++ 0 ∷ drop (c.in-Some.end + 1) expression) (sym c.key_text.ensures),
      );
    }

pub returns-clause-only : goal.returns-clause-only
returns-clause-only c = λ head is_head.
    let found = sym c.end_of.ensures ∙ c.in-Some.is in
    let text = ended_once head.text.items is_head.text.0 _ c.in-Some.end head.no_zero is_head.text.1 found in
    let length : c.from-length.result ≡ head.length = search (rules, is_head.key_length) in
    let same_text : c.key_text.result ≡ head.text =
    ap (λ (items : List ℕ). record { items = items }) (c.key_text.ensures ∙ text) in
    ap Ok (same_heads _ head (c.four_at.ensures ∙ is_head.root) (c.four_at-2.ensures ∙ is_head.pages) length same_text)
