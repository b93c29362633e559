use Rattle.std.proofs.Common.{◌≡◌, ℕ, ◌-◌, ◌≤◌, List, ◌++◌, length, take, replicate, sym, ap, ◌∙◌, append_assoc, arith}
use Rattle.std.specs.Fmt.{decimal}
use Rattle.std.proofs.lemmas.List.{take-replicate}
use Rattle.xcode.specs.Listing.{place_text}
use Rattle.xcode.proofs.listing.put_place.Goals as goal

placed : (place missing : ℕ) (old out new digits : List ℕ) → digits ≡ decimal place → missing ≡ 5 - length digits
    → out ≡ old ++ take missing (replicate 5 32) → new ≡ out ++ digits → new ≡ old ++ place_text place
placed place missing old out new digits shown count blanks both =
    let few : missing ≤ 5 = omega arith in
    let e : take missing (replicate 5 32) ≡ replicate (5 - length (decimal place)) 32 = take-replicate missing 5 32 few
    ∙ ap (λ (n : ℕ). replicate n 32) (count ∙ ap (λ (d : List ℕ). 5 - length d) shown) in
    both ∙ ap (λ (d : List ℕ). out ++ d) shown ∙ ap (λ (o : List ℕ). o ++ decimal place)
    (blanks ∙ ap (λ (b : List ℕ). old ++ b) e) ∙ append_assoc old (replicate (5 - length (decimal place)) 32)
    (decimal place)

pub returns : goal.returns
returns c =
    placed c.args.place c.saturating_sub-missing.result c.args.out.now.items c.extend_from_slice.new.self.items
    c.extend_from_slice-2.new.self.items c.as_bytes.result.now
    (c.as_bytes.ensures.value ∙ c.in_ok-digits.ensures.ok)
    (c.saturating_sub-missing.ensures ∙ ap (λ (n : ℕ). 5 - n) (c.len.ensures ∙ sym c.as_bytes.ensures.len))
    c.in_ok-extend_from_slice.ensures.items
    c.in_ok-extend_from_slice-2.ensures.items
