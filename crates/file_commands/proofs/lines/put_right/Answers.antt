-- Blanks in front, then the digits.
use Rattle.std.proofs.Common.{◌≡◌, ℕ, ◌-◌, ◌≤◌, List, ◌++◌, length, take, replicate, sym, ap, ◌∙◌, append_assoc, arith}
use Rattle.std.specs.Fmt.{decimal}
use Rattle.std.proofs.lemmas.List.{take-replicate}
use Rattle.file_commands.specs.Lines.{in_seven_places}
use Rattle.file_commands.proofs.lines.put_right.Goals as goal

placed : (number missing : ℕ) (old out new digits : List ℕ) → digits ≡ decimal number → missing ≡ 7 - length digits
    → out ≡ old ++ take missing (replicate 7 32) → new ≡ out ++ digits → new ≡ old ++ in_seven_places number
placed number missing old out new digits shown count blanks both =
    let few : missing ≤ 7 = omega arith in
    let e : take missing (replicate 7 32) ≡ replicate (7 - length (decimal number)) 32 = take-replicate missing 7 32 few
    ∙ ap (λ (n : ℕ). replicate n 32) (count ∙ ap (λ (d : List ℕ). 7 - length d) shown) in
    both ∙ ap (λ (d : List ℕ). out ++ d) shown ∙ ap (λ (o : List ℕ). o ++ decimal number)
    (blanks ∙ ap (λ (b : List ℕ). old ++ b) e) ∙ append_assoc old (replicate (7 - length (decimal number)) 32)
    (decimal number)

pub returns : goal.returns
returns c =
    placed c.args.number c.saturating_sub-missing.result c.args.out.now.items c.extend_from_slice.new.self.items
    c.extend_from_slice-2.new.self.items c.as_bytes.result.now
    (c.as_bytes.ensures.value ∙ c.in_ok-digits.ensures.ok)
    (c.saturating_sub-missing.ensures ∙ ap (λ (n : ℕ). 7 - n) (c.len.ensures ∙ sym c.as_bytes.ensures.len))
    c.in_ok-extend_from_slice.ensures.items
    c.in_ok-extend_from_slice-2.ensures.items
