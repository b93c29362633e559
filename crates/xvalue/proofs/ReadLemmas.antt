-- Functions on their arguments as they are written, and parts of texts.
use Rattle.std.proofs.Common.{◌≡◌, ℕ, suc, ◌+◌, List, ◌++◌, length, take, drop, refl, sym, ap, ◌∙◌, arith}
use Rattle.std.proofs.Common.{length-append, append_assoc}
use Rattle.std.proofs.Math.Seq.{take-append_seam, drop-append_seam}
use Rattle.xvalue.specs.declared.settings.Settings.{Settings}
use Rattle.xvalue.specs.Functions.{applied}
use Rattle.xvalue.specs.Texts.{bytes_cut_from, bytes_before, stuffed}
use Rattle.xvalue.specs.Laws.{AreReadAsWritten}

pub as_written : (settings : Settings) → AreReadAsWritten settings
unfolding applied
as_written settings = record {
  stuff = λ text others place count. refl;
  substr = λ text place count. refl;
  left = λ text count. refl;
  right = λ text count. refl;
  replicated = λ text count. refl;
  days_added = λ date days. refl;
  days_taken = λ date days. refl;
  number_chosen = λ truth x y. refl;
  text_chosen = λ truth x y. refl;
  date_chosen = λ truth x y. refl;
}

pub part-taken : (front part rest : List ℕ) → bytes_cut_from (length front + 1) (length part) (front ++ part ++ rest)
    ≡ part
part-taken front part rest =
    ap (λ n. bytes_cut_from n (length part) (front ++ part ++ rest))
    (let h : length front + 1 ≡ suc (length front) = omega arith in h)
    ∙ ap (λ xs. take (length part) (drop (length front) xs)) (append_assoc front part rest)
    ∙ ap (take (length part)) (drop-append_seam front (part ++ rest))
    ∙ take-append_seam part rest

pub part-stuffed : (front part rest others : List ℕ) → stuffed (length front + 1) (length part) others
    (front ++ part ++ rest) ≡ front ++ others ++ rest
part-stuffed front part rest others =
    let cs = front ++ part ++ rest in
    let before : bytes_before (length front + 1) cs ≡ length front =
    omega (arith, length-append (front ++ part) rest, length-append front part) in
    let begin : take (length front) cs ≡ front =
    ap (take (length front)) (append_assoc front part rest) ∙ take-append_seam front (part ++ rest) in
    let end : drop (length front + length part) cs ≡ rest =
    ap (λ n. drop n cs) (sym (length-append front part)) ∙ drop-append_seam (front ++ part) rest in
    ap (λ b. take b cs ++ others ++ drop (b + length part) cs) before
    ∙ ap (λ xs. xs ++ others ++ drop (length front + length part) cs) begin
    ∙ ap (λ xs. front ++ others ++ xs) end
