-- Texts that are not cut into pieces.
use Rattle.std.proofs.Common.{◌≡◌, ℕ, Bool, List, [], ◌∷◌, length, inl, inr, refl, ap, ◌∙◌, arith}
use Rattle.std.proofs.lemmas.Bool.{cases_Bool}
use Rattle.std.proofs.lemmas.List.Splits.{slice_split-cons_no}
use Rattle.std.specs.List.{slice_split, onto_first, position_or_len}

-- where nothing passes, the text is one piece
pub whole_piece : (p : ℕ → Bool) (xs : List ℕ) → position_or_len p xs ≡ length xs → slice_split p xs ≡ xs ∷ []
whole_piece p [] e = refl
whole_piece p (x ∷ xs) e =
    elim (cases_Bool (p x)) [
      | inl found ↦ absurd (omega (arith, rw found at e))
      | inr other ↦
          let shorter : position_or_len p xs ≡ length xs = omega (arith, rw other at e) in
          slice_split-cons_no p x xs other ∙ ap (onto_first x) (whole_piece p xs shorter)
    ]
