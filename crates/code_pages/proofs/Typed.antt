-- A text put into a page, letter by letter.
use Rattle.std.proofs.Common.{◌≡◌, ◌++◌, ◌∙◌, ap, arith, length, sym, ℕ, List, [], ◌∷◌}
use Rattle.std.proofs.lemmas.Str.{chars-nil}
use Rattle.std.specs.Str.{chars}
use Rattle.std.proofs.lemmas.List.{append_assoc, map-append}
use Rattle.code_pages.specs.Pages.{page_letters, page_letter}
use Rattle.code_pages.specs.declared.pages.CodePage.{CodePage}

-- the byte of the next letter comes behind those that are there
pub typed_more : (page : CodePage) (bytes new letters rest all : List ℕ) (letter byte : ℕ) → letters ≡ letter ∷ rest
    → page_letter page byte ≡ letter → new ≡ bytes ++ byte ∷ []
    → page_letters page bytes ++ letters ≡ all → page_letters page new ++ rest ≡ all
typed_more page bytes new letters rest all letter byte next is put held =
    ap (λ b. page_letters page b ++ rest) put
    ∙ ap (λ l. l ++ rest) (map-append (page_letter page) bytes (byte ∷ []))
    ∙ ap (λ c. (page_letters page bytes ++ c ∷ []) ++ rest) is
    ∙ append_assoc (page_letters page bytes) (letter ∷ []) rest
    ∙ ap (λ l. page_letters page bytes ++ l) (sym next)
    ∙ held

-- nothing is left
pub no_letters : (rest : List ℕ) → length rest ≡ 0 → chars rest ≡ []
no_letters [] e = chars-nil
no_letters (b ∷ rest) e = absurd (omega (arith, e))
