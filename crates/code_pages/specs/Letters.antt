-- Letters that a page lacks.
use Rattle.std.specs.Prelude.{◌≡◌, ◌≢◌, ◌<◌, ◌++◌, ◌∷◌, ℕ, List, ⊤}
use Rattle.code_pages.specs.declared.pages.CodePage.{CodePage}
use Rattle.code_pages.specs.declared.pages.LetterFault.{LetterFault}
use Rattle.code_pages.specs.declared.pages.LetterFault.TheVariants.{Lacks, Memory}
use Rattle.code_pages.specs.Pages.{page_letters, page_letter}

-- the first of these letters that is no byte's in the page: those before it are the letters of bytes
abbrev pub LacksFirst : CodePage → List ℕ → LetterFault → Type 0
LacksFirst page letters (Lacks letter) = (before rest : List ℕ) × (letters ≡ page_letters page before ++ letter ∷ rest)
    × ((byte : ℕ) → byte < 256 → page_letter page byte ≢ letter)
LacksFirst page letters Memory = ⊤
