-- Which bytes a terminal is sent for those of a row.
use Rattle.std.specs.Prelude.{ℕ, List, [], ◌∷◌, Bool, Option, Some, None, nat_lt, ◌==◌, ◌||◌, if◌then◌else◌}
use Rattle.code_pages.specs.declared.pages.CodePage.{CodePage}
use Rattle.code_pages.specs.Pages.{utf8_of}

-- bytes that a terminal would obey
abbrev pub is_control : ℕ → Bool
is_control byte = nat_lt byte 32 || byte == 127

-- a control byte is a blank; without a page a byte from 128 on is a question mark, with one it is its letter
abbrev pub shown_letter : Option CodePage → ℕ → List ℕ
shown_letter None byte = if is_control byte then 32 ∷ [] else (if nat_lt byte 128 then byte ∷ [] else 63 ∷ [])
shown_letter (Some page) byte = if is_control byte then 32 ∷ [] else utf8_of page byte
