-- Reading bytes from left to right.
use Rattle.std.specs.Prelude.{◌≡◌, ◌+◌, ℕ, zero, suc, List, [], ◌∷◌, map, length, take, drop, not, Option, Some, None}
use Rattle.std.specs.Prelude.{◌==◌, if◌then◌else◌}
use Rattle.std.specs.Char.{is_ascii_digit, is_ascii_alphabetic, to_ascii_uppercase}
use Rattle.std.specs.List.{prefix_len}
use Rattle.fixed_num.specs.Reading.{parsed}
use Rattle.prg_expr.specs.declared.fault.ParseFaultKind.{ParseFaultKind}
use Rattle.prg_expr.specs.declared.fault.ParseFaultKind.TheVariants as fault
use Rattle.prg_expr.specs.declared.lexer.Scanned.{Scanned}
use Rattle.prg_expr.specs.declared.token.Line.{Line}
use Rattle.prg_expr.specs.Faults.{least_of}
use Rattle.prg_expr.specs.Word.{Word, Number, Text, Name, Outside, Point, Macro, Faulty, word_of, words}
use Rattle.prg_expr.specs.Lexicon.{goes_on_name, is_blank_or_tab, is_quote, is_comment, digit_first, decimals, closing}
use Rattle.prg_expr.specs.Lexicon.{singles}
use Rattle.prg_expr.specs.Lexicon.{single_in, pairs, pair_in, pointed, after_word, over, number_fault, Spot, spot}
use Rattle.prg_expr.specs.Lexicon.{spot_word, spot_fault, IsLine}
use Rattle.prg_expr.specs.Reading.{if_some}

-- a word, its fault and the bytes behind it
abbrev pub FoundWord : Type 0
FoundWord = Word × Option ParseFaultKind × List ℕ

abbrev pub found : Word → Option ParseFaultKind → List ℕ → FoundWord
found w f rest = (w, f, rest)

abbrev pub seen : Scanned → FoundWord
seen s = found (word_of s.token) s.fault s.rest.now

abbrev pub clean_at : Word → List ℕ → FoundWord
clean_at w rest = found w None rest

abbrev pub number_len : ℕ → ℕ → ℕ
number_len n k = if k == 0 then n else n + (1 + k)

abbrev pub number_found : ℕ → ℕ → ℕ → List ℕ → FoundWord
number_found n k len bytes = found (Number (parsed (take len bytes))) (number_fault n k) (drop len bytes)

unfoldable pub number_scanned : List ℕ → FoundWord
number_scanned bytes = let n = prefix_len is_ascii_digit bytes in let k = decimals (drop n bytes)
    in number_found n k (number_len n k) bytes

unfoldable pub name_scanned : List ℕ → FoundWord
name_scanned bytes =
    let n = prefix_len goes_on_name bytes in found (Name (map to_ascii_uppercase (take n bytes))) (over 10 n)
    (drop n bytes)

abbrev pub text_end : List ℕ → List ℕ → FoundWord
text_end s [] = found (Text (take 254 s)) (Some fault.Text) []
text_end s (c ∷ rest) = found (Text (take 254 s)) (over 254 (length s)) rest

-- behind the mark
unfoldable pub text_scanned : ℕ → List ℕ → FoundWord
text_scanned close bytes = let n = prefix_len (λ c. not (c == close)) bytes in text_end (take n bytes) (drop n bytes)

abbrev pub pick : List (List ℕ × Word) → List ℕ → FoundWord
pick [] bytes = clean_at (Outside Point) bytes
pick (x ∷ xs) bytes = if_some (after_word x.0 bytes) (pick xs bytes) (λ rest. clean_at x.1 rest)

unfoldable pub single_at : ℕ → List ℕ → FoundWord
single_at b rest =
    if_some (single_in singles b) (if b == 38 then found (Outside Macro) (Some fault.Macro) rest
    else found (Outside Faulty) (Some fault.Character) rest) (λ w. clean_at w rest)

unfoldable pub symbol_at : ℕ → List ℕ → FoundWord
symbol_at b [] = single_at b []
symbol_at b (c ∷ rest) = if_some (pair_in pairs b c) (single_at b (c ∷ rest)) (λ w. clean_at w rest)

unfoldable pub word_at : ℕ → List ℕ → FoundWord
word_at b bytes =
    if is_ascii_digit b then number_scanned (b ∷ bytes)
    else (if is_ascii_alphabetic b then name_scanned (b ∷ bytes)
    else (if b == 46 then (if digit_first bytes then number_scanned (b ∷ bytes) else pick pointed bytes)
    else (if is_quote b then text_scanned (closing b) bytes else symbol_at b bytes)))

abbrev pub with_word : (List ℕ → List Spot) → FoundWord → List Spot
with_word next x = spot x.0 x.1 ∷ next x.2

unfoldable pub spots_at : ℕ → List ℕ → List Spot
spots_at n [] = []
spots_at zero (b ∷ bytes) = []
spots_at (suc n) (b ∷ bytes) = if is_blank_or_tab b then spots_at n bytes
    else (if is_comment b bytes then [] else with_word (spots_at n) (word_at b bytes))

unfoldable pub scan : List ℕ → List Spot
scan bytes = spots_at (length bytes) bytes

-- the words and the least of the faults
pub record HoldsWords (spots : List Spot) (line : Line) : Type 0 where
  pub tokens : words line.words.items ≡ map spot_word spots
  pub told : line.fault ≡ least_of None (map spot_fault spots)

abbrev pub IsScanned : List ℕ → Line → Type 0
IsScanned bytes line = HoldsWords (scan bytes) line

-- Each word stands for its bytes, in order, with blanks between them or not, and the fault told is the least of theirs.
abbrev pub IsWordsOf : List ℕ → Line → Type 0
IsWordsOf bytes line = (spots : List Spot) × IsLine spots bytes × HoldsWords spots line
