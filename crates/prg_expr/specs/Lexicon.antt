-- How bytes spell words, and which words are faulty.
use Rattle.std.specs.Prelude.{◌≡◌, ◌<◌, ◌⊎◌, ◌+◌, ℕ, List, [], ◌∷◌, ◌++◌, Bool, true, false, not, ◌||◌, ◌&&◌, ◌==◌}
use Rattle.std.specs.Prelude.{nat_lt, map, take, length, codes, Option, Some, None, if◌then◌else◌}
use Rattle.std.specs.Char.{is_ascii_digit, is_ascii_alphabetic, is_ascii_alphanumeric, to_ascii_lowercase}
use Rattle.std.specs.Char.{to_ascii_uppercase}
use Rattle.std.specs.List.{prefix_len}
use Rattle.fixed_num.specs.Reading.{parsed}
use Rattle.prg_expr.specs.declared.fault.ParseFaultKind.{ParseFaultKind}
use Rattle.prg_expr.specs.declared.fault.ParseFaultKind.TheVariants as fault
use Rattle.prg_expr.specs.declared.tree.BinaryOperator.TheVariants.{Or, And, Equal, NotEqual, Less, Greater, AtMost}
use Rattle.prg_expr.specs.declared.tree.BinaryOperator.TheVariants.{AtLeast}
use Rattle.prg_expr.specs.declared.tree.BinaryOperator.TheVariants.{Contains, Plus, Minus, Times, Over}
use Rattle.prg_expr.specs.Word.{Word, Number, Text, Logical, Name, Not, Sign, Arrow, Open, Close, Comma, Outside, Show}
use Rattle.prg_expr.specs.Word.{ShowOn, At, Point, Macro, Faulty}

-- letters, digits and the underscore
abbrev pub goes_on_name : ℕ → Bool
goes_on_name b = is_ascii_alphanumeric b || b == 95

-- a blank or a tab
abbrev pub is_blank_or_tab : ℕ → Bool
is_blank_or_tab b = b == 32 || b == 9

-- ' " and [
abbrev pub is_quote : ℕ → Bool
is_quote b = b == 39 || b == 34 || b == 91

-- ] ends what [ begins, and else a mark ends what it begins
abbrev pub closing : ℕ → ℕ
closing b = if b == 91 then 93 else b

-- & twice
abbrev pub is_comment : ℕ → List ℕ → Bool
is_comment b [] = false
is_comment b (c ∷ rest) = b == 38 && c == 38

abbrev pub digit_first : List ℕ → Bool
digit_first [] = false
digit_first (b ∷ bytes) = is_ascii_digit b

-- how many digits stand behind the point that the bytes begin with
unfoldable pub decimals : List ℕ → ℕ
decimals [] = 0
decimals (b ∷ bytes) = if b == 46 then prefix_len is_ascii_digit bytes else 0

-- the bytes that are a word each: ( ) * + , - / < = > # $ ? @
abbrev pub singles : List (ℕ × Word)
singles =
    (40, Open) ∷ (41, Close) ∷ (42, Sign Times) ∷ (43, Sign Plus) ∷ (44, Comma) ∷ (45, Sign Minus) ∷ (47, Sign Over)
    ∷ (60, Sign Less) ∷ (61, Sign Equal)
    ∷ (62, Sign Greater) ∷ (35, Sign NotEqual) ∷ (36, Sign Contains) ∷ (63, Outside Show) ∷ (64, Outside At) ∷ []

abbrev pub single_in : List (ℕ × Word) → ℕ → Option Word
single_in [] b = None
single_in (x ∷ xs) b = if b == x.0 then Some x.1 else single_in xs b

-- the words of two bytes: -> <> <= >= ??
abbrev pub pairs : List (ℕ × ℕ × Word)
pairs = (45, 62, Arrow) ∷ (60, 62, Sign NotEqual) ∷ (60, 61, Sign AtMost) ∷ (62, 61, Sign AtLeast)
    ∷ (63, 63, Outside ShowOn) ∷ []

abbrev pub pair_in : List (ℕ × ℕ × Word) → ℕ → ℕ → Option Word
pair_in [] b c = None
pair_in (x ∷ xs) b c = if b == x.0 && c == x.1 then Some x.2 else pair_in xs b c

-- what may stand behind a point, in capitals or not
abbrev pub pointed : List (List ℕ × Word)
pointed =
    (codes "t.", Logical true) ∷ (codes "y.", Logical true) ∷ (codes "f.", Logical false) ∷ (codes "n.", Logical false)
    ∷ (codes "not.", Not) ∷ (codes "and.", Sign And) ∷ (codes "or.", Sign Or) ∷ []

abbrev pub IsOneOf : {A : Type 0} → A → List A → Type 0
IsOneOf x [] = ⊥
IsOneOf x (y ∷ ys) = (x ≡ y) ⊎ IsOneOf x ys

-- what is behind these small letters, in capitals or not
unfoldable pub after_word : List ℕ → List ℕ → Option (List ℕ)
after_word [] bytes = Some bytes
after_word (w ∷ ws) [] = None
after_word (w ∷ ws) (b ∷ bytes) = if to_ascii_lowercase b == w then after_word ws bytes else None

-- none of a table's words is in front
abbrev pub NoneInFront : List (List ℕ × Word) → List ℕ → Type 0
NoneInFront [] bytes = Unit {0}
NoneInFront (x ∷ xs) bytes = (after_word x.0 bytes ≡ None) × NoneInFront xs bytes

abbrev pub EachPasses : (ℕ → Bool) → List ℕ → Type 0
EachPasses p [] = Unit {0}
EachPasses p (b ∷ bs) = (p b ≡ true) × EachPasses p bs

abbrev pub FirstFails : (ℕ → Bool) → List ℕ → Type 0
FirstFails p [] = Unit {0}
FirstFails p (b ∷ bs) = p b ≡ false

-- the byte and the one behind it are no word of two bytes
abbrev pub Alone : ℕ → List ℕ → Type 0
Alone b [] = Unit {0}
Alone b (c ∷ rest) = pair_in pairs b c ≡ None

-- the byte begins no word
pub record Strange (b : ℕ) : Type 0 where
  pub no_blank : is_blank_or_tab b ≡ false
  pub no_digit : is_ascii_digit b ≡ false
  pub no_letter : is_ascii_alphabetic b ≡ false
  pub no_quote : is_quote b ≡ false
  pub no_point : (b == 46) ≡ false
  pub no_macro : (b == 38) ≡ false
  pub no_symbol : single_in singles b ≡ None

-- a name or a text longer than it may be
abbrev pub over : ℕ → ℕ → Option ParseFaultKind
over most n = if nat_lt most n then Some fault.TooLong else None

-- a number of more than 19 digits, or of more than 15 behind its point
abbrev pub number_fault : ℕ → ℕ → Option ParseFaultKind
number_fault whole fraction = if nat_lt 15 fraction || nat_lt 19 (whole + fraction) then Some fault.Number else None

-- `IsWord w fault bytes rest`: the bytes are the word w where the rest follows them, and the fault is what is wrong
-- with it.
pub data IsWord : Word → Option ParseFaultKind → List ℕ → List ℕ → Type 0 where
  -- A number goes on as far as it can: its digits, then a point and digits if there are any.
  whole : {digits rest : List ℕ} → 0 < length digits → EachPasses is_ascii_digit digits → FirstFails is_ascii_digit rest
      → decimals rest ≡ 0
      → IsWord (Number (parsed digits)) (number_fault (length digits) 0) digits rest
  decimal : (digits behind : List ℕ) {rest : List ℕ} → EachPasses is_ascii_digit digits → 0 < length behind
      → EachPasses is_ascii_digit behind → FirstFails is_ascii_digit rest
      → IsWord (Number (parsed (digits ++ 46 ∷ behind))) (number_fault (length digits) (length behind))
      (digits ++ 46 ∷ behind) rest
  name : {b : ℕ} {others rest : List ℕ} → is_ascii_alphabetic b ≡ true → EachPasses goes_on_name others
      → FirstFails goes_on_name rest
      → IsWord (Name (map to_ascii_uppercase (b ∷ others))) (over 10 (length (b ∷ others))) (b ∷ others) rest
  -- A text ends at the first mark of its own kind.
  text : {b : ℕ} (s : List ℕ) {rest : List ℕ} → is_quote b ≡ true → EachPasses (λ c. not (c == closing b)) s
      → IsWord (Text (take 254 s)) (over 254 (length s)) (b ∷ (s ++ closing b ∷ [])) rest
  unended : {b : ℕ} {s : List ℕ} → is_quote b ≡ true → EachPasses (λ c. not (c == closing b)) s
      → IsWord (Text (take 254 s)) (Some fault.Text) (b ∷ s) []
  behind_point : {w : Word} {letters rest : List ℕ} → IsOneOf (map to_ascii_lowercase letters, w) pointed
      → IsWord w None (46 ∷ letters) rest
  lone_point : {rest : List ℕ} → digit_first rest ≡ false → NoneInFront pointed rest
      → IsWord (Outside Point) None (46 ∷ []) rest
  pair : {b c : ℕ} {w : Word} {rest : List ℕ} → pair_in pairs b c ≡ Some w → IsWord w None (b ∷ c ∷ []) rest
  single : {b : ℕ} {w : Word} {rest : List ℕ} → single_in singles b ≡ Some w → Alone b rest
      → IsWord w None (b ∷ []) rest
  macro : {rest : List ℕ} → FirstFails (λ c. c == 38) rest → IsWord (Outside Macro) (Some fault.Macro) (38 ∷ []) rest
  strange : {b : ℕ} {rest : List ℕ} → Strange b → Alone b rest
      → IsWord (Outside Faulty) (Some fault.Character) (b ∷ []) rest

-- a word and its fault
abbrev pub Spot : Type 0
Spot = Word × Option ParseFaultKind

abbrev pub spot : Word → Option ParseFaultKind → Spot
spot w f = (w, f)

abbrev pub spot_word : Spot → Word
spot_word x = x.0

abbrev pub spot_fault : Spot → Option ParseFaultKind
spot_fault x = x.1

-- `IsLine spots bytes`: the bytes are these words in turn, with blanks between them or not, perhaps a comment at the
-- end.
pub data IsLine : List Spot → List ℕ → Type 0 where
  nothing : IsLine [] []
  comment : {bytes : List ℕ} → IsLine [] (38 ∷ 38 ∷ bytes)
  blank : {b : ℕ} {spots : List Spot} {bytes : List ℕ} → is_blank_or_tab b ≡ true → IsLine spots bytes
      → IsLine spots (b ∷ bytes)
  word : {w : Word} {f : Option ParseFaultKind} {spots : List Spot} {bytes rest : List ℕ} → IsWord w f bytes rest
      → IsLine spots rest → IsLine (spot w f ∷ spots) (bytes ++ rest)

-- a word without a fault
abbrev pub clean : Word → Spot
clean w = spot w None

-- the bytes are these words, none of them faulty
abbrev pub IsText : List Word → List ℕ → Type 0
IsText ws bytes = IsLine (map clean ws) bytes
