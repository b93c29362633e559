-- The size of a terminal's window, as a word says it. The byte 120 is `x`.
use Rattle.std.specs.Prelude.{◌≡◌, ℕ, ◌<◌, ◌^◌, List, ◌∷◌, ◌++◌}
use Rattle.std.specs.Str.Parse.{IsNumeral, digits_value, without_leading_plus}
use Rattle.command_words.specs.declared.operate_words.WindowWords.{WindowWords}

-- the text is this number in decimal, which is below 2^64; a plus sign may stand in front
pub record IsNumber (text : List ℕ) (n : ℕ) : Type 0 where
  pub digits : IsNumeral 10 (without_leading_plus text)
  pub value : digits_value 10 (without_leading_plus text) ≡ n
  pub fits : n < 2 ^ 64

-- the number of rows, an x and the number of columns
pub record IsSize (word : List ℕ) (size : WindowWords) : Type 0 where
  pub rows : List ℕ
  pub columns : List ℕ
  pub parts : word ≡ rows ++ 120 ∷ columns
  pub high : IsNumber rows size.rows
  pub wide : IsNumber columns size.columns
