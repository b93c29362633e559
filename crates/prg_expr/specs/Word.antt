-- A word, without where it lies in memory.
use Rattle.std.specs.Prelude.{ℕ, List, Bool, map, take}
use Rattle.std.specs.Char.{to_ascii_uppercase}
use Rattle.fixed_num.specs.Number.{Number as Decimal}
use Rattle.fixed_num.specs.Reading.{parsed}
use Rattle.prg_expr.specs.declared.tree.BinaryOperator.{BinaryOperator}
use Rattle.prg_expr.specs.declared.token.Token.{Token}
use Rattle.prg_expr.specs.declared.token.Token.TheVariants as token

-- what no expression has
pub data Mark : Type 0 where
  Show : Mark
  ShowOn : Mark
  At : Mark
  Point : Mark
  Macro : Mark
  Faulty : Mark

pub data Word : Type 0 where
  Number : Decimal → Word
  Text : List ℕ → Word
  Logical : Bool → Word
  Name : List ℕ → Word
  Not : Word
  Sign : BinaryOperator → Word
  Arrow : Word
  Open : Word
  Close : Word
  Comma : Word
  Outside : Mark → Word

-- A name is all its letters, in capitals; the tree holds ten of them. A text that is too long stands for as much of it
-- as may be.
abbrev pub word_of : Token → Word
word_of (token.Number s) = Number (parsed s.now)
word_of (token.Text s) = Text (take 254 s.now)
word_of (token.Logical b) = Logical b
word_of (token.Name s) = Name (map to_ascii_uppercase s.now)
word_of token.Not = Not
word_of (token.Operator o) = Sign o
word_of token.Arrow = Arrow
word_of token.Open = Open
word_of token.Close = Close
word_of token.Comma = Comma
word_of token.Show = Outside Show
word_of token.ShowOn = Outside ShowOn
word_of token.At = Outside At
word_of token.Point = Outside Point
word_of token.Macro = Outside Macro
word_of token.Faulty = Outside Faulty

abbrev pub words : List Token → List Word
words ts = map word_of ts
