-- What the laws say of results.
use Rattle.std.specs.Prelude.{◌≡◌, ◌≤◌, List, [], ◌∷◌, length, take, Bool, if◌then◌else◌, Option, ℕ}
use Rattle.arrayvec.specs.ArrayVec.{ArrayVec}
use Rattle.fixed_num.specs.Number.{Number as Decimal}
use Rattle.fixed_num.specs.Rounding.{whole_part}
use Rattle.xvalue.specs.declared.settings.Settings.{Settings}
use Rattle.xvalue.specs.declared.fun.Fun.{Fun}
use Rattle.xvalue.specs.declared.fun.Fun.TheVariants.{ToNumber, ToText, ToDate}
use Rattle.xvalue.specs.declared.fun.NumberFun.TheVariants.{IifNumber}
use Rattle.xvalue.specs.declared.fun.TextFun.TheVariants.{IifText, Substr, Left, Right, Replicate, Stuff}
use Rattle.xvalue.specs.declared.fun.DateFun.TheVariants.{DateAdd, DateSub, IifDate}
use Rattle.xvalue.specs.Functions.{applied, text_value}
use Rattle.xvalue.specs.Given.{by_kind}
use Rattle.xvalue.specs.Texts.{count_of, bytes_cut_from, last_part, repeated, stuffed}
use Rattle.xvalue.specs.declared.value.Value.{Value}
use Rattle.xvalue.specs.declared.value.Value.TheVariants.{Number, Text, Date, Logical}
use Rattle.calendar.specs.declared.day.DayParts.{DayParts}
use Rattle.calendar.specs.Calendar.{date_plus, date_minus}

-- a text of the value has at most 254 bytes
abbrev pub HasShortText : Value → Type 0
HasShortText (Number number) = Unit {0}
HasShortText (Text text) = length text.items ≤ 254
HasShortText (Date day) = Unit {0}
HasShortText (Logical truth) = Unit {0}

-- what a function gives of its arguments in the order in which they are written
abbrev pub of_written : Fun → Settings → List Value → Value
of_written fun settings values = applied fun settings (by_kind values)

-- the count that a number argument says
abbrev pub count_said : Decimal → ℕ
count_said number = count_of (whole_part number)

-- functions of several kinds, on their arguments as they are written
pub record AreReadAsWritten (settings : Settings) : Type 0 where
  pub stuff : (text others : ArrayVec ℕ) (place count : Decimal)
      → of_written (ToText Stuff) settings (Text text ∷ Number place ∷ Number count ∷ Text others ∷ [])
      ≡ text_value (stuffed (count_said place) (count_said count) others.items text.items)
  pub substr : (text : ArrayVec ℕ) (place count : Decimal)
      → of_written (ToText Substr) settings (Text text ∷ Number place ∷ Number count ∷ [])
      ≡ text_value (bytes_cut_from (count_said place) (count_said count) text.items)
  pub left : (text : ArrayVec ℕ) (count : Decimal)
      → of_written (ToText Left) settings (Text text ∷ Number count ∷ [])
      ≡ text_value (take (count_said count) text.items)
  pub right : (text : ArrayVec ℕ) (count : Decimal)
      → of_written (ToText Right) settings (Text text ∷ Number count ∷ [])
      ≡ text_value (last_part (count_said count) text.items)
  pub replicated : (text : ArrayVec ℕ) (count : Decimal)
      → of_written (ToText Replicate) settings (Text text ∷ Number count ∷ [])
      ≡ text_value (repeated (count_said count) text.items)
  pub days_added : (date : Option DayParts) (days : Decimal)
      → of_written (ToDate DateAdd) settings (Date date ∷ Number days ∷ []) ≡ Date (date_plus date days)
  pub days_taken : (date : Option DayParts) (days : Decimal)
      → of_written (ToDate DateSub) settings (Date date ∷ Number days ∷ []) ≡ Date (date_minus date days)
  pub number_chosen : (truth : Bool) (x y : Decimal)
      → of_written (ToNumber IifNumber) settings (Logical truth ∷ Number x ∷ Number y ∷ [])
      ≡ Number (if truth then x else y)
  pub text_chosen : (truth : Bool) (x y : ArrayVec ℕ)
      → of_written (ToText IifText) settings (Logical truth ∷ Text x ∷ Text y ∷ [])
      ≡ text_value (if truth then x.items else y.items)
  pub date_chosen : (truth : Bool) (x y : Option DayParts)
      → of_written (ToDate IifDate) settings (Logical truth ∷ Date x ∷ Date y ∷ []) ≡ Date (if truth then x else y)
