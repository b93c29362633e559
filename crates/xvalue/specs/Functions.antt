-- The functions: what each gives of its arguments. Those of one kind are counted from 0 in their order.
use Rattle.std.specs.Prelude.{ℕ, min, Bool, false, not, ◌&&◌, ◌||◌, ℤ, pos, List, [], ◌++◌, length, take, map}
use Rattle.std.specs.Prelude.{replicate, if◌then◌else◌, Option, None, slice_index_or, is_some}
use Rattle.std.specs.Char.{to_ascii_uppercase, to_ascii_lowercase, is_ascii_alphabetic, is_ascii_uppercase}
use Rattle.std.specs.Char.{is_ascii_lowercase}
use Rattle.std.specs.declared.cmp.Ordering.{Ordering}
use Rattle.std.specs.Ordering.{is_eq, is_lt, is_gt}
use Rattle.fixed_num.specs.Number.{Number as Decimal, finite}
use Rattle.fixed_num.specs.Arithmetic.{sum_of, difference_of, product_of, quotient_of, modulus_of, negated, absolute}
use Rattle.fixed_num.specs.Rounding.{rounded_to, whole_part, cut}
use Rattle.fixed_num.specs.Order.{compared, greater_of, lesser_of}
use Rattle.fixed_num.specs.Reading.{without_blanks, prefix_read}
use Rattle.fixed_num.specs.Text.{printed_in}
use Rattle.calendar.specs.declared.day.DayParts.{DayParts}
use Rattle.xvalue.specs.declared.value.Value.{Value}
use Rattle.xvalue.specs.declared.value.Value.TheVariants.{Number, Text, Date, Logical}
use Rattle.xvalue.specs.declared.settings.Settings.{Settings}
use Rattle.xvalue.specs.declared.fun.Fun.{Fun}
use Rattle.xvalue.specs.declared.fun.Fun.TheVariants.{OfTwo, Compares, ToNumber, ToText, ToDate, ToTruth}
use Rattle.xvalue.specs.declared.fun.Arithmetic.{Arithmetic}
use Rattle.xvalue.specs.declared.fun.Arithmetic.TheVariants.{Add, Sub, Mul, Div, Mod, Round, Max, Min}
use Rattle.xvalue.specs.declared.fun.NumberOrder.{NumberOrder}
use Rattle.xvalue.specs.declared.fun.NumberOrder.TheVariants.{NumberEq, NumberLess, NumberGreater}
use Rattle.xvalue.specs.declared.fun.NumberFun.{NumberFun}
use Rattle.xvalue.specs.declared.fun.NumberFun.TheVariants.{Neg, DateDiff, IifNumber, Len, At, Asc, Val, Abs, Int}
use Rattle.xvalue.specs.declared.fun.NumberFun.TheVariants.{Day, Month, Year, Dow}
use Rattle.xvalue.specs.declared.fun.TextFun.{TextFun}
use Rattle.xvalue.specs.declared.fun.TextFun.TheVariants.{Join, JoinMoved, IifText, Substr, Left, Right, Trim, Ltrim}
use Rattle.xvalue.specs.declared.fun.TextFun.TheVariants.{Upper, Lower, Space, Replicate, Stuff, Chr, Str, Dtoc, Cdow}
use Rattle.xvalue.specs.declared.fun.TextFun.TheVariants.{Cmonth}
use Rattle.xvalue.specs.declared.fun.DateFun.{DateFun}
use Rattle.xvalue.specs.declared.fun.DateFun.TheVariants.{DateAdd, DateSub, IifDate, Ctod}
use Rattle.xvalue.specs.declared.fun.TruthFun.{TruthFun}
use Rattle.xvalue.specs.declared.fun.TruthFun.TheVariants.{TextEq, TextLess, TextGreater, DateEq, DateLess}
use Rattle.xvalue.specs.declared.fun.TruthFun.TheVariants.{DateGreater, Not, And, Or, In, IifLogical, IsAlpha}
use Rattle.xvalue.specs.declared.fun.TruthFun.TheVariants.{IsUpper, IsLower}
use Rattle.xvalue.specs.Given.{Given}
use Rattle.xvalue.specs.Texts.{fitting, without_last_blanks, equal_texts, is_text_before, joined_moved, count_of}
use Rattle.xvalue.specs.Texts.{bytes_cut_from}
use Rattle.xvalue.specs.Texts.{last_part, repeated, stuffed, first_place, place_number, first_is, first_byte, byte_text}
use Rattle.calendar.specs.Calendar.{date_plus, date_minus, days_between, same_date, is_earlier, day_of, month_of}
use Rattle.calendar.specs.Calendar.{year_of, weekday_of, weekday_name_of, month_name_of}
use Rattle.calendar.specs.DateTexts.{date_read}
use Rattle.xvalue.specs.Shown.{shown_day}

-- the arguments of a kind; where there is none, what stands for nothing

abbrev pub number_given : ℕ → Given → Decimal
number_given place given = slice_index_or given.numbers place (finite (pos 0) 0)

abbrev pub text_given : ℕ → Given → List ℕ
text_given place given = (slice_index_or given.texts place (record { items = [] })).items

abbrev pub date_given : ℕ → Given → Option DayParts
date_given place given = slice_index_or given.dates place None

abbrev pub truth_given : ℕ → Given → Bool
truth_given place given = slice_index_or given.truths place false

-- the whole part of a number argument, and how many bytes it asks for

abbrev pub whole_given : ℕ → Given → ℤ
whole_given place given = whole_part (number_given place given)

abbrev pub count_at : ℕ → Given → ℕ
count_at place given = count_of (whole_given place given)

-- a count as a number without decimals
abbrev pub counted : ℕ → Decimal
counted n = finite (pos n) 0

-- a text value: cut where it is longer than texts are
abbrev pub text_value : List ℕ → Value
text_value cs = Text (record { items = fitting cs })

-- what functions of two numbers give
abbrev pub of_two : Arithmetic → Decimal → Decimal → Decimal
of_two Add x y = sum_of x y
of_two Sub x y = difference_of x y
of_two Mul x y = product_of x y
of_two Div x y = quotient_of x y
of_two Mod x y = modulus_of x y
of_two Round x y = rounded_to (whole_part y) x
of_two Max x y = greater_of x y
of_two Min x y = lesser_of x y

-- whether the order of two numbers is the one that is asked for
abbrev pub is_in_order : NumberOrder → Ordering → Bool
is_in_order NumberEq order = is_eq order
is_in_order NumberLess order = is_lt order
is_in_order NumberGreater order = is_gt order

-- the number that any other function gives
abbrev pub number_made : NumberFun → Given → Decimal
number_made Neg g = negated (number_given 0 g)
number_made DateDiff g = days_between (date_given 0 g) (date_given 1 g)
number_made IifNumber g = if truth_given 0 g then number_given 0 g else number_given 1 g
number_made Len g = counted (length (text_given 0 g))
number_made At g = counted (place_number (first_place (text_given 0 g) (text_given 1 g)))
number_made Asc g = counted (first_byte (text_given 0 g))
number_made Val g = prefix_read (text_given 0 g)
number_made Abs g = absolute (number_given 0 g)
number_made Int g = cut (number_given 0 g)
number_made Day g = counted (day_of (date_given 0 g))
number_made Month g = counted (month_of (date_given 0 g))
number_made Year g = counted (year_of (date_given 0 g))
number_made Dow g = counted (weekday_of (date_given 0 g))

-- the text that a function gives, before it is cut
abbrev pub text_made : TextFun → Settings → Given → List ℕ
text_made Join settings g = text_given 0 g ++ text_given 1 g
text_made JoinMoved settings g = joined_moved (text_given 0 g) (text_given 1 g)
text_made IifText settings g = if truth_given 0 g then text_given 0 g else text_given 1 g
text_made Substr settings g = bytes_cut_from (count_at 0 g) (count_at 1 g) (text_given 0 g)
text_made Left settings g = take (count_at 0 g) (text_given 0 g)
text_made Right settings g = last_part (count_at 0 g) (text_given 0 g)
text_made Trim settings g = without_last_blanks (text_given 0 g)
text_made Ltrim settings g = without_blanks (text_given 0 g)
text_made Upper settings g = map to_ascii_uppercase (text_given 0 g)
text_made Lower settings g = map to_ascii_lowercase (text_given 0 g)
text_made Space settings g = replicate (count_at 0 g) 32
text_made Replicate settings g = repeated (count_at 0 g) (text_given 0 g)
text_made Stuff settings g = stuffed (count_at 0 g) (count_at 1 g) (text_given 1 g) (text_given 0 g)
text_made Chr settings g = byte_text (whole_given 0 g)
text_made Str settings g = printed_in (min (count_at 1 g) 254) (min (count_at 2 g) 15) (number_given 0 g)
text_made Dtoc settings g = shown_day settings (date_given 0 g)
text_made Cdow settings g = weekday_name_of (date_given 0 g)
text_made Cmonth settings g = month_name_of (date_given 0 g)

-- the date that a function gives
abbrev pub date_made : DateFun → Given → Option DayParts
date_made DateAdd g = date_plus (date_given 0 g) (number_given 0 g)
date_made DateSub g = date_minus (date_given 0 g) (number_given 0 g)
date_made IifDate g = if truth_given 0 g then date_given 0 g else date_given 1 g
date_made Ctod g = date_read (text_given 0 g)

-- the truth value that any other function gives
abbrev pub truth_made : TruthFun → Settings → Given → Bool
truth_made TextEq settings g = equal_texts settings.exact (text_given 0 g) (text_given 1 g)
truth_made TextLess settings g = is_text_before (text_given 0 g) (text_given 1 g)
truth_made TextGreater settings g = is_text_before (text_given 1 g) (text_given 0 g)
truth_made DateEq settings g = same_date (date_given 0 g) (date_given 1 g)
truth_made DateLess settings g = is_earlier (date_given 0 g) (date_given 1 g)
truth_made DateGreater settings g = is_earlier (date_given 1 g) (date_given 0 g)
truth_made Not settings g = not (truth_given 0 g)
truth_made And settings g = truth_given 0 g && truth_given 1 g
truth_made Or settings g = truth_given 0 g || truth_given 1 g
truth_made In settings g = is_some (first_place (text_given 0 g) (text_given 1 g))
truth_made IifLogical settings g = if truth_given 0 g then truth_given 1 g else truth_given 2 g
truth_made IsAlpha settings g = first_is is_ascii_alphabetic (text_given 0 g)
truth_made IsUpper settings g = first_is is_ascii_uppercase (text_given 0 g)
truth_made IsLower settings g = first_is is_ascii_lowercase (text_given 0 g)

-- what a function gives of its arguments under the settings
unfoldable pub applied : Fun → Settings → Given → Value
applied (OfTwo fun) settings g = Number (of_two fun (number_given 0 g) (number_given 1 g))
applied (Compares order) settings g = Logical (is_in_order order (compared (number_given 0 g) (number_given 1 g)))
applied (ToNumber fun) settings g = Number (number_made fun g)
applied (ToText fun) settings g = text_value (text_made fun settings g)
applied (ToDate fun) settings g = Date (date_made fun g)
applied (ToTruth fun) settings g = Logical (truth_made fun settings g)
