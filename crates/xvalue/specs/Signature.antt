-- The table of functions: for each its number in code files, the kinds of its arguments in their order, and the kind
-- of its result.
use Rattle.std.specs.Prelude.{◌≡◌, ℕ, zero, suc, List, [], ◌∷◌, Option, Some, None, slice_get}
use Rattle.xvalue.specs.declared.kind.Kind.{Kind}
use Rattle.xvalue.specs.declared.kind.Kind.TheVariants.{Number, Text, Date, Logical}
use Rattle.xvalue.specs.declared.fun.Fun.{Fun}
use Rattle.xvalue.specs.declared.fun.Fun.TheVariants.{OfTwo, Compares, ToNumber, ToText, ToDate, ToTruth}
use Rattle.xvalue.specs.declared.fun.Arithmetic.{Arithmetic}
use Rattle.xvalue.specs.declared.fun.Arithmetic.TheVariants.{Add, Sub, Mul, Div, Mod, Round, Max, Min}
use Rattle.xvalue.specs.declared.fun.NumberOrder.{NumberOrder}
use Rattle.xvalue.specs.declared.fun.NumberOrder.TheVariants.{NumberEq, NumberLess, NumberGreater}
use Rattle.xvalue.specs.declared.fun.NumberFun.{NumberFun}
use Rattle.xvalue.specs.declared.fun.NumberFun.TheVariants.{Neg, DateDiff, IifNumber, Len, At, Asc, Val, Abs, Int}
use Rattle.xvalue.specs.declared.fun.NumberFun.TheVariants.{Day, Month, Year, Dow}
use Rattle.xvalue.specs.declared.fun.TextFun.{TextFun}
use Rattle.xvalue.specs.declared.fun.TextFun.TheVariants.{Join, JoinMoved, IifText, Substr, Left, Right, Trim, Ltrim}
use Rattle.xvalue.specs.declared.fun.TextFun.TheVariants.{Upper, Lower, Space, Replicate, Stuff, Chr, Str, Dtoc, Cdow}
use Rattle.xvalue.specs.declared.fun.TextFun.TheVariants.{Cmonth}
use Rattle.xvalue.specs.declared.fun.DateFun.{DateFun}
use Rattle.xvalue.specs.declared.fun.DateFun.TheVariants.{DateAdd, DateSub, IifDate, Ctod}
use Rattle.xvalue.specs.declared.fun.TruthFun.{TruthFun}
use Rattle.xvalue.specs.declared.fun.TruthFun.TheVariants.{TextEq, TextLess, TextGreater, DateEq, DateLess}
use Rattle.xvalue.specs.declared.fun.TruthFun.TheVariants.{DateGreater, Not, And, Or, In, IifLogical, IsAlpha}
use Rattle.xvalue.specs.declared.fun.TruthFun.TheVariants.{IsUpper, IsLower}

-- how a function is called: its number, and the kinds of its arguments
pub record CallLine : Type 0 where
  pub number : ℕ
  pub takes : List Kind

abbrev call : ℕ → List Kind → CallLine
call number takes = record { number = number; takes = takes }

-- the numbers of those that give a number of two numbers
abbrev pub arithmetic_number : Arithmetic → ℕ
arithmetic_number Add = 1
arithmetic_number Sub = 2
arithmetic_number Mul = 3
arithmetic_number Div = 4
arithmetic_number Mod = 49
arithmetic_number Round = 50
arithmetic_number Max = 51
arithmetic_number Min = 52

-- the numbers of those that compare two numbers
abbrev pub order_number : NumberOrder → ℕ
order_number NumberEq = 6
order_number NumberLess = 7
order_number NumberGreater = 8

-- the others that give a number
abbrev pub number_line : NumberFun → CallLine
number_line Neg = call 5 (Number ∷ [])
number_line DateDiff = call 23 (Date ∷ Date ∷ [])
number_line IifNumber = call 24 (Logical ∷ Number ∷ Number ∷ [])
number_line Len = call 28 (Text ∷ [])
number_line At = call 38 (Text ∷ Text ∷ [])
number_line Asc = call 40 (Text ∷ [])
number_line Val = call 42 (Text ∷ [])
number_line Abs = call 47 (Number ∷ [])
number_line Int = call 48 (Number ∷ [])
number_line Day = call 55 (Date ∷ [])
number_line Month = call 56 (Date ∷ [])
number_line Year = call 57 (Date ∷ [])
number_line Dow = call 58 (Date ∷ [])

-- those that give a text
abbrev pub text_line : TextFun → CallLine
text_line Join = call 18 (Text ∷ Text ∷ [])
text_line JoinMoved = call 19 (Text ∷ Text ∷ [])
text_line IifText = call 25 (Logical ∷ Text ∷ Text ∷ [])
text_line Substr = call 29 (Text ∷ Number ∷ Number ∷ [])
text_line Left = call 30 (Text ∷ Number ∷ [])
text_line Right = call 31 (Text ∷ Number ∷ [])
text_line Trim = call 32 (Text ∷ [])
text_line Ltrim = call 33 (Text ∷ [])
text_line Upper = call 34 (Text ∷ [])
text_line Lower = call 35 (Text ∷ [])
text_line Space = call 36 (Number ∷ [])
text_line Replicate = call 37 (Text ∷ Number ∷ [])
text_line Stuff = call 39 (Text ∷ Number ∷ Number ∷ Text ∷ [])
text_line Chr = call 41 (Number ∷ [])
text_line Str = call 43 (Number ∷ Number ∷ Number ∷ [])
text_line Dtoc = call 54 (Date ∷ [])
text_line Cdow = call 59 (Date ∷ [])
text_line Cmonth = call 60 (Date ∷ [])

-- those that give a date
abbrev pub date_line : DateFun → CallLine
date_line DateAdd = call 21 (Date ∷ Number ∷ [])
date_line DateSub = call 22 (Date ∷ Number ∷ [])
date_line IifDate = call 26 (Logical ∷ Date ∷ Date ∷ [])
date_line Ctod = call 53 (Text ∷ [])

-- the others that give a truth value
abbrev pub truth_line : TruthFun → CallLine
truth_line TextEq = call 9 (Text ∷ Text ∷ [])
truth_line TextLess = call 10 (Text ∷ Text ∷ [])
truth_line TextGreater = call 11 (Text ∷ Text ∷ [])
truth_line DateEq = call 12 (Date ∷ Date ∷ [])
truth_line DateLess = call 13 (Date ∷ Date ∷ [])
truth_line DateGreater = call 14 (Date ∷ Date ∷ [])
truth_line Not = call 15 (Logical ∷ [])
truth_line And = call 16 (Logical ∷ Logical ∷ [])
truth_line Or = call 17 (Logical ∷ Logical ∷ [])
truth_line In = call 20 (Text ∷ Text ∷ [])
truth_line IifLogical = call 27 (Logical ∷ Logical ∷ Logical ∷ [])
truth_line IsAlpha = call 44 (Text ∷ [])
truth_line IsUpper = call 45 (Text ∷ [])
truth_line IsLower = call 46 (Text ∷ [])

-- a line of the table
pub record SignatureLine : Type 0 where
  pub number : ℕ
  pub takes : List Kind
  pub gives : Kind

abbrev entry : CallLine → Kind → SignatureLine
entry line gives = record { number = line.number; takes = line.takes; gives = gives }

abbrev pub signature_line : Fun → SignatureLine
signature_line (OfTwo fun) = entry (call (arithmetic_number fun) (Number ∷ Number ∷ [])) Number
signature_line (Compares order) = entry (call (order_number order) (Number ∷ Number ∷ [])) Logical
signature_line (ToNumber fun) = entry (number_line fun) Number
signature_line (ToText fun) = entry (text_line fun) Text
signature_line (ToDate fun) = entry (date_line fun) Date
signature_line (ToTruth fun) = entry (truth_line fun) Logical

abbrev pub function_number : Fun → ℕ
function_number fun = (signature_line fun).number

-- the kinds of its arguments, in their order
abbrev pub takes_of : Fun → List Kind
takes_of fun = (signature_line fun).takes

-- the kind of its result
abbrev pub gives_of : Fun → Kind
gives_of fun = (signature_line fun).gives

-- all functions, by their numbers from 1 on
abbrev pub all_functions : List Fun
all_functions = OfTwo Add ∷ OfTwo Sub ∷ OfTwo Mul ∷ OfTwo Div ∷ ToNumber Neg ∷ Compares NumberEq
    ∷ Compares NumberLess ∷ Compares NumberGreater ∷ ToTruth TextEq ∷ ToTruth TextLess ∷ ToTruth TextGreater
    ∷ ToTruth DateEq ∷ ToTruth DateLess ∷ ToTruth DateGreater ∷ ToTruth Not ∷ ToTruth And ∷ ToTruth Or
    ∷ ToText Join ∷ ToText JoinMoved ∷ ToTruth In ∷ ToDate DateAdd ∷ ToDate DateSub ∷ ToNumber DateDiff
    ∷ ToNumber IifNumber ∷ ToText IifText ∷ ToDate IifDate ∷ ToTruth IifLogical ∷ ToNumber Len ∷ ToText Substr
    ∷ ToText Left ∷ ToText Right ∷ ToText Trim ∷ ToText Ltrim ∷ ToText Upper ∷ ToText Lower ∷ ToText Space
    ∷ ToText Replicate ∷ ToNumber At ∷ ToText Stuff ∷ ToNumber Asc ∷ ToText Chr ∷ ToNumber Val ∷ ToText Str
    ∷ ToTruth IsAlpha ∷ ToTruth IsUpper ∷ ToTruth IsLower ∷ ToNumber Abs ∷ ToNumber Int ∷ OfTwo Mod ∷ OfTwo Round
    ∷ OfTwo Max ∷ OfTwo Min ∷ ToDate Ctod ∷ ToText Dtoc ∷ ToNumber Day ∷ ToNumber Month ∷ ToNumber Year
    ∷ ToNumber Dow ∷ ToText Cdow ∷ ToText Cmonth ∷ []

-- the function of a number, if there is one
abbrev pub numbered : ℕ → Option Fun
numbered zero = None
numbered (suc index) = slice_get all_functions index

-- each function is the one of its number, and no other is
pub record NumbersAgree : Type 0 where
  pub found : (fun : Fun) → numbered (function_number fun) ≡ Some fun
  pub same : (number : ℕ) (fun : Fun) → numbered number ≡ Some fun → number ≡ function_number fun
