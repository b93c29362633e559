-- Which words name functions, and how many arguments these take.
use Rattle.std.specs.Prelude.{ℕ, List, [], ◌∷◌, ◌++◌, Bool, true, false, ◌&&◌, ◌||◌, ◌==◌, nat_le, length, codes}
use Rattle.std.specs.Prelude.{Option, Some, None, if◌then◌else◌}
use Rattle.prg_expr.specs.declared.function.Function.{Function}
use Rattle.prg_expr.specs.declared.function.Function.TheVariants.{Iif, Len, Substr, Left, Right, Trim, Ltrim, Upper}
use Rattle.prg_expr.specs.declared.function.Function.TheVariants.{Lower, Space, Replicate, At, Stuff, Asc, Chr, Val}
use Rattle.prg_expr.specs.declared.function.Function.TheVariants.{Str, IsAlpha, IsUpper, IsLower, Abs, Int, Mod, Round}
use Rattle.prg_expr.specs.declared.function.Function.TheVariants.{Max, Min, Ctod, Dtoc, Day, Month, Year, Dow, Cdow}
use Rattle.prg_expr.specs.declared.function.Function.TheVariants.{Cmonth, Recno, Reccount, Eof, Bof, Found, Deleted}
use Rattle.prg_expr.specs.declared.function.Function.TheVariants.{Date}

-- whether the letters are the first ones of a word
unfoldable pub is_front : List ℕ → List ℕ → Bool
is_front [] whole = true
is_front (b ∷ letters) [] = false
is_front (b ∷ letters) (c ∷ whole) = (b == c) && is_front letters whole

-- whether the letters are a word, or its first letters, four or more
abbrev pub is_cut : List ℕ → List ℕ → Bool
is_cut letters whole = is_front letters whole && ((length letters == length whole) || nat_le 4 (length letters))

abbrev pub FunctionWord : Type 0
FunctionWord = List ℕ × Function

-- the first function of a table whose name, perhaps cut, this is
abbrev pub function_of_word : List FunctionWord → List ℕ → Option Function
function_of_word [] letters = None
function_of_word (x ∷ xs) letters = if is_cut letters x.0 then Some x.1 else function_of_word xs letters

abbrev pub of_texts : List FunctionWord
of_texts = (codes "LEN", Len) ∷ (codes "TRIM", Trim) ∷ (codes "RTRIM", Trim) ∷ (codes "LTRIM", Ltrim)
    ∷ (codes "UPPER", Upper) ∷ (codes "LOWER", Lower) ∷ (codes "SPACE", Space) ∷ (codes "REPLICATE", Replicate) ∷ []

abbrev pub of_parts : List FunctionWord
of_parts = (codes "SUBSTR", Substr) ∷ (codes "LEFT", Left) ∷ (codes "RIGHT", Right) ∷ (codes "AT", At)
    ∷ (codes "STUFF", Stuff) ∷ (codes "IIF", Iif) ∷ []

abbrev pub of_bytes : List FunctionWord
of_bytes = (codes "ASC", Asc) ∷ (codes "CHR", Chr) ∷ (codes "VAL", Val) ∷ (codes "STR", Str)
    ∷ (codes "ISALPHA", IsAlpha) ∷ (codes "ISUPPER", IsUpper) ∷ (codes "ISLOWER", IsLower) ∷ []

abbrev pub of_numbers : List FunctionWord
of_numbers = (codes "ABS", Abs) ∷ (codes "INT", Int) ∷ (codes "MOD", Mod) ∷ (codes "ROUND", Round) ∷ (codes "MAX", Max)
    ∷ (codes "MIN", Min) ∷ []

abbrev pub of_dates : List FunctionWord
of_dates = (codes "CTOD", Ctod) ∷ (codes "DTOC", Dtoc) ∷ (codes "DAY", Day) ∷ (codes "MONTH", Month)
    ∷ (codes "YEAR", Year) ∷ (codes "DOW", Dow) ∷ (codes "CDOW", Cdow) ∷ (codes "CMONTH", Cmonth) ∷ []

abbrev pub of_tables : List FunctionWord
of_tables = (codes "RECNO", Recno) ∷ (codes "RECCOUNT", Reccount) ∷ (codes "EOF", Eof) ∷ (codes "BOF", Bof)
    ∷ (codes "FOUND", Found) ∷ (codes "DELETED", Deleted) ∷ (codes "DATE", Date) ∷ []

-- all words that name functions
abbrev pub function_words : List FunctionWord
function_words = of_texts ++ (of_parts ++ (of_bytes ++ (of_numbers ++ (of_dates ++ of_tables))))

abbrev pub or_function : Option Function → Option Function → Option Function
or_function None other = other
or_function (Some f) other = Some f

-- the function that capitals name
unfoldable pub function_named : List ℕ → Option Function
function_named s = or_function (function_of_word of_texts s)
    (or_function (function_of_word of_parts s) (or_function (function_of_word of_bytes s)
    (or_function (function_of_word of_numbers s)
    (or_function (function_of_word of_dates s) (function_of_word of_tables s)))))

abbrev pub fewest : Function → ℕ
fewest Iif = 3
fewest Len = 1
fewest Substr = 2
fewest Left = 2
fewest Right = 2
fewest Trim = 1
fewest Ltrim = 1
fewest Upper = 1
fewest Lower = 1
fewest Space = 1
fewest Replicate = 2
fewest At = 2
fewest Stuff = 4
fewest Asc = 1
fewest Chr = 1
fewest Val = 1
fewest Str = 1
fewest IsAlpha = 1
fewest IsUpper = 1
fewest IsLower = 1
fewest Abs = 1
fewest Int = 1
fewest Mod = 2
fewest Round = 2
fewest Max = 2
fewest Min = 2
fewest Ctod = 1
fewest Dtoc = 1
fewest Day = 1
fewest Month = 1
fewest Year = 1
fewest Dow = 1
fewest Cdow = 1
fewest Cmonth = 1
fewest Recno = 0
fewest Reccount = 0
fewest Eof = 0
fewest Bof = 0
fewest Found = 0
fewest Deleted = 0
fewest Date = 0

-- the last argument of SUBSTR and the last two of STR may be left out
abbrev pub most : Function → ℕ
most Substr = 3
most Str = 3
most f = fewest f

-- whether a function takes so many arguments
unfoldable pub takes_so_many : Function → ℕ → Bool
takes_so_many f n = nat_le (fewest f) n && nat_le n (most f)
