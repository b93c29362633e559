-- The kind of an expression's value, and what is written for it.
use Rattle.std.specs.Prelude.{◌≡◌, ℕ, zero, suc, Bool, true, false, List, [], ◌∷◌, ◌++◌, Option, Some, None}
use Rattle.std.specs.Prelude.{length, map, slice_get, is_none, pos, if◌then◌else◌}
use Rattle.std.specs.List.{AllZip}
use Rattle.fixed_num.specs.Number.{finite}
use Rattle.xvalue.specs.declared.kind.Kind.{Kind}
use Rattle.xvalue.specs.declared.kind.Kind.TheVariants as kind
use Rattle.xvalue.specs.declared.fun.Fun.{Fun}
use Rattle.xvalue.specs.declared.fun.Fun.TheVariants as fun
use Rattle.xvalue.specs.declared.fun.Arithmetic.TheVariants as arithmetic
use Rattle.xvalue.specs.declared.fun.NumberFun.TheVariants as number_fun
use Rattle.xvalue.specs.declared.fun.TextFun.TheVariants as text_fun
use Rattle.xvalue.specs.declared.fun.DateFun.TheVariants as date_fun
use Rattle.xvalue.specs.declared.fun.TruthFun.TheVariants as truth_fun
use Rattle.xvalue.specs.declared.value.Value.{Value}
use Rattle.xvalue.specs.declared.value.Value.TheVariants as value
use Rattle.xvalue.specs.Kinds.{same_kind, kind_of}
use Rattle.xvalue.specs.Signature.{takes_of, gives_of}
use Rattle.code_items.specs.Desks.{open_at}
use Rattle.code_items.specs.Kinds.{same_kinds}
use Rattle.code_items.specs.declared.instr.Question.{Question}
use Rattle.code_items.specs.declared.instr.Question.TheVariants.{Recno, Reccount, Eof, Bof, Found, Deleted}
use Rattle.code_items.specs.declared.instr.ValueInstr.TheVariants as value_instr
use Rattle.code_items.specs.declared.instr.RecordInstr.TheVariants as record_instr
use Rattle.code_items.specs.declared.instr.Instr.{Instr}
use Rattle.code_items.specs.declared.instr.Instr.TheVariants.{Values, Records}
use Rattle.code_rules.specs.Wants.{kind_asked}
use Rattle.prg_expr.specs.declared.function.Function.{Function}
use Rattle.prg_expr.specs.declared.function.Function.TheVariants as function
use Rattle.prg_expr.specs.declared.tree.BinaryOperator.{BinaryOperator}
use Rattle.prg_expr.specs.declared.tree.Prefix.{Prefix}
use Rattle.prg_expr.specs.Tree.{Tree, Trees, count}
use Rattle.prg_expr.specs.Tree as tree
use Rattle.prg_values.specs.declared.calls.Called.{Called}
use Rattle.prg_values.specs.declared.calls.Called.TheVariants as called
use Rattle.prg_values.specs.declared.operators.OperatorMeaning.{OperatorMeaning}
pub use Rattle.prg_values.specs.declared.pieces.Piece.{Piece}
pub use Rattle.prg_values.specs.declared.pieces.Piece.TheVariants.{Constant, Does}
use Rattle.prg_values.specs.declared.scope.Reading.{Reading}
use Rattle.prg_values.specs.Operators.{operated, prefix_kind, prefix_fun}
use Rattle.prg_values.specs.Readings.{Scoped, on_some, read_name, read_qualified}

-- ---- functions by name

-- what functions by name do: those of texts
abbrev pub fun_of_texts : Function → Option Fun
fun_of_texts function.Len = Some (fun.ToNumber number_fun.Len)
fun_of_texts function.Substr = Some (fun.ToText text_fun.Substr)
fun_of_texts function.Left = Some (fun.ToText text_fun.Left)
fun_of_texts function.Right = Some (fun.ToText text_fun.Right)
fun_of_texts function.Trim = Some (fun.ToText text_fun.Trim)
fun_of_texts function.Ltrim = Some (fun.ToText text_fun.Ltrim)
fun_of_texts function.Upper = Some (fun.ToText text_fun.Upper)
fun_of_texts function.Lower = Some (fun.ToText text_fun.Lower)
fun_of_texts function.Space = Some (fun.ToText text_fun.Space)
fun_of_texts function.Replicate = Some (fun.ToText text_fun.Replicate)
fun_of_texts function.At = Some (fun.ToNumber number_fun.At)
fun_of_texts function.Stuff = Some (fun.ToText text_fun.Stuff)
fun_of_texts function.Asc = Some (fun.ToNumber number_fun.Asc)
fun_of_texts function.Chr = Some (fun.ToText text_fun.Chr)
fun_of_texts function.Val = Some (fun.ToNumber number_fun.Val)
fun_of_texts function.Str = Some (fun.ToText text_fun.Str)
fun_of_texts function.IsAlpha = Some (fun.ToTruth truth_fun.IsAlpha)
fun_of_texts function.IsUpper = Some (fun.ToTruth truth_fun.IsUpper)
fun_of_texts function.IsLower = Some (fun.ToTruth truth_fun.IsLower)
fun_of_texts _ = None

-- those of numbers and dates
abbrev pub of_numbers_and_dates : Function → Option Fun
of_numbers_and_dates function.Abs = Some (fun.ToNumber number_fun.Abs)
of_numbers_and_dates function.Int = Some (fun.ToNumber number_fun.Int)
of_numbers_and_dates function.Mod = Some (fun.OfTwo arithmetic.Mod)
of_numbers_and_dates function.Round = Some (fun.OfTwo arithmetic.Round)
of_numbers_and_dates function.Max = Some (fun.OfTwo arithmetic.Max)
of_numbers_and_dates function.Min = Some (fun.OfTwo arithmetic.Min)
of_numbers_and_dates function.Ctod = Some (fun.ToDate date_fun.Ctod)
of_numbers_and_dates function.Dtoc = Some (fun.ToText text_fun.Dtoc)
of_numbers_and_dates function.Day = Some (fun.ToNumber number_fun.Day)
of_numbers_and_dates function.Month = Some (fun.ToNumber number_fun.Month)
of_numbers_and_dates function.Year = Some (fun.ToNumber number_fun.Year)
of_numbers_and_dates function.Dow = Some (fun.ToNumber number_fun.Dow)
of_numbers_and_dates function.Cdow = Some (fun.ToText text_fun.Cdow)
of_numbers_and_dates function.Cmonth = Some (fun.ToText text_fun.Cmonth)
of_numbers_and_dates _ = None

-- questions to the selected area
abbrev pub question_of : Function → Option Question
question_of function.Recno = Some Recno
question_of function.Reccount = Some Reccount
question_of function.Eof = Some Eof
question_of function.Bof = Some Bof
question_of function.Found = Some Found
question_of function.Deleted = Some Deleted
question_of _ = None

-- DATE, and IIF
abbrev pub otherwise : Function → Called
otherwise function.Date = called.Today
otherwise _ = called.Choice

abbrev pub meaning : Function → Called
meaning f = on_some (fun_of_texts f) (on_some (of_numbers_and_dates f)
    (on_some (question_of f) (otherwise f) called.Question) called.Function) called.Function

abbrev pub whole_as_value : ℕ → Value
whole_as_value n = value.Number (finite (pos n) 0)

-- the values of arguments that are left out, behind so many that are there
abbrev pub defaults : Function → ℕ → List Value
defaults function.Substr (suc (suc zero)) = whole_as_value 254 ∷ []
defaults function.Str (suc zero) = whole_as_value 10 ∷ whole_as_value 0 ∷ []
defaults function.Str (suc (suc zero)) = whole_as_value 0 ∷ []
defaults _ n = []

-- IIF by the kind of what it chooses from
abbrev pub choice_for : Kind → Fun
choice_for kind.Number = fun.ToNumber number_fun.IifNumber
choice_for kind.Text = fun.ToText text_fun.IifText
choice_for kind.Date = fun.ToDate date_fun.IifDate
choice_for kind.Logical = fun.ToTruth truth_fun.IifLogical

-- it takes a truth value, and two values of one kind
abbrev pub choice : List Kind → Option Fun
choice (kind.Logical ∷ one ∷ other ∷ []) = if same_kind one other then Some (choice_for one) else None
choice _ = None

-- ---- kinds; None where there is a fault

abbrev pub reading_kind : Option Reading → Option Kind
reading_kind None = None
reading_kind (Some r) = Some r.kind

-- the kinds of arguments with those that are left out
abbrev pub completed : Function → List Kind → List Kind
completed f kinds = kinds ++ map kind_of (defaults f (length kinds))

abbrev pub function_kind : Function → Fun → List Kind → Option Kind
function_kind f g kinds = if same_kinds (takes_of g) (completed f kinds) then Some (gives_of g) else None

-- a filter may ask for the row's number and mark, and how many there are
abbrev pub may_ask : Bool → Question → Bool
may_ask in_filter Recno = true
may_ask in_filter Reccount = true
may_ask in_filter Deleted = true
may_ask true q = false
may_ask false q = true

-- of the selected area, which is known to be open
abbrev pub question_kind : Scoped → Question → Option Kind
question_kind s q = if is_none (open_at s.state.desk s.state.desk.selected) then None else if may_ask s.in_filter q
    then Some (kind_asked q) else None

-- what takes no arguments
abbrev pub of_none : List Kind → Option Kind → Option Kind
of_none [] kind = kind
of_none (k ∷ ks) kind = None

abbrev pub called_kind : Scoped → Function → Called → List Kind → Option Kind
called_kind s f (called.Function g) kinds = function_kind f g kinds
called_kind s f (called.Question q) kinds = of_none kinds (question_kind s q)
called_kind s f called.Today kinds = of_none kinds (Some kind.Date)
called_kind s f called.Choice kinds = on_some (choice kinds) None (λ g. Some (gives_of g))

abbrev pub prefixed_kind : Prefix → Kind → Option Kind
prefixed_kind p k = if same_kind k (prefix_kind p) then Some (prefix_kind p) else None

abbrev pub operated_kind : BinaryOperator → Kind → Kind → Option Kind
operated_kind o a b = on_some (operated o a b) None (λ operation. Some (gives_of operation.fun))

abbrev mutual
  pub kind_in : Scoped → Tree → Option Kind
  kind_in s (tree.Number n) = Some kind.Number
  kind_in s (tree.Text t) = Some kind.Text
  kind_in s (tree.Logical b) = Some kind.Logical
  kind_in s (tree.Name n) = reading_kind (read_name s n)
  kind_in s (tree.Qualified a n) = reading_kind (read_qualified s a n)
  kind_in s (tree.Call f es) = on_some (kinds_in s es) None (called_kind s f (meaning f))
  kind_in s (tree.Parentheses e) = kind_in s e
  kind_in s (tree.Prefixed p e) = on_some (kind_in s e) None (prefixed_kind p)
  kind_in s (tree.Binary o a b) = on_some (kind_in s a) None (λ one. on_some (kind_in s b) None (operated_kind o one))

  pub kinds_in : Scoped → Trees → Option (List Kind)
  kinds_in s tree.None = Some []
  kinds_in s (tree.More e es) = on_some (kind_in s e) None (λ k. on_some (kinds_in s es) None (λ ks. Some (k ∷ ks)))

-- ---- what is written: constants and instructions

-- the instruction is the piece's, a constant by its number among these
abbrev pub IsPiece : List Value → Piece → Instr → Type 0
IsPiece constants (Constant v) i =
    (number : ℕ) × (slice_get constants number ≡ Some v) × (i ≡ Values (value_instr.Constant number))
IsPiece constants (Does j) i = i ≡ j

abbrev pub calls : Fun → Piece
calls f = Does (Values (value_instr.Function f))

abbrev pub reading_pieces : Option Reading → List Piece
reading_pieces None = []
reading_pieces (Some r) = Does r.instr ∷ []

abbrev pub constants : List Value → List Piece
constants values = map Constant values

-- the function of IIF, where the kinds of its arguments are known
abbrev pub chosen : Option (List Kind) → Option Fun
chosen kinds = on_some kinds None choice

-- what stands behind the arguments of a function by name
abbrev pub call_pieces : Called → Option Fun → List Piece
call_pieces (called.Function g) choice = calls g ∷ []
call_pieces (called.Question q) choice = Does (Records (record_instr.Ask q)) ∷ []
call_pieces called.Today choice = Does (Values value_instr.Today) ∷ []
call_pieces called.Choice None = []
call_pieces called.Choice (Some g) = calls g ∷ []

-- a plus sign does nothing
abbrev pub prefix_pieces : Option Fun → List Piece
prefix_pieces None = []
prefix_pieces (Some f) = calls f ∷ []

abbrev pub denial : Bool → List Piece
denial true = calls (fun.ToTruth truth_fun.Not) ∷ []
denial false = []

abbrev pub operation_pieces : OperatorMeaning → List Piece
operation_pieces o = calls o.fun ∷ denial o.negated

abbrev pub swapped_if : Bool → List Piece → List Piece → List Piece
swapped_if true a b = b ++ a
swapped_if false a b = a ++ b

-- what an operator does between operands of these kinds, if it is known
abbrev pub operation_in : BinaryOperator → Option Kind → Option Kind → Option OperatorMeaning
operation_in o a b = on_some a None (λ one. on_some b None (operated o one))

-- the operands in the order that the function takes them, and the function
abbrev pub operator_pieces : Option OperatorMeaning → List Piece → List Piece → List Piece
operator_pieces None a b = []
operator_pieces (Some o) a b = swapped_if o.swapped a b ++ operation_pieces o

abbrev mutual
  pub pieces_in : Scoped → Tree → List Piece
  pieces_in s (tree.Number n) = Constant (value.Number n) ∷ []
  pieces_in s (tree.Text t) = Constant (value.Text (record { items = t })) ∷ []
  pieces_in s (tree.Logical b) = Constant (value.Logical b) ∷ []
  pieces_in s (tree.Name n) = reading_pieces (read_name s n)
  pieces_in s (tree.Qualified a n) = reading_pieces (read_qualified s a n)
  pieces_in s (tree.Call f es) =
      (all_pieces s es ++ constants (defaults f (count es))) ++ call_pieces (meaning f) (chosen (kinds_in s es))
  pieces_in s (tree.Parentheses e) = pieces_in s e
  pieces_in s (tree.Prefixed p e) = pieces_in s e ++ prefix_pieces (prefix_fun p)
  pieces_in s (tree.Binary o a b) =
      operator_pieces (operation_in o (kind_in s a) (kind_in s b)) (pieces_in s a) (pieces_in s b)

  pub all_pieces : Scoped → Trees → List Piece
  all_pieces s tree.None = []
  all_pieces s (tree.More e es) = pieces_in s e ++ all_pieces s es

-- the code is the expression's, with these constants, and its value is of this kind
pub record IsWrittenExpr (s : Scoped) (e : Tree) (kind : Kind) (constants : List Value)
    (code : List Instr) : Type 0 where
  pub kind_is : kind_in s e ≡ Some kind
  pub pieces : AllZip (IsPiece constants) (pieces_in s e) code
