-- What operators do, by the kinds of their operands.
use Rattle.std.specs.Prelude.{true, false, ◌&&◌, if◌then◌else◌, Option, Some, None}
use Rattle.xvalue.specs.declared.kind.Kind.{Kind}
use Rattle.xvalue.specs.declared.kind.Kind.TheVariants.{Number, Text, Date, Logical}
use Rattle.xvalue.specs.declared.fun.Fun.{Fun}
use Rattle.xvalue.specs.declared.fun.Fun.TheVariants as fun
use Rattle.xvalue.specs.declared.fun.Arithmetic.TheVariants as arithmetic
use Rattle.xvalue.specs.declared.fun.NumberOrder.TheVariants as number_order
use Rattle.xvalue.specs.declared.fun.NumberFun.TheVariants as number_fun
use Rattle.xvalue.specs.declared.fun.TextFun.TheVariants as text_fun
use Rattle.xvalue.specs.declared.fun.DateFun.TheVariants as date_fun
use Rattle.xvalue.specs.declared.fun.TruthFun.TheVariants as truth_fun
use Rattle.xvalue.specs.Kinds.{same_kind}
use Rattle.prg_expr.specs.declared.tree.BinaryOperator.{BinaryOperator}
use Rattle.prg_expr.specs.declared.tree.BinaryOperator.TheVariants.{Or, And, Equal, NotEqual, Less, Greater, AtMost}
use Rattle.prg_expr.specs.declared.tree.BinaryOperator.TheVariants.{AtLeast}
use Rattle.prg_expr.specs.declared.tree.BinaryOperator.TheVariants.{Contains, Plus, Minus, Times, Over}
use Rattle.prg_expr.specs.declared.tree.Prefix.{Prefix}
use Rattle.prg_expr.specs.declared.tree.Prefix.TheVariants.{Not, Negative, Positive}
use Rattle.prg_values.specs.declared.operators.OperatorMeaning.{OperatorMeaning}

-- the function itself, the function denied, and the function of the operands in the other order
abbrev pub plain : Fun → OperatorMeaning
plain f = record { fun = f; negated = false; swapped = false }

abbrev pub denied : Fun → OperatorMeaning
denied f = record { fun = f; negated = true; swapped = false }

abbrev pub turned : Fun → OperatorMeaning
turned f = record { fun = f; negated = false; swapped = true }

-- two values of one kind are equal, the first is less, the first is greater; logical values aren't compared
abbrev pub equality : Kind → Option Fun
equality Number = Some (fun.Compares number_order.NumberEq)
equality Text = Some (fun.ToTruth truth_fun.TextEq)
equality Date = Some (fun.ToTruth truth_fun.DateEq)
equality Logical = None

abbrev pub less : Kind → Option Fun
less Number = Some (fun.Compares number_order.NumberLess)
less Text = Some (fun.ToTruth truth_fun.TextLess)
less Date = Some (fun.ToTruth truth_fun.DateLess)
less Logical = None

abbrev pub greater : Kind → Option Fun
greater Number = Some (fun.Compares number_order.NumberGreater)
greater Text = Some (fun.ToTruth truth_fun.TextGreater)
greater Date = Some (fun.ToTruth truth_fun.DateGreater)
greater Logical = None

abbrev pub operation_if_some : (Fun → OperatorMeaning) → Option Fun → Option OperatorMeaning
operation_if_some form None = None
operation_if_some form (Some f) = Some (form f)

-- `<=` denies greater, `>=` denies less, `<>` denies equality
abbrev pub comparison : BinaryOperator → Kind → Option OperatorMeaning
comparison Equal kind = operation_if_some plain (equality kind)
comparison NotEqual kind = operation_if_some denied (equality kind)
comparison Less kind = operation_if_some plain (less kind)
comparison Greater kind = operation_if_some plain (greater kind)
comparison AtMost kind = operation_if_some denied (greater kind)
comparison AtLeast kind = operation_if_some denied (less kind)
comparison _ kind = None

abbrev pub compared_kinds : BinaryOperator → Kind → Kind → Option OperatorMeaning
compared_kinds operator left right = if same_kind left right then comparison operator left else None

-- numbers, texts, and days with numbers in either order
abbrev pub added : Kind → Kind → Option OperatorMeaning
added Number Number = Some (plain (fun.OfTwo arithmetic.Add))
added Text Text = Some (plain (fun.ToText text_fun.Join))
added Date Number = Some (plain (fun.ToDate date_fun.DateAdd))
added Number Date = Some (turned (fun.ToDate date_fun.DateAdd))
added _ _ = None

abbrev pub subtracted : Kind → Kind → Option OperatorMeaning
subtracted Number Number = Some (plain (fun.OfTwo arithmetic.Sub))
subtracted Text Text = Some (plain (fun.ToText text_fun.JoinMoved))
subtracted Date Number = Some (plain (fun.ToDate date_fun.DateSub))
subtracted Date Date = Some (plain (fun.ToNumber number_fun.DateDiff))
subtracted _ _ = None

-- the function of two operands of this kind
abbrev pub of_both : Fun → Kind → Kind → Kind → Option OperatorMeaning
of_both f kind left right = if same_kind left kind && same_kind right kind then Some (plain f) else None

abbrev pub operated : BinaryOperator → Kind → Kind → Option OperatorMeaning
operated Or left right = of_both (fun.ToTruth truth_fun.Or) Logical left right
operated And left right = of_both (fun.ToTruth truth_fun.And) Logical left right
operated Contains left right = of_both (fun.ToTruth truth_fun.In) Text left right
operated Times left right = of_both (fun.OfTwo arithmetic.Mul) Number left right
operated Over left right = of_both (fun.OfTwo arithmetic.Div) Number left right
operated Plus left right = added left right
operated Minus left right = subtracted left right
operated Equal left right = compared_kinds Equal left right
operated NotEqual left right = compared_kinds NotEqual left right
operated Less left right = compared_kinds Less left right
operated Greater left right = compared_kinds Greater left right
operated AtMost left right = compared_kinds AtMost left right
operated AtLeast left right = compared_kinds AtLeast left right

-- `.NOT.` takes a logical value, signs take a number
abbrev pub prefix_kind : Prefix → Kind
prefix_kind Not = Logical
prefix_kind Negative = Number
prefix_kind Positive = Number

-- a plus sign does nothing
abbrev pub prefix_fun : Prefix → Option Fun
prefix_fun Not = Some (fun.ToTruth truth_fun.Not)
prefix_fun Negative = Some (fun.ToNumber number_fun.Neg)
prefix_fun Positive = None
