-- What an expression means: its value, along its tree, by what its names stand for.
use Rattle.std.specs.Prelude.{ℕ, Bool, true, false, List, [], ◌∷◌, ◌++◌, Option, Some, None, length, map}
use Rattle.calendar.specs.declared.day.DayParts.{DayParts}
use Rattle.xvalue.specs.declared.fun.Fun.{Fun}
use Rattle.xvalue.specs.declared.fun.Fun.TheVariants as fun
use Rattle.xvalue.specs.declared.fun.TruthFun.TheVariants as truth_fun
use Rattle.xvalue.specs.declared.settings.Settings.{Settings}
use Rattle.xvalue.specs.declared.value.Value.{Value}
use Rattle.xvalue.specs.declared.value.Value.TheVariants as value
use Rattle.xvalue.specs.Functions.{applied}
use Rattle.xvalue.specs.Given.{by_kind}
use Rattle.xvalue.specs.Kinds.{kind_of}
use Rattle.code_items.specs.declared.instr.Question.{Question}
use Rattle.prg_expr.specs.declared.function.Function.{Function}
use Rattle.prg_expr.specs.declared.tree.BinaryOperator.{BinaryOperator}
use Rattle.prg_expr.specs.Tree.{Tree, Trees}
use Rattle.prg_expr.specs.Tree as tree
use Rattle.prg_values.specs.declared.calls.Called.{Called}
use Rattle.prg_values.specs.declared.calls.Called.TheVariants as called
use Rattle.prg_values.specs.declared.operators.OperatorMeaning.{OperatorMeaning}
use Rattle.prg_values.specs.Operators.{operated, prefix_fun}
use Rattle.prg_values.specs.Readings.{on_some}
use Rattle.prg_values.specs.Written.{meaning, defaults, choice}

-- what is seen where an expression is judged: settings and day, what plain names and names behind an alias stand for,
-- and the answers to questions
pub record Sight : Type 0 where
  pub settings : Settings
  pub today : Option DayParts
  pub named : List ℕ → Value
  pub qualified : List ℕ → List ℕ → Value
  pub asked : Question → Value

-- the value of what has none; no expression whose kind is known comes to it
abbrev pub nothing : Value
nothing = value.Logical false

-- a function of values in their order
abbrev pub applied_to : Settings → Fun → List Value → Value
applied_to settings f values = applied f settings (by_kind values)

-- ---- operators

abbrev pub denied_if : Bool → Settings → Value → Value
denied_if true settings v = applied_to settings (fun.ToTruth truth_fun.Not) (v ∷ [])
denied_if false settings v = v

abbrev pub operands : Bool → Value → Value → List Value
operands true a b = b ∷ a ∷ []
operands false a b = a ∷ b ∷ []

abbrev pub operation_value : Settings → OperatorMeaning → Value → Value → Value
operation_value settings o a b = denied_if o.negated settings (applied_to settings o.fun (operands o.swapped a b))

-- what the operator does is known by the kinds of its operands
abbrev pub operated_value : Settings → BinaryOperator → Value → Value → Value
operated_value settings o a b =
    on_some (operated o (kind_of a) (kind_of b)) nothing (λ operation. operation_value settings operation a b)

-- a plus sign does nothing
abbrev pub prefixed_value : Settings → Option Fun → Value → Value
prefixed_value settings None v = v
prefixed_value settings (Some f) v = applied_to settings f (v ∷ [])

-- ---- functions by name

-- IIF of a truth value and two values of one kind
abbrev pub chosen_value : Settings → List Value → Value
chosen_value settings values = on_some (choice (map kind_of values)) nothing (λ f. applied_to settings f values)

-- arguments that are left out have their defaults
abbrev pub called_value : Sight → Function → Called → List Value → Value
called_value s f (called.Function g) values = applied_to s.settings g (values ++ defaults f (length values))
called_value s f (called.Question q) values = s.asked q
called_value s f called.Today values = value.Date s.today
called_value s f called.Choice values = chosen_value s.settings values

-- ---- expressions

abbrev mutual
  pub value_in : Sight → Tree → Value
  value_in s (tree.Number n) = value.Number n
  value_in s (tree.Text t) = value.Text (record { items = t })
  value_in s (tree.Logical b) = value.Logical b
  value_in s (tree.Name n) = s.named n
  value_in s (tree.Qualified a n) = s.qualified a n
  value_in s (tree.Call f es) = called_value s f (meaning f) (values_in s es)
  value_in s (tree.Parentheses e) = value_in s e
  value_in s (tree.Prefixed p e) = prefixed_value s.settings (prefix_fun p) (value_in s e)
  value_in s (tree.Binary o a b) = operated_value s.settings o (value_in s a) (value_in s b)

  pub values_in : Sight → Trees → List Value
  values_in s tree.None = []
  values_in s (tree.More e es) = value_in s e ∷ values_in s es

-- a condition holds where its value is true
abbrev pub is_truth : Value → Bool
is_truth (value.Number n) = false
is_truth (value.Text t) = false
is_truth (value.Date d) = false
is_truth (value.Logical b) = b

abbrev pub holds_in : Sight → Tree → Bool
holds_in s e = is_truth (value_in s e)
