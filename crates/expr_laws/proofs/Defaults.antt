-- Only functions of values have arguments that may be left out, and with these the kinds are those that they take.
use Rattle.std.proofs.Common.{◌≡◌, ℕ, Bool, true, false, List, [], ◌++◌, length, map, Some, refl, sym, ap, ◌∙◌}
use Rattle.std.proofs.lemmas.List.{length-map, map-append}
use Rattle.xvalue.specs.declared.fun.Fun.{Fun}
use Rattle.xvalue.specs.declared.kind.Kind.{Kind}
use Rattle.xvalue.specs.declared.value.Value.{Value}
use Rattle.xvalue.specs.Kinds.{kind_of}
use Rattle.xvalue.specs.Signature.{takes_of, gives_of}
use Rattle.code_items.specs.Kinds.{same_kinds}
use Rattle.prg_expr.specs.declared.function.Function.{Function}
use Rattle.prg_expr.specs.declared.function.Function.TheVariants as function
use Rattle.prg_values.specs.declared.calls.Called.{Called}
use Rattle.prg_values.specs.declared.calls.Called.TheVariants as called
use Rattle.prg_values.specs.Written.{meaning, defaults, completed, function_kind}
use Rattle.fit_laws.proofs.Covered.{stacks_same}
use Rattle.fit_laws.proofs.Loads.{impossible}
use Rattle.expr_laws.proofs.Machines.{onto}
use Rattle.expr_laws.proofs.Options.{passed}

abbrev pub is_function : Called → Bool
is_function (called.Function g) = true
is_function (called.Question q) = false
is_function called.Today = false
is_function called.Choice = false

pub only_functions_fill : (f : Function) (n : ℕ) → is_function (meaning f) ≡ false → defaults f n ≡ []
only_functions_fill function.Iif n e = refl
only_functions_fill function.Len n e = impossible e
only_functions_fill function.Substr n e = impossible e
only_functions_fill function.Left n e = impossible e
only_functions_fill function.Right n e = impossible e
only_functions_fill function.Trim n e = impossible e
only_functions_fill function.Ltrim n e = impossible e
only_functions_fill function.Upper n e = impossible e
only_functions_fill function.Lower n e = impossible e
only_functions_fill function.Space n e = impossible e
only_functions_fill function.Replicate n e = impossible e
only_functions_fill function.At n e = impossible e
only_functions_fill function.Stuff n e = impossible e
only_functions_fill function.Asc n e = impossible e
only_functions_fill function.Chr n e = impossible e
only_functions_fill function.Val n e = impossible e
only_functions_fill function.Str n e = impossible e
only_functions_fill function.IsAlpha n e = impossible e
only_functions_fill function.IsUpper n e = impossible e
only_functions_fill function.IsLower n e = impossible e
only_functions_fill function.Abs n e = impossible e
only_functions_fill function.Int n e = impossible e
only_functions_fill function.Mod n e = impossible e
only_functions_fill function.Round n e = impossible e
only_functions_fill function.Max n e = impossible e
only_functions_fill function.Min n e = impossible e
only_functions_fill function.Ctod n e = impossible e
only_functions_fill function.Dtoc n e = impossible e
only_functions_fill function.Day n e = impossible e
only_functions_fill function.Month n e = impossible e
only_functions_fill function.Year n e = impossible e
only_functions_fill function.Dow n e = impossible e
only_functions_fill function.Cdow n e = impossible e
only_functions_fill function.Cmonth n e = impossible e
only_functions_fill function.Recno n e = refl
only_functions_fill function.Reccount n e = refl
only_functions_fill function.Eof n e = refl
only_functions_fill function.Bof n e = refl
only_functions_fill function.Found n e = refl
only_functions_fill function.Deleted n e = refl
only_functions_fill function.Date n e = refl

-- nothing is left out where a question is asked, the day is, or a choice is made
pub alone : (f : Function) (c : Called) (n : ℕ) (st : List Value) → meaning f ≡ c → is_function c ≡ false
    → onto (defaults f n) st ≡ st
alone f c n st is e = ap (λ (ws : List Value). onto ws st) (only_functions_fill f n (ap is_function is ∙ e))

-- arguments and those that are left out have the kinds that the function takes
pub all_kinds : (f : Function) (g : Fun) (ks : List Kind) (vs : List Value) (k : Kind) → map kind_of vs ≡ ks
    → function_kind f g ks ≡ Some k → map kind_of (vs ++ defaults f (length vs)) ≡ takes_of g
all_kinds f g ks vs k same e =
    map-append kind_of vs (defaults f (length vs))
    ∙ ap (λ (n : ℕ). map kind_of vs ++ map kind_of (defaults f n)) (sym (length-map vs kind_of)) ∙ ap (completed f) same
    ∙ sym (stacks_same (takes_of g) (completed f ks)
    (passed (same_kinds (takes_of g) (completed f ks)) (Some (gives_of g)) k e).holds)
