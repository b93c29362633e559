-- Functions by their numbers.
use Rattle.std.specs.Prelude.{◌≡◌, ℕ, zero, suc, ◌+◌, ◌==◌, ◌&&◌, Bool, true, List, [], ◌∷◌, Some, IfSome, slice_get}
use Rattle.std.proofs.Common.{Option, None, refl, arith, ◌∙◌, subst}
use Rattle.std.proofs.lemmas.Bool.{and_parts, eqb-true}
use Rattle.std.proofs.lemmas.Option.{same_Some}
use Rattle.xvalue.specs.declared.fun.Fun.{Fun}
use Rattle.xvalue.specs.declared.fun.Fun.TheVariants.{OfTwo, Compares, ToNumber, ToText, ToDate, ToTruth}
use Rattle.xvalue.specs.declared.fun.Arithmetic.TheVariants.{Add, Sub, Mul, Div, Mod, Round, Max, Min}
use Rattle.xvalue.specs.declared.fun.NumberOrder.TheVariants.{NumberEq, NumberLess, NumberGreater}
use Rattle.xvalue.specs.declared.fun.NumberFun.TheVariants.{Neg, DateDiff, IifNumber, Len, At, Asc, Val, Abs, Int}
use Rattle.xvalue.specs.declared.fun.NumberFun.TheVariants.{Day, Month, Year, Dow}
use Rattle.xvalue.specs.declared.fun.TextFun.TheVariants.{Join, JoinMoved, IifText, Substr, Left, Right, Trim, Ltrim}
use Rattle.xvalue.specs.declared.fun.TextFun.TheVariants.{Upper, Lower, Space, Replicate, Stuff, Chr, Str, Dtoc, Cdow}
use Rattle.xvalue.specs.declared.fun.TextFun.TheVariants.{Cmonth}
use Rattle.xvalue.specs.declared.fun.DateFun.TheVariants.{DateAdd, DateSub, IifDate, Ctod}
use Rattle.xvalue.specs.declared.fun.TruthFun.TheVariants.{TextEq, TextLess, TextGreater, DateEq, DateLess}
use Rattle.xvalue.specs.declared.fun.TruthFun.TheVariants.{DateGreater, Not, And, Or, In, IifLogical, IsAlpha}
use Rattle.xvalue.specs.declared.fun.TruthFun.TheVariants.{IsUpper, IsLower}
use Rattle.xvalue.specs.Signature.{function_number, all_functions, numbered, NumbersAgree}

-- whether numbers rise by one from a first one
abbrev do_rise : ℕ → List Fun → Bool
do_rise n [] = true
do_rise n (fun ∷ funs) = function_number fun == n && do_rise (suc n) funs

rising : (n : ℕ) (funs : List Fun) → do_rise n funs ≡ true → (k : ℕ) → IfSome (slice_get funs k)
    (λ f. function_number f ≡ n + k)
rising n [] r k = tt
rising n (fun ∷ funs) r zero =
    let p = and_parts (function_number fun == n) (do_rise (suc n) funs) r in
    eqb-true (function_number fun) n p.0 ∙ omega arith
rising n (fun ∷ funs) r (suc k) =
    let p = and_parts (function_number fun == n) (do_rise (suc n) funs) r in
    let e : suc n + k ≡ n + suc k = omega arith in
    subst (λ m. IfSome (slice_get funs k) (λ f. function_number f ≡ m)) e (rising (suc n) funs p.1 k)

each : (f : Fun) → numbered (function_number f) ≡ Some f
each (OfTwo Add) = refl
each (OfTwo Sub) = refl
each (OfTwo Mul) = refl
each (OfTwo Div) = refl
each (ToNumber Neg) = refl
each (Compares NumberEq) = refl
each (Compares NumberLess) = refl
each (Compares NumberGreater) = refl
each (ToTruth TextEq) = refl
each (ToTruth TextLess) = refl
each (ToTruth TextGreater) = refl
each (ToTruth DateEq) = refl
each (ToTruth DateLess) = refl
each (ToTruth DateGreater) = refl
each (ToTruth Not) = refl
each (ToTruth And) = refl
each (ToTruth Or) = refl
each (ToText Join) = refl
each (ToText JoinMoved) = refl
each (ToTruth In) = refl
each (ToDate DateAdd) = refl
each (ToDate DateSub) = refl
each (ToNumber DateDiff) = refl
each (ToNumber IifNumber) = refl
each (ToText IifText) = refl
each (ToDate IifDate) = refl
each (ToTruth IifLogical) = refl
each (ToNumber Len) = refl
each (ToText Substr) = refl
each (ToText Left) = refl
each (ToText Right) = refl
each (ToText Trim) = refl
each (ToText Ltrim) = refl
each (ToText Upper) = refl
each (ToText Lower) = refl
each (ToText Space) = refl
each (ToText Replicate) = refl
each (ToNumber At) = refl
each (ToText Stuff) = refl
each (ToNumber Asc) = refl
each (ToText Chr) = refl
each (ToNumber Val) = refl
each (ToText Str) = refl
each (ToTruth IsAlpha) = refl
each (ToTruth IsUpper) = refl
each (ToTruth IsLower) = refl
each (ToNumber Abs) = refl
each (ToNumber Int) = refl
each (OfTwo Mod) = refl
each (OfTwo Round) = refl
each (OfTwo Max) = refl
each (OfTwo Min) = refl
each (ToDate Ctod) = refl
each (ToText Dtoc) = refl
each (ToNumber Day) = refl
each (ToNumber Month) = refl
each (ToNumber Year) = refl
each (ToNumber Dow) = refl
each (ToText Cdow) = refl
each (ToText Cmonth) = refl

if_some : {A : Type 0} (P : A → Type 0) (r : Option A) (x : A) → IfSome r P → r ≡ Some x → P x
if_some P None x h e = absurd cc
if_some P (Some y) x h e = subst P (same_Some y x e) h

same : (number : ℕ) (fun : Fun) → numbered number ≡ Some fun → number ≡ function_number fun
same zero fun e = absurd cc
same (suc index) fun e =
    let is : function_number fun ≡ 1 + index = if_some (λ f. function_number f ≡ 1 + index)
    (slice_get all_functions index) fun (rising 1 all_functions refl index) e in
    omega (arith, is)

pub agree : NumbersAgree
agree = record { found = each; same = same }
