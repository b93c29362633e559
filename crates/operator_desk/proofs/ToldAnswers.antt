-- What is told of an answer is what a run makes of it.
use Rattle.std.proofs.Common.{◌≡◌, ◌∙◌, ◌∷◌, arith, inl, inr, ap, cond, length, not, refl, subst, sym, ℕ, Bool, true}
use Rattle.std.proofs.Common.{false, List, [], Option, Some, None, ◌||◌}
use Rattle.std.specs.Prelude.{IfSome, is_none}
use Rattle.std.proofs.lemmas.Bool.{ne_eqb}
use Rattle.calendar.specs.DateTexts.{date_read}
use Rattle.calendar.specs.declared.day.DayParts.{DayParts}
use Rattle.fixed_num.specs.Number.{Number, asterisk, finite}
use Rattle.fixed_num.specs.Reading.{parsed}
use Rattle.operator_desk.specs.Asked.{IsToldOf, is_no_number, is_no_value, leaves_old}
use Rattle.xvalue.specs.Answers.{at_length, date_or, number_or, says_no, says_yes}
use Rattle.xvalue.specs.declared.kind.Kind.{Kind}
use Rattle.xvalue.specs.declared.kind.Kind.TheVariants as kinds

number_told : (c : ℕ) (cs : List ℕ) (new : Number) → parsed (c ∷ cs) ≡ new
    → IsToldOf (is_no_number new) kinds.Number (c ∷ cs)
number_told c cs asterisk e = λ old. ap (number_or old) e
number_told c cs (finite m d) e = inr (λ old other. ap (number_or old) e ∙ sym (ap (number_or other) e))

date_told : (c : ℕ) (cs : List ℕ) (new : Option DayParts) → date_read (c ∷ cs) ≡ new
    → IsToldOf (is_none new) kinds.Date (c ∷ cs)
date_told c cs None e = λ old. ap (date_or old) e
date_told c cs (Some parts) e = inr (λ old other. ap (date_or old) e ∙ sym (ap (date_or other) e))

-- what the first letter says, where it is known whether it is T or Y
by_first : (c : ℕ) (is : Bool) (old : Bool) → says_yes c ≡ is
    → cond (says_yes c) true (cond (says_no c) false old) ≡ cond is true (cond (says_no c) false old)
by_first c is old e = ap (λ (b : Bool). cond b true (cond (says_no c) false old)) e

truth_told : (c : ℕ) (cs : List ℕ) (is isnt : Bool) → says_yes c ≡ is → says_no c ≡ isnt
    → IsToldOf (not (is || isnt)) kinds.Logical (c ∷ cs)
truth_told c cs true isnt e f = inr (λ old other. by_first c true old e ∙ sym (by_first c true other e))
truth_told c cs false true e f = inr (λ old other.
    (by_first c false old e ∙ ap (λ (b : Bool). cond b false old) f)
    ∙ sym (by_first c false other e ∙ ap (λ (b : Bool). cond b false other) f))
truth_told c cs false false e f = λ old. by_first c false old e ∙ ap (λ (b : Bool). cond b false old) f

value_told : (wanted : Kind) (c : ℕ) (cs : List ℕ) → IsToldOf (is_no_value wanted (c ∷ cs)) wanted (c ∷ cs)
value_told kinds.Number c cs = number_told c cs (parsed (c ∷ cs)) refl
value_told kinds.Date c cs = date_told c cs (date_read (c ∷ cs)) refl
value_told kinds.Logical c cs = truth_told c cs (says_yes c) (says_no c) refl refl
value_told kinds.Text c cs = inr (λ old other e. ap (λ (n : ℕ). at_length n (c ∷ cs)) e)

some_line : (wanted : Kind) (c : ℕ) (cs : List ℕ) → leaves_old (Some wanted) (c ∷ cs) ≡ is_no_value wanted (c ∷ cs)
some_line wanted c cs =
    ap (λ (b : Bool). cond b false (is_no_value wanted (c ∷ cs)))
    (ne_eqb (length (c ∷ cs)) 0 (λ e. absurd (omega (arith, e))))

told : (wanted : Kind) (line : List ℕ) → IsToldOf (leaves_old (Some wanted) line) wanted line
told wanted [] = inl refl
told wanted (c ∷ cs) =
    subst (λ (b : Bool). IsToldOf b wanted (c ∷ cs)) (sym (some_line wanted c cs)) (value_told wanted c cs)

pub told_if_wanted : (kind : Option Kind) (is : Bool) (line : List ℕ) → is ≡ leaves_old kind line
    → IfSome kind (λ wanted. IsToldOf is wanted line)
told_if_wanted None is line e = tt
told_if_wanted (Some wanted) is line e = subst (λ (b : Bool). IsToldOf b wanted line) (sym e) (told wanted line)
