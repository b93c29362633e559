-- What operators do takes two values, and what is denied is a truth value; IIF takes what there is.
use Rattle.std.proofs.Common.{◌≡◌, Bool, true, false, List, [], ◌∷◌, length, Option, Some, None, refl, sym, ap, ◌∙◌}
use Rattle.std.proofs.Common.{subst}
use Rattle.std.specs.Prelude.{◌&&◌, if◌then◌else◌}
use Rattle.std.proofs.lemmas.Bool.{and_parts}
use Rattle.std.proofs.lemmas.Option.{same_Some, none-some}
use Rattle.xvalue.specs.declared.kind.Kind.{Kind}
use Rattle.xvalue.specs.declared.kind.Kind.TheVariants as kind
use Rattle.xvalue.specs.declared.fun.Fun.{Fun}
use Rattle.xvalue.specs.declared.fun.Fun.TheVariants as fun
use Rattle.xvalue.specs.declared.fun.Arithmetic.TheVariants as arithmetic
use Rattle.xvalue.specs.declared.fun.NumberOrder.TheVariants as number_order
use Rattle.xvalue.specs.declared.fun.NumberFun.TheVariants as number_fun
use Rattle.xvalue.specs.declared.fun.TextFun.TheVariants as text_fun
use Rattle.xvalue.specs.declared.fun.DateFun.TheVariants as date_fun
use Rattle.xvalue.specs.declared.fun.TruthFun.TheVariants as truth_fun
use Rattle.xvalue.specs.Kinds.{same_kind}
use Rattle.xvalue.specs.Signature.{takes_of, gives_of}
use Rattle.xvalue.proofs.KindLemmas.{kinds_same}
use Rattle.prg_expr.specs.declared.tree.BinaryOperator.{BinaryOperator}
use Rattle.prg_expr.specs.declared.tree.BinaryOperator.TheVariants.{Or, And, Equal, NotEqual, Less, Greater, AtMost}
use Rattle.prg_expr.specs.declared.tree.BinaryOperator.TheVariants.{AtLeast, Contains, Plus, Minus, Times, Over}
use Rattle.prg_values.specs.declared.operators.OperatorMeaning.{OperatorMeaning}
use Rattle.prg_values.specs.Operators.{plain, denied, turned, equality, less, greater, operation_if_some, added}
use Rattle.prg_values.specs.Operators.{subtracted, of_both, operated}
use Rattle.prg_values.specs.Written.{choice, choice_for}
use Rattle.fit_laws.proofs.Covered.{joined}
use Rattle.expr_laws.proofs.Options.{passed}

-- the kinds of two operands in the order that a function takes them
abbrev pub in_order : Bool → Kind → Kind → List Kind
in_order true one other = other ∷ one ∷ []
in_order false one other = one ∷ other ∷ []

-- what is denied is a truth value, and the function takes operands of these kinds
pub record Sound (one other : Kind) (o : OperatorMeaning) : Type 0 where
  pub denies : o.negated ≡ true → gives_of o.fun ≡ kind.Logical
  pub takes : in_order o.swapped one other ≡ takes_of o.fun

not_so : {P : Type 0} → false ≡ true → P
not_so e = absurd (cc)

plain_sound : {one other : Kind} (f : Fun) → one ∷ other ∷ [] ≡ takes_of f → Sound one other (plain f)
plain_sound f takes = record { denies = λ e. not_so e; takes = takes }

turned_sound : {one other : Kind} (f : Fun) → other ∷ one ∷ [] ≡ takes_of f → Sound one other (turned f)
turned_sound f takes = record { denies = λ e. not_so e; takes = takes }

these : {one other : Kind} (p o : OperatorMeaning) → Sound one other p → Some p ≡ Some o → Sound one other o
these {one} {other} p o d e = subst (Sound one other) (same_Some p o e) d

nowhere : {one other : Kind} (o : OperatorMeaning) → None ≡ Some o → Sound one other o
nowhere {one} {other} o e = absurd (none-some o e)

equality_sound : (form : Fun → OperatorMeaning) (k : Kind) (o : OperatorMeaning)
    → ((f : Fun) → gives_of f ≡ kind.Logical → k ∷ k ∷ [] ≡ takes_of f → Sound k k (form f))
    → operation_if_some form (equality k) ≡ Some o → Sound k k o
equality_sound form kind.Number o d e =
    these (form (fun.Compares number_order.NumberEq)) o (d (fun.Compares number_order.NumberEq) refl refl) e
equality_sound form kind.Text o d e =
    these (form (fun.ToTruth truth_fun.TextEq)) o (d (fun.ToTruth truth_fun.TextEq) refl refl) e
equality_sound form kind.Date o d e =
    these (form (fun.ToTruth truth_fun.DateEq)) o (d (fun.ToTruth truth_fun.DateEq) refl refl) e
equality_sound form kind.Logical o d e = nowhere o e

less_sound : (form : Fun → OperatorMeaning) (k : Kind) (o : OperatorMeaning)
    → ((f : Fun) → gives_of f ≡ kind.Logical → k ∷ k ∷ [] ≡ takes_of f → Sound k k (form f))
    → operation_if_some form (less k) ≡ Some o → Sound k k o
less_sound form kind.Number o d e =
    these (form (fun.Compares number_order.NumberLess)) o (d (fun.Compares number_order.NumberLess) refl refl) e
less_sound form kind.Text o d e =
    these (form (fun.ToTruth truth_fun.TextLess)) o (d (fun.ToTruth truth_fun.TextLess) refl refl) e
less_sound form kind.Date o d e =
    these (form (fun.ToTruth truth_fun.DateLess)) o (d (fun.ToTruth truth_fun.DateLess) refl refl) e
less_sound form kind.Logical o d e = nowhere o e

greater_sound : (form : Fun → OperatorMeaning) (k : Kind) (o : OperatorMeaning)
    → ((f : Fun) → gives_of f ≡ kind.Logical → k ∷ k ∷ [] ≡ takes_of f → Sound k k (form f))
    → operation_if_some form (greater k) ≡ Some o → Sound k k o
greater_sound form kind.Number o d e =
    these (form (fun.Compares number_order.NumberGreater)) o (d (fun.Compares number_order.NumberGreater) refl refl) e
greater_sound form kind.Text o d e =
    these (form (fun.ToTruth truth_fun.TextGreater)) o (d (fun.ToTruth truth_fun.TextGreater) refl refl) e
greater_sound form kind.Date o d e =
    these (form (fun.ToTruth truth_fun.DateGreater)) o (d (fun.ToTruth truth_fun.DateGreater) refl refl) e
greater_sound form kind.Logical o d e = nowhere o e

of_truth : (k : Kind) (f : Fun) → gives_of f ≡ kind.Logical → k ∷ k ∷ [] ≡ takes_of f → Sound k k (denied f)
of_truth k f e takes = record { denies = λ h. e; takes = takes }

of_plain : (k : Kind) (f : Fun) → gives_of f ≡ kind.Logical → k ∷ k ∷ [] ≡ takes_of f → Sound k k (plain f)
of_plain k f e takes = plain_sound f takes

-- operands of one kind
alike_sound : (one other : Kind) (x : Option OperatorMeaning) (o : OperatorMeaning) → (x ≡ Some o → Sound one one o)
    → (if same_kind one other then x else None) ≡ Some o → Sound one other o
alike_sound one other x o sound e =
    let p = passed (same_kind one other) x o e in
    subst (λ (k : Kind). Sound one k o) (kinds_same one other p.holds) (sound p.is)

both_sound : (f : Fun) (k one other : Kind) (o : OperatorMeaning) → k ∷ k ∷ [] ≡ takes_of f
    → of_both f k one other ≡ Some o → Sound one other o
both_sound f k one other o takes e =
    let p = passed (same_kind one k && same_kind other k) (Some (plain f)) o e in
    let q = and_parts (same_kind one k) (same_kind other k) p.holds in
    these (plain f) o (plain_sound f (joined one k (other ∷ []) (k ∷ []) (kinds_same one k q.0)
    (ap (λ (l : Kind). l ∷ []) (kinds_same other k q.1)) ∙ takes)) p.is

added_sound : (one other : Kind) (o : OperatorMeaning) → added one other ≡ Some o → Sound one other o
added_sound kind.Number kind.Number o e =
    these (plain (fun.OfTwo arithmetic.Add)) o (plain_sound (fun.OfTwo arithmetic.Add) refl) e
added_sound kind.Number kind.Text o e = nowhere o e
added_sound kind.Number kind.Date o e =
    these (turned (fun.ToDate date_fun.DateAdd)) o (turned_sound (fun.ToDate date_fun.DateAdd) refl) e
added_sound kind.Number kind.Logical o e = nowhere o e
added_sound kind.Text kind.Number o e = nowhere o e
added_sound kind.Text kind.Text o e =
    these (plain (fun.ToText text_fun.Join)) o (plain_sound (fun.ToText text_fun.Join) refl) e
added_sound kind.Text kind.Date o e = nowhere o e
added_sound kind.Text kind.Logical o e = nowhere o e
added_sound kind.Date kind.Number o e =
    these (plain (fun.ToDate date_fun.DateAdd)) o (plain_sound (fun.ToDate date_fun.DateAdd) refl) e
added_sound kind.Date kind.Text o e = nowhere o e
added_sound kind.Date kind.Date o e = nowhere o e
added_sound kind.Date kind.Logical o e = nowhere o e
added_sound kind.Logical kind.Number o e = nowhere o e
added_sound kind.Logical kind.Text o e = nowhere o e
added_sound kind.Logical kind.Date o e = nowhere o e
added_sound kind.Logical kind.Logical o e = nowhere o e

subtracted_sound : (one other : Kind) (o : OperatorMeaning) → subtracted one other ≡ Some o → Sound one other o
subtracted_sound kind.Number kind.Number o e =
    these (plain (fun.OfTwo arithmetic.Sub)) o (plain_sound (fun.OfTwo arithmetic.Sub) refl) e
subtracted_sound kind.Number kind.Text o e = nowhere o e
subtracted_sound kind.Number kind.Date o e = nowhere o e
subtracted_sound kind.Number kind.Logical o e = nowhere o e
subtracted_sound kind.Text kind.Number o e = nowhere o e
subtracted_sound kind.Text kind.Text o e =
    these (plain (fun.ToText text_fun.JoinMoved)) o (plain_sound (fun.ToText text_fun.JoinMoved) refl) e
subtracted_sound kind.Text kind.Date o e = nowhere o e
subtracted_sound kind.Text kind.Logical o e = nowhere o e
subtracted_sound kind.Date kind.Number o e =
    these (plain (fun.ToDate date_fun.DateSub)) o (plain_sound (fun.ToDate date_fun.DateSub) refl) e
subtracted_sound kind.Date kind.Text o e = nowhere o e
subtracted_sound kind.Date kind.Date o e =
    these (plain (fun.ToNumber number_fun.DateDiff)) o (plain_sound (fun.ToNumber number_fun.DateDiff) refl) e
subtracted_sound kind.Date kind.Logical o e = nowhere o e
subtracted_sound kind.Logical kind.Number o e = nowhere o e
subtracted_sound kind.Logical kind.Text o e = nowhere o e
subtracted_sound kind.Logical kind.Date o e = nowhere o e
subtracted_sound kind.Logical kind.Logical o e = nowhere o e

pub operated_sound : (op : BinaryOperator) (one other : Kind) (o : OperatorMeaning) → operated op one other ≡ Some o
    → Sound one other o
operated_sound Or one other o e = both_sound (fun.ToTruth truth_fun.Or) kind.Logical one other o refl e
operated_sound And one other o e = both_sound (fun.ToTruth truth_fun.And) kind.Logical one other o refl e
operated_sound Contains one other o e = both_sound (fun.ToTruth truth_fun.In) kind.Text one other o refl e
operated_sound Times one other o e = both_sound (fun.OfTwo arithmetic.Mul) kind.Number one other o refl e
operated_sound Over one other o e = both_sound (fun.OfTwo arithmetic.Div) kind.Number one other o refl e
operated_sound Plus one other o e = added_sound one other o e
operated_sound Minus one other o e = subtracted_sound one other o e
operated_sound Equal one other o e = alike_sound one other (operation_if_some plain (equality one)) o
    (equality_sound plain one o (of_plain one)) e
operated_sound NotEqual one other o e = alike_sound one other (operation_if_some denied (equality one)) o
    (equality_sound denied one o (of_truth one)) e
operated_sound Less one other o e = alike_sound one other (operation_if_some plain (less one)) o
    (less_sound plain one o (of_plain one)) e
operated_sound Greater one other o e = alike_sound one other (operation_if_some plain (greater one)) o
    (greater_sound plain one o (of_plain one)) e
operated_sound AtMost one other o e = alike_sound one other (operation_if_some denied (greater one)) o
    (greater_sound denied one o (of_truth one)) e
operated_sound AtLeast one other o e = alike_sound one other (operation_if_some denied (less one)) o
    (less_sound denied one o (of_truth one)) e

-- such a function takes two values
pub two_taken : (one other : Kind) (o : OperatorMeaning) → Sound one other o → length (takes_of o.fun) ≡ 2
two_taken one other o h = sym (ap (λ (ks : List Kind). length ks) h.takes) ∙ two o.swapped
  where
    two : (swapped : Bool) → length (in_order swapped one other) ≡ 2
    two true = refl
    two false = refl

-- ---- IIF

alike : (k : Kind) → kind.Logical ∷ k ∷ k ∷ [] ≡ takes_of (choice_for k)
alike kind.Number = refl
alike kind.Text = refl
alike kind.Date = refl
alike kind.Logical = refl

-- it takes what there is
pub choice_takes : (ks : List Kind) (g : Fun) → choice ks ≡ Some g → ks ≡ takes_of g
choice_takes [] g e = absurd (none-some g e)
choice_takes (kind.Number ∷ ks) g e = absurd (none-some g e)
choice_takes (kind.Text ∷ ks) g e = absurd (none-some g e)
choice_takes (kind.Date ∷ ks) g e = absurd (none-some g e)
choice_takes (kind.Logical ∷ []) g e = absurd (none-some g e)
choice_takes (kind.Logical ∷ a ∷ []) g e = absurd (none-some g e)
choice_takes (kind.Logical ∷ a ∷ b ∷ []) g e =
    let p = passed (same_kind a b) (Some (choice_for a)) g e in
    ap (λ (k : Kind). kind.Logical ∷ a ∷ k ∷ []) (sym (kinds_same a b p.holds)) ∙ alike a
    ∙ ap takes_of (same_Some (choice_for a) g p.is)
choice_takes (kind.Logical ∷ a ∷ b ∷ c ∷ ks) g e = absurd (none-some g e)
