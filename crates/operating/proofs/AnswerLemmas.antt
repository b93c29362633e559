-- What was answered in several turns, one behind the other, and why they broke off.
use Rattle.std.proofs.Common.{◌≡◌, ◌≢◌, ◌++◌, ◌∙◌, inl, inr, ap, refl, subst, sym, ℕ, List, [], Option}
use Rattle.std.specs.Prelude.{Result, Ok, Err, IfErr, OnErr}
use Rattle.std.proofs.lemmas.List.{append-nil, append_assoc}
use Rattle.line_journal.specs.Kept.{ended_by_lf}
use Rattle.operating.specs.Answers.{AnswersKept, AnythingBreaks, BrokeOff, BrokenFor, FailedOrNot, LastUnkept}
use Rattle.operating.specs.Answers.{NotesFailure, OperatorBreaks, answer_bytes, broken_by}
use Rattle.operating.specs.declared.operator.Answer.{Answer}
use Rattle.operating.specs.declared.operator.Answer.TheVariants.{Line, End}
use Rattle.operating.specs.declared.operator.Broken.{Broken}
use Rattle.operating.specs.declared.operator.Broken.TheVariants as broken
use Rattle.operating.specs.declared.operator.OperatorFailed.{OperatorFailed}
use Rattle.operating.specs.declared.operator.OperatorFailed.TheVariants as failed

nothing_more : (a : List ℕ) → a ≡ a ++ []
nothing_more a = sym (append-nil a)

pub kept_none : (a b x y : List ℕ) → b ≡ a → y ≡ x → AnswersKept a b x y
kept_none a b x y told held = record {
  typed = [];
  told = told ∙ nothing_more a;
  held = held ∙ nothing_more x;
}

pub kept_untold : (a b c x y : List ℕ) → AnswersKept a b x y → c ≡ b → AnswersKept a c x y
kept_untold a b c x y k same = record { typed = k.typed; told = same ∙ k.told; held = k.held }

pub kept_all : (a b x y : List ℕ) → AnswersKept a b x y → LastUnkept a b x y
kept_all a b x y k = record {
  typed = k.typed;
  last = [];
  told = k.told ∙ nothing_more (a ++ k.typed);
  held = k.held;
  one = inl refl;
}

pub unkept_none : (a b x y : List ℕ) → b ≡ a → y ≡ x → LastUnkept a b x y
unkept_none a b x y told held = kept_all a b x y (kept_none a b x y told held)

pub unkept_answer : (a b x y : List ℕ) (answer : Answer) → b ≡ a ++ answer_bytes answer → y ≡ x → LastUnkept a b x y
unkept_answer a b x y (Line line) told held = record {
  typed = [];
  last = ended_by_lf line.items;
  told = told ∙ ap (λ t. t ++ ended_by_lf line.items) (nothing_more a);
  held = held ∙ nothing_more x;
  one = inr (line.items, refl);
}
unkept_answer a b x y End told held = unkept_none a b x y (told ∙ append-nil a) held

pub kept_behind : (a b c x y z : List ℕ) → AnswersKept a b x y → AnswersKept b c y z → AnswersKept a c x z
kept_behind a b c x y z k l = record {
  typed = k.typed ++ l.typed;
  told = l.told ∙ ap (λ t. t ++ l.typed) k.told ∙ append_assoc a k.typed l.typed;
  held = l.held ∙ ap (λ t. t ++ l.typed) k.held ∙ append_assoc x k.typed l.typed;
}

pub unkept_behind : (a b c x y z : List ℕ) → AnswersKept a b x y → LastUnkept b c y z → LastUnkept a c x z
unkept_behind a b c x y z k l = record {
  typed = k.typed ++ l.typed;
  last = l.last;
  told = l.told ∙ ap (λ t. (t ++ l.typed) ++ l.last) k.told ∙ ap (λ t. t ++ l.last) (append_assoc a k.typed l.typed);
  held = l.held ∙ ap (λ t. t ++ l.typed) k.held ∙ append_assoc x k.typed l.typed;
  one = l.one;
}

pub on_err : {A E : Type 0} (result : Result A E) (P : Type 0) → P → OnErr result P
on_err (Ok x) P p = tt
on_err (Err e) P p = p

-- ---- why the operator failed

no_journal : (cause : OperatorFailed) → broken.Journal ≢ broken_by cause
no_journal failed.Memory = λ e. cc
no_journal failed.Other = λ e. cc

-- where the operator failed, the count of the journal's failures stays
pub journal_unfailed : (count : ℕ) (after : Option OperatorFailed) (why : Broken) → BrokenFor after why
    → BrokeOff count count why
journal_unfailed count after broken.Operator b = refl
journal_unfailed count after broken.Line b = refl
journal_unfailed count after broken.Memory b = refl
journal_unfailed count after broken.Journal b = absurd (no_journal b.cause b.is)

-- why an operator failed in a later part, where he hadn't failed before
pub failed_before : (before middle after : Option OperatorFailed) (why : Broken) → middle ≡ before
    → FailedOrNot middle after why → FailedOrNot before after why
failed_before before middle after why e f = subst (λ (m : Option OperatorFailed). FailedOrNot m after why) e f

pub journal_isnt : broken.Journal ≢ broken.Operator
journal_isnt = λ e. cc

pub line_isnt : broken.Line ≢ broken.Operator
line_isnt = λ e. cc

pub memory_isnt : broken.Memory ≢ broken.Operator
memory_isnt = λ e. cc
