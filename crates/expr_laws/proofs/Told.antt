-- The kind that is known of an expression is the kind of its value.
use Rattle.std.proofs.Common.{◌≡◌, Bool, true, false, List, [], ◌∷◌, ◌++◌, length, map, Option, Some, None, refl, sym}
use Rattle.std.proofs.Common.{ap, ◌∙◌, subst}
use Rattle.std.proofs.lemmas.Option.{same_Some, none-some}
use Rattle.xvalue.specs.declared.kind.Kind.{Kind}
use Rattle.xvalue.specs.declared.kind.Kind.TheVariants as kind
use Rattle.xvalue.specs.declared.fun.Fun.{Fun}
use Rattle.xvalue.specs.declared.fun.Fun.TheVariants as fun
use Rattle.xvalue.specs.declared.fun.NumberFun.TheVariants as number_fun
use Rattle.xvalue.specs.declared.fun.TruthFun.TheVariants as truth_fun
use Rattle.xvalue.specs.declared.settings.Settings.{Settings}
use Rattle.xvalue.specs.declared.value.Value.{Value}
use Rattle.xvalue.specs.Given.{by_kind}
use Rattle.xvalue.specs.Kinds.{same_kind, kind_of}
use Rattle.xvalue.specs.Signature.{takes_of, gives_of}
use Rattle.xvalue.proofs.KindLemmas.{kinds_same}
use Rattle.code_items.specs.Kinds.{same_kinds}
use Rattle.code_items.specs.declared.instr.Instr.{Instr}
use Rattle.code_items.specs.declared.instr.Instr.TheVariants.{Records}
use Rattle.code_items.specs.declared.instr.Question.{Question}
use Rattle.code_items.specs.declared.instr.RecordInstr.TheVariants as record_instr
use Rattle.prg_expr.specs.declared.function.Function.{Function}
use Rattle.prg_expr.specs.declared.tree.BinaryOperator.{BinaryOperator}
use Rattle.prg_expr.specs.declared.tree.Prefix.{Prefix}
use Rattle.prg_expr.specs.declared.tree.Prefix.TheVariants.{Not, Negative, Positive}
use Rattle.prg_expr.specs.Tree.{Tree, Trees}
use Rattle.prg_expr.specs.Tree as tree
use Rattle.prg_values.specs.declared.calls.Called.{Called}
use Rattle.prg_values.specs.declared.calls.Called.TheVariants as called
use Rattle.prg_values.specs.declared.operators.OperatorMeaning.{OperatorMeaning}
use Rattle.prg_values.specs.declared.scope.Reading.{Reading}
use Rattle.prg_values.specs.Operators.{operated, prefix_fun}
use Rattle.prg_values.specs.Readings.{Scoped, on_some, read_name, read_qualified}
use Rattle.prg_values.specs.declared.pieces.Piece.{Piece}
use Rattle.prg_values.specs.Written.{meaning, choice, reading_kind, completed, function_kind, question_kind, of_none}
use Rattle.prg_values.specs.Written.{called_kind, prefixed_kind, operated_kind, kind_in, kinds_in, reading_pieces}
use Rattle.prg_values.specs.Written.{constants, chosen, call_pieces, prefix_pieces, operation_pieces, operation_in}
use Rattle.prg_values.specs.Written.{operator_pieces, swapped_if, pieces_in, all_pieces, defaults}
use Rattle.run_steps.proofs.Results.{ResultLaw}
use Rattle.fit_laws.proofs.Covered.{joined}
use Rattle.expr_laws.specs.Meaning.{Sight, nothing, applied_to, denied_if, operands, operation_value, operated_value}
use Rattle.expr_laws.specs.Meaning.{prefixed_value, chosen_value, called_value, value_in, values_in}
use Rattle.expr_laws.proofs.Operands.{operated_sound}
use Rattle.expr_laws.proofs.Machines.{Run, Machine, Puts, Fit, fit_parts}
use Rattle.expr_laws.proofs.Options.{found, passed}

-- ---- operators

operation_kind : ResultLaw → (settings : Settings) (o : OperatorMeaning) (negated : Bool) (a b : Value)
    → o.negated ≡ negated → (o.negated ≡ true → gives_of o.fun ≡ kind.Logical)
    → kind_of (denied_if negated settings (applied_to settings o.fun (operands o.swapped a b))) ≡ gives_of o.fun
operation_kind law settings o true a b e d =
    law (fun.ToTruth truth_fun.Not) settings (by_kind (applied_to settings o.fun (operands o.swapped a b) ∷ []))
    ∙ sym (d e)
operation_kind law settings o false a b e d = law o.fun settings (by_kind (operands o.swapped a b))

-- ---- the pieces between which an operator's are

pub operands_fit : (fit : Instr → Type 0) (swapped : Bool) (as' bs : List Piece) → Fit fit (swapped_if swapped as' bs)
    → Fit fit as' × Fit fit bs
operands_fit fit true as' bs h =
    let p = fit_parts fit bs as' h in
    (p.1, p.0)
operands_fit fit false as' bs h = fit_parts fit as' bs h

-- the pieces of operands are there where the kinds are
pub operands_there : (o : BinaryOperator) (x y : Option Kind) (ka kb : Kind) (op : OperatorMeaning) → x ≡ Some ka
    → y ≡ Some kb → operated o ka kb ≡ Some op → operation_in o x y ≡ Some op
operands_there o x y ka kb op ex ey e = ap (λ (z : Option Kind). operation_in o z y) ex
    ∙ ap (operation_in o (Some ka)) ey ∙ e

-- ---- along the tree

module _ (s : Scoped) (v : Sight) (cs : List Value) (fit : Instr → Type 0) (run : Run)
    (test : Instr → List Value → Type 0) (m : Machine s v cs fit run test) (law : ResultLaw) where
  reading_told : (x : Option Reading) (c : Value) (k : Kind)
      → ((r : Reading) → x ≡ Some r → fit r.instr → Puts run test r c) → reading_kind x ≡ Some k
      → Fit fit (reading_pieces x) → kind_of c ≡ k
  reading_told None c k puts e h = absurd (none-some k e)
  reading_told (Some r) c k puts e h = (puts r refl h.0).kind ∙ same_Some r.kind k e

  function_told : (f : Function) (g : Fun) (ks : List Kind) (vs : List Value) (k : Kind) → function_kind f g ks ≡ Some k
      → kind_of (applied_to v.settings g (vs ++ defaults f (length vs))) ≡ k
  function_told f g ks vs k e =
      law g v.settings (by_kind (vs ++ defaults f (length vs)))
      ∙ same_Some (gives_of g) k (passed (same_kinds (takes_of g) (completed f ks)) (Some (gives_of g)) k e).is

  question_told : (q : Question) (ks : List Kind) (k : Kind) → of_none ks (question_kind s q) ≡ Some k
      → fit (Records (record_instr.Ask q)) → kind_of (v.asked q) ≡ k
  question_told q [] k e h = (m.asked q k e h).kind
  question_told q (l ∷ ks) k e h = absurd (none-some k e)

  today_told : (ks : List Kind) (k : Kind) → of_none ks (Some kind.Date) ≡ Some k → kind.Date ≡ k
  today_told [] k e = same_Some kind.Date k e
  today_told (l ∷ ks) k e = absurd (none-some k e)

  choice_told : (ks : List Kind) (vs : List Value) (k : Kind) → map kind_of vs ≡ ks
      → on_some (choice ks) None (λ g. Some (gives_of g)) ≡ Some k → kind_of (chosen_value v.settings vs) ≡ k
  choice_told ks vs k same e =
      let w = found (choice ks) (λ g. Some (gives_of g)) k e in
      let there : choice (map kind_of vs) ≡ Some w.a = ap choice same ∙ w.there in
      ap (λ (x : Option Fun). kind_of (on_some x nothing (λ f. applied_to v.settings f vs))) there
      ∙ law w.a v.settings (by_kind vs) ∙ same_Some (gives_of w.a) k w.made

  called_told : (f : Function) (c : Called) (ks : List Kind) (vs : List Value) (k : Kind) → map kind_of vs ≡ ks
      → called_kind s f c ks ≡ Some k → Fit fit (call_pieces c (choice ks)) → kind_of (called_value v f c vs) ≡ k
  called_told f (called.Function g) ks vs k same e h = function_told f g ks vs k e
  called_told f (called.Question q) ks vs k same e h = question_told q ks k e h.0
  called_told f called.Today ks vs k same e h = today_told ks k e
  called_told f called.Choice ks vs k same e h = choice_told ks vs k same e

  prefixed_told : (p : Prefix) (k0 k : Kind) (c : Value) → kind_of c ≡ k0 → prefixed_kind p k0 ≡ Some k
      → kind_of (prefixed_value v.settings (prefix_fun p) c) ≡ k
  prefixed_told Not k0 k c same e = law (fun.ToTruth truth_fun.Not) v.settings (by_kind (c ∷ []))
      ∙ same_Some kind.Logical k (passed (same_kind k0 kind.Logical) (Some kind.Logical) k e).is
  prefixed_told Negative k0 k c same e = law (fun.ToNumber number_fun.Neg) v.settings (by_kind (c ∷ []))
      ∙ same_Some kind.Number k (passed (same_kind k0 kind.Number) (Some kind.Number) k e).is
  prefixed_told Positive k0 k c same e =
      let p = passed (same_kind k0 kind.Number) (Some kind.Number) k e in
      same ∙ kinds_same k0 kind.Number p.holds ∙ same_Some kind.Number k p.is

  operated_told : (o : BinaryOperator) (ka kb k : Kind) (a b : Value) → kind_of a ≡ ka → kind_of b ≡ kb
      → operated_kind o ka kb ≡ Some k → kind_of (operated_value v.settings o a b) ≡ k
  operated_told o ka kb k a b ea eb e =
      let w = found (operated o ka kb) (λ operation. Some (gives_of operation.fun)) k e in
      let there : operated o (kind_of a) (kind_of b) ≡ Some w.a = ap (λ (x : Kind). operated o x (kind_of b)) ea
      ∙ ap (operated o ka) eb ∙ w.there in
      ap (λ (x : Option OperatorMeaning). kind_of
      (on_some x nothing (λ operation. operation_value v.settings operation a b))) there
      ∙ operation_kind law v.settings w.a w.a.negated a b refl (operated_sound o ka kb w.a w.there).denies
      ∙ same_Some (gives_of w.a.fun) k w.made

  mutual
    pub kind_told : (e : Tree) (k : Kind) → kind_in s e ≡ Some k → Fit fit (pieces_in s e) → kind_of (value_in v e) ≡ k
    kind_told (tree.Number n) k e h = same_Some kind.Number k e
    kind_told (tree.Text t) k e h = same_Some kind.Text k e
    kind_told (tree.Logical b) k e h = same_Some kind.Logical k e
    kind_told (tree.Name n) k e h = reading_told (read_name s n) (v.named n) k (m.named n) e h
    kind_told (tree.Qualified a n) k e h = reading_told (read_qualified s a n) (v.qualified a n) k (m.qualified a n) e h
    kind_told (tree.Call f es) k e h =
        let w = found (kinds_in s es) (called_kind s f (meaning f)) k e in
        let p = fit_parts fit (all_pieces s es ++ constants (defaults f (tree.count es)))
        (call_pieces (meaning f) (chosen (kinds_in s es))) h in
        let q = fit_parts fit (all_pieces s es) (constants (defaults f (tree.count es))) p.0 in
        called_told f (meaning f) w.a (values_in v es) k (kinds_told es w.a w.there q.0) w.made
        (subst (λ (x : Option (List Kind)). Fit fit (call_pieces (meaning f) (chosen x))) w.there p.1)
    kind_told (tree.Parentheses e) k is h = kind_told e k is h
    kind_told (tree.Prefixed p e) k is h =
        let w = found (kind_in s e) (prefixed_kind p) k is in
        prefixed_told p w.a k (value_in v e)
        (kind_told e w.a w.there (fit_parts fit (pieces_in s e) (prefix_pieces (prefix_fun p)) h).0) w.made
    kind_told (tree.Binary o a b) k is h =
        let w = found (kind_in s a) (λ one. on_some (kind_in s b) None (operated_kind o one)) k is in
        let x = found (kind_in s b) (operated_kind o w.a) k w.made in
        let y = found (operated o w.a x.a) (λ operation. Some (gives_of operation.fun)) k x.made in
        let there = operands_there o (kind_in s a) (kind_in s b) w.a x.a y.a w.there x.there y.there in
        let g : Fit fit (swapped_if y.a.swapped (pieces_in s a) (pieces_in s b) ++ operation_pieces y.a) =
        subst (λ (z : Option OperatorMeaning). Fit fit (operator_pieces z (pieces_in s a) (pieces_in s b))) there
        h in
        let p = operands_fit fit y.a.swapped (pieces_in s a) (pieces_in s b)
        (fit_parts fit (swapped_if y.a.swapped (pieces_in s a) (pieces_in s b)) (operation_pieces y.a) g).0 in
        operated_told o w.a x.a k (value_in v a) (value_in v b) (kind_told a w.a w.there p.0)
        (kind_told b x.a x.there p.1) x.made

    pub kinds_told : (es : Trees) (ks : List Kind) → kinds_in s es ≡ Some ks → Fit fit (all_pieces s es)
        → map kind_of (values_in v es) ≡ ks
    kinds_told tree.None ks e h = same_Some [] ks e
    kinds_told (tree.More e es) ks is h =
        let w = found (kind_in s e) (λ k. on_some (kinds_in s es) None (λ others. Some (k ∷ others))) ks is in
        let x = found (kinds_in s es) (λ others. Some (w.a ∷ others)) ks w.made in
        let p = fit_parts fit (pieces_in s e) (all_pieces s es) h in
        joined (kind_of (value_in v e)) w.a (map kind_of (values_in v es)) x.a (kind_told e w.a w.there p.0)
        (kinds_told es x.a x.there p.1) ∙ same_Some (w.a ∷ x.a) ks x.made
