-- The code of an expression leaves its value on top.
use Rattle.std.proofs.Common.{◌≡◌, ℕ, suc, Bool, true, false, List, [], ◌∷◌, ◌++◌, length, map, drop, Option, Some}
use Rattle.std.proofs.Common.{None, refl, sym, ap, ◌∙◌, subst}
use Rattle.std.proofs.lemmas.List.{length-map}
use Rattle.std.proofs.lemmas.Option.{none-some}
use Rattle.xvalue.specs.declared.kind.Kind.{Kind}
use Rattle.xvalue.specs.declared.kind.Kind.TheVariants as kind
use Rattle.xvalue.specs.declared.fun.Fun.{Fun}
use Rattle.xvalue.specs.declared.fun.Fun.TheVariants as fun
use Rattle.xvalue.specs.declared.fun.NumberFun.TheVariants as number_fun
use Rattle.xvalue.specs.declared.fun.TruthFun.TheVariants as truth_fun
use Rattle.xvalue.specs.declared.value.Value.{Value}
use Rattle.xvalue.specs.declared.value.Value.TheVariants as value
use Rattle.xvalue.specs.Functions.{applied}
use Rattle.xvalue.specs.Given.{by_kind}
use Rattle.xvalue.specs.Kinds.{kind_of}
use Rattle.xvalue.specs.Signature.{takes_of, gives_of}
use Rattle.code_items.specs.declared.instr.Instr.{Instr}
use Rattle.code_items.specs.declared.instr.Instr.TheVariants.{Values, Records}
use Rattle.code_items.specs.declared.instr.Question.{Question}
use Rattle.code_items.specs.declared.instr.ValueInstr.TheVariants as value_instr
use Rattle.code_items.specs.declared.instr.RecordInstr.TheVariants as record_instr
use Rattle.prg_expr.specs.declared.function.Function.{Function}
use Rattle.prg_expr.specs.declared.tree.Prefix.{Prefix}
use Rattle.prg_expr.specs.declared.tree.Prefix.TheVariants.{Not, Negative, Positive}
use Rattle.prg_expr.specs.Tree.{Tree, Trees}
use Rattle.prg_expr.specs.Tree as tree
use Rattle.prg_values.specs.declared.calls.Called.{Called}
use Rattle.prg_values.specs.declared.calls.Called.TheVariants as called
use Rattle.prg_values.specs.declared.operators.OperatorMeaning.{OperatorMeaning}
use Rattle.prg_values.specs.declared.scope.Reading.{Reading}
use Rattle.prg_values.specs.Operators.{operated, prefix_fun}
use Rattle.prg_values.specs.Readings.{Scoped, on_some, read_name, read_qualified}
use Rattle.prg_values.specs.declared.pieces.Piece.{Piece}
use Rattle.prg_values.specs.declared.pieces.Piece.TheVariants.{Constant, Does}
use Rattle.prg_values.specs.Written.{calls, meaning, choice, reading_kind, function_kind, question_kind, of_none}
use Rattle.prg_values.specs.Written.{called_kind, prefixed_kind, operated_kind, kind_in, kinds_in, reading_pieces}
use Rattle.prg_values.specs.Written.{constants, chosen, call_pieces, prefix_pieces, denial, operation_pieces}
use Rattle.prg_values.specs.Written.{operator_pieces, swapped_if, pieces_in, all_pieces, defaults}
use Rattle.run_steps.proofs.Results.{ResultLaw}
use Rattle.expr_laws.specs.Meaning.{Sight, nothing, applied_to, denied_if, operands, operation_value, prefixed_value}
use Rattle.expr_laws.specs.Meaning.{chosen_value, called_value, value_in, values_in}
use Rattle.expr_laws.proofs.Machines.{Run, Machine, Puts, Goes, parted, goes_nowhere, goes_by, goes_constant, onto}
use Rattle.expr_laws.proofs.Machines.{onto_both, Fit, fit_parts}
use Rattle.expr_laws.proofs.Stacks.{arguments_back, rest_back}
use Rattle.expr_laws.proofs.Defaults.{alone, all_kinds}
use Rattle.expr_laws.proofs.Operands.{operated_sound, two_taken, choice_takes}
use Rattle.expr_laws.proofs.Options.{found}
use Rattle.expr_laws.proofs.Told.{kind_told, kinds_told, operands_fit, operands_there}

-- how many values arguments have
count_values : (v : Sight) (es : Trees) → length (values_in v es) ≡ tree.count es
count_values v tree.None = refl
count_values v (tree.More e es) = ap suc (count_values v es)

module _ (s : Scoped) (v : Sight) (cs : List Value) (fit : Instr → Type 0) (run : Run)
    (test : Instr → List Value → Type 0) (m : Machine s v cs fit run test) (law : ResultLaw) where
  -- ---- pieces of one node

  -- a function of values that stand on top
  pub function_leads : (g : Fun) (vs a b : List Value) → length (takes_of g) ≡ length vs
      → Goes cs run (calls g ∷ []) (onto vs a) b → b ≡ applied_to v.settings g vs ∷ a
  function_leads g vs a b many goes =
      goes_by cs run (Values (value_instr.Function g)) (onto vs a) b goes ∙ m.function g (onto vs a)
      ∙ ap (λ (ws : List Value). applied g v.settings (by_kind ws) ∷ drop (length (takes_of g)) (onto vs a))
      (arguments_back g vs a many)
      ∙ ap (λ (st : List Value). applied_to v.settings g vs ∷ st) (rest_back g vs a many)

  constants_lead : (values : List Value) (a b : List Value) → Goes cs run (constants values) a b → b ≡ onto values a
  constants_lead [] a b goes = goes_nowhere cs run a b goes
  constants_lead (c ∷ values) a b goes =
      let w = parted cs run (Constant c ∷ []) (constants values) a b goes in
      constants_lead values w.middle b w.last
      ∙ ap (onto values) (goes_constant s v cs fit run test m c a w.middle w.first)

  reading_leads : (x : Option Reading) (c : Value) (k : Kind) (a b : List Value)
      → ((r : Reading) → x ≡ Some r → fit r.instr → Puts run test r c) → reading_kind x ≡ Some k
      → Fit fit (reading_pieces x) → Goes cs run (reading_pieces x) a b → b ≡ c ∷ a
  reading_leads None c k a b puts e h goes = absurd (none-some k e)
  reading_leads (Some r) c k a b puts e h goes = goes_by cs run r.instr a b goes ∙ (puts r refl h.0).put a

  -- ---- functions by name

  -- as many arguments as the function takes, with those that are left out
  takes_all : (f : Function) (g : Fun) (ks : List Kind) (vs : List Value) (k : Kind) → map kind_of vs ≡ ks
      → function_kind f g ks ≡ Some k → length (takes_of g) ≡ length (vs ++ defaults f (length vs))
  takes_all f g ks vs k same e =
      sym (ap (λ (xs : List Kind). length xs) (all_kinds f g ks vs k same e))
      ∙ length-map (vs ++ defaults f (length vs)) kind_of

  question_leads : (q : Question) (ks : List Kind) (vs : List Value) (k : Kind) (a b : List Value) → map kind_of vs ≡ ks
      → of_none ks (question_kind s q) ≡ Some k → fit (Records (record_instr.Ask q))
      → Goes cs run (Does (Records (record_instr.Ask q)) ∷ []) (onto vs a) b → b ≡ v.asked q ∷ a
  question_leads q [] [] k a b same e h goes = goes_by cs run (Records (record_instr.Ask q)) a b goes
      ∙ (m.asked q k e h).put a
  question_leads q [] (w ∷ vs) k a b same e h goes = absurd (let z = same in cc)
  question_leads q (l ∷ ks) vs k a b same e h goes = absurd (none-some k e)

  today_leads : (ks : List Kind) (vs : List Value) (k : Kind) (a b : List Value) → map kind_of vs ≡ ks
      → of_none ks (Some kind.Date) ≡ Some k → Goes cs run (Does (Values value_instr.Today) ∷ []) (onto vs a) b
      → b ≡ value.Date v.today ∷ a
  today_leads [] [] k a b same e goes = goes_by cs run (Values value_instr.Today) a b goes ∙ m.today a
  today_leads [] (w ∷ vs) k a b same e goes = absurd (let z = same in cc)
  today_leads (l ∷ ks) vs k a b same e goes = absurd (none-some k e)

  choice_leads : (ks : List Kind) (vs : List Value) (k : Kind) (a b : List Value) → map kind_of vs ≡ ks
      → on_some (choice ks) None (λ g. Some (gives_of g)) ≡ Some k
      → Goes cs run (call_pieces called.Choice (choice ks)) (onto vs a) b → b ≡ chosen_value v.settings vs ∷ a
  choice_leads ks vs k a b same e goes =
      let w = found (choice ks) (λ g. Some (gives_of g)) k e in
      let there : choice (map kind_of vs) ≡ Some w.a = ap choice same ∙ w.there in
      let goes' : Goes cs run (calls w.a ∷ []) (onto vs a) b =
      subst (λ (x : Option Fun). Goes cs run (call_pieces called.Choice x) (onto vs a) b) w.there goes in
      let many : length (takes_of w.a) ≡ length vs =
      sym (ap (λ (xs : List Kind). length xs) (same ∙ choice_takes ks w.a w.there)) ∙ length-map vs kind_of in
      function_leads w.a vs a b many goes' ∙ ap
      (λ (x : Option Fun). on_some x nothing (λ f. applied_to v.settings f vs) ∷ a) (sym there)

  called_leads : (f : Function) (c : Called) (ks : List Kind) (vs : List Value) (k : Kind) (a b : List Value)
      → meaning f ≡ c → map kind_of vs ≡ ks → called_kind s f c ks ≡ Some k → Fit fit (call_pieces c (choice ks))
      → Goes cs run (call_pieces c (choice ks)) (onto (defaults f (length vs)) (onto vs a)) b
      → b ≡ called_value v f c vs ∷ a
  called_leads f (called.Function g) ks vs k a b is same e h goes =
      function_leads g (vs ++ defaults f (length vs)) a b (takes_all f g ks vs k same e)
      (subst (λ (st : List Value). Goes cs run (calls g ∷ []) st b) (onto_both vs (defaults f (length vs)) a) goes)
  called_leads f (called.Question q) ks vs k a b is same e h goes =
      question_leads q ks vs k a b same e h.0
      (subst (λ (st : List Value). Goes cs run (Does (Records (record_instr.Ask q)) ∷ []) st b)
      (alone f (called.Question q) (length vs) (onto vs a) is refl) goes)
  called_leads f called.Today ks vs k a b is same e h goes =
      today_leads ks vs k a b same e
      (subst (λ (st : List Value). Goes cs run (Does (Values value_instr.Today) ∷ []) st b)
      (alone f called.Today (length vs) (onto vs a) is refl) goes)
  called_leads f called.Choice ks vs k a b is same e h goes =
      choice_leads ks vs k a b same e
      (subst (λ (st : List Value). Goes cs run (call_pieces called.Choice (choice ks)) st b)
      (alone f called.Choice (length vs) (onto vs a) is refl) goes)

  -- ---- operators

  prefix_leads : (p : Prefix) (c : Value) (a b : List Value) → Goes cs run (prefix_pieces (prefix_fun p)) (c ∷ a) b
      → b ≡ prefixed_value v.settings (prefix_fun p) c ∷ a
  prefix_leads Not c a b goes = function_leads (fun.ToTruth truth_fun.Not) (c ∷ []) a b refl goes
  prefix_leads Negative c a b goes = function_leads (fun.ToNumber number_fun.Neg) (c ∷ []) a b refl goes
  prefix_leads Positive c a b goes = goes_nowhere cs run (c ∷ a) b goes

  denial_leads : (negated : Bool) (c : Value) (a b : List Value) → Goes cs run (denial negated) (c ∷ a) b
      → b ≡ denied_if negated v.settings c ∷ a
  denial_leads true c a b goes = function_leads (fun.ToTruth truth_fun.Not) (c ∷ []) a b refl goes
  denial_leads false c a b goes = goes_nowhere cs run (c ∷ a) b goes

  operation_leads : (o : OperatorMeaning) (x y : Value) (a b : List Value) → length (takes_of o.fun) ≡ 2
      → Goes cs run (operation_pieces o) (onto (operands o.swapped x y) a) b → b ≡ operation_value v.settings o x y ∷ a
  operation_leads o x y a b two goes =
      let w = parted cs run (calls o.fun ∷ []) (denial o.negated) (onto (operands o.swapped x y) a) b goes in
      let first = function_leads o.fun (operands o.swapped x y) a w.middle (two ∙ sym (both o.swapped)) w.first in
      denial_leads o.negated (applied_to v.settings o.fun (operands o.swapped x y)) a b
      (subst (λ (st : List Value). Goes cs run (denial o.negated) st b) first w.last)
    where
      both : (swapped : Bool) → length (operands swapped x y) ≡ 2
      both true = refl
      both false = refl

  -- the operands in the order that the function takes them
  pub operands_lead : (swapped : Bool) (as' bs : List Piece) (x y : Value) (a b : List Value)
      → ((c d : List Value) → Goes cs run as' c d → d ≡ x ∷ c) → ((c d : List Value) → Goes cs run bs c d → d ≡ y ∷ c)
      → Goes cs run (swapped_if swapped as' bs) a b → b ≡ onto (operands swapped x y) a
  operands_lead true as' bs x y a b one other goes =
      let w = parted cs run bs as' a b goes in
      one w.middle b w.last ∙ ap (λ (st : List Value). x ∷ st) (other a w.middle w.first)
  operands_lead false as' bs x y a b one other goes =
      let w = parted cs run as' bs a b goes in
      other w.middle b w.last ∙ ap (λ (st : List Value). y ∷ st) (one a w.middle w.first)

  -- arguments, and behind them those that are left out
  pub arguments_lead : (f : Function) (es : Trees) (a b : List Value)
      → ((c : List Value) → Goes cs run (all_pieces s es) a c → c ≡ onto (values_in v es) a)
      → Goes cs run (all_pieces s es ++ constants (defaults f (tree.count es))) a b
      → b ≡ onto (defaults f (length (values_in v es))) (onto (values_in v es) a)
  arguments_lead f es a b args goes =
      let w = parted cs run (all_pieces s es) (constants (defaults f (tree.count es))) a b goes in
      constants_lead (defaults f (tree.count es)) w.middle b w.last ∙ ap (onto (defaults f (tree.count es)))
      (args w.middle w.first)
      ∙ ap (λ (n : ℕ). onto (defaults f n) (onto (values_in v es) a)) (sym (count_values v es))

  -- ---- along the tree

  mutual
    pub leads : (e : Tree) (k : Kind) (a b : List Value) → kind_in s e ≡ Some k → Fit fit (pieces_in s e)
        → Goes cs run (pieces_in s e) a b → b ≡ value_in v e ∷ a
    leads (tree.Number n) k a b e h goes = goes_constant s v cs fit run test m (value.Number n) a b goes
    leads (tree.Text t) k a b e h goes = goes_constant s v cs fit run test m
        (value.Text (record { items = t })) a b goes
    leads (tree.Logical x) k a b e h goes = goes_constant s v cs fit run test m (value.Logical x) a b goes
    leads (tree.Name n) k a b e h goes = reading_leads (read_name s n) (v.named n) k a b (m.named n) e h goes
    leads (tree.Qualified al n) k a b e h goes = reading_leads (read_qualified s al n) (v.qualified al n) k a b
        (m.qualified al n) e h goes
    leads (tree.Call f es) k a b e h goes =
        let w = found (kinds_in s es) (called_kind s f (meaning f)) k e in
        let vs = values_in v es in
        let p = fit_parts fit (all_pieces s es ++ constants (defaults f (tree.count es)))
        (call_pieces (meaning f) (chosen (kinds_in s es))) h in
        let q = fit_parts fit (all_pieces s es) (constants (defaults f (tree.count es))) p.0 in
        let outer = parted cs run (all_pieces s es ++ constants (defaults f (tree.count es)))
        (call_pieces (meaning f) (chosen (kinds_in s es))) a b goes in
        let filled : outer.middle ≡ onto (defaults f (length vs)) (onto vs a) =
        arguments_lead f es a outer.middle (λ c g. all_lead es w.a a c w.there q.0 g) outer.first in
        called_leads f (meaning f) w.a vs k a b refl (kinds_told s v cs fit run test m law es w.a w.there q.0) w.made
        (subst (λ (x : Option (List Kind)). Fit fit (call_pieces (meaning f) (chosen x))) w.there p.1)
        (subst (λ (st : List Value). Goes cs run (call_pieces (meaning f) (choice w.a)) st b) filled
        (subst (λ (x : Option (List Kind)). Goes cs run (call_pieces (meaning f) (chosen x)) outer.middle b) w.there
        outer.last))
    leads (tree.Parentheses e) k a b is h goes = leads e k a b is h goes
    leads (tree.Prefixed p e) k a b is h goes =
        let w = found (kind_in s e) (prefixed_kind p) k is in
        let g = parted cs run (pieces_in s e) (prefix_pieces (prefix_fun p)) a b goes in
        let first = leads e w.a a g.middle w.there
        (fit_parts fit (pieces_in s e) (prefix_pieces (prefix_fun p)) h).0 g.first in
        prefix_leads p (value_in v e) a b
        (subst (λ (st : List Value). Goes cs run (prefix_pieces (prefix_fun p)) st b) first g.last)
    leads (tree.Binary o ta tb) k a b is h goes =
        let w = found (kind_in s ta) (λ one. on_some (kind_in s tb) None (operated_kind o one)) k is in
        let x = found (kind_in s tb) (operated_kind o w.a) k w.made in
        let y = found (operated o w.a x.a) (λ operation. Some (gives_of operation.fun)) k x.made in
        let there = operands_there o (kind_in s ta) (kind_in s tb) w.a x.a y.a w.there x.there y.there in
        let h' : Fit fit (swapped_if y.a.swapped (pieces_in s ta) (pieces_in s tb) ++ operation_pieces y.a) =
        subst (λ (z : Option OperatorMeaning). Fit fit (operator_pieces z (pieces_in s ta) (pieces_in s tb))) there
        h in
        let p = operands_fit fit y.a.swapped (pieces_in s ta) (pieces_in s tb)
        (fit_parts fit (swapped_if y.a.swapped (pieces_in s ta) (pieces_in s tb)) (operation_pieces y.a) h').0 in
        let goes' : Goes cs run (swapped_if y.a.swapped (pieces_in s ta) (pieces_in s tb) ++ operation_pieces y.a) a b =
        subst (λ (z : Option OperatorMeaning). Goes cs run
        (operator_pieces z (pieces_in s ta) (pieces_in s tb)) a b) there goes in
        let g = parted cs run (swapped_if y.a.swapped (pieces_in s ta) (pieces_in s tb))
        (operation_pieces y.a) a b goes' in
        let va = value_in v ta in
        let vb = value_in v tb in
        let first = operands_lead y.a.swapped (pieces_in s ta) (pieces_in s tb) va vb a g.middle
        (λ c d. leads ta w.a c d w.there p.0) (λ c d. leads tb x.a c d x.there p.1) g.first in
        let made = operation_leads y.a va vb a b (two_taken w.a x.a y.a (operated_sound o w.a x.a y.a y.there))
        (subst (λ (st : List Value). Goes cs run (operation_pieces y.a) st b) first g.last) in
        let ka = kind_told s v cs fit run test m law ta w.a w.there p.0 in
        let kb = kind_told s v cs fit run test m law tb x.a x.there p.1 in
        let same : operated o (kind_of va) (kind_of vb) ≡ Some y.a = ap (λ (z : Kind). operated o z (kind_of vb)) ka
        ∙ ap (operated o w.a) kb ∙ y.there in
        made ∙ ap (λ (z : Option OperatorMeaning). on_some z nothing
        (λ operation. operation_value v.settings operation va vb) ∷ a) (sym same)

    pub all_lead : (es : Trees) (ks : List Kind) (a b : List Value) → kinds_in s es ≡ Some ks
        → Fit fit (all_pieces s es) → Goes cs run (all_pieces s es) a b → b ≡ onto (values_in v es) a
    all_lead tree.None ks a b e h goes = goes_nowhere cs run a b goes
    all_lead (tree.More e es) ks a b is h goes =
        let w = found (kind_in s e) (λ k. on_some (kinds_in s es) None (λ others. Some (k ∷ others))) ks is in
        let x = found (kinds_in s es) (λ others. Some (w.a ∷ others)) ks w.made in
        let p = fit_parts fit (pieces_in s e) (all_pieces s es) h in
        let g = parted cs run (pieces_in s e) (all_pieces s es) a b goes in
        all_lead es x.a g.middle b x.there p.1 g.last
        ∙ ap (onto (values_in v es)) (leads e w.a a g.middle w.there p.0 g.first)
