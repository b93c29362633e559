-- Each instruction of an expression's code passes its tests where it runs.
use Rattle.std.proofs.Common.{◌≡◌, Bool, true, false, List, [], ◌∷◌, ◌++◌, length, map, Option, Some, None, refl, sym}
use Rattle.std.proofs.Common.{ap, ◌∙◌, subst}
use Rattle.std.proofs.lemmas.List.{length-map}
use Rattle.std.specs.List.{AllZip}
use Rattle.std.proofs.lemmas.Option.{none-some}
use Rattle.xvalue.specs.declared.kind.Kind.{Kind}
use Rattle.xvalue.specs.declared.kind.Kind.TheVariants as kind
use Rattle.xvalue.specs.declared.fun.Fun.{Fun}
use Rattle.xvalue.specs.declared.fun.Fun.TheVariants as fun
use Rattle.xvalue.specs.declared.fun.NumberFun.TheVariants as number_fun
use Rattle.xvalue.specs.declared.fun.TruthFun.TheVariants as truth_fun
use Rattle.xvalue.specs.declared.value.Value.{Value}
use Rattle.xvalue.specs.declared.value.Value.TheVariants as value
use Rattle.xvalue.specs.Given.{by_kind}
use Rattle.xvalue.specs.Kinds.{kind_of, same_kind}
use Rattle.xvalue.specs.Signature.{takes_of, gives_of}
use Rattle.xvalue.proofs.KindLemmas.{kinds_same}
use Rattle.code_items.specs.declared.instr.Instr.{Instr}
use Rattle.code_items.specs.declared.instr.Instr.TheVariants.{Values, Records}
use Rattle.code_items.specs.declared.instr.ValueInstr.TheVariants as value_instr
use Rattle.code_items.specs.declared.instr.RecordInstr.TheVariants as record_instr
use Rattle.prg_expr.specs.declared.function.Function.{Function}
use Rattle.prg_expr.specs.declared.tree.Prefix.{Prefix}
use Rattle.prg_expr.specs.declared.tree.Prefix.TheVariants.{Not, Negative, Positive}
use Rattle.prg_expr.specs.Tree.{Tree, Trees}
use Rattle.prg_expr.specs.Tree as tree
use Rattle.prg_values.specs.declared.calls.Called.{Called}
use Rattle.prg_values.specs.declared.calls.Called.TheVariants as called
use Rattle.prg_values.specs.declared.operators.OperatorMeaning.{OperatorMeaning}
use Rattle.prg_values.specs.declared.scope.Reading.{Reading}
use Rattle.prg_values.specs.Operators.{operated, prefix_fun}
use Rattle.prg_values.specs.Readings.{Scoped, on_some, read_name, read_qualified}
use Rattle.prg_values.specs.declared.pieces.Piece.{Piece}
use Rattle.prg_values.specs.declared.pieces.Piece.TheVariants.{Constant, Does}
use Rattle.prg_values.specs.Written.{IsPiece, calls, meaning, choice, question_kind, of_none, called_kind}
use Rattle.prg_values.specs.Written.{prefixed_kind, operated_kind, kind_in, kinds_in, reading_pieces, constants, chosen}
use Rattle.prg_values.specs.Written.{call_pieces, prefix_pieces, denial, operation_pieces, operator_pieces}
use Rattle.prg_values.specs.Written.{swapped_if, pieces_in, all_pieces, defaults}
use Rattle.run_steps.proofs.Results.{ResultLaw}
use Rattle.expr_laws.specs.Meaning.{Sight, applied_to, operands, value_in, values_in}
use Rattle.expr_laws.proofs.Defaults.{alone, all_kinds}
use Rattle.expr_laws.proofs.Machines.{Run, Machine, Puts, Goes, parts_of, onto, onto_both, through, all_fit}
use Rattle.expr_laws.proofs.Operands.{in_order, operated_sound, choice_takes}
use Rattle.expr_laws.proofs.Options.{found, passed}
use Rattle.expr_laws.proofs.Passes.{AllPass, both_pass}
use Rattle.expr_laws.proofs.Told.{kind_told, kinds_told, operands_there}
use Rattle.expr_laws.proofs.Trees.{leads, all_lead, function_leads, operands_lead, arguments_lead}

-- what takes no arguments
nothing_taken : {P : Type 0} (ks : List Kind) (x : Option Kind) (k : Kind) → (x ≡ Some k → P) → of_none ks x ≡ Some k
    → P
nothing_taken {P} [] x k made e = made e
nothing_taken {P} (l ∷ ks) x k made e = absurd (none-some k e)

operand_kinds : (swapped : Bool) (a b : Value)
    → map kind_of (operands swapped a b) ≡ in_order swapped (kind_of a) (kind_of b)
operand_kinds true a b = refl
operand_kinds false a b = refl

module _ (s : Scoped) (v : Sight) (cs : List Value) (fit : Instr → Type 0) (fits : (i : Instr) → fit i) (run : Run)
    (test : Instr → List Value → Type 0) (m : Machine s v cs fit run test) (law : ResultLaw) where
  -- blocks of these pieces pass their tests from this stack on
  abbrev Passing : List Piece → List Value → Type 0
  Passing ps st = (block : List Instr) → AllZip (IsPiece cs) ps block → AllPass test run block st

  -- ---- what an expression leaves, and its kind

  led : (e : Tree) (k : Kind) (a b : List Value) → kind_in s e ≡ Some k → Goes cs run (pieces_in s e) a b
      → b ≡ value_in v e ∷ a
  led e k a b is goes = leads s v cs fit run test m law e k a b is (all_fit fit fits (pieces_in s e)) goes

  told : (e : Tree) (k : Kind) → kind_in s e ≡ Some k → kind_of (value_in v e) ≡ k
  told e k is = kind_told s v cs fit run test m law e k is (all_fit fit fits (pieces_in s e))

  -- ---- pieces

  none_pass : (st : List Value) (block : List Instr) → AllZip (IsPiece cs) [] block → AllPass test run block st
  none_pass st [] are = tt
  none_pass st (i ∷ is) are = absurd are

  does_pass : (j : Instr) (st : List Value) → test j st → (block : List Instr) → AllZip (IsPiece cs) (Does j ∷ []) block
      → AllPass test run block st
  does_pass j st h [] are = absurd are
  does_pass j st h (i ∷ []) are = (subst (λ (x : Instr). test x st) (sym are.0) h, tt)
  does_pass j st h (i ∷ i2 ∷ is) are = absurd are.1

  constant_pass : (c : Value) (st : List Value) (block : List Instr) → AllZip (IsPiece cs) (Constant c ∷ []) block
      → AllPass test run block st
  constant_pass c st [] are = absurd are
  constant_pass c st (i ∷ []) are =
      (subst (λ (x : Instr). test x st) (sym are.0.2) (m.constant_passes are.0.0 c st are.0.1), tt)
  constant_pass c st (i ∷ i2 ∷ is) are = absurd are.1

  -- pieces behind pieces
  then_pass : (ps qs : List Piece) (st : List Value) → Passing ps st
      → ((c : List Value) → Goes cs run ps st c → Passing qs c) → Passing (ps ++ qs) st
  then_pass ps qs st one other = λ block are.
      let w = parts_of cs run ps qs block st (through run block st) are refl in
      subst (λ (is : List Instr). AllPass test run is st) (sym w.whole)
      (both_pass test run w.first.block w.last.block st (one w.first.block w.first.are)
      (subst (λ (c : List Value). AllPass test run w.last.block c) w.first.leads
      (other w.middle w.first w.last.block w.last.are)))

  constants_pass : (values : List Value) (st : List Value) → Passing (constants values) st
  constants_pass [] st = none_pass st
  constants_pass (c ∷ values) st = then_pass (Constant c ∷ []) (constants values) st (constant_pass c st)
      (λ d goes. constants_pass values d)

  reading_passes : (x : Option Reading) (c : Value) (st : List Value)
      → ((r : Reading) → x ≡ Some r → fit r.instr → Puts run test r c) → Passing (reading_pieces x) st
  reading_passes None c st puts = none_pass st
  reading_passes (Some r) c st puts = does_pass r.instr st ((puts r refl (fits r.instr)).passes st)

  -- ---- functions by name

  called_passes : (f : Function) (c : Called) (ks : List Kind) (vs : List Value) (k : Kind) (st : List Value)
      → meaning f ≡ c → map kind_of vs ≡ ks → called_kind s f c ks ≡ Some k
      → Passing (call_pieces c (choice ks)) (onto (defaults f (length vs)) (onto vs st))
  called_passes f (called.Function g) ks vs k st is same e =
      subst (λ (d : List Value). Passing (calls g ∷ []) d) (sym (onto_both vs (defaults f (length vs)) st))
      (does_pass (Values (value_instr.Function g)) (onto (vs ++ defaults f (length vs)) st)
      (m.function_passes g (vs ++ defaults f (length vs)) st (all_kinds f g ks vs k same e)))
  called_passes f (called.Question q) ks vs k st is same e =
      let d = onto (defaults f (length vs)) (onto vs st) in
      does_pass (Records (record_instr.Ask q)) d
      (nothing_taken ks (question_kind s q) k
      (λ known. (m.asked q k known (fits (Records (record_instr.Ask q)))).passes d) e)
  called_passes f called.Today ks vs k st is same e =
      let d = onto (defaults f (length vs)) (onto vs st) in
      does_pass (Values value_instr.Today) d (m.today_passes d)
  called_passes f called.Choice ks vs k st is same e =
      let w = found (choice ks) (λ g. Some (gives_of g)) k e in
      subst (λ (x : Option Fun). Passing (call_pieces called.Choice x) (onto (defaults f (length vs)) (onto vs st)))
      (sym w.there)
      (subst (λ (d : List Value). Passing (calls w.a ∷ []) d)
      (sym (alone f called.Choice (length vs) (onto vs st) is refl))
      (does_pass (Values (value_instr.Function w.a)) (onto vs st)
      (m.function_passes w.a vs st (same ∙ choice_takes ks w.a w.there))))

  -- ---- operators

  prefix_passes : (p : Prefix) (k0 k : Kind) (c : Value) (st : List Value) → kind_of c ≡ k0
      → prefixed_kind p k0 ≡ Some k → Passing (prefix_pieces (prefix_fun p)) (c ∷ st)
  prefix_passes Not k0 k c st same e =
      does_pass (Values (value_instr.Function (fun.ToTruth truth_fun.Not))) (c ∷ st)
      (m.function_passes (fun.ToTruth truth_fun.Not) (c ∷ []) st
      (ap (λ (l : Kind). l ∷ []) (same ∙ kinds_same k0 kind.Logical
      (passed (same_kind k0 kind.Logical) (Some kind.Logical) k e).holds)))
  prefix_passes Negative k0 k c st same e =
      does_pass (Values (value_instr.Function (fun.ToNumber number_fun.Neg))) (c ∷ st)
      (m.function_passes (fun.ToNumber number_fun.Neg) (c ∷ []) st
      (ap (λ (l : Kind). l ∷ []) (same ∙ kinds_same k0 kind.Number
      (passed (same_kind k0 kind.Number) (Some kind.Number) k e).holds)))
  prefix_passes Positive k0 k c st same e = none_pass (c ∷ st)

  denial_passes : (negated : Bool) (c : Value) (st : List Value) → (negated ≡ true → kind_of c ≡ kind.Logical)
      → Passing (denial negated) (c ∷ st)
  denial_passes true c st h = does_pass (Values (value_instr.Function (fun.ToTruth truth_fun.Not))) (c ∷ st)
      (m.function_passes (fun.ToTruth truth_fun.Not) (c ∷ []) st (ap (λ (l : Kind). l ∷ []) (h refl)))
  denial_passes false c st h = none_pass (c ∷ st)

  operation_passes : (o : OperatorMeaning) (vs : List Value) (st : List Value) → map kind_of vs ≡ takes_of o.fun
      → length (takes_of o.fun) ≡ length vs → (o.negated ≡ true → gives_of o.fun ≡ kind.Logical)
      → Passing (operation_pieces o) (onto vs st)
  operation_passes o vs st kinds many denies =
      then_pass (calls o.fun ∷ []) (denial o.negated) (onto vs st)
      (does_pass (Values (value_instr.Function o.fun)) (onto vs st) (m.function_passes o.fun vs st kinds))
      (λ c goes. subst (λ (d : List Value). Passing (denial o.negated) d)
      (sym (function_leads s v cs fit run test m law o.fun vs st c many goes))
      (denial_passes o.negated (applied_to v.settings o.fun vs) st (λ n. law o.fun v.settings (by_kind vs) ∙ denies n)))

  -- the operands in the order that the function takes them
  turned_pass : (swapped : Bool) (ps qs : List Piece) (st : List Value) → ((c : List Value) → Passing ps c)
      → ((c : List Value) → Passing qs c) → Passing (swapped_if swapped ps qs) st
  turned_pass true ps qs st one other = then_pass qs ps st (other st) (λ c goes. one c)
  turned_pass false ps qs st one other = then_pass ps qs st (one st) (λ c goes. other c)

  -- ---- along the tree

  mutual
    pub tree_passes : (e : Tree) (k : Kind) (st : List Value) → kind_in s e ≡ Some k → Passing (pieces_in s e) st
    tree_passes (tree.Number n) k st e = constant_pass (value.Number n) st
    tree_passes (tree.Text t) k st e = constant_pass (value.Text (record { items = t })) st
    tree_passes (tree.Logical x) k st e = constant_pass (value.Logical x) st
    tree_passes (tree.Name n) k st e = reading_passes (read_name s n) (v.named n) st (m.named n)
    tree_passes (tree.Qualified al n) k st e = reading_passes (read_qualified s al n) (v.qualified al n) st
        (m.qualified al n)
    tree_passes (tree.Call f es) k st e =
        let w = found (kinds_in s es) (called_kind s f (meaning f)) k e in
        let vs = values_in v es in
        let all = all_fit fit fits (all_pieces s es) in
        then_pass (all_pieces s es ++ constants (defaults f (tree.count es)))
        (call_pieces (meaning f) (chosen (kinds_in s es))) st
        (then_pass (all_pieces s es) (constants (defaults f (tree.count es))) st (trees_pass es w.a st w.there)
        (λ c goes. constants_pass (defaults f (tree.count es)) c))
        (λ c goes. subst (λ (x : Option (List Kind)). Passing (call_pieces (meaning f) (chosen x)) c) (sym w.there)
        (subst (λ (d : List Value). Passing (call_pieces (meaning f) (choice w.a)) d)
        (sym (arguments_lead s v cs fit run test m law f es st c
        (λ d more. all_lead s v cs fit run test m law es w.a st d w.there all more) goes))
        (called_passes f (meaning f) w.a vs k st refl
        (kinds_told s v cs fit run test m law es w.a w.there all) w.made)))
    tree_passes (tree.Parentheses e) k st is = tree_passes e k st is
    tree_passes (tree.Prefixed p e) k st is =
        let w = found (kind_in s e) (prefixed_kind p) k is in
        then_pass (pieces_in s e) (prefix_pieces (prefix_fun p)) st (tree_passes e w.a st w.there)
        (λ c goes. subst (λ (d : List Value). Passing (prefix_pieces (prefix_fun p)) d)
        (sym (led e w.a st c w.there goes)) (prefix_passes p w.a k (value_in v e) st (told e w.a w.there) w.made))
    tree_passes (tree.Binary o ta tb) k st is =
        let w = found (kind_in s ta) (λ one. on_some (kind_in s tb) None (operated_kind o one)) k is in
        let x = found (kind_in s tb) (operated_kind o w.a) k w.made in
        let y = found (operated o w.a x.a) (λ operation. Some (gives_of operation.fun)) k x.made in
        let there = operands_there o (kind_in s ta) (kind_in s tb) w.a x.a y.a w.there x.there y.there in
        let sound = operated_sound o w.a x.a y.a y.there in
        let vs = operands y.a.swapped (value_in v ta) (value_in v tb) in
        let kinds : map kind_of vs ≡ takes_of y.a.fun =
        operand_kinds y.a.swapped (value_in v ta) (value_in v tb)
        ∙ ap (λ (l : Kind). in_order y.a.swapped l (kind_of (value_in v tb))) (told ta w.a w.there)
        ∙ ap (in_order y.a.swapped w.a) (told tb x.a x.there) ∙ sound.takes in
        let many : length (takes_of y.a.fun) ≡ length vs = sym (ap (λ (ls : List Kind). length ls) kinds)
        ∙ length-map vs kind_of in
        subst (λ (z : Option OperatorMeaning). Passing (operator_pieces z (pieces_in s ta) (pieces_in s tb)) st)
        (sym there)
        (then_pass (swapped_if y.a.swapped (pieces_in s ta) (pieces_in s tb)) (operation_pieces y.a) st
        (turned_pass y.a.swapped (pieces_in s ta) (pieces_in s tb) st (λ c. tree_passes ta w.a c w.there)
        (λ c. tree_passes tb x.a c x.there))
        (λ c goes. subst (λ (d : List Value). Passing (operation_pieces y.a) d)
        (sym (operands_lead s v cs fit run test m law y.a.swapped (pieces_in s ta) (pieces_in s tb) (value_in v ta)
        (value_in v tb) st c (λ a b. led ta w.a a b w.there) (λ a b. led tb x.a a b x.there) goes))
        (operation_passes y.a vs st kinds many sound.denies)))

    trees_pass : (es : Trees) (ks : List Kind) (st : List Value) → kinds_in s es ≡ Some ks
        → Passing (all_pieces s es) st
    trees_pass tree.None ks st e = none_pass st
    trees_pass (tree.More e es) ks st is =
        let w = found (kind_in s e) (λ k. on_some (kinds_in s es) None (λ others. Some (k ∷ others))) ks is in
        let x = found (kinds_in s es) (λ others. Some (w.a ∷ others)) ks w.made in
        then_pass (pieces_in s e) (all_pieces s es) st (tree_passes e w.a st w.there)
        (λ c goes. trees_pass es x.a c x.there)
