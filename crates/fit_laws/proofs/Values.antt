-- What instructions on values and on the screen leave is true of the values afterwards.
use Rattle.std.proofs.Common.{◌≡◌, ◌<◌, ℕ, zero, suc, true, false, not, List, [], ◌∷◌, ◌++◌, length, map, drop, Option}
use Rattle.std.proofs.Common.{Some, None, refl, sym, ap, ◌∙◌, subst, arith}
use Rattle.std.specs.Prelude.{nat_lt, nat_le, slice_get, slice_set}
use Rattle.std.proofs.lemmas.Bool.{and_parts, and_from, or_parts, not-false, leb-false}
use Rattle.std.proofs.lemmas.List.{length-map, drop-map}
use Rattle.text_lines.specs.Lines.{next_line}
use Rattle.xvalue.specs.declared.kind.Kind.{Kind}
use Rattle.xvalue.specs.declared.kind.Kind.TheVariants.{Text as OfText, Date as OfDate}
use Rattle.xvalue.specs.declared.value.Value.{Value}
use Rattle.xvalue.specs.declared.value.Value.TheVariants.{Text, Date}
use Rattle.xvalue.specs.Answers.{answered}
use Rattle.xvalue.specs.Functions.{applied}
use Rattle.xvalue.specs.Given.{by_kind}
use Rattle.xvalue.specs.Kinds.{kind_of, same_kind}
use Rattle.xvalue.specs.Signature.{takes_of, gives_of}
use Rattle.xvalue.proofs.KindLemmas.{kinds_same}
use Rattle.code_items.specs.declared.code.Code.{Code}
use Rattle.code_items.specs.Kinds.{clashes, slot_covered, slots_covered}
use Rattle.code_items.specs.declared.instr.ValueInstr.{ValueInstr}
use Rattle.code_items.specs.declared.instr.ValueInstr.TheVariants.{Constant, Load, Store, Unset, Discard, Function}
use Rattle.code_items.specs.declared.instr.ValueInstr.TheVariants.{Today, Set}
use Rattle.code_items.specs.declared.instr.ScreenInstr.{ScreenInstr}
use Rattle.code_items.specs.declared.instr.ScreenInstr.TheVariants.{NewLine, Print, Say, SayOn, Input, Line, Clear}
use Rattle.code_items.specs.declared.instr.Instr.TheVariants.{Values}
use Rattle.code_rules.specs.Signature.{value_signature, screen_signature}
use Rattle.code_rules.specs.Wants.{value_wants, screen_wants, value_gives, screen_gives, known}
use Rattle.code_rules.specs.Flow.{slots_after_value}
use Rattle.code_rules.specs.Rules.{has_other, is_free, value_undeclared}
use Rattle.run_values.specs.Tagged.{TaggedValues, HoldsKind, pushed, dropped, loaded_value, stored_top, arguments_on}
use Rattle.run_steps.specs.World.{World, EnvState, state_of, kind_held}
use Rattle.run_steps.specs.Effects.{on_value, with_pushed, value_values, screen_values}
use Rattle.run_steps.specs.Needs.{LoadNeeds}
use Rattle.run_steps.proofs.Results.{ResultLaw}
use Rattle.fit_laws.proofs.Covered.{joined}
use Rattle.code_rules.proofs.Covering.{kind_self}
use Rattle.fit_laws.proofs.Filters.{Legal}
use Rattle.fit_laws.proofs.Loads.{LoadsWell}

-- these slots and this stack are true of the values
pub record Tells (slots : List (Option Kind)) (stack : List Kind) (t : TaggedValues) : Type 0 where
  pub slots_true : slots_covered slots (map kind_held t.slots) ≡ true
  pub stack_true : stack ≡ map kind_of t.stack

-- ---- what a loaded slot holds

held : (k : Kind) (slots : List (Option Value)) (n : ℕ) → n < length slots
    → has_other k (slice_get (map kind_held slots) n) ≡ false → is_free (slice_get (map kind_held slots) n) ≡ false
    → HoldsKind k (slice_get slots n)
held k [] n lt e f = absurd (omega (arith, lt))
held k (None ∷ slots) zero lt e f = absurd (cc)
held k (None ∷ slots) (suc n) lt e f = held k slots n (omega (arith, lt)) e f
held k (Some value ∷ slots) zero lt e f = kinds_same (kind_of value) k (not-false (same_kind (kind_of value) k) e)
held k (Some value ∷ slots) (suc n) lt e f = held k slots n (omega (arith, lt)) e f

slot_within : (code : Code) (w : World) (n : ℕ) → Legal code.declared (state_of w)
    → nat_le code.declared.slots n ≡ false → n < length w.values.slots
slot_within code w n l e =
    let a : n < code.declared.slots = leb-false code.declared.slots n e in
    let b : length (map kind_held w.values.slots) ≡ code.declared.slots = l.slots in
    let c : length (map kind_held w.values.slots) ≡ length w.values.slots = length-map w.values.slots kind_held in
    omega (arith, a, b, c)

pub holds : (code : Code) (w : World) (i : ValueInstr) → Legal code.declared (state_of w)
    → LoadsWell (state_of w) (Values i) → value_undeclared code.declared i ≡ false → LoadNeeds i w.values
holds code w (Constant n) l h e = tt
holds code w (Load k n) l h e = held k w.values.slots n (slot_within code w n l e) h.other h.set
holds code w (Store k n) l h e = tt
holds code w (Unset n) l h e = tt
holds code w (Discard k) l h e = tt
holds code w (Function f) l h e = tt
holds code w Today l h e = tt
holds code w (Set x on) l h e = tt

-- ---- one change of values

pub push_told : (slots : List (Option Kind)) (stack : List Kind) (t : TaggedValues) (k : Kind) (value : Value)
    → kind_of value ≡ k → Tells slots stack t → Tells slots (k ∷ stack) (pushed value t)
push_told slots stack t k value e h = record {
  slots_true = h.slots_true;
  stack_true = joined k (kind_of value) stack (map kind_of t.stack) (sym e) h.stack_true;
}

pub drop_told : (n : ℕ) (slots : List (Option Kind)) (stack : List Kind) (t : TaggedValues) → Tells slots stack t
    → Tells slots (drop n stack) (dropped n t)
drop_told n slots stack t h = record {
  slots_true = h.slots_true;
  stack_true = ap (drop n) h.stack_true ∙ drop-map kind_of n t.stack;
}

set_told : (o : Option Kind) (x : Option Value) → slot_covered (o, kind_held x) ≡ true
    → (as' : List (Option Kind)) (bs : List (Option Value)) (n : ℕ) → slots_covered as' (map kind_held bs) ≡ true
    → slots_covered (slice_set as' n o) (map kind_held (slice_set bs n x)) ≡ true
set_told o x e [] [] n c = c
set_told o x e [] (b ∷ bs) n c = absurd (cc)
set_told o x e (a ∷ as') [] n c = absurd (cc)
set_told o x e (a ∷ as') (b ∷ bs) zero c =
    and_from (slot_covered (o, kind_held x)) (slots_covered as' (map kind_held bs)) e
    (and_parts (slot_covered (a, kind_held b)) (slots_covered as' (map kind_held bs)) c).1
set_told o x e (a ∷ as') (b ∷ bs) (suc n) c =
    let p = and_parts (slot_covered (a, kind_held b)) (slots_covered as' (map kind_held bs)) c in
    and_from (slot_covered (a, kind_held b)) (slots_covered (slice_set as' n o) (map kind_held (slice_set bs n x))) p.0
    (set_told o x e as' bs n p.1)

slot_kind : (k : Kind) (value : Value) → kind_of value ≡ k → slot_covered (Some k, kind_held (Some value)) ≡ true
slot_kind k value e = subst (λ x. same_kind x (kind_of value) ≡ true) e (kind_self (kind_of value))

-- ---- the value on top

abbrev first : Kind → List Kind → Kind
first k [] = k
first k (l ∷ ls) = l

record OnTop (k : Kind) (values : List Value) : Type 0 where
  pub value : Value
  pub rest : List Value
  pub is : values ≡ value ∷ rest
  pub kind : kind_of value ≡ k

on_top : (k : Kind) (stack : List Kind) (values : List Value) → stack ≡ map kind_of values
    → clashes (k ∷ []) stack ≡ false → nat_lt (length stack) 1 ≡ false → OnTop k values
on_top k [] values e c n = absurd (cc)
on_top k (l ∷ ls) [] e c n = absurd (cc)
on_top k (l ∷ ls) (value ∷ values) e c n =
    let same : l ≡ k = kinds_same l k (not-false (same_kind l k) (or_parts (not (same_kind l k)) false c).0) in
    record { value = value; rest = values; is = refl; kind = sym (ap (first k) e) ∙ same }

stored_told : (slots : List (Option Kind)) (stack : List Kind) (t : TaggedValues) (k : Kind) (n : ℕ)
    → Tells slots stack t → (o : OnTop k t.stack)
    → Tells (slice_set slots n (Some k)) (drop 1 stack) (stored_top n t.stack t)
stored_told slots stack t k n h o =
    let s : slots_covered (slice_set slots n (Some k)) (map kind_held (slice_set t.slots n (Some o.value))) ≡ true =
    set_told (Some k) (Some o.value) (slot_kind k o.value o.kind) slots t.slots n h.slots_true in
    let r : drop 1 stack ≡ map kind_of o.rest = ap (drop 1) (h.stack_true ∙ ap (map kind_of) o.is) in
    let made : Tells (slice_set slots n (Some k)) (drop 1 stack) (stored_top n (o.value ∷ o.rest) t) = record {
      slots_true = s;
      stack_true = r;
    } in
    subst (λ (values : List Value). Tells (slice_set slots n (Some k)) (drop 1 stack) (stored_top n values t))
    (sym o.is) made

-- ---- instructions on values

constant_told : (slots : List (Option Kind)) (stack : List Kind) (t : TaggedValues) (o : Option Value)
    → Tells slots stack t → Tells slots (known (Some (kind_held o)) ++ stack) (with_pushed o t)
constant_told slots stack t None h = h
constant_told slots stack t (Some value) h = push_told slots stack t (kind_of value) value refl h

load_told : (slots : List (Option Kind)) (stack : List Kind) (t : TaggedValues) (k : Kind) (o : Option (Option Value))
    → HoldsKind k o → Tells slots stack t → Tells slots (k ∷ stack) (loaded_value o t)
load_told slots stack t k None e h = absurd e
load_told slots stack t k (Some None) e h = absurd e
load_told slots stack t k (Some (Some value)) e h = push_told slots stack t k value e h

-- an answer has the kind of the old value
abbrev pub AnswerLaw : Type 0
AnswerLaw = (old : Value) (line : List ℕ) → kind_of (answered old line) ≡ kind_of old

pub value_told : (code : Code) → ResultLaw
    → (slots : List (Option Kind)) (stack : List Kind) (t : TaggedValues) (e : EnvState) (i : ValueInstr)
    → Tells slots stack t
    → clashes (value_wants i) stack ≡ false → nat_lt (length stack) (value_signature i).taken ≡ false → LoadNeeds i t
    → Tells (slots_after_value i slots) (known (value_gives code.declared i) ++ drop (value_signature i).taken stack)
    (value_values code i t e)
value_told code law slots stack t e (Constant n) h c u l =
    constant_told slots stack t (slice_get code.declared.constants n) h
value_told code law slots stack t e (Load k n) h c u l = load_told slots stack t k (slice_get t.slots n) l h
value_told code law slots stack t e (Store k n) h c u l =
    stored_told slots stack t k n h (on_top k stack t.stack h.stack_true c u)
value_told code law slots stack t e (Unset n) h c u l = record {
  slots_true = set_told None None refl slots t.slots n h.slots_true;
  stack_true = h.stack_true;
}
value_told code law slots stack t e (Discard k) h c u l = drop_told 1 slots stack t h
value_told code law slots stack t e (Function f) h c u l =
    push_told slots (drop (length (takes_of f)) stack) (dropped (length (takes_of f)) t) (gives_of f)
    (applied f e.settings (by_kind (arguments_on f t.stack))) (law f e.settings (by_kind (arguments_on f t.stack)))
    (drop_told (length (takes_of f)) slots stack t h)
value_told code law slots stack t e Today h c u l = push_told slots stack t OfDate (Date e.today) refl h
value_told code law slots stack t e (Set x on) h c u l = h

-- ---- instructions on the screen

input_told : (slots : List (Option Kind)) (stack : List Kind) (t : TaggedValues) (k : Kind) (line : List ℕ) → AnswerLaw
    → Tells slots stack t → OnTop k t.stack
    → Tells slots (k ∷ drop 1 stack)
    (on_value (slice_get t.stack 0) t (λ old. pushed (answered old line) (dropped 1 t)))
input_told slots stack t k line law h o =
    let made =
    push_told slots (drop 1 stack) (dropped 1 t) k (answered o.value line) (law o.value line ∙ o.kind)
    (drop_told 1 slots stack t h) in
    subst (λ (x : Option Value). Tells slots (k ∷ drop 1 stack)
    (on_value x t (λ old. pushed (answered old line) (dropped 1 t))))
    (sym (ap (λ (values : List Value). slice_get values 0) o.is)) made

pub screen_told : AnswerLaw
    → (slots : List (Option Kind)) (stack : List Kind) (t : TaggedValues) (e : EnvState) (i : ScreenInstr)
    → Tells slots stack t
    → clashes (screen_wants i) stack ≡ false → nat_lt (length stack) (screen_signature i).taken ≡ false
    → Tells slots (known (screen_gives i) ++ drop (screen_signature i).taken stack) (screen_values i t e)
screen_told law slots stack t e NewLine h c u = h
screen_told law slots stack t e (Print k) h c u = drop_told 1 slots stack t h
screen_told law slots stack t e (Say k) h c u = drop_told 3 slots stack t h
screen_told law slots stack t e (SayOn k) h c u = drop_told 1 slots stack t h
screen_told law slots stack t e (Input k) h c u =
    input_told slots stack t k (next_line e.lines) law h (on_top k stack t.stack h.stack_true c u)
screen_told law slots stack t e Line h c u =
    push_told slots stack t OfText (Text (record { items = next_line e.lines })) refl h
screen_told law slots stack t e Clear h c u = h
