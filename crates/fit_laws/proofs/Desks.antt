-- The tests of the work areas: where the area that has to be open is known to be, they say the same of what it covers.
use Rattle.std.proofs.Common.{◌≡◌, ℕ, ◌+◌, Bool, true, false, not, ◌&&◌, ◌||◌, ◌==◌, List, [], ◌∷◌, Option, Some, None}
use Rattle.std.proofs.Common.{length, refl, ap, subst}
use Rattle.std.specs.Prelude.{is_none, nat_lt, nat_le, slice_get}
use Rattle.std.proofs.lemmas.Bool.{and_parts, or_parts, or_from}
use Rattle.code_items.specs.declared.declared.Declared.{Declared}
use Rattle.code_items.specs.declared.code.Code.{Code}
use Rattle.code_items.specs.declared.desk.AreaState.{AreaState}
use Rattle.code_items.specs.declared.desk.AreaState.TheVariants.{Closed, Open as IsOpen, Unsure}
use Rattle.code_items.specs.declared.desk.Desk.{Desk}
use Rattle.code_items.specs.Desks.{area_covered, areas_covered, open_at}
use Rattle.code_items.specs.States.{opened_by}
use Rattle.code_items.specs.declared.instr.AreaInstr.{AreaInstr}
use Rattle.code_items.specs.declared.instr.AreaInstr.TheVariants.{Open, Close, CloseAll, Select, Order, Filter}
use Rattle.code_items.specs.declared.instr.MoveInstr.{MoveInstr}
use Rattle.code_items.specs.declared.instr.MoveInstr.TheVariants.{Top, Bottom, Skip, Go, Seek}
use Rattle.code_items.specs.declared.instr.RecordInstr.{RecordInstr}
use Rattle.code_items.specs.declared.instr.RecordInstr.TheVariants.{Field, RowField, Ask, Append, Replace, Delete}
use Rattle.code_items.specs.declared.instr.RecordInstr.TheVariants.{Recall, Pack, Zap, Reindex, Index}
use Rattle.code_items.specs.declared.instr.Instr.{Instr}
use Rattle.code_items.specs.declared.instr.Instr.TheVariants.{Values, Flow, Screen, Areas, Moves, Records}
use Rattle.code_rules.specs.Signature.{area_of, area_area, record_area}
use Rattle.code_rules.specs.Wants.{wants, record_wants, if_known, kind_of_field, fields_at}
use Rattle.code_rules.specs.Rules.{fails_if_named, fails_if_open, is_other_list, is_other_filter, record_is_other}
use Rattle.code_rules.specs.Rules.{area_order_fails, move_order_fails, order_fails, may_hold, others_hold}
use Rattle.code_rules.specs.Rules.{area_opens_twice, opens_twice, is_rows, record_is_rows, record_undeclared}
use Rattle.code_rules.specs.Rules.{undeclared}
use Rattle.run_steps.specs.Faults.{area_filters_other}
use Rattle.fit_laws.proofs.Covered.{Desks, opens, selects, area_same}

-- the area that has to be open is known to be
abbrev pub IsKnown : Desk → Instr → Type 0
IsKnown desk i = fails_if_named (λ n. is_none (open_at desk n)) (area_of desk i) ≡ false

-- ---- that area

area_of_same : (m s : Desk) → m.selected ≡ s.selected → (i : Instr) → area_of m i ≡ area_of s i
area_of_same m s e (Values i) = refl
area_of_same m s e (Flow i) = refl
area_of_same m s e (Screen i) = refl
area_of_same m s e (Areas i) = ap (λ n. area_area n i) e
area_of_same m s e (Moves i) = ap Some e
area_of_same m s e (Records i) = ap (λ n. record_area n i) e

there_too : (m s : Desk) → Desks m s → (o : Option ℕ) → fails_if_named (λ n. is_none (open_at m n)) o ≡ false
    → fails_if_named (λ n. is_none (open_at s n)) o ≡ false
there_too m s d None e = refl
there_too m s d (Some n) e = subst (λ o. is_none o ≡ false) (opens m s d n e) e

pub known_too : (m s : Desk) → Desks m s → (i : Instr) → IsKnown m i → IsKnown s i
known_too m s d i e =
    subst (λ o. fails_if_named (λ n. is_none (open_at s n)) o ≡ false) (area_of_same m s d.selected i)
    (there_too m s d (area_of m i) e)

-- ---- the kinds that are wanted

record_wants_same : (d : Declared) (m s : Desk) → Desks m s → (i : RecordInstr) → IsKnown m (Records i)
    → record_wants d m i ≡ record_wants d s i
record_wants_same d m s c (Field a f) e = refl
record_wants_same d m s c (RowField f) e = refl
record_wants_same d m s c (Ask q) e = refl
record_wants_same d m s c Append e = refl
record_wants_same d m s c (Replace f) e =
    ap (λ o. if_known (kind_of_field (slice_get (fields_at d o) f))) (selects m s c e)
record_wants_same d m s c Delete e = refl
record_wants_same d m s c Recall e = refl
record_wants_same d m s c Pack e = refl
record_wants_same d m s c Zap e = refl
record_wants_same d m s c Reindex e = refl
record_wants_same d m s c (Index l) e = refl

pub wants_same : (d : Declared) (m s : Desk) → Desks m s → (i : Instr) → IsKnown m i → wants d m i ≡ wants d s i
wants_same d m s c (Values i) e = refl
wants_same d m s c (Flow i) e = refl
wants_same d m s c (Screen i) e = refl
wants_same d m s c (Areas i) e = refl
wants_same d m s c (Moves i) e = refl
wants_same d m s c (Records i) e = record_wants_same d m s c i e

-- ---- orders

area_order_same : (d : Declared) (m s : Desk) → Desks m s → (i : AreaInstr) → IsKnown m (Areas i)
    → area_order_fails d m i ≡ area_order_fails d s i
area_order_same d m s c (Open t l) e = refl
area_order_same d m s c Close e = refl
area_order_same d m s c CloseAll e = refl
area_order_same d m s c (Select a) e = refl
area_order_same d m s c (Order n) e = ap (fails_if_open (λ a. nat_lt (opened_by d a.list) n)) (selects m s c e)
area_order_same d m s c (Filter n) e = refl

move_order_same : (m s : Desk) → Desks m s → (i : MoveInstr) → IsKnown m (Moves i)
    → move_order_fails m i ≡ move_order_fails s i
move_order_same m s c Top e = refl
move_order_same m s c Bottom e = refl
move_order_same m s c Skip e = refl
move_order_same m s c Go e = refl
move_order_same m s c Seek e = ap (fails_if_open (λ a. a.order == 0)) (selects m s c e)

pub order_same : (d : Declared) (m s : Desk) → Desks m s → (i : Instr) → IsKnown m i
    → order_fails d m i ≡ order_fails d s i
order_same d m s c (Values i) e = refl
order_same d m s c (Flow i) e = refl
order_same d m s c (Screen i) e = refl
order_same d m s c (Areas i) e = area_order_same d m s c i e
order_same d m s c (Moves i) e = move_order_same m s c i e
order_same d m s c (Records i) e = refl

-- ---- tables opened twice: what may hold the table is held against it

holds_on : (t : ℕ) (a b : AreaState) → area_covered (a, b) ≡ true → may_hold t a ≡ false → may_hold t b ≡ false
holds_on t Unsure b c e = absurd (cc)
holds_on t Closed Closed c e = refl
holds_on t Closed (IsOpen b) c e = absurd (cc)
holds_on t Closed Unsure c e = absurd (cc)
holds_on t (IsOpen a) Closed c e = absurd (cc)
holds_on t (IsOpen a) Unsure c e = absurd (cc)
holds_on t (IsOpen a) (IsOpen b) c e = subst (λ x. (x.table == t) ≡ false) (area_same a b c) e

-- the second is false where the first is not: so too where both stand behind the same test
behind : (x a b : Bool) → (a ≡ false → b ≡ false) → (x && a) ≡ false → (x && b) ≡ false
behind true a b f e = f e
behind false a b f e = refl

others_on : (t selected number : ℕ) (as' bs : List AreaState) → areas_covered as' bs ≡ true
    → others_hold t selected number as' ≡ false → others_hold t selected number bs ≡ false
others_on t selected number [] [] c e = refl
others_on t selected number [] (b ∷ bs) c e = absurd (cc)
others_on t selected number (a ∷ as') [] c e = absurd (cc)
others_on t selected number (a ∷ as') (b ∷ bs) c e =
    let p = and_parts (area_covered (a, b)) (areas_covered as' bs) c in
    let q = or_parts (not (number == selected) && may_hold t a) (others_hold t selected (number + 1) as') e in
    or_from (not (number == selected) && may_hold t b) (others_hold t selected (number + 1) bs)
    (behind (not (number == selected)) (may_hold t a) (may_hold t b) (holds_on t a b p.0) q.0)
    (others_on t selected (number + 1) as' bs p.1 q.1)

area_once : (m s : Desk) → Desks m s → (i : AreaInstr) → area_opens_twice m i ≡ false → area_opens_twice s i ≡ false
area_once m s c (Open t l) e =
    subst (λ n. others_hold t n 1 s.areas ≡ false) c.selected (others_on t m.selected 1 m.areas s.areas c.areas e)
area_once m s c Close e = refl
area_once m s c CloseAll e = refl
area_once m s c (Select a) e = refl
area_once m s c (Order n) e = refl
area_once m s c (Filter n) e = refl

pub once : (m s : Desk) → Desks m s → (i : Instr) → opens_twice m i ≡ false → opens_twice s i ≡ false
once m s c (Values i) e = refl
once m s c (Flow i) e = refl
once m s c (Screen i) e = refl
once m s c (Areas i) e = area_once m s c i e
once m s c (Moves i) e = refl
once m s c (Records i) e = refl

-- ---- what is declared

record_declared_same : (d : Declared) (m s : Desk) → Desks m s → (i : RecordInstr) → IsKnown m (Records i)
    → record_is_rows i ≡ false → record_undeclared d m i ≡ record_undeclared d s i
record_declared_same d m s c (Field a f) e r =
    ap (fails_if_open (λ x. nat_le (length (fields_at d (Some x))) f)) (opens m s c a e)
record_declared_same d m s c (RowField f) e r = absurd (cc)
record_declared_same d m s c (Ask q) e r = refl
record_declared_same d m s c Append e r = refl
record_declared_same d m s c (Replace f) e r =
    ap (fails_if_open (λ x. nat_le (length (fields_at d (Some x))) f)) (selects m s c e)
record_declared_same d m s c Delete e r = refl
record_declared_same d m s c Recall e r = refl
record_declared_same d m s c Pack e r = refl
record_declared_same d m s c Zap e r = refl
record_declared_same d m s c Reindex e r = refl
record_declared_same d m s c (Index l) e r = refl

pub declared_same : (code : Code) (m s : Desk) → Desks m s → (i : Instr) → IsKnown m i → is_rows i ≡ false
    → undeclared code m i ≡ undeclared code s i
declared_same code m s c (Values i) e r = refl
declared_same code m s c (Flow i) e r = refl
declared_same code m s c (Screen i) e r = refl
declared_same code m s c (Areas i) e r = refl
declared_same code m s c (Moves i) e r = refl
declared_same code m s c (Records i) e r = record_declared_same code.declared m s c i e r

-- ---- lists and filters of another table

pub record_other_same : (d : Declared) (m s : Desk) → Desks m s → (i : RecordInstr) → IsKnown m (Records i)
    → record_is_other d m i ≡ record_is_other d s i
record_other_same d m s c (Field a f) e = refl
record_other_same d m s c (RowField f) e = refl
record_other_same d m s c (Ask q) e = refl
record_other_same d m s c Append e = refl
record_other_same d m s c (Replace f) e = refl
record_other_same d m s c Delete e = refl
record_other_same d m s c Recall e = refl
record_other_same d m s c Pack e = refl
record_other_same d m s c Zap e = refl
record_other_same d m s c Reindex e = refl
record_other_same d m s c (Index l) e =
    ap (λ o. nat_lt 1 (opened_by d l) || fails_if_open (λ a. is_other_list d a.table l) o) (selects m s c e)

pub area_other_same : (d : Declared) (m s : Desk) → Desks m s → (i : AreaInstr) → IsKnown m (Areas i)
    → area_filters_other d m i ≡ area_filters_other d s i
area_other_same d m s c (Open t l) e = refl
area_other_same d m s c Close e = refl
area_other_same d m s c CloseAll e = refl
area_other_same d m s c (Select a) e = refl
area_other_same d m s c (Order n) e = refl
area_other_same d m s c (Filter n) e = ap (fails_if_open (λ a. is_other_filter d a.table n)) (selects m s c e)
