-- What instructions on work areas need is there where their tests come out well.
use Rattle.std.proofs.Common.{◌≡◌, ℕ, zero, suc, ◌+◌, ◌-◌, ◌<◌, ◌≤◌, true, false, List, [], ◌∷◌, length, Option, Some}
use Rattle.std.proofs.Common.{None, refl, sym, ap, subst, ◌∙◌, arith}
use Rattle.std.specs.Prelude.{not, ◌&&◌, ◌||◌, ◌==◌, nat_lt, nat_le, slice_get, slice_set, map, is_none, is_some}
use Rattle.std.specs.Prelude.{IfSome, IsSome}
use Rattle.std.specs.List.{list_all, list_any}
use Rattle.std.proofs.lemmas.Bool.{leb-true, ltb-true, ltb-false, eqb-true, ne_eqb, not-false, and_parts, and_from}
use Rattle.std.proofs.lemmas.Bool.{or_parts, or_from}
use Rattle.shape.specs.declared.indexes.IndexShape.{IndexShape}
use Rattle.shape.specs.declared.lists.IndexList.{IndexList}
use Rattle.shape.specs.Lists.{has_table as has_index_table, is_index_of, list_table, first_table, numbers_differ}
use Rattle.shape.specs.Lists.{are_of_table, is_list}
use Rattle.open_table.specs.Open.{OpenState}
use Rattle.open_table.specs.Marks.{mark_at}
use Rattle.work_area.specs.declared.uses.Use.{Use}
use Rattle.work_area.specs.Areas.{StoreState, table_at, here, holds}
use Rattle.code_items.specs.declared.code.Code.{Code}
use Rattle.code_items.specs.declared.declared.Declared.{Declared}
use Rattle.code_items.specs.declared.instr.Instr.TheVariants.{Areas}
use Rattle.code_items.specs.declared.instr.AreaInstr.{AreaInstr}
use Rattle.code_items.specs.declared.instr.AreaInstr.TheVariants.{Open, Close, CloseAll, Select, Order, Filter}
use Rattle.code_items.specs.Declarations.{list_of}
use Rattle.code_items.specs.Desks.{open_at}
use Rattle.code_items.specs.Facts.{Facts}
use Rattle.code_items.specs.Instrs.{is_instr}
use Rattle.code_items.specs.States.{is_this_number, lists_table, how_many, opened_by}
use Rattle.code_rules.specs.Rules.{may_hold, others_hold, is_no_list, declares_table, is_other_list, fails_if_open}
use Rattle.run_steps.specs.World.{World, state_of, desk_of, area_state}
use Rattle.run_steps.specs.Effects.{indexes_in, list_numbers}
use Rattle.run_steps.specs.Faults.{IsClear}
use Rattle.run_steps.specs.Needs.{AreIndexes, OpenNeeds, ChangeNeeds, AreaNeeds}
use Rattle.run_steps.specs.Shapes.{StoreFits}
use Rattle.run_laws.proofs.Known.{Known, OpenThere, open_there}
use Rattle.run_laws.proofs.Tests.{then_no, all_at, is_there}

-- ---- a table that no other area holds

held_too : (tables : List OpenState) (t : ℕ) (u : Option Use) → may_hold t (area_state tables u) ≡ holds t u
held_too tables t None = refl
held_too tables t (Some u) = refl

-- the areas behind the selected one
none_behind : (tables : List OpenState) (t selected number : ℕ) (areas : List (Option Use)) → selected < number
    → others_hold t selected number (map (area_state tables) areas) ≡ false → list_any (holds t) areas ≡ false
none_behind tables t selected number [] lt e = refl
none_behind tables t selected number (u ∷ areas) lt e =
    let p =
    or_parts (not (number == selected) && may_hold t (area_state tables u))
    (others_hold t selected (number + 1) (map (area_state tables) areas)) e in
    let other : not (number == selected) ≡ true =
    ap not (ne_eqb number selected (λ same. absurd (omega (arith, lt, same)))) in
    or_from (holds t u) (list_any (holds t) areas)
    (sym (held_too tables t u) ∙ then_no (not (number == selected)) (may_hold t (area_state tables u)) other p.0)
    (none_behind tables t selected (number + 1) areas (omega (arith, lt)) p.1)

-- the selected area is the one of place k in these
none_elsewhere : (tables : List OpenState) (t selected number k : ℕ) (areas : List (Option Use)) → selected ≡ number + k
    → others_hold t selected number (map (area_state tables) areas) ≡ false
    → list_any (holds t) (slice_set areas k None) ≡ false
none_elsewhere tables t selected number k [] at e = refl
none_elsewhere tables t selected number zero (u ∷ areas) at e =
    let p =
    or_parts (not (number == selected) && may_hold t (area_state tables u))
    (others_hold t selected (number + 1) (map (area_state tables) areas)) e in
    none_behind tables t selected (number + 1) areas (omega (arith, at)) p.1
none_elsewhere tables t selected number (suc k) (u ∷ areas) at e =
    let p =
    or_parts (not (number == selected) && may_hold t (area_state tables u))
    (others_hold t selected (number + 1) (map (area_state tables) areas)) e in
    let other : not (number == selected) ≡ true =
    ap not (ne_eqb number selected (λ same. absurd (omega (arith, at, same)))) in
    or_from (holds t u) (list_any (holds t) (slice_set areas k None))
    (sym (held_too tables t u) ∙ then_no (not (number == selected)) (may_hold t (area_state tables u)) other p.0)
    (none_elsewhere tables t selected (number + 1) k areas (omega (arith, at)) p.1)

-- ---- lists of indexes

-- an index of the table is among its marks
mark_there : (d : Declared) (s : StoreState) (t : ℕ) (o : OpenState) (n : ℕ) → StoreFits d s → table_at s t ≡ Some o
    → is_index_of d.shape.indexes t n ≡ true → is_some (mark_at o.table.marks n) ≡ true
mark_there d s t o n fits there e = from (slice_get d.shape.indexes n) e (fits.indexes n)
  where
    from : (x : Option IndexShape) → has_index_table t x ≡ true
        → IfSome x (λ x. IfSome (table_at s x.table) (λ o. is_some (mark_at o.table.marks n) ≡ true))
        → is_some (mark_at o.table.marks n) ≡ true
    from None e h = absurd (cc)
    from (Some x) e h =
        subst (λ (a : Option OpenState). IfSome a (λ (o : OpenState). is_some (mark_at o.table.marks n) ≡ true))
        (ap (slice_get s.tables) (eqb-true x.table t e) ∙ there) h

pub marks_there : (d : Declared) (s : StoreState) (t : ℕ) (o : OpenState) (ns : List ℕ) → StoreFits d s
    → table_at s t ≡ Some o → list_all (is_index_of d.shape.indexes t) ns ≡ true
    → list_all (λ n. is_some (mark_at o.table.marks n)) ns ≡ true
marks_there d s t o [] fits there e = refl
marks_there d s t o (n ∷ ns) fits there e =
    let p = and_parts (is_index_of d.shape.indexes t n) (list_all (is_index_of d.shape.indexes t) ns) e in
    and_from (is_some (mark_at o.table.marks n)) (list_all (λ n. is_some (mark_at o.table.marks n)) ns)
    (mark_there d s t o n fits there p.0) (marks_there d s t o ns fits there p.1)

-- a legal list is short, and its indexes are those of its table
pub short_list : (indexes : List IndexShape) (l : IndexList) → is_list indexes l ≡ true → length l.indexes.items ≤ 7
unfolding is_list
short_list indexes l e =
    leb-true (length l.indexes.items) 7
    (and_parts (nat_le (length l.indexes.items) 7) (are_of_table indexes l.indexes.items (list_table indexes l)) e).0

of_its_table : (indexes : List IndexShape) (l : IndexList) (t : ℕ) → is_list indexes l ≡ true
    → list_table indexes l ≡ Some t → list_all (is_index_of indexes t) l.indexes.items ≡ true
unfolding is_list
of_its_table indexes l t e at =
    let p =
    and_parts (nat_le (length l.indexes.items) 7) (are_of_table indexes l.indexes.items (list_table indexes l)) e in
    let q : are_of_table indexes l.indexes.items (Some t) ≡ true =
    ap (are_of_table indexes l.indexes.items) (sym at) ∙ p.1 in
    (and_parts (list_all (is_index_of indexes t) l.indexes.items) (numbers_differ l.indexes.items) q).0

-- the list of a number is legal
listed : (d : Declared) (n : ℕ) (l : IndexList) → list_all (is_list d.shape.indexes) d.lists ≡ true
    → list_of d n ≡ Some l → is_list d.shape.indexes l ≡ true
listed d zero l all e = absurd (cc)
listed d (suc n) l all e = all_at (is_list d.shape.indexes) d.lists n l all e

pub few_numbers : (d : Declared) (n : ℕ) → list_all (is_list d.shape.indexes) d.lists ≡ true
    → length (list_numbers d n) ≤ 7
few_numbers d n all = from (list_of d n) refl
  where
    from : (x : Option IndexList) → list_of d n ≡ x → length (indexes_in x) ≤ 7
    from None e = omega arith
    from (Some l) e = short_list d.shape.indexes l (listed d n l all e)

is_that : (t : ℕ) (x : Option ℕ) → is_this_number t x ≡ true → x ≡ Some t
is_that t None e = absurd (cc)
is_that t (Some m) e = ap (λ k. Some k) (eqb-true m t e)

-- the list of a number isn't another table's: its indexes are those of the table, or there is no such list
pub own_indexes : (d : Declared) (t n : ℕ) → list_all (is_list d.shape.indexes) d.lists ≡ true
    → is_other_list d t n ≡ false → list_all (is_index_of d.shape.indexes t) (list_numbers d n) ≡ true
own_indexes d t n all e = from (list_of d n) refl e
  where
    from : (x : Option IndexList) → list_of d n ≡ x → not (is_none x) && not (lists_table d.shape.indexes t x) ≡ false
        → list_all (is_index_of d.shape.indexes t) (indexes_in x) ≡ true
    from None at e = refl
    from (Some l) at e =
        of_its_table d.shape.indexes l t (listed d n l all at)
        (is_that t (list_table d.shape.indexes l)
        (not-false (is_this_number t (list_table d.shape.indexes l))
        (then_no true (not (is_this_number t (list_table d.shape.indexes l))) refl e)))

-- a list that is there and isn't another table's has an index
pub some_index : (d : Declared) (n t : ℕ) → is_no_list d n ≡ false → is_other_list d t n ≡ false
    → 1 ≤ length (list_numbers d n)
some_index d n t named e = from (list_of d n) named e
  where
    of_first : (indexes : List IndexShape) (ns : List ℕ) (t : ℕ) → first_table indexes ns ≡ Some t → 1 ≤ length ns
    of_first indexes [] t e = absurd (cc)
    of_first indexes (n ∷ ns) t e = omega arith

    from : (x : Option IndexList) → is_none x ≡ false → not (is_none x) && not (lists_table d.shape.indexes t x) ≡ false
        → 1 ≤ length (indexes_in x)
    from None named e = absurd (cc)
    from (Some l) named e =
        of_first d.shape.indexes l.indexes.items t
        (is_that t (list_table d.shape.indexes l)
        (not-false (is_this_number t (list_table d.shape.indexes l))
        (then_no true (not (is_this_number t (list_table d.shape.indexes l))) refl e)))

-- ---- OPEN

-- the table and the list that it names are declared, and the list isn't another table's
pub record Names (d : Declared) (t l : ℕ) : Type 0 where
  pub table : declares_table d t ≡ true
  pub list : not (l == 0) && is_no_list d l ≡ false
  pub own : is_other_list d t l ≡ false

pub open_names : (code : Code) (w : World) (t l : ℕ) → IsClear code w (Areas (Open t l)) → Names code.declared t l
open_names code w t l c =
    let d = code.declared in
    let p =
    or_parts (not (declares_table d t) || (not (l == 0) && is_no_list d l))
    (declares_table d t && is_other_list d t l) c.declared in
    let q = or_parts (not (declares_table d t)) (not (l == 0) && is_no_list d l) p.0 in
    let table : declares_table d t ≡ true = not-false (declares_table d t) q.0 in
    record { table = table; list = q.1; own = then_no (declares_table d t) (is_other_list d t l) table p.1 }

pub open_ready : (code : Code) (w : World) → Facts code → Known code.declared (state_of w)
    → StoreFits code.declared w.env.store → (t l : ℕ) → IsClear code w (Areas (Open t l))
    → OpenNeeds t (list_numbers code.declared l) w.env.store
open_ready code w f k fits t l c =
    let d = code.declared in
    let s = w.env.store in
    let named = open_names code w t l c in
    let there = is_there s.tables t (omega (arith, ltb-true t (length d.shape.tables) named.table, fits.count)) in (
      omega (arith, ltb-true t (length d.shape.tables) named.table, fits.count),
      none_elsewhere s.tables t s.selected 1 (s.selected - 1) s.areas (omega (arith, k.one)) c.once,
      few_numbers d l f.lists,
      subst (AreIndexes (list_numbers d l)) (sym there.1)
          (marks_there d s t there.0 (list_numbers d l) fits there.1
          (own_indexes d t l f.lists named.own)),
    )

-- ---- the others

-- the selected area is open
pub selected_there : (code : Code) (w : World) → Known code.declared (state_of w) → StoreFits code.declared w.env.store
    → is_none (open_at (desk_of w.env.store) w.env.store.selected) ≡ false
    → OpenThere code.declared w.env.store w.env.store.selected
selected_there code w k fits e = open_there code.declared w.env.store w.env.store.selected k.areas fits e

pub is_here : (d : Declared) (s : StoreState) → OpenThere d s s.selected → IsSome (here s)
is_here d s o = ap is_some o.there

-- a list has as many indexes as are counted
pub counts : (x : Option IndexList) → how_many x ≡ length (indexes_in x)
counts None = refl
counts (Some l) = refl

pub order_ready : (code : Code) (w : World) → Facts code
    → (o : OpenThere code.declared w.env.store w.env.store.selected) → (n : ℕ)
    → fails_if_open (λ a. nat_lt (opened_by code.declared a.list) n)
    (open_at (desk_of w.env.store) w.env.store.selected) ≡ false → ChangeNeeds (Order n) w.env.store
order_ready code w f o n e =
    let d = code.declared in
    let u = o.use_of in
    let fails : nat_lt (opened_by d u.list) n ≡ false =
    ap (fails_if_open (λ a. nat_lt (opened_by d a.list) n)) (sym o.known) ∙ e in
    let le = ltb-false (opened_by d u.list) n fails in
    let count = counts (list_of d u.list) in
    let same = ap (λ (ns : List ℕ). length ns) o.list in (
      is_here d w.env.store o,
      omega (arith, le, count, few_numbers d u.list f.lists),
      subst
          (λ (x : Option OpenState). IfSome x (λ (o : OpenState). n ≤ length o.list)) (sym o.there)
          (omega (arith, le, count, same)),
    )

pub area_ready : (code : Code) (w : World) → Facts code → Known code.declared (state_of w)
    → StoreFits code.declared w.env.store → (i : AreaInstr) → is_instr code.declared.version (Areas i) ≡ true
    → IsClear code w (Areas i) → AreaNeeds code i w.env
area_ready code w f k fits (Open t l) legal c = open_ready code w f k fits t l c
area_ready code w f k fits Close legal c = tt
area_ready code w f k fits CloseAll legal c = tt
area_ready code w f k fits (Select a) legal c =
    (let p = and_parts (nat_le 1 a) (nat_le a 10) legal in (leb-true 1 a p.0, leb-true a 10 p.1))
area_ready code w f k fits (Order n) legal c = order_ready code w f (selected_there code w k fits c.area) n c.order
area_ready code w f k fits (Filter n) legal c = is_here code.declared w.env.store (selected_there code w k fits c.area)
