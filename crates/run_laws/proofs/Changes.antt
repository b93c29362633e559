-- What each instruction leaves of a store whose tables and work areas are as the code declares.
use Rattle.std.proofs.Common.{◌≡◌, ℕ, zero, suc, ◌-◌, ◌≤◌, Bool, true, false, List, [], ◌∷◌, length, Option, Some, None}
use Rattle.std.proofs.Common.{refl, sym, ap, subst, ◌∙◌, arith}
use Rattle.std.specs.Prelude.{not, ◌==◌, ◌&&◌, ◌||◌, nat_lt, slice_get, unwrap_or, is_none, IfSome}
use Rattle.std.proofs.lemmas.Bool.{ltb-true, ltb-false, or_parts, or_left, or_right, eq-eqb, not-false}
use Rattle.xvalue.specs.declared.value.Value.{Value}
use Rattle.xvalue.specs.Shown.{shown as shown_value}
use Rattle.screen_lines.specs.State.{printed, said, said_on}
use Rattle.dbf_file.specs.Rows.{Row}
use Rattle.dbf_file.specs.Tables.{StructureState}
use Rattle.row_moves.specs.Moves.{Landing}
use Rattle.open_table.specs.Open.{OpenState, landed, reordered, first_order, with_blank, replaced_here, remarked_here}
use Rattle.open_table.specs.Open.{opened as opened_with}
use Rattle.work_area.specs.declared.uses.Use.{Use}
use Rattle.work_area.specs.Areas.{StoreState, selected_use, here, with_here, with_used, with_use, changed_found}
use Rattle.work_area.specs.Areas.{change_here}
use Rattle.work_area.specs.Calls.{packed_in, zapped_in, reindexed_in, pack_of, packed_rows, all_rows, zap_landing}
use Rattle.work_area.specs.Calls.{reindex_of, index_on_of, used_here, with_list, with_filter}
use Rattle.work_area.specs.Shapes.{IsSameKind, KindsStay}
use Rattle.code_items.specs.declared.code.Code.{Code}
use Rattle.code_items.specs.declared.declared.Declared.{Declared}
use Rattle.code_items.specs.declared.instr.Instr.{Instr}
use Rattle.code_items.specs.declared.instr.Instr.TheVariants.{Values, Flow, Screen, Areas, Moves, Records}
use Rattle.code_items.specs.declared.instr.ValueInstr.{ValueInstr}
use Rattle.code_items.specs.declared.instr.ValueInstr.TheVariants.{Constant, Load, Store, Unset, Discard, Function}
use Rattle.code_items.specs.declared.instr.ValueInstr.TheVariants.{Today, Set}
use Rattle.code_items.specs.declared.instr.ScreenInstr.{ScreenInstr}
use Rattle.code_items.specs.declared.instr.ScreenInstr.TheVariants.{NewLine, Print, Say, SayOn, Input, Line, Clear}
use Rattle.code_items.specs.declared.instr.AreaInstr.{AreaInstr}
use Rattle.code_items.specs.declared.instr.AreaInstr.TheVariants.{Open, Close, CloseAll, Select, Order, Filter}
use Rattle.code_items.specs.declared.instr.MoveInstr.{MoveInstr}
use Rattle.code_items.specs.declared.instr.MoveInstr.TheVariants.{Top, Bottom, Skip, Go, Seek}
use Rattle.code_items.specs.declared.instr.RecordInstr.{RecordInstr}
use Rattle.code_items.specs.declared.instr.RecordInstr.TheVariants.{Field, RowField, Ask, Append, Replace, Delete}
use Rattle.code_items.specs.declared.instr.RecordInstr.TheVariants.{Recall, Pack, Zap, Reindex, Index}
use Rattle.code_items.specs.Declarations.{list_of, filter_of}
use Rattle.code_items.specs.Desks.{open_at}
use Rattle.code_items.specs.Facts.{Facts}
use Rattle.code_items.specs.States.{is_list_of, is_filter_of, opened_by}
use Rattle.code_rules.specs.Rules.{is_no_list, is_no_index, is_other_list, is_other_filter}
use Rattle.code_rules.specs.Rules.{fails_if_open}
use Rattle.run_values.specs.Tagged.{TaggedValues}
use Rattle.run_steps.specs.World.{World, EnvState, desk_of, with_screen}
use Rattle.run_steps.specs.Effects.{top, whole_on_top, record_number, move_landing, on_value, on_table, list_numbers}
use Rattle.run_steps.specs.Effects.{index_in, value_env, screen_env, open_landing, store_opened, store_by_area, moved}
use Rattle.run_steps.specs.Effects.{store_by_move, shown_here, closing_store, store_by_record, env_after, filter_here}
use Rattle.run_steps.specs.Filters.{shown_by, viewer}
use Rattle.run_steps.specs.Faults.{IsClear}
use Rattle.run_steps.specs.Needs.{AreaNeeds, Needs}
use Rattle.run_laws.proofs.Known.{OpenThere}
use Rattle.run_laws.proofs.OnAreas.{counts, open_names, some_index}
use Rattle.run_laws.proofs.Stores.{HeldBy, IsSound, like, at_used, selects, put_both, put_use, closes, closes_all}
use Rattle.run_laws.proofs.Stores.{opens, legal_from, legal_parts}
use Rattle.run_laws.proofs.Tests.{first_no, then_no, not_zero, is_there}

-- each change of a table in use leaves what it is of
abbrev pub Stay : Type 0
Stay = (o : OpenState) → KindsStay o

-- the same fields and indexes, list and order
record IsAlike (o p : OpenState) : Type 0 where
  kind : IsSameKind o p
  list : p.list ≡ o.list
  order : p.order ≡ o.order

keeps : (d : Declared) (o p : OpenState) → IsAlike o p → (u : Use) → HeldBy d u (Some o) → HeldBy d u (Some p)
keeps d o p a u h = like d u o p a.list a.order h

-- the selected area's table, if there is one, changed so
changes : (d : Declared) (s : StoreState) (f : OpenState → OpenState) → ((o : OpenState) → IsAlike o (f o))
    → IsSound d s → IsSound d (change_here f s)
changes d s f alike h = from (here s) refl
  where
    from : (x : Option OpenState) → here s ≡ x → IsSound d (changed_found f x s)
    from None e = h
    from (Some o) e = at_used d s (selected_use s) o (f o) h e (alike o).kind (keeps d o (f o) (alike o))

puts : (d : Declared) (s : StoreState) (f : OpenState → OpenState) → ((o : OpenState) → IsAlike o (f o)) → IsSound d s
    → IsSound d (on_table (here s) s (λ o. with_here (f o) s))
puts d s f alike h = from (here s) refl
  where
    from : (x : Option OpenState) → here s ≡ x → IsSound d (on_table x s (λ o. with_here (f o) s))
    from None e = h
    from (Some o) e = at_used d s (selected_use s) o (f o) h e (alike o).kind (keeps d o (f o) (alike o))

-- ---- values and screen leave the store

pub value_store : (i : ValueInstr) (e : EnvState) → (value_env i e).store ≡ e.store
value_store (Constant n) e = refl
value_store (Load k s) e = refl
value_store (Store k s) e = refl
value_store (Unset s) e = refl
value_store (Discard k) e = refl
value_store (Function f) e = refl
value_store Today e = refl
value_store (Set x on) e = refl

pub shown_store : (x : Option Value) (e : EnvState) (f : Value → EnvState) → ((v : Value) → (f v).store ≡ e.store)
    → (on_value x e f).store ≡ e.store
shown_store None e f same = refl
shown_store (Some v) e f same = same v

pub screen_store : (i : ScreenInstr) (t : TaggedValues) (e : EnvState) → (screen_env i t e).store ≡ e.store
screen_store NewLine t e = refl
screen_store (Print k) t e =
    shown_store (top t) e (λ value. with_screen (printed (shown_value e.settings value) e.screen) e) (λ v. refl)
screen_store (Say k) t e =
    shown_store (top t) e (λ value. with_screen
    (said (whole_on_top (slice_get t.stack 2)) (whole_on_top (slice_get t.stack 1)) (shown_value e.settings value)
    e.screen) e) (λ v. refl)
screen_store (SayOn k) t e =
    shown_store (top t) e (λ value. with_screen (said_on (shown_value e.settings value) e.screen) e) (λ v. refl)
screen_store (Input k) t e = refl
screen_store Line t e = refl
screen_store Clear t e = refl

-- ---- work areas

first_within : (ns : List ℕ) → first_order ns ≤ length ns
first_within [] = omega arith
first_within (n ∷ ns) = omega arith

-- a list that is named is declared and of the table
legal_list : (d : Declared) (t l : ℕ) → not (l == 0) && is_no_list d l ≡ false → is_other_list d t l ≡ false
    → l == 0 || is_list_of d t l ≡ true
legal_list d t zero named other = or_left (0 == 0) (is_list_of d t 0) (eq-eqb 0 0 refl)
legal_list d t (suc n) named other =
    let there : not (is_no_list d (suc n)) ≡ true =
    ap not (then_no (not (suc n == 0)) (is_no_list d (suc n)) (ap not (not_zero n)) named) in
    or_right (suc n == 0) (is_list_of d t (suc n))
    (not-false (is_list_of d t (suc n))
    (then_no (not (is_no_list d (suc n))) (not (is_list_of d t (suc n))) there other))

legal_filter : (d : Declared) (t n : ℕ) → not (n == 0) && is_none (filter_of d n) ≡ false
    → is_other_filter d t n ≡ false → n == 0 || is_filter_of d t n ≡ true
legal_filter d t zero named other = or_left (0 == 0) (is_filter_of d t 0) (eq-eqb 0 0 refl)
legal_filter d t (suc n) named other =
    let there : not (is_none (filter_of d (suc n))) ≡ true =
    ap not (then_no (not (suc n == 0)) (is_none (filter_of d (suc n))) (ap not (not_zero n)) named) in
    or_right (suc n == 0) (is_filter_of d t (suc n))
    (not-false (is_filter_of d t (suc n))
    (then_no (not (is_none (filter_of d (suc n)))) (not (is_filter_of d t (suc n))) there other))

open_leaves : (code : Code) (w : World) (t l : ℕ) → Stay → IsSound code.declared w.env.store
    → IsClear code w (Areas (Open t l)) → AreaNeeds code (Open t l) w.env
    → IsSound code.declared (store_opened code t l w.env)
open_leaves code w t l stay h c needs =
    let d = code.declared in
    let s = w.env.store in
    let ns = list_numbers d l in
    let named = open_names code w t l c in
    let there = is_there s.tables t needs.0 in
    let o : OpenState = there.0 in
    let landing : Landing = open_landing code l w.env o in
    let held : Use = record { table = t; list = l; filter = 0 } in
    let le : first_order ns ≤ opened_by d l = omega (arith, first_within ns, counts (list_of d l)) in
    let legal =
    legal_from d held (first_order ns) (ltb-true t (length d.shape.tables) named.table)
    (legal_list d t l named.list named.own) le
    (or_left (0 == 0) (is_filter_of d t 0) (eq-eqb 0 0 refl)) in
    let kind : IsSameKind o (landed (opened_with ns o) landing) =
    (stay o).chain (opened_with ns o) (landed (opened_with ns o) landing) ((stay o).by_open ns)
    ((stay (opened_with ns o)).by_move landing) in
    subst (λ x. IsSound d
    (on_table x s (λ o. used_here t l (landed (opened_with ns o) (open_landing code l w.env o)) s))) (sym there.1)
    (opens d s t l o (landed (opened_with ns o) landing) stay h there.1 kind needs.1
    (record { list = refl; legal = legal }))

-- another order
order_leaves : (d : Declared) (s : StoreState) (n : ℕ) → Stay → IsSound d s → (o : OpenThere d s s.selected)
    → n ≤ length o.table.list → IsSound d (change_here (reordered n) s)
order_leaves d s n stay h o le =
    subst (λ x. IsSound d (changed_found (reordered n) x s)) (sym o.there)
    (at_used d s (selected_use s) o.table (reordered n o.table) h o.there ((stay o.table).by_order n) again)
  where
    again : (u : Use) → HeldBy d u (Some o.table) → HeldBy d u (Some (reordered n o.table))
    again u k =
        let stands : o.table.list ≡ list_numbers d u.list = k.list in
        let l = legal_parts d u o.table.order k.legal in
        let within : n ≤ opened_by d u.list =
        omega (arith, le, counts (list_of d u.list), ap (λ (ns : List ℕ). length ns) stands) in
        record { list = stands; legal = legal_from d u n l.table l.list within l.filter }

filter_leaves : (d : Declared) (s : StoreState) (n : ℕ) → IsSound d s → (o : OpenThere d s s.selected)
    → not (n == 0) && is_none (filter_of d n) ≡ false → is_other_filter d o.use_of.table n ≡ false
    → IsSound d (with_use s s.selected (with_filter n (selected_use s)))
filter_leaves d s n h o named other =
    let u = o.use_of in
    let v : Use = record { table = u.table; list = u.list; filter = n } in
    let k = h.held (s.selected - 1) u o.held in
    let l = legal_parts d u o.table.order (subst (λ (x : Option OpenState). HeldBy d u x) o.at k).legal in
    let stands : o.table.list ≡ list_numbers d u.list = o.list in
    let fits : HeldBy d v (Some o.table) = record {
      list = stands;
      legal = legal_from d v o.table.order l.table l.list l.order_within (legal_filter d u.table n named other);
    } in
    subst (λ x. IsSound d (with_use s s.selected (with_filter n x))) (sym o.held)
    (put_use d s u (Some v) h o.held (λ a e. (let is : v ≡ a = (let g : Some v ≡ Some a = e in cc) in (
      ap (λ (x : Use). x.table) (sym is),
      subst (λ (x : Use). HeldBy d x (slice_get s.tables x.table)) is
          (subst (HeldBy d v) (sym o.at) fits),
    ))))

area_leaves : (code : Code) (w : World) (i : AreaInstr) → Stay → IsSound code.declared w.env.store
    → (is_none (open_at (desk_of w.env.store) w.env.store.selected) ≡ false
    → OpenThere code.declared w.env.store w.env.store.selected) → IsClear code w (Areas i) → AreaNeeds code i w.env
    → IsSound code.declared (store_by_area code i w.env)
area_leaves code w (Open t l) stay h is_open c needs = open_leaves code w t l stay h c needs
area_leaves code w Close stay h is_open c needs = closes code.declared w.env.store stay h
area_leaves code w CloseAll stay h is_open c needs = closes_all code.declared w.env.store stay h.count h.kinds
area_leaves code w (Select a) stay h is_open c needs = selects code.declared w.env.store a h needs.0 needs.1
area_leaves code w (Order n) stay h is_open c needs =
    let o = is_open c.area in
    order_leaves code.declared w.env.store n stay h o
    (subst (λ x. IfSome x (λ (o : OpenState). n ≤ length o.list)) o.there needs.2)
area_leaves code w (Filter n) stay h is_open c needs =
    let d = code.declared in
    let s = w.env.store in
    let o = is_open c.area in
    let named = first_no (not (n == 0) && is_none (filter_of d n)) false c.declared in
    let other =
    first_no (fails_if_open (λ a. is_other_filter d a.table n) (open_at (desk_of s) s.selected)) false c.filter in
    filter_leaves d s n h o named (ap (fails_if_open (λ a. is_other_filter d a.table n)) (sym o.known) ∙ other)

-- ---- moves

moved_alike : (i : MoveInstr) (given : Option Value) (exact : Bool) (o : OpenState) (shown : ℕ → Bool) → Stay
    → IsAlike o (moved i given exact o shown)
moved_alike Top given exact o shown stay = record {
  kind = (stay o).by_move (move_landing Top given exact o shown);
  list = refl;
  order = refl;
}
moved_alike Bottom given exact o shown stay = record {
  kind = (stay o).by_move (move_landing Bottom given exact o shown);
  list = refl;
  order = refl;
}
moved_alike Skip given exact o shown stay = record {
  kind = (stay o).by_move (move_landing Skip given exact o shown);
  list = refl;
  order = refl;
}
moved_alike Go given exact o shown stay = record {
  kind = (stay o).by_go (record_number (whole_on_top given));
  list = refl;
  order = refl;
}
moved_alike Seek given exact o shown stay = record {
  kind = (stay o).by_move (move_landing Seek given exact o shown);
  list = refl;
  order = refl;
}

move_leaves : (code : Code) (i : MoveInstr) (t : TaggedValues) (e : EnvState) → Stay → IsSound code.declared e.store
    → IsSound code.declared (store_by_move code i t e)
move_leaves code i t e stay h =
    puts code.declared e.store (λ o. moved i (top t) e.settings.exact o (shown_here code t e all_rows o))
    (λ o. moved_alike i (top t) e.settings.exact o (shown_here code t e all_rows o) stay) h

-- ---- records

-- a change that ends with a move
ended_alike : (o p : OpenState) (landing : Landing) → Stay → IsSameKind o p → p.list ≡ o.list → p.order ≡ o.order
    → IsAlike o (landed p landing)
ended_alike o p landing stay kind list order = record {
  kind = (stay o).chain p (landed p landing) kind ((stay p).by_move landing);
  list = list;
  order = order;
}

replace_leaves : (d : Declared) (s : StoreState) (f : ℕ) (x : Option Value) → Stay → IsSound d s
    → IsSound d (on_value x s (λ value. change_here (replaced_here f value) s))
replace_leaves d s f None stay h = h
replace_leaves d s f (Some v) stay h =
    changes d s (replaced_here f v) (λ o. record { kind = (stay o).by_replace f v; list = refl; order = refl }) h

-- the one of some numbers
alone : (ns : List ℕ) → 1 ≤ length ns → length ns ≤ 1 → unwrap_or (slice_get ns 0) 0 ∷ [] ≡ ns
alone [] some few = absurd (omega (arith, some))
alone (n ∷ []) some few = refl
alone (n ∷ m ∷ ns) some few = absurd (omega (arith, few))

-- the one index of a list, in the place of those that are open
index_leaves : (code : Code) (w : World) (l : ℕ) (shown : StructureState → List Row → ℕ → Bool) → Facts code → Stay
    → IsSound code.declared w.env.store → OpenThere code.declared w.env.store w.env.store.selected
    → IsClear code w (Records (Index l))
    → IsSound code.declared
    (on_table (here w.env.store) w.env.store (λ o. closing_store code.declared (Index l) shown o w.env.store))
index_leaves code w l shown f stay h o c =
    let d = code.declared in
    let s = w.env.store in
    let u = o.use_of in
    let number = index_in d l in
    let p = or_parts (is_no_list d l) (is_no_index d (desk_of s) l) c.declared in
    let q =
    or_parts (nat_lt 1 (opened_by d l))
    (fails_if_open (λ a. is_other_list d a.table l) (open_at (desk_of s) s.selected)) p.1 in
    let own : is_other_list d u.table l ≡ false =
    ap (fails_if_open (λ a. is_other_list d a.table l)) (sym o.known) ∙ q.1 in
    let some = some_index d l u.table p.0 own in
    let few = ltb-false 1 (opened_by d l) q.0 in
    let count = counts (list_of d l) in
    let same : number ∷ [] ≡ list_numbers d l = alone (list_numbers d l) some (omega (arith, few, count)) in
    let landing : Landing = index_on_of number o.table (shown o.table.table.structure (all_rows o.table)) in
    let made : OpenState = opened_with (number ∷ []) o.table in
    let kind : IsSameKind o.table (landed made landing) =
    (stay o.table).chain made (landed made landing) ((stay o.table).by_open (number ∷ []))
    ((stay made).by_move landing) in
    let v : Use = record { table = u.table; list = l; filter = u.filter } in
    let k =
    legal_parts d u o.table.order (subst (λ (x : Option OpenState). HeldBy d u x) o.at
    (h.held (s.selected - 1) u o.held)).legal in
    let own_list : is_list_of d u.table l ≡ true =
    not-false (is_list_of d u.table l)
    (then_no (not (is_no_list d l)) (not (is_list_of d u.table l)) (ap not p.0) own) in
    let fits : HeldBy d v (Some (landed made landing)) = record {
      list = same;
      legal =
          legal_from d v 1 k.table (or_right (l == 0) (is_list_of d u.table l) own_list) (omega (arith, some, count))
          k.filter;
    } in
    subst (λ x. IsSound d (on_table x s (λ o. closing_store d (Index l) shown o s))) (sym o.there)
    (subst (λ x. IsSound d (with_use (with_used x (landed made landing) s) s.selected (with_list l x))) (sym o.held)
    (put_both d s u o.table (landed made landing) (Some v) h o.held o.at kind
    (λ a e. (let is : v ≡ a = (let g : Some v ≡ Some a = e in cc) in
    (ap (λ (x : Use). x.table) (sym is), subst (λ (x : Use). HeldBy d x (Some (landed made landing))) is fits)))))

record_leaves : (code : Code) (w : World) (i : RecordInstr) → Facts code → Stay → IsSound code.declared w.env.store
    → (is_none (open_at (desk_of w.env.store) w.env.store.selected) ≡ false
    → OpenThere code.declared w.env.store w.env.store.selected) → IsClear code w (Records i)
    → IsSound code.declared (store_by_record code i w.values w.env)
record_leaves code w (Field a n) f stay h is_open c = h
record_leaves code w (RowField n) f stay h is_open c = h
record_leaves code w (Ask q) f stay h is_open c = h
record_leaves code w Append f stay h is_open c =
    changes code.declared w.env.store with_blank (λ o. record { kind = (stay o).by_append; list = refl; order = refl })
    h
record_leaves code w (Replace n) f stay h is_open c = replace_leaves code.declared w.env.store n (top w.values) stay h
record_leaves code w Delete f stay h is_open c =
    changes code.declared w.env.store (remarked_here true)
    (λ o. record { kind = (stay o).by_mark true; list = refl; order = refl }) h
record_leaves code w Recall f stay h is_open c =
    changes code.declared w.env.store (remarked_here false)
    (λ o. record { kind = (stay o).by_mark false; list = refl; order = refl }) h
record_leaves code w Pack f stay h is_open c =
    let shown = shown_by code (viewer w.values w.env) (filter_here w.env.store) in
    puts code.declared w.env.store (λ o. landed (packed_in o) (pack_of o (shown o.table.structure (packed_rows o))))
    (λ o. ended_alike o (packed_in o) (pack_of o (shown o.table.structure (packed_rows o))) stay (stay o).by_pack
    refl refl) h
record_leaves code w Zap f stay h is_open c =
    puts code.declared w.env.store (λ o. landed (zapped_in o) zap_landing)
    (λ o. ended_alike o (zapped_in o) zap_landing stay (stay o).by_zap refl refl) h
record_leaves code w Reindex f stay h is_open c =
    let shown = shown_by code (viewer w.values w.env) (filter_here w.env.store) in
    puts code.declared w.env.store (λ o. landed (reindexed_in o) (reindex_of o (shown o.table.structure (all_rows o))))
    (λ o. ended_alike o (reindexed_in o) (reindex_of o (shown o.table.structure (all_rows o))) stay
    (stay o).by_reindex refl refl) h
record_leaves code w (Index l) f stay h is_open c =
    index_leaves code w l (shown_by code (viewer w.values w.env) (filter_here w.env.store)) f stay h (is_open c.area) c

-- ---- together

pub leaves : (code : Code) (w : World) (i : Instr) → Facts code → Stay → IsSound code.declared w.env.store
    → (is_none (open_at (desk_of w.env.store) w.env.store.selected) ≡ false
    → OpenThere code.declared w.env.store w.env.store.selected) → IsClear code w i → Needs code i w.values w.env
    → IsSound code.declared (env_after code i w.values w.env).store
leaves code w (Values i) f stay h is_open c needs = subst (IsSound code.declared) (sym (value_store i w.env)) h
leaves code w (Flow i) f stay h is_open c needs = h
leaves code w (Screen i) f stay h is_open c needs =
    subst (IsSound code.declared) (sym (screen_store i w.values w.env)) h
leaves code w (Areas i) f stay h is_open c needs = area_leaves code w i stay h is_open c needs
leaves code w (Moves i) f stay h is_open c needs = move_leaves code i w.values w.env stay h
leaves code w (Records i) f stay h is_open c needs = record_leaves code w i f stay h is_open c
