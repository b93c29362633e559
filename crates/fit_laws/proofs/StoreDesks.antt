-- What is known of the work areas of a store that an instruction has changed.
use Rattle.std.proofs.Common.{◌≡◌, ◌≢◌, ℕ, zero, suc, ◌-◌, ◌≤◌, Bool, true, false, List, [], ◌∷◌, length, Option, Some}
use Rattle.std.proofs.Common.{None, refl, sym, ap, subst, ◌∙◌, arith}
use Rattle.std.specs.Prelude.{not, ◌==◌, ◌&&◌, map, replicate, slice_get, slice_set, slice_index_or, is_none}
use Rattle.std.specs.Prelude.{if◌then◌else◌}
use Rattle.std.specs.List.{list_any}
use Rattle.std.proofs.lemmas.Bool.{eq-eqb, eqb-false}
use Rattle.std.proofs.lemmas.List.{length-set, get_or-set_other, set-get_or, set-set}
use Rattle.std.proofs.lemmas.Option.{slice_get_within}
use Rattle.xvalue.specs.declared.value.Value.{Value}
use Rattle.dbf_file.specs.Rows.{Row}
use Rattle.dbf_file.specs.Tables.{StructureState}
use Rattle.open_table.specs.Open.{OpenState, landed, closed, reordered, first_order, with_blank, replaced_here}
use Rattle.open_table.specs.Open.{remarked_here, opened as opened_with}
use Rattle.work_area.specs.declared.uses.Use.{Use}
use Rattle.work_area.specs.Areas.{StoreState, AreApart, use_at, selected_use, used_table, here, holds, is_elsewhere}
use Rattle.work_area.specs.Areas.{with_here, with_use, with_used, changed_found, change_here, closed_here, closed_all}
use Rattle.work_area.specs.Calls.{packed_in, zapped_in, reindexed_in, pack_of, packed_rows, all_rows, zap_landing}
use Rattle.work_area.specs.Calls.{reindex_of, index_on_of, used_here, with_list, with_filter}
use Rattle.code_items.specs.declared.code.Code.{Code}
use Rattle.code_items.specs.declared.declared.Declared.{Declared}
use Rattle.code_items.specs.declared.desk.OpenArea.{OpenArea}
use Rattle.code_items.specs.declared.desk.AreaState.{AreaState}
use Rattle.code_items.specs.declared.desk.AreaState.TheVariants.{Closed, Open as IsOpen}
use Rattle.code_items.specs.declared.desk.Desk.{Desk}
use Rattle.code_items.specs.Desks.{put_at, with_selected_area, all_closed}
use Rattle.code_items.specs.declared.instr.AreaInstr.{AreaInstr}
use Rattle.code_items.specs.declared.instr.AreaInstr.TheVariants.{Open, Close, CloseAll, Select, Order, Filter}
use Rattle.code_items.specs.declared.instr.MoveInstr.{MoveInstr}
use Rattle.code_items.specs.declared.instr.MoveInstr.TheVariants.{Top, Bottom, Skip, Go, Seek}
use Rattle.code_items.specs.declared.instr.RecordInstr.{RecordInstr}
use Rattle.code_items.specs.declared.instr.RecordInstr.TheVariants.{Field, RowField, Ask, Append, Replace, Delete}
use Rattle.code_items.specs.declared.instr.RecordInstr.TheVariants.{Recall, Pack, Zap, Reindex, Index}
use Rattle.code_items.specs.declared.instr.Instr.{Instr}
use Rattle.code_items.specs.declared.instr.Instr.TheVariants.{Values, Flow, Screen, Areas, Moves, Records}
use Rattle.code_rules.specs.Flow.{just_opened, ordered, filtered, in_list_order, if_area, on_selected, desk_after_area}
use Rattle.code_rules.specs.Flow.{desk_after_record, desk_after}
use Rattle.code_rules.specs.Rules.{is_no_list, is_other_list, selected_in}
use Rattle.run_values.specs.Tagged.{TaggedValues}
use Rattle.run_steps.specs.World.{World, EnvState, order_of, area_state, desk_of}
use Rattle.run_steps.specs.Effects.{top, on_value, on_table, list_numbers, index_in, open_landing, store_opened}
use Rattle.run_steps.specs.Effects.{store_by_area, moved, store_by_move, shown_here, closing_store, store_by_record}
use Rattle.run_steps.specs.Effects.{env_after, filter_here}
use Rattle.run_steps.specs.Filters.{shown_by, viewer}
use Rattle.run_steps.specs.Faults.{IsClear}
use Rattle.run_steps.specs.Needs.{AreaNeeds, Needs}
use Rattle.run_laws.proofs.Known.{OpenThere, area_by}
use Rattle.run_laws.proofs.OnAreas.{open_names, some_index}
use Rattle.run_laws.proofs.Tests.{first_no, second_no, then_no, not_zero, is_there}
use Rattle.work_area.proofs.AreaLemmas.{get_set_other, put_closed, put_closed_here}
use Rattle.run_laws.proofs.Stores.{set_there}
use Rattle.run_laws.proofs.Changes.{value_store, screen_store}
use Rattle.fit_laws.proofs.Covered.{joined}

abbrev desk : ℕ → List AreaState → Desk
desk selected areas = record { selected = selected; areas = areas }

-- ---- elements of a list of which one is replaced

set_self : (areas : List (Option Use)) (k : ℕ) (u : Use) → slice_index_or areas k None ≡ Some u
    → slice_set areas k (Some u) ≡ areas
set_self areas k u e = ap (λ (x : Option Use). slice_set areas k x) (sym e) ∙ set-get_or areas k None

-- ---- areas whose tables keep their orders

area_stays : (old new : List OpenState) (x : Option Use)
    → ((u : Use) → x ≡ Some u → order_of (slice_get new u.table) ≡ order_of (slice_get old u.table))
    → area_state new x ≡ area_state old x
area_stays old new None h = refl
area_stays old new (Some u) h = ap (λ k. IsOpen (area_by u k)) (h u refl)

areas_stay : (old new : List OpenState) (areas : List (Option Use))
    → ((n : ℕ) (u : Use) → slice_index_or areas n None ≡ Some u
    → order_of (slice_get new u.table) ≡ order_of (slice_get old u.table))
    → map (area_state new) areas ≡ map (area_state old) areas
areas_stay old new [] h = refl
areas_stay old new (x ∷ areas) h =
    joined (area_state new x) (area_state old x) (map (area_state new) areas) (map (area_state old) areas)
    (area_stays old new x (λ u e. h 0 u e)) (areas_stay old new areas (λ n u e. h (suc n) u e))

-- one area holds something else, and the tables of the others keep their orders
one_changes : (old new : List OpenState) (areas : List (Option Use)) (k : ℕ) (x : Option Use)
    → ((n : ℕ) (u : Use) → n ≢ k → slice_index_or areas n None ≡ Some u
    → order_of (slice_get new u.table) ≡ order_of (slice_get old u.table))
    → map (area_state new) (slice_set areas k x) ≡ slice_set (map (area_state old) areas) k (area_state new x)
one_changes old new [] k x h = refl
one_changes old new (a ∷ areas) zero x h =
    joined (area_state new x) (area_state new x) (map (area_state new) areas) (map (area_state old) areas) refl
    (areas_stay old new areas (λ n u e. h (suc n) u (λ same. absurd (omega (arith, same))) e))
one_changes old new (a ∷ areas) (suc k) x h =
    joined (area_state new a) (area_state old a) (map (area_state new) (slice_set areas k x))
    (slice_set (map (area_state old) areas) k (area_state new x))
    (area_stays old new a (λ u e. h 0 u (λ same. absurd (omega (arith, same))) e))
    (one_changes old new areas k x (λ n u differ e. h (suc n) u (λ same. differ (omega (arith, same))) e))

put_at_is : (k : ℕ) (x : AreaState) (areas : List AreaState) → 1 ≤ k → put_at k x areas ≡ slice_set areas (k - 1) x
put_at_is zero x areas le = absurd (omega (arith, le))
put_at_is (suc n) x areas le = (let same : n ≡ suc n - 1 = omega arith in ap (λ k. slice_set areas k x) same)

-- the selected area holds something else, and the tables of the others keep their orders
put_desk : (s : StoreState) (tables : List OpenState) (x : Option Use) (a : AreaState) → 1 ≤ s.selected
    → area_state tables x ≡ a
    → ((n : ℕ) (u : Use) → n ≢ s.selected - 1 → slice_index_or s.areas n None ≡ Some u
    → order_of (slice_get tables u.table) ≡ order_of (slice_get s.tables u.table))
    → desk s.selected (map (area_state tables) (slice_set s.areas (s.selected - 1) x))
    ≡ with_selected_area a (desk_of s)
put_desk s tables x a one is others =
    ap (desk s.selected) (one_changes s.tables tables s.areas (s.selected - 1) x others
    ∙ ap (λ y. slice_set (map (area_state s.tables) s.areas) (s.selected - 1) y) is
    ∙ sym (put_at_is s.selected a (map (area_state s.tables) s.areas) one))

-- another table in the place of the selected area's, which no other area holds
others_keep : (s : StoreState) (u : Use) (p : OpenState) → AreApart s.areas → use_at s s.selected ≡ Some u
    → (n : ℕ) (v : Use) → n ≢ s.selected - 1 → slice_index_or s.areas n None ≡ Some v
    → order_of (slice_get (slice_set s.tables u.table p) v.table) ≡ order_of (slice_get s.tables v.table)
others_keep s u p apart there n v differ e =
    ap order_of (get_set_other s.tables u.table v.table p (λ same. differ (apart n (s.selected - 1) v u e there same)))

-- ---- changes of the selected area's table that keep its order

order_stays : (tables : List OpenState) (t : ℕ) (o p : OpenState) → slice_get tables t ≡ Some o → p.order ≡ o.order
    → (k : ℕ) → order_of (slice_get (slice_set tables t p) k) ≡ order_of (slice_get tables k)
order_stays [] t o p at e k = refl
order_stays (x ∷ tables) zero o p at e zero = (let same : x ≡ o = cc in e ∙ ap (λ (q : OpenState). q.order) (sym same))
order_stays (x ∷ tables) zero o p at e (suc k) = refl
order_stays (x ∷ tables) (suc t) o p at e zero = refl
order_stays (x ∷ tables) (suc t) o p at e (suc k) = order_stays tables t o p at e k

used_stays : (s : StoreState) (x : Option Use) (o p : OpenState) → used_table s x ≡ Some o → p.order ≡ o.order
    → desk_of (with_used x p s) ≡ desk_of s
used_stays s None o p at e = absurd (cc)
used_stays s (Some u) o p at e =
    ap (desk s.selected) (areas_stay s.tables (slice_set s.tables u.table p) s.areas
    (λ n v f. order_stays s.tables u.table o p at e v.table))

changes_stay : (s : StoreState) (f : OpenState → OpenState) → ((o : OpenState) → (f o).order ≡ o.order)
    → desk_of (change_here f s) ≡ desk_of s
changes_stay s f h = from (here s) refl
  where
    from : (x : Option OpenState) → here s ≡ x → desk_of (changed_found f x s) ≡ desk_of s
    from None e = refl
    from (Some o) e = used_stays s (selected_use s) o (f o) e (h o)

puts_stay : (s : StoreState) (f : OpenState → OpenState) → ((o : OpenState) → (f o).order ≡ o.order)
    → desk_of (on_table (here s) s (λ o. with_here (f o) s)) ≡ desk_of s
puts_stay s f h = from (here s) refl
  where
    from : (x : Option OpenState) → here s ≡ x → desk_of (on_table x s (λ o. with_here (f o) s)) ≡ desk_of s
    from None e = refl
    from (Some o) e = used_stays s (selected_use s) o (f o) e (h o)

moved_order : (i : MoveInstr) (given : Option Value) (exact : Bool) (o : OpenState) (shown : ℕ → Bool)
    → (moved i given exact o shown).order ≡ o.order
moved_order Top given exact o shown = refl
moved_order Bottom given exact o shown = refl
moved_order Skip given exact o shown = refl
moved_order Go given exact o shown = refl
moved_order Seek given exact o shown = refl

move_desk : (code : Code) (i : MoveInstr) (t : TaggedValues) (e : EnvState)
    → desk_of (store_by_move code i t e) ≡ desk_of e.store
move_desk code i t e =
    puts_stay e.store (λ o. moved i (top t) e.settings.exact o (shown_here code t e all_rows o))
    (λ o. moved_order i (top t) e.settings.exact o (shown_here code t e all_rows o))

replace_desk : (s : StoreState) (f : ℕ) (x : Option Value)
    → desk_of (on_value x s (λ value. change_here (replaced_here f value) s)) ≡ desk_of s
replace_desk s f None = refl
replace_desk s f (Some v) = changes_stay s (replaced_here f v) (λ o. refl)

-- ---- closing

-- the selected area's table has changed, which no other area holds
record Leaves (s z : StoreState) : Type 0 where
  areas : z.areas ≡ s.areas
  selected : z.selected ≡ s.selected
  count : length z.tables ≡ length s.tables
  orders : (n : ℕ) (v : Use) → n ≢ s.selected - 1 → slice_index_or s.areas n None ≡ Some v
      → order_of (slice_get z.tables v.table) ≡ order_of (slice_get s.tables v.table)

leaves : (s : StoreState) (x : Option Use) (found : Option OpenState) → AreApart s.areas → selected_use s ≡ x
    → Leaves s (put_closed x found s)
leaves s x None apart there = record { areas = refl; selected = refl; count = refl; orders = λ n v differ e. refl }
leaves s None (Some o) apart there = record {
  areas = refl;
  selected = refl;
  count = refl;
  orders = λ n v differ e. refl;
}
leaves s (Some u) (Some o) apart there = record {
  areas = refl;
  selected = refl;
  count = length-set s.tables u.table (closed o);
  orders = others_keep s u (closed o) apart there;
}

closed_leaves : (s : StoreState) → AreApart s.areas → Leaves s (change_here closed s)
closed_leaves s apart = subst (Leaves s) (sym (put_closed_here (here s) s))
    (leaves s (selected_use s) (here s) apart refl)

close_desk : (s : StoreState) → AreApart s.areas → 1 ≤ s.selected
    → desk_of (closed_here s) ≡ with_selected_area Closed (desk_of s)
close_desk s apart one =
    let z = change_here closed s in
    let l = closed_leaves s apart in
    ap (λ k. desk k (map (area_state z.tables) (slice_set z.areas (s.selected - 1) None))) l.selected
    ∙ ap (λ (areas : List (Option Use)). desk s.selected
    (map (area_state z.tables) (slice_set areas (s.selected - 1) None))) l.areas
    ∙ put_desk s z.tables None Closed one refl l.orders

close_all_desk : (s : StoreState) → length (desk_of s).areas ≡ 10 → desk_of (closed_all s) ≡ all_closed (desk_of s)
close_all_desk s ten = ap (λ n. desk 1 (replicate n Closed)) (sym ten)

-- ---- OPEN

abbrev order_by : Bool → ℕ
order_by b = if b then 0 else 1

some_first : (ns : List ℕ) → 1 ≤ length ns → first_order ns ≡ 1
some_first [] le = absurd (omega (arith, le))
some_first (n ∷ ns) le = refl

-- a list that is named has an index, which orders
first_is : (d : Declared) (t l : ℕ) → not (l == 0) && is_no_list d l ≡ false → is_other_list d t l ≡ false
    → first_order (list_numbers d l) ≡ order_by (l == 0)
first_is d t zero named other = sym (ap order_by (eq-eqb 0 0 refl))
first_is d t (suc n) named other =
    some_first (list_numbers d (suc n))
    (some_index d (suc n) t (then_no (not (suc n == 0)) (is_no_list d (suc n)) (ap not (not_zero n)) named) other)
    ∙ sym (ap order_by (not_zero n))

-- a table that some areas don't hold
not_held : (areas : List (Option Use)) (n t : ℕ) (u : Use) → list_any (holds t) areas ≡ false
    → slice_index_or areas n None ≡ Some u → u.table ≢ t
not_held [] n t u none e = absurd (cc)
not_held (a ∷ areas) zero t u none e =
    λ same. eqb-false u.table t (ap (holds t) (sym e) ∙ first_no (holds t a) (list_any (holds t) areas) none) same
not_held (a ∷ areas) (suc n) t u none e = not_held areas n t u (second_no (holds t a) (list_any (holds t) areas) none) e

-- the selected area holds a table with these indexes that no other one holds
used_desk : (s : StoreState) (t l : ℕ) (o p : OpenState) → AreApart s.areas → 1 ≤ s.selected
    → slice_get s.tables t ≡ Some o → is_elsewhere s t ≡ false → p.order ≡ order_by (l == 0)
    → desk_of (used_here t l p s) ≡ with_selected_area (IsOpen (just_opened t l)) (desk_of s)
used_desk s t l o p apart one at elsewhere order =
    let z = change_here closed s in
    let c = closed_leaves s apart in
    let held : Use = record { table = t; list = l; filter = 0 } in
    let tables = slice_set z.tables t p in
    let there = is_there z.tables t (omega (arith, c.count, slice_get_within s.tables t o at)) in
    let put : slice_get tables t ≡ Some p = set_there z.tables t p there.0 there.1 in
    let is : area_state tables (Some held) ≡ IsOpen (just_opened t l) =
    ap (λ (x : Option OpenState). IsOpen (area_by held (order_of x))) put
    ∙ ap (λ k. IsOpen (area_by held k)) order in
    ap (λ k. desk k (map (area_state tables)
    (slice_set (slice_set z.areas (s.selected - 1) None) (s.selected - 1) (Some held)))) c.selected
    ∙ ap (λ (areas : List (Option Use)). desk s.selected
    (map (area_state tables) (slice_set (slice_set areas (s.selected - 1) None) (s.selected - 1) (Some held))))
    c.areas
    ∙ ap (λ (areas : List (Option Use)). desk s.selected (map (area_state tables) areas))
    (set-set s.areas (s.selected - 1) None (Some held))
    ∙ put_desk s tables (Some held) (IsOpen (just_opened t l)) one is
    (λ n v differ e. ap order_of (get_set_other z.tables t v.table p
    (not_held (slice_set s.areas (s.selected - 1) None) n t v elsewhere
    (get_or-set_other s.areas (s.selected - 1) n None None differ ∙ e))) ∙ c.orders n v differ e)

open_desk : (code : Code) (w : World) (t l : ℕ) → AreApart w.env.store.areas → 1 ≤ w.env.store.selected
    → IsClear code w (Areas (Open t l)) → AreaNeeds code (Open t l) w.env
    → desk_of (store_opened code t l w.env) ≡ with_selected_area (IsOpen (just_opened t l)) (desk_of w.env.store)
open_desk code w t l apart one c needs =
    let d = code.declared in
    let s = w.env.store in
    let ns = list_numbers d l in
    let named = open_names code w t l c in
    let order : first_order ns ≡ order_by (l == 0) = first_is d t l named.list named.own in
    let there = is_there s.tables t needs.0 in
    let made : OpenState = landed (opened_with ns there.0) (open_landing code l w.env there.0) in
    ap (λ x. desk_of (on_table x s (λ o. used_here t l (landed (opened_with ns o) (open_landing code l w.env o)) s)))
    there.1
    ∙ used_desk s t l there.0 made apart one there.1 needs.1 order

-- ---- changes of the selected area where it is open

selected_is : (d : Declared) (s : StoreState) (change : OpenArea → OpenArea) → (o : OpenThere d s s.selected)
    → on_selected change (desk_of s) ≡ with_selected_area (IsOpen (change (area_by o.use_of o.table.order))) (desk_of s)
selected_is d s change o = ap (λ x. if_area change x (desk_of s)) o.known

-- its table changed, and perhaps its list
table_desk : (d : Declared) (s : StoreState) (o : OpenThere d s s.selected) (v : Use) (p : OpenState) → AreApart s.areas
    → 1 ≤ s.selected → v.table ≡ o.use_of.table
    → desk s.selected
    (map (area_state (slice_set s.tables o.use_of.table p)) (slice_set s.areas (s.selected - 1) (Some v)))
    ≡ with_selected_area (IsOpen (area_by v p.order)) (desk_of s)
table_desk d s o v p apart one same =
    let u = o.use_of in
    let tables = slice_set s.tables u.table p in
    let put : slice_get tables v.table ≡ Some p =
    ap (slice_get tables) same ∙ set_there s.tables u.table p o.table o.at in
    put_desk s tables (Some v) (IsOpen (area_by v p.order)) one
    (ap (λ (x : Option OpenState). IsOpen (area_by v (order_of x))) put) (others_keep s u p apart o.held)

order_desk : (d : Declared) (s : StoreState) (n : ℕ) → AreApart s.areas → 1 ≤ s.selected
    → (o : OpenThere d s s.selected) → desk_of (change_here (reordered n) s) ≡ on_selected (ordered n) (desk_of s)
order_desk d s n apart one o =
    let u = o.use_of in
    let p : OpenState = reordered n o.table in
    ap (λ x. desk_of (changed_found (reordered n) x s)) o.there
    ∙ ap (λ x. desk_of (with_used x p s)) o.held
    ∙ ap (λ (areas : List (Option Use)). desk s.selected (map (area_state (slice_set s.tables u.table p)) areas))
    (sym (set_self s.areas (s.selected - 1) u o.held))
    ∙ table_desk d s o u p apart one refl
    ∙ sym (selected_is d s (ordered n) o)

filter_desk : (d : Declared) (s : StoreState) (n : ℕ) → 1 ≤ s.selected → (o : OpenThere d s s.selected)
    → desk_of (with_use s s.selected (with_filter n (selected_use s))) ≡ on_selected (filtered n) (desk_of s)
filter_desk d s n one o =
    let u = o.use_of in
    let v : Use = record { table = u.table; list = u.list; filter = n } in
    ap (λ x. desk_of (with_use s s.selected (with_filter n x))) o.held
    ∙ put_desk s s.tables (Some v) (IsOpen (area_by v o.table.order)) one
    (ap (λ (x : Option OpenState). IsOpen (area_by v (order_of x))) o.at) (λ k a differ e. refl)
    ∙ sym (selected_is d s (filtered n) o)

index_desk : (code : Code) (s : StoreState) (l : ℕ) (shown : StructureState → List Row → ℕ → Bool) → AreApart s.areas
    → 1 ≤ s.selected → (o : OpenThere code.declared s s.selected)
    → desk_of (on_table (here s) s (λ o. closing_store code.declared (Index l) shown o s))
    ≡ on_selected (in_list_order l) (desk_of s)
index_desk code s l shown apart one o =
    let d = code.declared in
    let u = o.use_of in
    let number = index_in d l in
    let p : OpenState =
    landed (opened_with (number ∷ []) o.table)
    (index_on_of number o.table (shown o.table.table.structure (all_rows o.table))) in
    let v : Use = record { table = u.table; list = l; filter = u.filter } in
    ap (λ x. desk_of (on_table x s (λ o. closing_store d (Index l) shown o s))) o.there
    ∙ ap (λ x. desk_of (with_use (with_used x p s) s.selected (with_list l x))) o.held
    ∙ table_desk d s o v p apart one refl
    ∙ sym (selected_is d s (in_list_order l) o)

-- ---- together

area_desk : (code : Code) (w : World) (i : AreaInstr) → AreApart w.env.store.areas → 1 ≤ w.env.store.selected
    → length (desk_of w.env.store).areas ≡ 10 → IsClear code w (Areas i) → AreaNeeds code i w.env
    → (is_none (selected_in (desk_of w.env.store)) ≡ false → OpenThere code.declared w.env.store w.env.store.selected)
    → desk_of (store_by_area code i w.env) ≡ desk_after_area i (desk_of w.env.store)
area_desk code w (Open t l) apart one ten c needs is_open = open_desk code w t l apart one c needs
area_desk code w Close apart one ten c needs is_open = close_desk w.env.store apart one
area_desk code w CloseAll apart one ten c needs is_open = close_all_desk w.env.store ten
area_desk code w (Select a) apart one ten c needs is_open = refl
area_desk code w (Order n) apart one ten c needs is_open =
    order_desk code.declared w.env.store n apart one (is_open c.area)
area_desk code w (Filter n) apart one ten c needs is_open = filter_desk code.declared w.env.store n one (is_open c.area)

record_desk : (code : Code) (w : World) (i : RecordInstr) → AreApart w.env.store.areas → 1 ≤ w.env.store.selected
    → IsClear code w (Records i)
    → (is_none (selected_in (desk_of w.env.store)) ≡ false → OpenThere code.declared w.env.store w.env.store.selected)
    → desk_of (store_by_record code i w.values w.env) ≡ desk_after_record i (desk_of w.env.store)
record_desk code w (Field a f) apart one c is_open = refl
record_desk code w (RowField f) apart one c is_open = refl
record_desk code w (Ask q) apart one c is_open = refl
record_desk code w Append apart one c is_open = changes_stay w.env.store with_blank (λ o. refl)
record_desk code w (Replace f) apart one c is_open = replace_desk w.env.store f (top w.values)
record_desk code w Delete apart one c is_open = changes_stay w.env.store (remarked_here true) (λ o. refl)
record_desk code w Recall apart one c is_open = changes_stay w.env.store (remarked_here false) (λ o. refl)
record_desk code w Pack apart one c is_open =
    let shown = shown_by code (viewer w.values w.env) (filter_here w.env.store) in
    puts_stay w.env.store (λ o. landed (packed_in o) (pack_of o (shown o.table.structure (packed_rows o)))) (λ o. refl)
record_desk code w Zap apart one c is_open = puts_stay w.env.store (λ o. landed (zapped_in o) zap_landing) (λ o. refl)
record_desk code w Reindex apart one c is_open =
    let shown = shown_by code (viewer w.values w.env) (filter_here w.env.store) in
    puts_stay w.env.store (λ o. landed (reindexed_in o) (reindex_of o (shown o.table.structure (all_rows o))))
    (λ o. refl)
record_desk code w (Index l) apart one c is_open =
    index_desk code w.env.store l (shown_by code (viewer w.values w.env) (filter_here w.env.store)) apart one
    (is_open c.area)

pub desk_is : (code : Code) (w : World) (i : Instr) → AreApart w.env.store.areas → 1 ≤ w.env.store.selected
    → length (desk_of w.env.store).areas ≡ 10 → IsClear code w i → Needs code i w.values w.env
    → (is_none (selected_in (desk_of w.env.store)) ≡ false → OpenThere code.declared w.env.store w.env.store.selected)
    → desk_of (env_after code i w.values w.env).store ≡ desk_after i (desk_of w.env.store)
desk_is code w (Values i) apart one ten c needs is_open = ap desk_of (value_store i w.env)
desk_is code w (Flow i) apart one ten c needs is_open = refl
desk_is code w (Screen i) apart one ten c needs is_open = ap desk_of (screen_store i w.values w.env)
desk_is code w (Areas i) apart one ten c needs is_open = area_desk code w i apart one ten c needs is_open
desk_is code w (Moves i) apart one ten c needs is_open = move_desk code i w.values w.env
desk_is code w (Records i) apart one ten c needs is_open = record_desk code w i apart one c is_open
