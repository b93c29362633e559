-- No step gives a table more records than it may have.
use Rattle.std.proofs.Common.{◌≡◌, ◌≤◌, ℕ, zero, suc, Bool, true, false, List, [], ◌∷◌, Option, Some, None, length}
use Rattle.std.proofs.Common.{refl, sym, subst, arith}
use Rattle.std.specs.Prelude.{option_and_then}
use Rattle.std.proofs.lemmas.Bool.{leb-false}
use Rattle.std.proofs.lemmas.List.{length-append}
use Rattle.std.proofs.lemmas.Option.{same_Some}
use Rattle.xvalue.specs.declared.value.Value.{Value}
use Rattle.open_table.specs.Open.{OpenState, landed, opened, with_blank, replaced_here, remarked_here}
use Rattle.open_table.proofs.OpenLemmas.{fewer_unmarked}
use Rattle.work_area.specs.Areas.{StoreState, IsWithinLimit, table_at, here, with_here, change_here, changed_found}
use Rattle.work_area.specs.Calls.{packed_in, zapped_in, reindexed_in, pack_of, packed_rows, all_rows, zap_landing}
use Rattle.work_area.specs.Calls.{reindex_of, index_on_of, used_here}
use Rattle.work_area.proofs.LimitLemmas.{IsNoLonger, at_here, here_few, there_within, by_change, by_close, by_close_all}
use Rattle.work_area.proofs.LimitLemmas.{by_index, by_open, same_tables, replaced_no_longer, remarked_no_longer}
use Rattle.code_items.specs.declared.code.Code.{Code}
use Rattle.code_items.specs.declared.instr.Instr.{Instr}
use Rattle.code_items.specs.declared.instr.Instr.TheVariants.{Values, Flow, Screen, Areas, Moves, Records}
use Rattle.code_items.specs.declared.instr.AreaInstr.{AreaInstr}
use Rattle.code_items.specs.declared.instr.AreaInstr.TheVariants.{Open, Close, CloseAll, Select, Order, Filter}
use Rattle.code_items.specs.declared.instr.MoveInstr.{MoveInstr}
use Rattle.code_items.specs.declared.instr.MoveInstr.TheVariants.{Top, Bottom, Skip, Go, Seek}
use Rattle.code_items.specs.declared.instr.RecordInstr.{RecordInstr}
use Rattle.code_items.specs.declared.instr.RecordInstr.TheVariants.{Field, RowField, Ask, Append, Replace, Delete}
use Rattle.code_items.specs.declared.instr.RecordInstr.TheVariants.{Recall, Pack, Zap, Reindex, Index}
use Rattle.code_rules.specs.Places.{instr_at}
use Rattle.dbf_file.specs.Rows.{Row, blank_row}
use Rattle.dbf_file.specs.Tables.{StructureState, row_widths}
use Rattle.run_values.specs.Tagged.{TaggedValues}
use Rattle.run_steps.specs.World.{World, EnvState}
use Rattle.run_steps.specs.Effects.{top, on_value, on_table, list_numbers, index_in, open_landing, store_by_area, moved}
use Rattle.run_steps.specs.Effects.{store_by_move, shown_here, closing_store, store_by_record, env_after, filter_here}
use Rattle.run_steps.specs.Filters.{shown_by, viewer}
use Rattle.run_steps.specs.Run.{is_full, holds_all, step_of, next_world, after}
use Rattle.run_steps.proofs.Runs.{led}
use Rattle.run_laws.proofs.Changes.{value_store, screen_store}

-- the selected area's table, if there is one, put back with no more records
puts : (limit : ℕ) (s : StoreState) (f : OpenState → OpenState) → ((o : OpenState) → IsNoLonger o (f o))
    → IsWithinLimit limit s → IsWithinLimit limit (on_table (here s) s (λ o. with_here (f o) s))
puts limit s f few h = from (here s) refl
  where
    from : (x : Option OpenState) → here s ≡ x → IsWithinLimit limit (on_table x s (λ o. with_here (f o) s))
    from None e = h
    from (Some o) e =
        let was = here_few limit s o h e in let le = few o in at_here limit s (f o) (omega (arith, was, le)) h

-- ---- work areas

by_area : (limit : ℕ) (code : Code) (i : AreaInstr) (e : EnvState) → IsWithinLimit limit e.store
    → IsWithinLimit limit (store_by_area code i e)
by_area limit code (Open t l) e h = from (table_at e.store t) refl
  where
    from : (x : Option OpenState) → table_at e.store t ≡ x
        → IsWithinLimit limit (on_table x e.store (λ o. used_here t l
        (landed (opened (list_numbers code.declared l) o) (open_landing code l e o)) e.store))
    from None at = h
    from (Some o) at = by_open limit e.store t l (landed (opened (list_numbers code.declared l) o)
        (open_landing code l e o)) (there_within limit e.store.tables t o h.within at) h
by_area limit code Close e h = by_close limit e.store h
by_area limit code CloseAll e h = by_close_all limit e.store h
by_area limit code (Select a) e h = same_tables limit e.store _ refl refl h
by_area limit code (Order n) e h = by_change limit e.store _ (λ o. omega arith) h
by_area limit code (Filter n) e h = same_tables limit e.store _ refl refl h

-- ---- moves

moves_few : (i : MoveInstr) (given : Option Value) (exact : Bool) (o : OpenState) (shown : ℕ → Bool)
    → IsNoLonger o (moved i given exact o shown)
moves_few Top given exact o shown = omega arith
moves_few Bottom given exact o shown = omega arith
moves_few Skip given exact o shown = omega arith
moves_few Go given exact o shown = omega arith
moves_few Seek given exact o shown = omega arith

by_move : (limit : ℕ) (code : Code) (i : MoveInstr) (t : TaggedValues) (e : EnvState) → IsWithinLimit limit e.store
    → IsWithinLimit limit (store_by_move code i t e)
by_move limit code i t e h =
    puts limit e.store (λ o. moved i (top t) e.settings.exact o (shown_here code t e all_rows o))
    (λ o. moves_few i (top t) e.settings.exact o (shown_here code t e all_rows o)) h

-- ---- records

-- a row more where there is room
appends_one : (limit : ℕ) (s : StoreState) (x : Option OpenState) → here s ≡ x → holds_all s.limit x ≡ false
    → IsWithinLimit limit s → IsWithinLimit limit (changed_found with_blank x s)
appends_one limit s None at room h = h
appends_one limit s (Some o) at room h =
    let lt = leb-false s.limit (length o.table.rows) room in
    let limits = h.limit_is in
    let longer = length-append o.table.rows (blank_row (row_widths o.table.structure) ∷ []) in
    at_here limit s (with_blank o) (omega (arith, lt, limits, longer)) h

replaces : (limit : ℕ) (s : StoreState) (f : ℕ) (x : Option Value) → IsWithinLimit limit s
    → IsWithinLimit limit (on_value x s (λ value. change_here (replaced_here f value) s))
replaces limit s f None h = h
replaces limit s f (Some v) h = by_change limit s (replaced_here f v) (replaced_no_longer f v) h

indexes : (limit : ℕ) (code : Code) (l : ℕ) (shown : StructureState → List Row → ℕ → Bool) (s : StoreState)
    → IsWithinLimit limit s
    → IsWithinLimit limit (on_table (here s) s (λ o. closing_store code.declared (Index l) shown o s))
indexes limit code l shown s h = from (here s) refl
  where
    from : (x : Option OpenState) → here s ≡ x
        → IsWithinLimit limit (on_table x s (λ o. closing_store code.declared (Index l) shown o s))
    from None at = h
    from (Some o) at =
        let n = index_in code.declared l in
        by_index limit s l (landed (opened (n ∷ []) o) (index_on_of n o (shown o.table.structure (all_rows o))))
        (here_few limit s o h at) h

by_record : (limit : ℕ) (code : Code) (i : RecordInstr) (t : TaggedValues) (e : EnvState)
    → is_full e (Records i) ≡ false → IsWithinLimit limit e.store → IsWithinLimit limit (store_by_record code i t e)
by_record limit code (Field a n) t e room h = h
by_record limit code (RowField n) t e room h = h
by_record limit code (Ask q) t e room h = h
by_record limit code Append t e room h = appends_one limit e.store (here e.store) refl room h
by_record limit code (Replace n) t e room h = replaces limit e.store n (top t) h
by_record limit code Delete t e room h = by_change limit e.store (remarked_here true) (remarked_no_longer true) h
by_record limit code Recall t e room h = by_change limit e.store (remarked_here false) (remarked_no_longer false) h
by_record limit code Pack t e room h =
    let shown = shown_by code (viewer t e) (filter_here e.store) in
    puts limit e.store (λ o. landed (packed_in o) (pack_of o (shown o.table.structure (packed_rows o))))
    (λ o. fewer_unmarked o.table.rows) h
by_record limit code Zap t e room h =
    puts limit e.store (λ o. landed (zapped_in o) zap_landing) (λ o. omega arith) h
by_record limit code Reindex t e room h =
    let shown = shown_by code (viewer t e) (filter_here e.store) in
    puts limit e.store (λ o. landed (reindexed_in o) (reindex_of o (shown o.table.structure (all_rows o))))
    (λ o. omega arith) h
by_record limit code (Index l) t e room h =
    indexes limit code l (shown_by code (viewer t e) (filter_here e.store)) e.store h

-- ---- together

by_step : (limit : ℕ) (code : Code) (i : Instr) (t : TaggedValues) (e : EnvState) → is_full e i ≡ false
    → IsWithinLimit limit e.store → IsWithinLimit limit (env_after code i t e).store
by_step limit code (Values i) t e room h = subst (IsWithinLimit limit) (sym (value_store i e)) h
by_step limit code (Flow i) t e room h = h
by_step limit code (Screen i) t e room h = subst (IsWithinLimit limit) (sym (screen_store i t e)) h
by_step limit code (Areas i) t e room h = by_area limit code i e h
by_step limit code (Moves i) t e room h = by_move limit code i t e h
by_step limit code (Records i) t e room h = by_record limit code i t e room h

then_within : (limit : ℕ) (code : Code) (x : Option World) (v : World)
    → ((u : World) → x ≡ Some u → IsWithinLimit limit u.env.store)
    → option_and_then (λ u. next_world (step_of code u)) x ≡ Some v → IsWithinLimit limit v.env.store
then_within limit code None v before e = absurd (cc)
then_within limit code (Some u) v before e =
    let l = led code u v e in
    subst (λ (x : World). IsWithinLimit limit x.env.store) (sym l.there)
    (by_step limit code (instr_at code u.place) u.values u.env l.room (before u refl))

pub run_within : (code : Code) (w : World) (limit : ℕ) → IsWithinLimit limit w.env.store → (n : ℕ) (v : World)
    → after code w n ≡ Some v → IsWithinLimit limit v.env.store
run_within code w limit h zero v e = subst (λ (x : World). IsWithinLimit limit x.env.store) (same_Some w v e) h
run_within code w limit h (suc n) v e =
    then_within limit code (after code w n) v (λ u at. run_within code w limit h n u at) e
