-- Each step leaves the tables and indexes of a shape.
use Rattle.std.proofs.Common.{◌≡◌, ℕ, zero, suc, Bool, true, false, List, [], ◌∷◌, Option, Some, None, refl, sym, subst}
use Rattle.std.specs.Prelude.{option_and_then}
use Rattle.std.proofs.lemmas.Option.{same_Some}
use Rattle.xvalue.specs.declared.value.Value.{Value}
use Rattle.dbf_file.specs.Rows.{Row}
use Rattle.dbf_file.specs.Tables.{StructureState}
use Rattle.row_moves.specs.Moves.{Landing}
use Rattle.shape.specs.declared.whole.Shape.{Shape}
use Rattle.open_table.specs.Open.{OpenState, landed, opened, reordered, with_blank, replaced_here, remarked_here}
use Rattle.work_area.specs.Areas.{StoreState, table_at, selected_use, here, with_here, change_here}
use Rattle.work_area.specs.Calls.{packed_in, zapped_in, reindexed_in, pack_of, packed_rows, all_rows, zap_landing}
use Rattle.work_area.specs.Calls.{reindex_of, index_on_of, used_here, with_filter}
use Rattle.work_area.specs.Shapes.{StoreHasShape, IsSameKind, KindsStay, ShapesStay}
use Rattle.code_items.specs.declared.code.Code.{Code}
use Rattle.code_items.specs.declared.instr.Instr.{Instr}
use Rattle.code_items.specs.declared.instr.Instr.TheVariants.{Values, Flow, Screen, Areas, Moves, Records}
use Rattle.code_items.specs.declared.instr.AreaInstr.{AreaInstr}
use Rattle.code_items.specs.declared.instr.AreaInstr.TheVariants.{Open, Close, CloseAll, Select, Order, Filter}
use Rattle.code_items.specs.declared.instr.MoveInstr.{MoveInstr}
use Rattle.code_items.specs.declared.instr.MoveInstr.TheVariants.{Top, Bottom, Skip, Go, Seek}
use Rattle.code_items.specs.declared.instr.RecordInstr.{RecordInstr}
use Rattle.code_items.specs.declared.instr.RecordInstr.TheVariants.{Field, RowField, Ask, Append, Replace, Delete}
use Rattle.code_items.specs.declared.instr.RecordInstr.TheVariants.{Recall, Pack, Zap, Reindex, Index}
use Rattle.code_rules.specs.Places.{instr_at}
use Rattle.run_values.specs.Tagged.{TaggedValues}
use Rattle.run_steps.specs.World.{World, EnvState}
use Rattle.run_steps.specs.Effects.{top, whole_on_top, record_number, move_landing, on_value, on_table, list_numbers}
use Rattle.run_steps.specs.Effects.{index_in, open_landing, store_opened, store_by_area, moved, store_by_move}
use Rattle.run_steps.specs.Effects.{shown_here, closing_store, store_by_record, env_after, filter_here}
use Rattle.run_steps.specs.Filters.{shown_by, viewer}
use Rattle.run_steps.specs.Run.{step_of, next_world, after}
use Rattle.run_steps.proofs.Runs.{led}
use Rattle.run_laws.proofs.Changes.{value_store, screen_store}

-- each change of a store keeps a shape, and each change of a table what it is of
pub record Keeps (shape : Shape) : Type 0 where
  pub stores : (s : StoreState) → ShapesStay shape s
  pub tables : (o : OpenState) → KindsStay o

puts : (shape : Shape) (s : StoreState) (f : OpenState → OpenState) → Keeps shape
    → ((o : OpenState) → IsSameKind o (f o)) → StoreHasShape shape s
    → StoreHasShape shape (on_table (here s) s (λ o. with_here (f o) s))
puts shape s f k alike h = from (here s) refl
  where
    from : (x : Option OpenState) → here s ≡ x → StoreHasShape shape (on_table x s (λ o. with_here (f o) s))
    from None e = h
    from (Some o) e = (k.stores s).at_here o (f o) h e (alike o)

-- a change that ends with a move
ends : (shape : Shape) → Keeps shape → (o p : OpenState) (landing : Landing) → IsSameKind o p
    → IsSameKind o (landed p landing)
ends shape k o p landing kind = (k.tables o).chain p (landed p landing) kind ((k.tables p).by_move landing)

-- ---- work areas

opens : (shape : Shape) (code : Code) (t l : ℕ) (e : EnvState) → Keeps shape → StoreHasShape shape e.store
    → StoreHasShape shape (store_opened code t l e)
opens shape code t l e k h = from (table_at e.store t) refl
  where
    from : (x : Option OpenState) → table_at e.store t ≡ x
        → StoreHasShape shape (on_table x e.store (λ o. used_here t l (landed (opened (list_numbers code.declared l) o)
        (open_landing code l e o)) e.store))
    from None g = h
    from (Some o) g =
        let ns = list_numbers code.declared l in
        let landing = open_landing code l e o in
        (k.stores e.store).by_open t l o (landed (opened ns o) landing) h g
        (ends shape k o (opened ns o) landing ((k.tables o).by_open ns))

by_area : (shape : Shape) (code : Code) (i : AreaInstr) (e : EnvState) → Keeps shape → StoreHasShape shape e.store
    → StoreHasShape shape (store_by_area code i e)
by_area shape code (Open t l) e k h = opens shape code t l e k h
by_area shape code Close e k h = (k.stores e.store).by_close h
by_area shape code CloseAll e k h = (k.stores e.store).by_close_all h
by_area shape code (Select a) e k h = (k.stores e.store).by_select a h
by_area shape code (Order n) e k h = (k.stores e.store).by_change (reordered n) (λ o. (k.tables o).by_order n) h
by_area shape code (Filter n) e k h =
    (k.stores e.store).by_use e.store.selected (with_filter n (selected_use e.store)) h

-- ---- moves

moves_kind : (shape : Shape) (i : MoveInstr) (given : Option Value) (exact : Bool) (o : OpenState) (shown : ℕ → Bool)
    → Keeps shape → IsSameKind o (moved i given exact o shown)
moves_kind shape Top given exact o shown k = (k.tables o).by_move (move_landing Top given exact o shown)
moves_kind shape Bottom given exact o shown k = (k.tables o).by_move (move_landing Bottom given exact o shown)
moves_kind shape Skip given exact o shown k = (k.tables o).by_move (move_landing Skip given exact o shown)
moves_kind shape Go given exact o shown k = (k.tables o).by_go (record_number (whole_on_top given))
moves_kind shape Seek given exact o shown k = (k.tables o).by_move (move_landing Seek given exact o shown)

by_move : (shape : Shape) (code : Code) (i : MoveInstr) (t : TaggedValues) (e : EnvState) → Keeps shape
    → StoreHasShape shape e.store → StoreHasShape shape (store_by_move code i t e)
by_move shape code i t e k h =
    puts shape e.store (λ o. moved i (top t) e.settings.exact o (shown_here code t e all_rows o)) k
    (λ o. moves_kind shape i (top t) e.settings.exact o (shown_here code t e all_rows o) k) h

-- ---- records

replaces : (shape : Shape) (s : StoreState) (f : ℕ) (x : Option Value) → Keeps shape → StoreHasShape shape s
    → StoreHasShape shape (on_value x s (λ value. change_here (replaced_here f value) s))
replaces shape s f None k h = h
replaces shape s f (Some v) k h = (k.stores s).by_change (replaced_here f v) (λ o. (k.tables o).by_replace f v) h

indexes : (shape : Shape) (code : Code) (l : ℕ) (shown : StructureState → List Row → ℕ → Bool) (s : StoreState)
    → Keeps shape → StoreHasShape shape s
    → StoreHasShape shape (on_table (here s) s (λ o. closing_store code.declared (Index l) shown o s))
indexes shape code l shown s k h = from (here s) refl
  where
    from : (x : Option OpenState) → here s ≡ x
        → StoreHasShape shape (on_table x s (λ o. closing_store code.declared (Index l) shown o s))
    from None e = h
    from (Some o) e =
        let n = index_in code.declared l in
        let landing = index_on_of n o (shown o.table.structure (all_rows o)) in
        (k.stores s).by_index l o (landed (opened (n ∷ []) o) landing) h e
        (ends shape k o (opened (n ∷ []) o) landing ((k.tables o).by_open (n ∷ [])))

by_record : (shape : Shape) (code : Code) (i : RecordInstr) (t : TaggedValues) (e : EnvState) → Keeps shape
    → StoreHasShape shape e.store → StoreHasShape shape (store_by_record code i t e)
by_record shape code (Field a n) t e k h = h
by_record shape code (RowField n) t e k h = h
by_record shape code (Ask q) t e k h = h
by_record shape code Append t e k h = (k.stores e.store).by_change with_blank (λ o. (k.tables o).by_append) h
by_record shape code (Replace n) t e k h = replaces shape e.store n (top t) k h
by_record shape code Delete t e k h =
    (k.stores e.store).by_change (remarked_here true) (λ o. (k.tables o).by_mark true) h
by_record shape code Recall t e k h =
    (k.stores e.store).by_change (remarked_here false) (λ o. (k.tables o).by_mark false) h
by_record shape code Pack t e k h =
    let shown = shown_by code (viewer t e) (filter_here e.store) in
    puts shape e.store (λ o. landed (packed_in o) (pack_of o (shown o.table.structure (packed_rows o)))) k
    (λ o. ends shape k o (packed_in o) (pack_of o (shown o.table.structure (packed_rows o))) (k.tables o).by_pack) h
by_record shape code Zap t e k h =
    puts shape e.store (λ o. landed (zapped_in o) zap_landing) k
    (λ o. ends shape k o (zapped_in o) zap_landing (k.tables o).by_zap) h
by_record shape code Reindex t e k h =
    let shown = shown_by code (viewer t e) (filter_here e.store) in
    puts shape e.store (λ o. landed (reindexed_in o) (reindex_of o (shown o.table.structure (all_rows o)))) k
    (λ o. ends shape k o (reindexed_in o) (reindex_of o (shown o.table.structure (all_rows o))) (k.tables o).by_reindex)
    h
by_record shape code (Index l) t e k h =
    indexes shape code l (shown_by code (viewer t e) (filter_here e.store)) e.store k h

-- ---- together

by_step : (shape : Shape) (code : Code) (i : Instr) (t : TaggedValues) (e : EnvState) → Keeps shape
    → StoreHasShape shape e.store → StoreHasShape shape (env_after code i t e).store
by_step shape code (Values i) t e k h = subst (StoreHasShape shape) (sym (value_store i e)) h
by_step shape code (Flow i) t e k h = h
by_step shape code (Screen i) t e k h = subst (StoreHasShape shape) (sym (screen_store i t e)) h
by_step shape code (Areas i) t e k h = by_area shape code i e k h
by_step shape code (Moves i) t e k h = by_move shape code i t e k h
by_step shape code (Records i) t e k h = by_record shape code i t e k h

then_keeps : (shape : Shape) (code : Code) (x : Option World) (v : World) → Keeps shape
    → ((u : World) → x ≡ Some u → StoreHasShape shape u.env.store)
    → option_and_then (λ u. next_world (step_of code u)) x ≡ Some v → StoreHasShape shape v.env.store
then_keeps shape code None v k before e = absurd (cc)
then_keeps shape code (Some u) v k before e =
    subst (λ (x : World). StoreHasShape shape x.env.store) (sym (led code u v e).there)
    (by_step shape code (instr_at code u.place) u.values u.env k (before u refl))

pub kept : (shape : Shape) (code : Code) (w : World) (n : ℕ) (v : World) → Keeps shape → after code w n ≡ Some v
    → StoreHasShape shape w.env.store → StoreHasShape shape v.env.store
kept shape code w zero v k e h = subst (λ (x : World). StoreHasShape shape x.env.store) (same_Some w v e) h
kept shape code w (suc n) v k e h = then_keeps shape code (after code w n) v k (λ u at. kept shape code w n u k at h) e
