-- Numbers and counts of legal codes fit their bytes.
use Rattle.std.proofs.Common.{◌⊎◌, inl, inr, ◌≡◌, ℕ, zero, suc, ◌^◌, ◌<◌, ◌≤◌, true, eqb, List, [], ◌∷◌, ◌++◌}
use Rattle.std.proofs.Common.{length, Option, Some, None, refl, arith}
use Rattle.std.specs.Prelude.{◌||◌, nat_le, nat_lt, slice_get, All}
use Rattle.std.specs.List.{AllByRecursion, list_all}
use Rattle.std.proofs.lemmas.Bool.{eqb-true, leb-true, ltb-true, and_parts}
use Rattle.std.proofs.lemmas.List.Elements.{All-nil, All-cons}
use Rattle.std.proofs.lemmas.Option.{slice_get_within}
use Rattle.dbf_file.specs.Fields.{are_fields}
use Rattle.shape.specs.declared.tables.TableShape.{TableShape}
use Rattle.shape.specs.declared.lists.IndexList.{IndexList}
use Rattle.shape.specs.Tables.{is_table, is_next_table, tables_go_on}
use Rattle.code_items.specs.declared.declared.Filter.{Filter}
use Rattle.code_items.specs.declared.declared.Declared.{Declared}
use Rattle.code_items.specs.declared.desk.AreaState.{AreaState}
use Rattle.code_items.specs.declared.desk.AreaState.TheVariants.{Closed, Open, Unsure}
use Rattle.code_items.specs.declared.state.State.{State}
use Rattle.code_items.specs.declared.code.Proc.{Proc}
use Rattle.code_items.specs.declared.code.Map.{Map}
use Rattle.code_items.specs.declared.code.Code.{Code}
use Rattle.code_items.specs.Declarations.{is_filter}
use Rattle.code_items.specs.States.{lists_table, is_list_of, filters_table, is_filter_of, how_many, opened_by}
use Rattle.code_items.specs.States.{is_area_state, is_desk, is_state}
use Rattle.code_items.specs.Legal.{is_procedure, is_map, is_code}
use Rattle.code_parts.specs.Laws.{ListFits}
use Rattle.code_parts.proofs.Choices.{either_true}
use Rattle.xcode.specs.Fitting.{AreaFitsBytes, StateFitsBytes, ProcedureFitsBytes}
use Rattle.xcode.specs.Writing.{Writable}
use Rattle.xcode.proofs.LegalLaws.{first_true, second_true, needs_few, lists_fit}
use Rattle.xcode.proofs.AgainLaws.{keeps, small}

few_fields : (t : TableShape) → is_table t ≡ true → length t.fields < 256
unfolding is_table are_fields
few_fields t h =
    let few = leb-true (length t.fields) 128
    (second_true _ _ (first_true _ _ (first_true _ _ (second_true _ _ (first_true _ _ h))))) in
    omega (arith, few)

tables_write : (earlier ts : List TableShape) → tables_go_on earlier ts ≡ true → All (λ t. length t.fields < 256) ts
unfolding is_next_table
tables_write earlier [] h = All-nil (λ t. length t.fields < 256)
tables_write earlier (t ∷ ts) h = All-cons (λ t. length t.fields < 256) t ts
    (few_fields t (first_true _ _ (first_true _ _ h))) (tables_write (earlier ++ t ∷ []) ts (second_true _ _ h))

filters_write : (tables slots : ℕ) (fs : List Filter) → slots ≤ 256 → list_all (is_filter tables slots) fs ≡ true
    → All (λ f. length f.needs < 2 ^ 16) fs
filters_write tables slots [] few h = All-nil (λ f. length f.needs < 2 ^ 16)
filters_write tables slots (f ∷ fs) few h =
    let needs = needs_few 0 slots f.needs (second_true _ _ (first_true _ _ h)) in
    All-cons (λ f. length f.needs < 2 ^ 16) f fs (omega (arith, needs, few))
    (filters_write tables slots fs few (second_true _ _ h))

-- numbers of lists and filters

list_named : (d : Declared) (table list : ℕ) → is_list_of d table list ≡ true → list ≤ length d.lists
list_named d table zero h = omega arith
list_named d table (suc n) h = named (slice_get d.lists n) refl h
  where
    named : (o : Option IndexList) → slice_get d.lists n ≡ o → lists_table d.shape.indexes table o ≡ true
        → suc n ≤ length d.lists
    named None e h = absurd cc
    named (Some l) e h = let lt = slice_get_within d.lists n l e in omega (arith, lt)

filter_named : (d : Declared) (table filter : ℕ) → is_filter_of d table filter ≡ true → filter ≤ length d.filters
filter_named d table zero h = omega arith
filter_named d table (suc n) h = named (slice_get d.filters n) refl h
  where
    named : (o : Option Filter) → slice_get d.filters n ≡ o → filters_table table o ≡ true → suc n ≤ length d.filters
    named None e h = absurd cc
    named (Some f) e h = let lt = slice_get_within d.filters n f e in omega (arith, lt)

few_opened : (ls : List IndexList) → AllByRecursion ListFits ls → (n : ℕ) → how_many (slice_get ls n) ≤ 7
few_opened [] h n = omega arith
few_opened (l ∷ ls) h zero = h.0
few_opened (l ∷ ls) h (suc n) = few_opened ls h.1 n

opened_few : (d : Declared) → AllByRecursion ListFits d.lists → (list : ℕ) → opened_by d list ≤ 7
opened_few d h zero = omega arith
opened_few d h (suc n) = few_opened d.lists h n

-- states

record Few (d : Declared) : Type 0 where
  tables : length d.shape.tables ≤ 32
  lists : length d.lists ≤ 64
  filters : length d.filters ≤ 64
  bound : d.stack_bound ≤ 64
  each : AllByRecursion ListFits d.lists

area_writes : (d : Declared) (area : AreaState) → Few d → is_area_state d area ≡ true → AreaFitsBytes area
area_writes d Closed few h = tt
area_writes d (Open a) few h =
    let p = and_parts _ (eqb a.filter 0 || is_filter_of d a.table a.filter) h in
    let q = and_parts _ (nat_le a.order (opened_by d a.list)) p.0 in
    let r = and_parts (nat_lt a.table (length d.shape.tables)) (eqb a.list 0 || is_list_of d a.table a.list) q.0 in
    let table = ltb-true a.table (length d.shape.tables) r.0 in
    let order = leb-true a.order (opened_by d a.list) q.1 in
    let most = opened_few d few.each a.list in
    let t = few.tables in (
      omega (arith, table, t),
      list_small (either_true (eqb a.list 0) (is_list_of d a.table a.list) r.1),
      omega (arith, order, most),
      filter_small (either_true (eqb a.filter 0) (is_filter_of d a.table a.filter) p.1),
    )
  where
    list_small : (eqb a.list 0 ≡ true) ⊎ (is_list_of d a.table a.list ≡ true) → a.list < 256
    list_small (inl e) = let z = eqb-true a.list 0 e in omega (arith, z)
    list_small (inr e) = let n = list_named d a.table a.list e in let l = few.lists in omega (arith, n, l)

    filter_small : (eqb a.filter 0 ≡ true) ⊎ (is_filter_of d a.table a.filter ≡ true) → a.filter < 256
    filter_small (inl e) = let z = eqb-true a.filter 0 e in omega (arith, z)
    filter_small (inr e) = let n = filter_named d a.table a.filter e in let l = few.filters in omega (arith, n, l)
area_writes d Unsure few h = tt

areas_write : (d : Declared) (areas : List AreaState) → Few d → list_all (is_area_state d) areas ≡ true
    → All AreaFitsBytes areas
areas_write d [] few h = All-nil AreaFitsBytes
areas_write d (a ∷ areas) few h = All-cons AreaFitsBytes a areas (area_writes d a few (first_true _ _ h))
    (areas_write d areas few (second_true _ _ h))

state_writes : (d : Declared) (s : State) → Few d → is_state d s ≡ true → StateFitsBytes s
unfolding is_state is_desk
state_writes d s few h =
    let height = leb-true (length s.stack) d.stack_bound (second_true _ _ h) in
    let bound = few.bound in
    record {
      areas = areas_write d s.desk.areas few (second_true _ _ (first_true _ _ (first_true _ _ h)));
      height = omega (arith, height, bound);
    }

procedures_write : (d : Declared) (ps : List Proc) → Few d → list_all (is_procedure d) ps ≡ true
    → All ProcedureFitsBytes ps
unfolding is_procedure
procedures_write d [] few h = All-nil ProcedureFitsBytes
procedures_write d (p ∷ ps) few h =
    let states = first_true _ _ (first_true _ _ (first_true _ _ h)) in
    All-cons ProcedureFitsBytes p ps
    (record {
      entry = state_writes d p.entry few (second_true _ _ (first_true _ _ states));
      exit = state_writes d p.exit few (second_true _ _ states);
    }) (procedures_write d ps few (second_true _ _ h))

maps_write : (d : Declared) (ms : List Map) → Few d → list_all (is_map d) ms ≡ true
    → All (λ m. StateFitsBytes m.state) ms
maps_write d [] few h = All-nil (λ m. StateFitsBytes m.state)
maps_write d (m ∷ ms) few h = All-cons (λ m. StateFitsBytes m.state) m ms
    (state_writes d m.state few (first_true _ _ h)) (maps_write d ms few (second_true _ _ h))

pub writable : (code : Code) → is_code code ≡ true → Writable code
writable code h =
    let k = keeps code h in
    let e = k.declared in
    let d = code.declared in
    let few : Few d = record {
      tables = leb-true (length d.shape.tables) 32 e.few_tables;
      lists = leb-true (length d.lists) 64 e.few_lists;
      filters = leb-true (length d.filters) 64 e.few_filters;
      bound = leb-true d.stack_bound 64 e.stack_bound;
      each = lists_fit d.shape.indexes d.lists e.lists;
    } in
    record {
      tables = small (length d.shape.tables) 32 (omega arith) e.few_tables;
      indexes = small (length d.shape.indexes) 64 (omega arith) e.few_indexes;
      lists = small (length d.lists) 64 (omega arith) e.few_lists;
      constants = small (length d.constants) 4096 (omega arith) e.few_constants;
      filters = small (length d.filters) 64 (omega arith) e.few_filters;
      procedures = small (length code.procedures) 256 (omega arith) k.few_procedures;
      maps = small (length code.maps) 4096 (omega arith) k.few_maps;
      instructions = small (length code.instructions) 65535 (omega arith) k.few_instructions;
      each_table = tables_write [] d.shape.tables e.tables;
      each_filter = filters_write (length d.shape.tables) d.slots d.filters (leb-true d.slots 256 e.slots) e.filters;
      each_procedure = procedures_write d code.procedures few k.procedures;
      each_map = maps_write d code.maps few k.maps;
    }
