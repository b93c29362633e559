-- Legal codes fit their bytes, so that they are read from their files.
use Rattle.std.proofs.Common.{◌≡◌, ℕ, ◌+◌, ◌-◌, ◌<◌, ◌≤◌, Bool, true, false, eqb, List, [], ◌∷◌, ◌++◌, length, map}
use Rattle.std.proofs.Common.{Option, Some, None, refl, arith}
use Rattle.std.specs.Prelude.{◌&&◌, nat_le, nat_lt, slice_get}
use Rattle.std.specs.List.{AllByRecursion, list_all}
use Rattle.std.proofs.lemmas.Bool.{eqb-true, leb-true, ltb-true, and_parts}
use Rattle.dbf_file.specs.declared.field.Field.{Field}
use Rattle.dbf_file.specs.Names.{is_name}
use Rattle.dbf_file.specs.Fields.{is_field, are_fields, fields_go_on}
use Rattle.shape.specs.declared.parts.KeyPart.{KeyPart}
use Rattle.shape.specs.declared.tables.TableShape.{TableShape}
use Rattle.shape.specs.declared.indexes.IndexShape.{IndexShape}
use Rattle.shape.specs.declared.lists.IndexList.{IndexList}
use Rattle.shape.specs.Names.{is_file_name}
use Rattle.shape.specs.Keys.{is_key}
use Rattle.shape.specs.Tables.{is_table, is_next_table, tables_go_on}
use Rattle.shape.specs.Indexes.{fits_table, is_index, is_next_index, indexes_go_on}
use Rattle.shape.specs.Lists.{is_list}
use Rattle.code_items.specs.declared.declared.Need.{Need}
use Rattle.code_items.specs.declared.declared.Filter.{Filter}
use Rattle.code_items.specs.declared.declared.Declared.{Declared}
use Rattle.code_items.specs.declared.desk.AreaState.{AreaState}
use Rattle.code_items.specs.declared.desk.AreaState.TheVariants.{Closed, Open, Unsure}
use Rattle.code_items.specs.declared.state.State.{State}
use Rattle.code_items.specs.declared.code.Proc.{Proc}
use Rattle.code_items.specs.declared.code.Map.{Map}
use Rattle.code_items.specs.Declarations.{needs_rise, is_filter}
use Rattle.code_items.specs.States.{may_be_unsure, is_area_state, is_desk, is_state}
use Rattle.code_items.specs.Legal.{is_procedure, is_map, places_in_all, blocks_fill, maps_rise}
use Rattle.code_parts.specs.Laws.{FieldFits, TableFits, IndexFits, ListFits, FilterFits, AreaFits, StateFits}
use Rattle.code_parts.specs.Laws.{ProcedureFits, MapFits}

-- the first of tests joined is the outermost left
pub first_true : (a b : Bool) → (a && b) ≡ true → a ≡ true
first_true a b h = (and_parts a b h).0

pub second_true : (a b : Bool) → (a && b) ≡ true → b ≡ true
second_true a b h = (and_parts a b h).1

-- ---- tables and indexes

file_name_fits : (name : List ℕ) → is_file_name name ≡ true → length name ≤ 10
unfolding is_file_name
file_name_fits name h =
    let short = leb-true (length name) 8 (first_true _ _ (first_true _ _ h)) in
    omega (arith, short)

field_fits : (f : Field) → is_field f ≡ true → FieldFits f
unfolding is_field is_name
field_fits f h = leb-true (length f.name.items) 10 (first_true _ _ (first_true _ _ (first_true _ _ h)))

fields_fit : (earlier fs : List Field) → fields_go_on earlier fs ≡ true → AllByRecursion FieldFits fs
fields_fit earlier [] h = tt
fields_fit earlier (f ∷ fs) h = (
  field_fits f (first_true _ _ (first_true _ _ h)),
  fields_fit (earlier ++ f ∷ []) fs (second_true _ _ h),
)

table_fits : (t : TableShape) → is_table t ≡ true → TableFits t
unfolding is_table are_fields
table_fits t h =
    let fields = second_true _ _ (first_true _ _ h) in
    record {
      name = file_name_fits t.name.items (first_true _ _ (first_true _ _ h));
      fields = fields_fit [] t.fields (second_true _ _ (first_true _ _ fields));
    }

pub tables_fit : (earlier ts : List TableShape) → tables_go_on earlier ts ≡ true → AllByRecursion TableFits ts
unfolding is_next_table
tables_fit earlier [] h = tt
tables_fit earlier (t ∷ ts) h = (
  table_fits t (first_true _ _ (first_true _ _ h)),
  tables_fit (earlier ++ t ∷ []) ts (second_true _ _ h),
)

key_fits : (t : Option TableShape) (parts : List KeyPart) → fits_table t parts ≡ true → length parts ≤ 8
unfolding is_key
key_fits None parts h = absurd cc
key_fits (Some t) parts h = leb-true (length parts) 8
    (second_true _ _ (first_true _ _ (first_true _ _ (first_true _ _ (first_true _ _ h)))))

index_fits : (tables : List TableShape) (x : IndexShape) → is_index tables x ≡ true → IndexFits x
unfolding is_index
index_fits tables x h = record {
  name = file_name_fits x.name.items (first_true _ _ h);
  few = key_fits (slice_get tables x.table) x.key (second_true _ _ h);
}

pub indexes_fit : (tables : List TableShape) (earlier xs : List IndexShape) → indexes_go_on tables earlier xs ≡ true
    → AllByRecursion IndexFits xs
unfolding is_next_index
indexes_fit tables earlier [] h = tt
indexes_fit tables earlier (x ∷ xs) h = (
  index_fits tables x (first_true _ _ (first_true _ _ h)),
  indexes_fit tables (earlier ++ x ∷ []) xs
      (second_true _ _ h),
)

pub lists_fit : (indexes : List IndexShape) (ls : List IndexList) → list_all (is_list indexes) ls ≡ true
    → AllByRecursion ListFits ls
unfolding is_list
lists_fit indexes [] h = tt
lists_fit indexes (l ∷ ls) h = (
  leb-true (length l.indexes.items) 7 (first_true _ _ (first_true _ _ h)),
  lists_fit indexes ls (second_true _ _ h),
)

-- ---- blocks

abbrev pub UpTo : ℕ → ℕ → Type 0
UpTo bound n = n ≤ bound

-- blocks at the front of others, and what is left behind them
pub record Front (bound left : ℕ) (xs ys : List ℕ) : Type 0 where
  pub each : AllByRecursion (UpTo bound) xs
  pub behind : ℕ
  pub fills : blocks_fill behind ys ≡ true
  pub sum : behind + places_in_all xs ≡ left

pub front_blocks : (bound left : ℕ) (xs ys : List ℕ) → left ≤ bound → blocks_fill left (xs ++ ys) ≡ true
    → Front bound left xs ys
front_blocks bound left [] ys within h = record { each = tt; behind = left; fills = h; sum = omega arith }
front_blocks bound left (n ∷ xs) ys within h =
    let a = and_parts (nat_le 1 n && nat_le n left) (blocks_fill (left - n) (xs ++ ys)) h in
    let fits = leb-true n left (second_true _ _ a.0) in
    let rest = front_blocks bound (left - n) xs ys (omega (arith, within)) a.1 in
    let sum = rest.sum in
    record {
      each = (omega (arith, fits, within), rest.each);
      behind = rest.behind;
      fills = rest.fills;
      sum = omega (arith, sum, fits);
    }

-- ---- filters

pub needs_few : (least slots : ℕ) (needs : List Need) → needs_rise least slots needs ≡ true
    → length needs ≤ slots - least
needs_few least slots [] h = omega arith
needs_few least slots (n ∷ ns) h =
    let a = and_parts (nat_le least n.slot && nat_lt n.slot slots) (needs_rise (n.slot + 1) slots ns) h in
    let from = leb-true least n.slot (first_true _ _ a.0) in
    let to = ltb-true n.slot slots (second_true _ _ a.0) in
    let rest = needs_few (n.slot + 1) slots ns a.1 in
    omega (arith, from, to, rest)

pub filters_fit : (tables slots : ℕ) (fs : List Filter) → slots ≤ 256 → list_all (is_filter tables slots) fs ≡ true
    → AllByRecursion (UpTo 65535) (map (λ f. f.length) fs) → AllByRecursion FilterFits fs
filters_fit tables slots [] few h short = tt
filters_fit tables slots (f ∷ fs) few h short =
    let needs = needs_few 0 slots f.needs (second_true _ _ (first_true _ _ h)) in
    let len = short.0 in (
      record { short = omega (arith, len); few = omega (arith, needs, few) },
      filters_fit tables slots fs few (second_true _ _ h) short.1,
    )

-- ---- states

no_table : (n : ℕ) (m b : Bool) → n < 32 → eqb (n + 1) 255 ≡ b → (b && m) ≡ false
no_table n m true small e = absurd (let same = eqb-true (n + 1) 255 e in omega (arith, same, small))
no_table n m false small e = refl

area_fits : (d : Declared) (area : AreaState) → length d.shape.tables ≤ 32 → is_area_state d area ≡ true
    → AreaFits d.version area
area_fits d Closed few h = tt
area_fits d (Open a) few h =
    let there = ltb-true a.table (length d.shape.tables) (first_true _ _ (first_true _ _ (first_true _ _ h))) in
    no_table a.table (may_be_unsure d.version) (eqb (a.table + 1) 255) (omega (arith, there, few)) refl
area_fits d Unsure few h = h

areas_fit : (d : Declared) (areas : List AreaState) → length d.shape.tables ≤ 32
    → list_all (is_area_state d) areas ≡ true → AllByRecursion (AreaFits d.version) areas
areas_fit d [] few h = tt
areas_fit d (a ∷ areas) few h = (area_fits d a few (first_true _ _ h), areas_fit d areas few (second_true _ _ h))

state_fits : (d : Declared) (s : State) → length d.shape.tables ≤ 32 → is_state d s ≡ true
    → StateFits d.version d.slots s
unfolding is_state is_desk
state_fits d s few h =
    let desk = first_true _ _ (first_true _ _ h) in
    record {
      ten = eqb-true (length s.desk.areas) 10 (second_true _ _ (first_true _ _ desk));
      areas = areas_fit d s.desk.areas few (second_true _ _ desk);
      known = eqb-true (length s.slots) d.slots (second_true _ _ (first_true _ _ h));
    }

-- ---- procedures and maps

procedure_fits : (d : Declared) (p : Proc) → length d.shape.tables ≤ 32 → is_procedure d p ≡ true → p.length ≤ 65535
    → ProcedureFits d.version d.slots p
unfolding is_procedure
procedure_fits d p few h len =
    let states = first_true _ _ (first_true _ _ h) in
    record {
      short = omega (arith, len);
      level = leb-true p.level 20 (first_true _ _ (first_true _ _ states));
      entry = state_fits d p.entry few (second_true _ _ (first_true _ _ states));
      exit = state_fits d p.exit few (second_true _ _ states);
    }

pub procedures_fit : (d : Declared) (ps : List Proc) → length d.shape.tables ≤ 32 → list_all (is_procedure d) ps ≡ true
    → AllByRecursion (UpTo 65535) (map (λ p. p.length) ps) → AllByRecursion (ProcedureFits d.version d.slots) ps
procedures_fit d [] few h short = tt
procedures_fit d (p ∷ ps) few h short =
    (procedure_fits d p few (first_true _ _ h) short.0, procedures_fit d ps few (second_true _ _ h) short.1)

pub maps_fit : (d : Declared) (least places : ℕ) (ms : List Map) → length d.shape.tables ≤ 32 → places ≤ 65535
    → list_all (is_map d) ms ≡ true → maps_rise least places ms ≡ true → AllByRecursion (MapFits d.version d.slots) ms
maps_fit d least places [] few small h rise = tt
maps_fit d least places (m ∷ ms) few small h rise =
    let before = ltb-true m.place places (second_true _ _ (first_true _ _ rise)) in (
      record { place = omega (arith, before, small); state = state_fits d m.state few (first_true _ _ h) },
      maps_fit d (m.place + 1) places ms few small (second_true _ _ h) (second_true _ _ rise),
    )
