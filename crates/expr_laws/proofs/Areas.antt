-- What is known of work areas is true of the world: what they hold, and the fields there.
use Rattle.std.proofs.Common.{◌≡◌, ◌<◌, ◌≤◌, ℕ, zero, suc, ◌+◌, ◌-◌, Bool, true, false, List, [], ◌∷◌, length, map}
use Rattle.std.proofs.Common.{Option, Some, None, refl, sym, ap, ◌∙◌, arith}
use Rattle.std.specs.Prelude.{slice_get, slice_index_or, is_none, is_some, nat_le, nat_lt, if◌then◌else◌}
use Rattle.std.specs.List.{list_any, list_all}
use Rattle.std.specs.Str.{bytes_eq}
use Rattle.std.proofs.lemmas.Bool.{and_parts, or_parts, leb-true}
use Rattle.std.proofs.lemmas.Option.{slice_get_within, same_Some, none-some}
use Rattle.xvalue.specs.Kinds.{kind_of}
use Rattle.dbf_file.specs.declared.field.Field.{Field}
use Rattle.dbf_file.specs.Tables.{letter_at}
use Rattle.dbf_file.specs.Values.{kind_for}
use Rattle.shape.specs.declared.tables.TableShape.{TableShape}
use Rattle.open_table.specs.Open.{OpenState, field_of}
use Rattle.work_area.specs.declared.uses.Use.{Use}
use Rattle.work_area.specs.Areas.{StoreState, use_at}
use Rattle.code_items.specs.declared.declared.Declared.{Declared}
use Rattle.code_items.specs.declared.desk.OpenArea.{OpenArea}
use Rattle.code_items.specs.declared.desk.AreaState.{AreaState}
use Rattle.code_items.specs.declared.desk.AreaState.TheVariants.{Closed, Open as IsOpen, Unsure}
use Rattle.code_items.specs.declared.desk.Desk.{Desk}
use Rattle.code_items.specs.Desks.{area_covered, areas_covered, open_at, if_open as open_in}
use Rattle.code_items.specs.States.{is_area_state}
use Rattle.code_rules.specs.Rules.{fails_if_open, no_field}
use Rattle.code_rules.specs.Wants.{fields_declared, fields_at, kind_of_field}
use Rattle.prg_values.specs.declared.scope.FieldPlace.{FieldPlace}
use Rattle.prg_values.specs.Readings.{on_some, or_closed, area_at, table_fields, field_named_from, field_named}
use Rattle.prg_values.specs.Readings.{nameable_field, has_field}
use Rattle.run_steps.specs.World.{area_state, desk_of}
use Rattle.run_steps.specs.Shapes.{StoreFits}
use Rattle.run_laws.proofs.Known.{OpenThere, open_there, area_by}
use Rattle.run_laws.proofs.OnRecords.{field_known}
use Rattle.fit_laws.proofs.Covered.{Desks, opens}
use Rattle.fit_laws.proofs.Fields.{value_of_field}

-- ---- open areas

open_area : (desk : Desk) (n : ℕ) (a : OpenArea) → area_at desk n ≡ IsOpen a → open_at desk n ≡ Some a
open_area desk zero a e = absurd (let k = e in cc)
open_area desk (suc n) a e = from (slice_get desk.areas n) e
  where
    from : (x : Option AreaState) → or_closed x ≡ IsOpen a → open_in x ≡ Some a
    from None e = absurd (let k = e in cc)
    from (Some Closed) e = absurd (let k = e in cc)
    from (Some (IsOpen b)) e = (let same : b ≡ a = cc in ap (λ (x : OpenArea). Some x) same)
    from (Some Unsure) e = absurd (let k = e in cc)

there_is : {A : Type 0} (x : Option A) (a : A) → x ≡ Some a → is_none x ≡ false
there_is x a e = ap (λ y. is_none y) e

-- an area of the world that is known to hold a table: it holds that one
pub record AreaThere (d : Declared) (s : StoreState) (n : ℕ) (a : OpenArea) : Type 0 where
  pub o : OpenThere d s n
  pub table : o.use_of.table ≡ a.table

pub area_open : (d : Declared) (m : Desk) (s : StoreState) (n : ℕ) (a : OpenArea) → Desks m (desk_of s)
    → list_all (is_area_state d) (desk_of s).areas ≡ true → StoreFits d s → open_at m n ≡ Some a → AreaThere d s n a
area_open d m s n a desks all fits e =
    let same : open_at (desk_of s) n ≡ Some a = sym (opens m (desk_of s) desks n (there_is (open_at m n) a e)) ∙ e in
    let o = open_there d s n all fits (there_is (open_at (desk_of s) n) a same) in
    let is : area_by o.use_of o.table.order ≡ a = same_Some (area_by o.use_of o.table.order) a (sym o.known ∙ same) in
    record { o = o; table = ap (λ (x : OpenArea). x.table) is }

pub area_there : (d : Declared) (m : Desk) (s : StoreState) (n : ℕ) (a : OpenArea) → Desks m (desk_of s)
    → list_all (is_area_state d) (desk_of s).areas ≡ true → StoreFits d s → area_at m n ≡ IsOpen a → AreaThere d s n a
area_there d m s n a desks all fits e = area_open d m s n a desks all fits (open_area m n a e)

-- ---- closed areas

areas_closed : (tables : List OpenState) (as' : List AreaState) (uses : List (Option Use)) (n : ℕ)
    → areas_covered as' (map (area_state tables) uses) ≡ true → or_closed (slice_get as' n) ≡ Closed
    → slice_index_or uses n None ≡ None
areas_closed tables as' [] n c e = refl
areas_closed tables [] (u ∷ uses) n c e = absurd (cc)
areas_closed tables (a ∷ as') (None ∷ uses) zero c e = refl
areas_closed tables (a ∷ as') (Some u ∷ uses) zero c e =
    closed a (and_parts (area_covered (a, area_state tables (Some u)))
    (areas_covered as' (map (area_state tables) uses)) c).0 e
  where
    closed : (b : AreaState) → area_covered (b, area_state tables (Some u)) ≡ true → b ≡ Closed → Some u ≡ None
    closed Closed c e = absurd (cc)
    closed (IsOpen b) c e = absurd (let k = e in cc)
    closed Unsure c e = absurd (let k = e in cc)
areas_closed tables (a ∷ as') (u ∷ uses) (suc n) c e =
    areas_closed tables as' uses n (and_parts (area_covered (a, area_state tables u))
    (areas_covered as' (map (area_state tables) uses)) c).1 e

pub area_closed : (m : Desk) (s : StoreState) (n : ℕ) → Desks m (desk_of s) → 1 ≤ n → area_at m n ≡ Closed
    → use_at s n ≡ None
area_closed m s zero desks one e = absurd (omega (arith, one))
area_closed m s (suc n) desks one e =
    let same : suc n - 1 ≡ n = omega arith in
    ap (λ k. slice_index_or s.areas k None) same ∙ areas_closed s.tables m.areas s.areas n desks.areas e

-- ---- fields by name

-- a field that is found by its name: its number, and the kind of the one there
pub record FieldThere (fields : List Field) (n : ℕ) (f : FieldPlace) : Type 0 where
  pub index : ℕ
  pub number : f.number ≡ n + index
  pub field : Field
  pub at : slice_get fields index ≡ Some field
  pub kind : kind_for field.letter ≡ f.kind

place_there : (number : ℕ) (fd : Field) (f : FieldPlace) → nameable_field number fd ≡ Some f
    → (f.number ≡ number) × (kind_for fd.letter ≡ f.kind)
place_there number fd f e = from (nat_lt number 65536) e
  where
    from : (b : Bool) → (if b then Some (record { number = number; kind = kind_for fd.letter }) else None) ≡ Some f
        → (f.number ≡ number) × (kind_for fd.letter ≡ f.kind)
    from true e =
        let same : record { number = number; kind = kind_for fd.letter } ≡ f =
        same_Some (record { number = number; kind = kind_for fd.letter }) f e in
        (ap (λ (x : FieldPlace). x.number) (sym same), ap (λ (x : FieldPlace). x.kind) same)
    from false e = absurd (none-some f e)

field_from_there : (n : ℕ) (fields : List Field) (name : List ℕ) (f : FieldPlace)
    → field_named_from n fields name ≡ Some f → FieldThere fields n f
field_from_there n [] name f e = absurd (none-some f e)
field_from_there n (fd ∷ fields) name f e =
    from (bytes_eq fd.name.items name) (field_from_there (n + 1) fields name f) e
  where
    from : (b : Bool) → (field_named_from (n + 1) fields name ≡ Some f → FieldThere fields (n + 1) f)
        → (if b then nameable_field n fd else field_named_from (n + 1) fields name) ≡ Some f
        → FieldThere (fd ∷ fields) n f
    from true rest e =
        let p = place_there n fd f e in
        record { index = 0; number = omega (arith, p.0); field = fd; at = refl; kind = p.1 }
    from false rest e =
        let w = rest e in
        record { index = suc w.index; number = omega (arith, w.number); field = w.field; at = w.at; kind = w.kind }

pub field_there : (fields : List Field) (name : List ℕ) (f : FieldPlace) → field_named fields name ≡ Some f
    → FieldThere fields 0 f
field_there fields name f e = field_from_there 0 fields name f e

-- no table has a field of the name, and so none that is held
pub in_no_table : (tables : List TableShape) (t : ℕ) (name : List ℕ) → list_any (has_field name) tables ≡ false
    → field_named (on_some (slice_get tables t) [] (λ x. x.fields)) name ≡ None
in_no_table [] t name e = refl
in_no_table (x ∷ tables) zero name e = is_none_there (field_named x.fields name)
    (or_parts (has_field name x) (list_any (has_field name) tables) e).0
  where
    is_none_there : (y : Option FieldPlace) → is_some y ≡ false → y ≡ None
    is_none_there None e = refl
    is_none_there (Some f) e = absurd (cc)
in_no_table (x ∷ tables) (suc t) name e =
    in_no_table tables t name (or_parts (has_field name x) (list_any (has_field name) tables) e).1

-- ---- the value of a field

table_is : (x : Option TableShape) → on_some x [] (λ t. t.fields) ≡ fields_declared x
table_is None = refl
table_is (Some t) = refl

pub past : (m n : ℕ) → n < m → nat_le m n ≡ false
past m n lt = by (nat_le m n) refl
  where
    by : (b : Bool) → nat_le m n ≡ b → nat_le m n ≡ false
    by true e = absurd (omega (arith, lt, leb-true m n e))
    by false e = e

-- a field that is found by its name among those of a declared table
declared_at : (d : Declared) (t : ℕ) (name : List ℕ) (f : FieldPlace) → field_named (table_fields d.shape t) name
    ≡ Some f
    → (field : Field) × (slice_get (fields_declared (slice_get d.shape.tables t)) f.number ≡ Some field)
    × (kind_for field.letter ≡ f.kind)
declared_at d t name f e =
    let w = field_there (table_fields d.shape t) name f e in
    let number : f.number ≡ w.index = omega (arith, w.number) in (
      w.field,
      ap (slice_get (fields_declared (slice_get d.shape.tables t))) number
          ∙ ap (λ (xs : List Field). slice_get xs w.index) (sym (table_is (slice_get d.shape.tables t))) ∙ w.at,
      w.kind,
    )

-- the table that an area holds has it
pub field_declared : (d : Declared) (s : StoreState) (n : ℕ) (o : OpenThere d s n) (name : List ℕ) (f : FieldPlace)
    → field_named (table_fields d.shape o.use_of.table) name ≡ Some f → no_field d (desk_of s) n f.number ≡ false
field_declared d s n o name f e =
    let fs = fields_declared (slice_get d.shape.tables o.use_of.table) in
    let w = declared_at d o.use_of.table name f e in
    ap (fails_if_open (λ b. nat_le (length (fields_at d (Some b))) f.number)) o.known
    ∙ past (length fs) f.number (slice_get_within fs f.number w.0 w.1)

-- and with the kind that is declared
pub field_is_of_kind : (d : Declared) (s : StoreState) (n : ℕ) (fits : StoreFits d s) (o : OpenThere d s n)
    (name : List ℕ) (f : FieldPlace) → field_named (table_fields d.shape o.use_of.table) name ≡ Some f
    → kind_of (field_of f.number o.table) ≡ f.kind
field_is_of_kind d s n fits o name f e =
    let w = declared_at d o.use_of.table name f e in
    let known : Some (kind_for w.0.letter) ≡ Some (kind_for (letter_at o.table.table.structure f.number)) =
    ap kind_of_field (sym w.1) ∙ ap (λ x. kind_of_field (slice_get (fields_at d x) f.number)) (sym o.known)
    ∙ field_known d s n f.number fits o (field_declared d s n o name f e) in
    value_of_field o.table f.number ∙ sym
    (same_Some (kind_for w.0.letter) (kind_for (letter_at o.table.table.structure f.number)) known) ∙ w.2
