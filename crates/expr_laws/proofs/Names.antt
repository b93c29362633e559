-- What names are read as in a world is what they stand for there.
use Rattle.std.proofs.Common.{◌≡◌, ◌≤◌, ℕ, zero, suc, ◌+◌, Bool, true, false, ◌==◌, List, [], ◌∷◌, length, map, Option}
use Rattle.std.proofs.Common.{Some, None, refl, sym, ap, ◌∙◌, subst, arith}
use Rattle.std.specs.Prelude.{slice_get, slice_index_or, is_none, nat_lt, codes, if◌then◌else◌}
use Rattle.std.specs.List.{list_any, list_all}
use Rattle.std.specs.Str.{bytes_eq}
use Rattle.std.proofs.lemmas.Bool.{and_parts, eqb-true, eq-eqb}
use Rattle.std.proofs.lemmas.Option.{same_Some, none-some}
use Rattle.xvalue.specs.declared.kind.Kind.{Kind}
use Rattle.xvalue.specs.declared.value.Value.{Value}
use Rattle.xvalue.specs.Kinds.{kind_of, same_kind}
use Rattle.xvalue.proofs.KindLemmas.{kinds_same}
use Rattle.dbf_file.specs.declared.field.Field.{Field}
use Rattle.shape.specs.declared.whole.Shape.{Shape}
use Rattle.open_table.specs.Open.{OpenState, field_of}
use Rattle.work_area.specs.declared.uses.Use.{Use}
use Rattle.work_area.specs.Areas.{StoreState, use_at, area_table, here, selected_use, holds, AreApart}
use Rattle.code_items.specs.declared.code.Code.{Code}
use Rattle.code_items.specs.declared.desk.OpenArea.{OpenArea}
use Rattle.code_items.specs.declared.desk.AreaState.{AreaState}
use Rattle.code_items.specs.declared.desk.AreaState.TheVariants.{Closed, Open as IsOpen, Unsure}
use Rattle.code_items.specs.Desks.{area_covered, areas_covered, open_at}
use Rattle.code_items.specs.Kinds.{slot_covered, slots_covered}
use Rattle.code_items.specs.States.{is_area_state}
use Rattle.code_items.specs.declared.instr.Instr.TheVariants.{Values, Records}
use Rattle.code_items.specs.declared.instr.ValueInstr.TheVariants as value_instr
use Rattle.code_items.specs.declared.instr.RecordInstr.TheVariants as record_instr
use Rattle.code_items.specs.declared.instr.Question.{Question}
use Rattle.prg_code.specs.Bindings.{slot_named}
use Rattle.prg_values.specs.declared.scope.FieldPlace.{FieldPlace}
use Rattle.prg_values.specs.declared.scope.Reading.{Reading}
use Rattle.prg_values.specs.Readings.{Scoped, on_some, area_at, table_fields, field_named, field_in, has_field, loads}
use Rattle.prg_values.specs.Readings.{variable, field_reading, field_known, field_here, here_reading, read_name}
use Rattle.prg_values.specs.Readings.{field_of_area, read_qualified, letter_area, table_named, is_of, holder_from}
use Rattle.prg_values.specs.Readings.{holder_of, alias_area, number_below}
use Rattle.prg_values.specs.Written.{may_ask, question_kind}
use Rattle.code_rules.specs.Wants.{kind_asked}
use Rattle.run_values.specs.Tagged.{pushed, loaded_value}
use Rattle.run_steps.specs.World.{EnvState, kind_held, order_of, area_state, desk_of}
use Rattle.run_steps.specs.Effects.{answer, on_table}
use Rattle.run_steps.specs.Shapes.{StoreFits}
use Rattle.fit_laws.proofs.Covered.{Desks, area_same}
use Rattle.expr_laws.specs.Meaning.{nothing}
use Rattle.expr_laws.specs.Seeing.{slot_value, variable_value, used_fields, field_value, holder, alias_of}
use Rattle.expr_laws.specs.Seeing.{value_of_area, asked_value}
use Rattle.expr_laws.proofs.Machines.{Puts}
use Rattle.expr_laws.proofs.Areas.{AreaThere, area_open, area_there, area_closed, in_no_table, field_declared}
use Rattle.expr_laws.proofs.Areas.{field_is_of_kind}
use Rattle.fit_laws.proofs.Fields.{asked_kind}
use Rattle.expr_laws.proofs.Options.{found}
use Rattle.expr_laws.proofs.Passes.{world_run, Passes, load_passes, field_passes, question_passes}

-- a reading puts this value on a world's stack
abbrev PutsHere : Code → List (Option Value) → EnvState → Reading → Value → Type 0
PutsHere code slots e r v = Puts (world_run code slots e) (Passes code slots e) r v

-- what is known where an expression stands, and is true of slots and store
pub record Sees (code : Code) (s : Scoped) (held : List (Option Value)) (store : StoreState) : Type 0 where
  pub shape : s.shape ≡ code.declared.shape
  pub outside : s.in_filter ≡ false
  pub slots : slots_covered s.state.slots (map kind_held held) ≡ true
  pub count : length held ≡ code.declared.slots
  pub desks : Desks s.state.desk (desk_of store)
  pub all : list_all (is_area_state code.declared) (desk_of store).areas ≡ true
  pub fits : StoreFits code.declared store
  pub apart : AreApart store.areas
  pub one : 1 ≤ store.selected

-- ---- variables

pub record SlotThere (slots : List (Option Value)) (n : ℕ) (k : Kind) : Type 0 where
  pub value : Value
  pub at : slice_get slots n ≡ Some (Some value)
  pub kind : kind_of value ≡ k

slot_there : (known : List (Option Kind)) (slots : List (Option Value)) (n : ℕ) (k : Kind)
    → slots_covered known (map kind_held slots) ≡ true → slice_get known n ≡ Some (Some k) → SlotThere slots n k
slot_there [] slots n k c e = absurd (none-some (Some k) e)
slot_there (x ∷ known) [] n k c e = absurd (cc)
slot_there (x ∷ known) (None ∷ slots) zero k c e =
    absurd (let is : x ≡ Some k = same_Some x (Some k) e in
    let h : slot_covered (Some k, None) ≡ true =
    subst (λ y. slot_covered (y, None) ≡ true) is
    (and_parts (slot_covered (x, None)) (slots_covered known (map kind_held slots)) c).0 in cc)
slot_there (x ∷ known) (Some v ∷ slots) zero k c e =
    let is : x ≡ Some k = same_Some x (Some k) e in
    let h : same_kind k (kind_of v) ≡ true =
    subst (λ y. slot_covered (y, Some (kind_of v)) ≡ true) is
    (and_parts (slot_covered (x, Some (kind_of v))) (slots_covered known (map kind_held slots)) c).0 in
    record { value = v; at = refl; kind = sym (kinds_same k (kind_of v) h) }
slot_there (x ∷ known) (v ∷ slots) (suc n) k c e =
    let w = slot_there known slots n k (and_parts (slot_covered (x, kind_held v))
    (slots_covered known (map kind_held slots)) c).1 e in
    record { value = w.value; at = w.at; kind = w.kind }

-- a variable's reading
pub record IsLoad (slots : Option (Option Kind)) (slot : ℕ) (r : Reading) : Type 0 where
  pub kind : Kind
  pub known : slots ≡ Some (Some kind)
  pub is : record { instr = Values (value_instr.Load kind slot); kind = kind } ≡ r

pub is_load : (x : Option (Option Kind)) (slot : ℕ) (r : Reading) → loads slot x ≡ Some r → IsLoad x slot r
is_load None slot r e = absurd (none-some r e)
is_load (Some None) slot r e = absurd (none-some r e)
is_load (Some (Some k)) slot r e = record {
  kind = k;
  known = refl;
  is = same_Some (record { instr = Values (value_instr.Load k slot); kind = k }) r e;
}

load_puts : (code : Code) (slots : List (Option Value)) (e : EnvState) (slot : ℕ) (k : Kind)
    → length slots ≡ code.declared.slots → SlotThere slots slot k
    → PutsHere code slots e (record { instr = Values (value_instr.Load k slot); kind = k })
    (slot_value (slice_get slots slot))
load_puts code slots e slot k count w =
    let put : (st : List Value) → world_run code slots e (Values (value_instr.Load k slot)) st ≡ w.value ∷ st =
    λ st. ap (λ x. (loaded_value x (record { slots = slots; stack = st })).stack) w.at in record {
      kind = ap (λ x. kind_of (slot_value x)) w.at ∙ w.kind;
      put = λ st. put st ∙ ap (λ x. slot_value x ∷ st) (sym w.at);
      passes = λ st. load_passes code slots e k slot w.value st count w.at w.kind (put st);
    }

variable_puts : (code : Code) (s : Scoped) (slots : List (Option Value)) (e : EnvState) → Sees code s slots e.store
    → (name : List ℕ) (r : Reading) → variable s name ≡ Some r
    → PutsHere code slots e r (variable_value s.names slots name)
variable_puts code s slots e sees name r is =
    let w = found (slot_named s.names name) (λ slot. loads slot (slice_get s.state.slots slot)) r is in
    let l = is_load (slice_get s.state.slots w.a) w.a r w.made in
    let puts = load_puts code slots e w.a l.kind sees.count
    (slot_there s.state.slots slots w.a l.kind sees.slots l.known) in
    subst (λ (x : Option ℕ). PutsHere code slots e r (on_some x nothing (λ slot. slot_value (slice_get slots slot))))
    (sym w.there)
    (subst (λ (x : Reading). PutsHere code slots e x (slot_value (slice_get slots w.a))) l.is puts)

-- ---- fields

field_puts : (code : Code) (s : Scoped) (slots : List (Option Value)) (e : EnvState) → Sees code s slots e.store
    → (n : ℕ) (a : OpenArea) → AreaThere code.declared e.store n a → (name : List ℕ) (f : FieldPlace) (r : Reading)
    → field_named (table_fields s.shape a.table) name ≡ Some f → field_reading s n f ≡ Some r
    → PutsHere code slots e r (field_value (area_table e.store n) f.number)
field_puts code s slots e sees n a at name f r there is =
    let outside : Some (record { instr = Records (record_instr.Field n f.number); kind = f.kind }) ≡ Some r =
    ap (λ (b : Bool). if b then (if n == s.state.desk.selected then Some
    (record { instr = Records (record_instr.RowField f.number); kind = f.kind }) else None) else Some
    (record { instr = Records (record_instr.Field n f.number); kind = f.kind })) (sym sees.outside) ∙ is in
    let reading : record { instr = Records (record_instr.Field n f.number); kind = f.kind } ≡ r =
    same_Some (record { instr = Records (record_instr.Field n f.number); kind = f.kind }) r outside in
    let there' : field_named (table_fields code.declared.shape at.o.use_of.table) name ≡ Some f =
    ap (λ (t : ℕ). field_named (table_fields code.declared.shape t) name) at.table
    ∙ ap (λ (x : Shape). field_named (table_fields x a.table) name) (sym sees.shape) ∙ there in
    let kind = field_is_of_kind code.declared e.store n sees.fits at.o name f there' in
    let put : (st : List Value) → world_run code slots e (Records (record_instr.Field n f.number)) st
    ≡ field_of f.number at.o.table ∷ st =
    λ st. ap (λ (x : Option OpenState).
    (on_table x (record { slots = slots; stack = st })
    (λ o. pushed (field_of f.number o) (record { slots = slots; stack = st }))).stack) at.o.there in
    let puts : PutsHere code slots e (record { instr = Records (record_instr.Field n f.number); kind = f.kind })
    (field_value (area_table e.store n) f.number) = record {
      kind = ap (λ (x : Option OpenState). kind_of (field_value x f.number)) at.o.there ∙ kind;
      put = λ st. put st ∙ ap (λ (x : Option OpenState). field_value x f.number ∷ st) (sym at.o.there);
      passes = λ st. field_passes code slots e n f.number (field_of f.number at.o.table) st
          (ap (λ x. is_none x) at.o.known) (field_declared code.declared e.store n at.o name f there') (put st);
    } in
    subst (λ (x : Reading). PutsHere code slots e x (field_value (area_table e.store n) f.number)) reading puts

-- the fields of the table that an area is known to hold
fields_same : (code : Code) (s : Scoped) (slots : List (Option Value)) (store : StoreState) → Sees code s slots store
    → (n : ℕ) (a : OpenArea) → AreaThere code.declared store n a → used_fields code.declared.shape (use_at store n)
    ≡ table_fields s.shape a.table
fields_same code s slots store sees n a at =
    ap (used_fields code.declared.shape) at.o.held ∙ ap (table_fields code.declared.shape) at.table
    ∙ ap (λ (x : Shape). table_fields x a.table) (sym sees.shape)

-- ---- plain names

-- the field that is known to be read is the one that is there
field_seen : (code : Code) (s : Scoped) (slots : List (Option Value)) (store : StoreState) → Sees code s slots store
    → (name : List ℕ) (state : AreaState) (fo : Option FieldPlace)
    → area_at s.state.desk s.state.desk.selected ≡ state → field_known s name state ≡ Some fo
    → field_named (used_fields code.declared.shape (selected_use store)) name ≡ fo
field_seen code s slots store sees name Closed fo at e =
    let closed : area_at s.state.desk store.selected ≡ Closed =
    subst (λ n. area_at s.state.desk n ≡ Closed) sees.desks.selected at in
    ap (λ (u : Option Use). field_named (used_fields code.declared.shape u) name)
    (area_closed s.state.desk store store.selected sees.desks sees.one closed) ∙ same_Some None fo e
field_seen code s slots store sees name (IsOpen a) fo at e =
    let there = area_there code.declared s.state.desk store store.selected a sees.desks sees.all sees.fits
    (subst (λ n. area_at s.state.desk n ≡ IsOpen a) sees.desks.selected at) in
    ap (λ (fs : List Field). field_named fs name) (fields_same code s slots store sees store.selected a there)
    ∙ same_Some (field_in s.shape a name) fo e
field_seen code s slots store sees name Unsure fo at e = from (list_any (has_field name) s.shape.tables) refl e
  where
    held : (u : Option Use) → list_any (has_field name) s.shape.tables ≡ false
        → field_named (used_fields code.declared.shape u) name ≡ None
    held None h = refl
    held (Some u) h = ap (λ (x : Shape). field_named (table_fields x u.table) name) (sym sees.shape)
        ∙ in_no_table s.shape.tables u.table name h

    from : (b : Bool) → list_any (has_field name) s.shape.tables ≡ b → (if b then None else Some None) ≡ Some fo
        → field_named (used_fields code.declared.shape (selected_use store)) name ≡ fo
    from true h e = absurd (none-some fo e)
    from false h e = held (selected_use store) h ∙ same_Some None fo e

-- where there is a field, its area is known to hold a table
area_known : (s : Scoped) (name : List ℕ) (state : AreaState) (f : FieldPlace)
    → field_known s name state ≡ Some (Some f)
    → (a : OpenArea) × (state ≡ IsOpen a) × (field_in s.shape a name ≡ Some f)
area_known s name Closed f e = absurd (let k = e in cc)
area_known s name (IsOpen a) f e = (a, refl, same_Some (field_in s.shape a name) (Some f) e)
area_known s name Unsure f e = from (list_any (has_field name) s.shape.tables) e
  where
    from : (b : Bool) → (if b then None else Some None) ≡ Some (Some f)
        → (a : OpenArea) × (Unsure ≡ IsOpen a) × (field_in s.shape a name ≡ Some f)
    from true e = absurd (none-some (Some f) e)
    from false e = absurd (let k = e in cc)

pub name_puts : (code : Code) (s : Scoped) (slots : List (Option Value)) (e : EnvState) → Sees code s slots e.store
    → (name : List ℕ) (r : Reading) → read_name s name ≡ Some r
    → PutsHere code slots e r (on_some (field_named (used_fields code.declared.shape (selected_use e.store)) name)
    (variable_value s.names slots name) (λ f. field_value (here e.store) f.number))
unfolding read_name
name_puts code s slots e sees name r is =
    let w = found (field_here s name) (here_reading s name) r is in
    let seen = field_seen code s slots e.store sees name
    (area_at s.state.desk s.state.desk.selected) w.a refl w.there in
    subst (λ (x : Option FieldPlace). PutsHere code slots e r
    (on_some x (variable_value s.names slots name) (λ f. field_value (here e.store) f.number))) (sym seen)
    (by w.a w.there w.made)
  where
    by : (fo : Option FieldPlace) → field_here s name ≡ Some fo → here_reading s name fo ≡ Some r
        → PutsHere code slots e r (on_some fo (variable_value s.names slots name)
        (λ f. field_value (here e.store) f.number))
    by None there made = variable_puts code s slots e sees name r made
    by (Some f) there made =
        let k = area_known s name (area_at s.state.desk s.state.desk.selected) f there in
        let n : s.state.desk.selected ≡ e.store.selected = sees.desks.selected in
        let at = area_there code.declared s.state.desk e.store e.store.selected k.0 sees.desks sees.all sees.fits
        (subst (λ x. area_at s.state.desk x ≡ IsOpen k.0) n k.1) in
        field_puts code s slots e sees e.store.selected k.0 at name f r k.2
        (subst (λ x. field_reading s x f ≡ Some r) n made)

-- ---- names behind an alias

-- an area that is known to hold a table holds it
held_there : (tables : List OpenState) (as' : List AreaState) (uses : List (Option Use)) (number t a : ℕ)
    → areas_covered as' (map (area_state tables) uses) ≡ true → holder_from number as' t ≡ Some a
    → (n : ℕ) × (u : Use) × (a ≡ number + n) × (slice_index_or uses n None ≡ Some u) × (u.table ≡ t)
held_there tables [] uses number t a c e = absurd (none-some a e)
held_there tables (x ∷ as') [] number t a c e = absurd (cc)
held_there tables (x ∷ as') (u ∷ uses) number t a c e =
    let p = and_parts (area_covered (x, area_state tables u)) (areas_covered as' (map (area_state tables) uses)) c in
    from p.0 (held_there tables as' uses (number + 1) t a p.1) (is_of t x) refl e
  where
    open_same : (y : AreaState) (v : Option Use) → area_covered (y, area_state tables v) ≡ true → is_of t y ≡ true
        → (w : Use) × (v ≡ Some w) × (w.table ≡ t)
    open_same Closed v c h = absurd (cc)
    open_same Unsure v c h = absurd (cc)
    open_same (IsOpen b) None c h = absurd (cc)
    open_same (IsOpen b) (Some w) c h = (
      w,
      refl,
      sym (ap (λ (z : OpenArea). z.table)
          (area_same b (record {
            table = w.table;
            list = w.list;
            order = order_of (slice_get tables w.table);
            filter = w.filter;
          }) c)) ∙ eqb-true b.table t h,
    )

    number_same : (m b : ℕ) → number_below 256 m ≡ Some b → b ≡ m
    number_same m b e = by (nat_lt m 256) e
      where
        by : (z : Bool) → (if z then Some m else None) ≡ Some b → b ≡ m
        by true e = sym (same_Some m b e)
        by false e = absurd (none-some b e)

    from : area_covered (x, area_state tables u) ≡ true
        → (holder_from (number + 1) as' t ≡ Some a
        → (n : ℕ) × (v : Use) × (a ≡ number + 1 + n) × (slice_index_or uses n None ≡ Some v) × (v.table ≡ t))
        → (b : Bool) → is_of t x ≡ b → (if b then number_below 256 number else holder_from (number + 1) as' t) ≡ Some a
        → (n : ℕ) × (v : Use) × (a ≡ number + n) × (slice_index_or (u ∷ uses) n None ≡ Some v) × (v.table ≡ t)
    from covers rest true h e =
        let w = open_same x u covers h in
        (0, w.0, omega (arith, number_same number a e), w.1, w.2)
    from covers rest false h e =
        let w = rest e in
        (suc w.0, w.1, omega (arith, w.2), w.3, w.4)

-- and as no other area does, it is the first
first_holder : (areas : List (Option Use)) (number n t : ℕ) (u : Use) → slice_index_or areas n None ≡ Some u
    → u.table ≡ t → ((k : ℕ) (v : Use) → slice_index_or areas k None ≡ Some v → v.table ≡ t → k ≡ n)
    → holder number areas t ≡ Some (number + n)
first_holder [] number n t u there is alone = absurd (none-some u there)
first_holder (x ∷ areas) number zero t u there is alone =
    let here' : holds t x ≡ true = ap (holds t) there ∙ eq-eqb u.table t is in
    ap (λ (b : Bool). if b then Some number else holder (number + 1) areas t) here'
    ∙ ap (λ (m : ℕ). Some m) (omega arith)
first_holder (x ∷ areas) number (suc n) t u there is alone =
    from (first_holder areas (number + 1) n t u there is (λ k v at same. omega (arith, alone (suc k) v at same)))
    (holds t x) refl
  where
    not_here : (y : Option Use) → slice_index_or (x ∷ areas) 0 None ≡ y → holds t y ≡ true → ⊥
    not_here None at h = cc
    not_here (Some v) at h = omega (arith, alone 0 v at (eqb-true v.table t h))

    from : holder (number + 1) areas t ≡ Some (number + 1 + n) → (b : Bool) → holds t x ≡ b
        → (if b then Some number else holder (number + 1) areas t) ≡ Some (number + suc n)
    from rest true h = absurd (not_here x refl h)
    from rest false h =
        rest ∙ ap (λ (m : ℕ). Some m) (omega arith)

alias_seen : (code : Code) (s : Scoped) (slots : List (Option Value)) (store : StoreState) → Sees code s slots store
    → (alias : List ℕ) (a : ℕ) → alias_area s alias ≡ Some a → alias_of code.declared.shape store alias ≡ Some a
alias_seen code s slots store sees alias a e = by (letter_area alias) e
  where
    -- by the table's name
    held : (x : Option ℕ) → holder_of s x ≡ Some a → on_some x None (holder 1 store.areas) ≡ Some a
    held None e = absurd (none-some a e)
    held (Some t) e =
        let w = held_there store.tables s.state.desk.areas store.areas 1 t a sees.desks.areas e in
        first_holder store.areas 1 w.0 t w.1 w.3 w.4 (λ k v at same. sees.apart k w.0 v w.1 at w.3 (same ∙ sym w.4))
        ∙ ap (λ (m : ℕ). Some m) (sym w.2)

    by : (x : Option ℕ) → on_some x (holder_of s (table_named s.shape alias)) (λ area. Some area) ≡ Some a
        → on_some x (on_some (table_named code.declared.shape alias) None (holder 1 store.areas)) (λ area. Some area)
        ≡ Some a
    by (Some n) e = e
    by None e = ap (λ (x : Shape). on_some (table_named x alias) None (holder 1 store.areas)) (sym sees.shape)
        ∙ held (table_named s.shape alias) e

-- a field of an area that is known to hold a table
area_puts : (code : Code) (s : Scoped) (slots : List (Option Value)) (e : EnvState) → Sees code s slots e.store
    → (name : List ℕ) (n : ℕ) (state : AreaState) (r : Reading) → area_at s.state.desk n ≡ state
    → field_of_area s name n state ≡ Some r
    → PutsHere code slots e r (value_of_area code.declared.shape e.store name n)
area_puts code s slots e sees name n Closed r at is = absurd (none-some r is)
area_puts code s slots e sees name n Unsure r at is = absurd (none-some r is)
area_puts code s slots e sees name n (IsOpen a) r at is =
    let w = found (field_in s.shape a name) (field_reading s n) r is in
    let there = area_there code.declared s.state.desk e.store n a sees.desks sees.all sees.fits at in
    let same : field_named (used_fields code.declared.shape (use_at e.store n)) name ≡ Some w.a =
    ap (λ (fs : List Field). field_named fs name) (fields_same code s slots e.store sees n a there) ∙ w.there in
    subst (λ (x : Option FieldPlace). PutsHere code slots e r
    (on_some x nothing (λ f. field_value (area_table e.store n) f.number))) (sym same)
    (field_puts code s slots e sees n a there name w.a r w.there w.made)

pub alias_puts : (code : Code) (s : Scoped) (slots : List (Option Value)) (e : EnvState) → Sees code s slots e.store
    → (alias name : List ℕ) (r : Reading) → read_qualified s alias name ≡ Some r
    → PutsHere code slots e r (if bytes_eq alias (codes "M") then variable_value s.names slots name else on_some
    (alias_of code.declared.shape e.store alias) nothing (value_of_area code.declared.shape e.store name))
unfolding read_qualified
alias_puts code s slots e sees alias name r is = by (bytes_eq alias (codes "M")) is
  where
    by : (b : Bool) → (if b then variable s name else on_some (alias_area s alias) None
        (λ area. field_of_area s name area (area_at s.state.desk area))) ≡ Some r
        → PutsHere code slots e r (if b then variable_value s.names slots name else on_some
        (alias_of code.declared.shape e.store alias) nothing (value_of_area code.declared.shape e.store name))
    by true is = variable_puts code s slots e sees name r is
    by false is =
        let w = found (alias_area s alias) (λ area. field_of_area s name area (area_at s.state.desk area)) r is in
        subst (λ (x : Option ℕ). PutsHere code slots e r
        (on_some x nothing (value_of_area code.declared.shape e.store name)))
        (sym (alias_seen code s slots e.store sees alias w.a w.there))
        (area_puts code s slots e sees name w.a (area_at s.state.desk w.a) r refl w.made)

-- ---- questions

-- the selected area is known to be open, and the answer has this kind
pub record IsAsked (s : Scoped) (q : Question) (k : Kind) : Type 0 where
  pub area : OpenArea
  pub is_open : open_at s.state.desk s.state.desk.selected ≡ Some area
  pub may : may_ask s.in_filter q ≡ true
  pub kind : kind_asked q ≡ k

pub is_asked : (s : Scoped) (q : Question) (k : Kind) → question_kind s q ≡ Some k → IsAsked s q k
is_asked s q k e = by (open_at s.state.desk s.state.desk.selected) refl e
  where
    asked : (b : Bool) → may_ask s.in_filter q ≡ b → (a : OpenArea)
        → open_at s.state.desk s.state.desk.selected ≡ Some a
        → (if b then Some (kind_asked q) else None) ≡ Some k → IsAsked s q k
    asked true m a at e = record { area = a; is_open = at; may = m; kind = same_Some (kind_asked q) k e }
    asked false m a at e = absurd (none-some k e)

    by : (x : Option OpenArea) → open_at s.state.desk s.state.desk.selected ≡ x
        → (if is_none x then None else if may_ask s.in_filter q then Some (kind_asked q) else None) ≡ Some k
        → IsAsked s q k
    by None at e = absurd (none-some k e)
    by (Some a) at e = asked (may_ask s.in_filter q) refl a at e

pub question_puts : (code : Code) (s : Scoped) (slots : List (Option Value)) (e : EnvState) → Sees code s slots e.store
    → (q : Question) (k : Kind) → question_kind s q ≡ Some k
    → PutsHere code slots e (record { instr = Records (record_instr.Ask q); kind = k }) (asked_value (here e.store) q)
question_puts code s slots e sees q k is =
    let w = is_asked s q k is in
    let at = area_open code.declared s.state.desk e.store e.store.selected w.area sees.desks sees.all sees.fits
    (subst (λ n. open_at s.state.desk n ≡ Some w.area) sees.desks.selected w.is_open) in
    let put : (st : List Value) → world_run code slots e (Records (record_instr.Ask q)) st ≡ answer q at.o.table ∷ st =
    λ st. ap (λ (x : Option OpenState).
    (on_table x (record { slots = slots; stack = st })
    (λ o. pushed (answer q o) (record { slots = slots; stack = st }))).stack) at.o.there in record {
      kind = ap (λ (x : Option OpenState). kind_of (asked_value x q)) at.o.there ∙ asked_kind q at.o.table ∙ w.kind;
      put = λ st. put st ∙ ap (λ (x : Option OpenState). asked_value x q ∷ st) (sym at.o.there);
      passes = λ st. question_passes code slots e q (answer q at.o.table) st (ap (λ x. is_none x) at.o.known) (put st);
    }
