-- A filter shows the rows for which its condition holds.
use Rattle.std.proofs.Common.{◌≡◌, ◌<◌, ◌≤◌, ℕ, suc, Bool, true, false, not, ◌&&◌, ◌==◌, List, [], ◌∷◌, length, map}
use Rattle.std.proofs.Common.{Option, Some, None, refl, sym, ap, ◌∙◌, subst, arith}
use Rattle.std.specs.Prelude.{slice_get, codes, if◌then◌else◌}
use Rattle.std.specs.Str.{bytes_eq}
use Rattle.std.proofs.lemmas.Bool.{and_parts, eqb-true}
use Rattle.std.proofs.lemmas.Option.{slice_get_within, get_or_from_slice_get, same_Some, none-some}
use Rattle.xvalue.specs.declared.kind.Kind.{Kind}
use Rattle.xvalue.specs.declared.kind.Kind.TheVariants as kind
use Rattle.xvalue.specs.declared.value.Value.{Value}
use Rattle.xvalue.specs.declared.value.Value.TheVariants as value
use Rattle.xvalue.specs.Kinds.{kind_of}
use Rattle.dbf_file.specs.declared.field.Field.{Field}
use Rattle.dbf_file.specs.Tables.{letter_at}
use Rattle.dbf_file.specs.Values.{kind_for}
use Rattle.shape.specs.declared.whole.Shape.{Shape}
use Rattle.open_table.specs.Tried.{TriedRow}
use Rattle.work_area.specs.Making.{HaveAlikeFields}
use Rattle.code_items.specs.declared.code.Code.{Code}
use Rattle.code_items.specs.declared.declared.Filter.{Filter}
use Rattle.code_items.specs.declared.desk.OpenArea.{OpenArea}
use Rattle.code_items.specs.declared.desk.AreaState.{AreaState}
use Rattle.code_items.specs.declared.desk.AreaState.TheVariants.{Closed, Open as IsOpen, Unsure}
use Rattle.code_items.specs.declared.instr.Instr.{Instr}
use Rattle.code_items.specs.declared.instr.Instr.TheVariants.{Values, Records}
use Rattle.code_items.specs.declared.instr.ValueInstr.TheVariants as value_instr
use Rattle.code_items.specs.declared.instr.RecordInstr.TheVariants as record_instr
use Rattle.code_items.specs.declared.instr.Question.{Question}
use Rattle.code_items.specs.declared.instr.Question.TheVariants.{Recno, Reccount, Eof, Bof, Found as IsFound, Deleted}
use Rattle.code_items.specs.Declarations.{filter_of}
use Rattle.prg_code.specs.Bindings.{slot_named}
use Rattle.prg_expr.specs.Tree.{Tree}
use Rattle.prg_values.specs.declared.scope.FieldPlace.{FieldPlace}
use Rattle.prg_values.specs.declared.scope.Reading.{Reading}
use Rattle.prg_values.specs.Readings.{Scoped, on_some, area_at, table_fields, field_named, field_in, loads, variable}
use Rattle.prg_values.specs.Readings.{field_reading, field_known, field_here, here_reading, read_name, field_of_area}
use Rattle.prg_values.specs.Readings.{read_qualified, alias_area}
use Rattle.prg_values.specs.Written.{IsWrittenExpr, pieces_in}
use Rattle.code_rules.specs.Rules.{filter_lacks}
use Rattle.code_rules.specs.Wants.{kind_asked}
use Rattle.run_values.specs.Tagged.{HoldsKind}
use Rattle.run_values.specs.BlockStack.{is_true}
use Rattle.run_steps.specs.World.{kind_held}
use Rattle.run_steps.specs.Filters.{Viewer, row_field, asked_of, block_run, filter_block, instructions_of, block_start}
use Rattle.run_steps.specs.Filters.{block_sound, is_sound_filter, is_sound, is_unhidden, is_visible}
use Rattle.run_steps.proofs.Results.{ResultLaw}
use Rattle.run_laws.proofs.AlikeFields.{letter_there}
use Rattle.run_laws.proofs.FilterBlocks.{field_kind_is}
use Rattle.run_laws.proofs.Tests.{Same, else_yes, not_zero}
use Rattle.expr_laws.specs.Meaning.{nothing, value_in, is_truth, holds_in}
use Rattle.expr_laws.specs.Seeing.{slot_value, variable_value}
use Rattle.expr_laws.specs.Rows.{row_value, row_sight, IsOfFilter, IsOfTable}
use Rattle.expr_laws.proofs.Areas.{field_there}
use Rattle.expr_laws.proofs.Blocks.{row_puts, slot_fits, walked, pieces_fit, put_some, put_held}
use Rattle.expr_laws.proofs.Machines.{Machine, Puts, Goes, through}
use Rattle.expr_laws.proofs.Names.{is_load, is_asked}
use Rattle.expr_laws.proofs.Options.{found}
use Rattle.expr_laws.proofs.Trees.{leads}

-- the block's tests are made before it runs
abbrev untested : Instr → List Value → Type 0
untested i st = Unit {0}

-- ---- variables

loaded_puts : (code : Code) (v : Viewer) (r : TriedRow) (k : Kind) (slot : ℕ) (x : Option (Option Value))
    → slice_get v.slots slot ≡ x → HoldsKind k x
    → Puts (row_puts code v r) untested (record { instr = Values (value_instr.Load k slot); kind = k }) (slot_value x)
loaded_puts code v r k slot None at h = absurd h
loaded_puts code v r k slot (Some None) at h = absurd h
loaded_puts code v r k slot (Some (Some c)) at h =
    record { kind = h; put = λ st. ap (λ x. put_held x st) at; passes = λ st. tt }

variable_puts : (code : Code) (s : Scoped) (v : Viewer) (r : TriedRow) (name : List ℕ) (x : Reading)
    → variable s name ≡ Some x → slot_fits v.slots x.instr
    → Puts (row_puts code v r) untested x (variable_value s.names v.slots name)
variable_puts code s v r name x is fit =
    let w = found (slot_named s.names name) (λ slot. loads slot (slice_get s.state.slots slot)) x is in
    let l = is_load (slice_get s.state.slots w.a) w.a x w.made in
    let fit' : HoldsKind l.kind (slice_get v.slots w.a) =
    subst (λ (y : Reading). slot_fits v.slots y.instr) (sym l.is) fit in
    let puts = loaded_puts code v r l.kind w.a (slice_get v.slots w.a) refl fit' in
    subst (λ (y : Option ℕ). Puts (row_puts code v r) untested x
    (on_some y nothing (λ slot. slot_value (slice_get v.slots slot)))) (sym w.there)
    (subst (λ (y : Reading). Puts (row_puts code v r) untested y (slot_value (slice_get v.slots w.a))) l.is puts)

-- ---- fields of the row

row_kind : (r : TriedRow) (fields : List Field) (n : ℕ) (f : Field) → HaveAlikeFields r.structure.fields fields
    → slice_get fields n ≡ Some f → kind_of (row_field n r) ≡ kind_for f.letter
row_kind r fields n f alike at =
    let lt : n < length fields = slice_get_within fields n f at in
    let lt' : n < length r.structure.fields = omega (arith, lt, alike.count) in
    let letters : letter_at r.structure n ≡ f.letter =
    letter_there r.structure.fields n f lt' ∙ (alike.each n f lt').letter
    ∙ ap (λ (x : Field). x.letter) (get_or_from_slice_get fields n f f at) in
    field_kind_is n r lt' ∙ ap kind_for letters

-- the reading is of the row, and of the selected area
record OfRow (s : Scoped) (area : ℕ) (f : FieldPlace) (x : Reading) : Type 0 where
  own : area ≡ s.state.desk.selected
  is : record { instr = Records (record_instr.RowField f.number); kind = f.kind } ≡ x

of_row : (s : Scoped) (area : ℕ) (f : FieldPlace) (x : Reading) → s.in_filter ≡ true → field_reading s area f ≡ Some x
    → OfRow s area f x
of_row s area f x inside e = by s.in_filter (area == s.state.desk.selected) inside refl e
  where
    by : (b own : Bool) → b ≡ true → area == s.state.desk.selected ≡ own
        → (if b then (if own then Some (record { instr = Records (record_instr.RowField f.number); kind = f.kind })
        else None) else Some (record { instr = Records (record_instr.Field area f.number); kind = f.kind }))
        ≡ Some x → OfRow s area f x
    by true true i o e = record {
      own = eqb-true area s.state.desk.selected o;
      is = same_Some (record { instr = Records (record_instr.RowField f.number); kind = f.kind }) x e;
    }
    by true false i o e = absurd (none-some x e)
    by false own i o e = absurd (cc)

module _ (code : Code) (s : Scoped) (v : Viewer) (number table : ℕ) (r : TriedRow)
    (filter : IsOfFilter code s number table) (row : IsOfTable code v table r) where
  -- the fields of the area are those of the table
  fields_are : table_fields s.shape filter.area.table ≡ table_fields code.declared.shape table
  fields_are = ap (λ (x : Shape). table_fields x filter.area.table) filter.shape
      ∙ ap (table_fields code.declared.shape) filter.holds

  field_puts : (area : ℕ) (name : List ℕ) (f : FieldPlace) (x : Reading) (other : Value)
      → field_named (table_fields code.declared.shape table) name ≡ Some f → field_reading s area f ≡ Some x
      → Puts (row_puts code v r) untested x (row_value code.declared.shape table r name other)
  field_puts area name f x other there is =
      let w = of_row s area f x filter.inside is in
      let t = field_there (table_fields code.declared.shape table) name f there in
      let n : f.number ≡ t.index = omega (arith, t.number) in
      let kind : kind_of (row_field f.number r) ≡ f.kind = ap (λ (m : ℕ). kind_of (row_field m r)) n
      ∙ row_kind r (table_fields code.declared.shape table) t.index t.field row.fields t.at ∙ t.kind in
      let puts : Puts (row_puts code v r) untested
      (record { instr = Records (record_instr.RowField f.number); kind = f.kind }) (row_field f.number r) =
      record { kind = kind; put = λ st. refl; passes = λ st. tt } in
      subst (λ (y : Option FieldPlace). Puts (row_puts code v r) untested x
      (on_some y other (λ g. row_field g.number r))) (sym there)
      (subst (λ (y : Reading). Puts (row_puts code v r) untested y (row_field f.number r)) w.is puts)

  name_puts : (name : List ℕ) (x : Reading) → read_name s name ≡ Some x → slot_fits v.slots x.instr
      → Puts (row_puts code v r) untested x
      (row_value code.declared.shape table r name (variable_value s.names v.slots name))
  unfolding read_name
  name_puts name x is fit =
      let w = found (field_here s name) (here_reading s name) x is in
      let known : Some (field_in s.shape filter.area name) ≡ Some w.a = ap (field_known s name) (sym filter.known)
      ∙ w.there in
      let same : field_named (table_fields code.declared.shape table) name ≡ w.a =
      ap (λ (fs : List Field). field_named fs name) (sym fields_are)
      ∙ same_Some (field_in s.shape filter.area name) w.a known in
      by w.a same w.made
    where
      by : (y : Option FieldPlace) → field_named (table_fields code.declared.shape table) name ≡ y
          → here_reading s name y ≡ Some x → Puts (row_puts code v r) untested x
          (row_value code.declared.shape table r name (variable_value s.names v.slots name))
      by None there e = subst (λ (y : Option FieldPlace). Puts (row_puts code v r) untested x
          (on_some y (variable_value s.names v.slots name) (λ f. row_field f.number r))) (sym there)
          (variable_puts code s v r name x e fit)
      by (Some f) there e = field_puts s.state.desk.selected name f x (variable_value s.names v.slots name) there e

  area_puts : (name : List ℕ) (n : ℕ) (state : AreaState) (x : Reading) → area_at s.state.desk n ≡ state
      → field_of_area s name n state ≡ Some x
      → Puts (row_puts code v r) untested x (row_value code.declared.shape table r name nothing)
  area_puts name n Closed x at e = absurd (none-some x e)
  area_puts name n Unsure x at e = absurd (none-some x e)
  area_puts name n (IsOpen a) x at e =
      let w = found (field_in s.shape a name) (field_reading s n) x e in
      let own = (of_row s n w.a x filter.inside w.made).own in
      let known : IsOpen a ≡ IsOpen filter.area = sym at ∙ ap (area_at s.state.desk) own ∙ filter.known in
      let same : a ≡ filter.area = open_same a filter.area known in
      field_puts n name w.a x nothing (ap (λ (fs : List Field). field_named fs name) (sym fields_are)
      ∙ ap (λ (b : OpenArea). field_in s.shape b name) (sym same) ∙ w.there) w.made
    where
      open_same : (a b : OpenArea) → IsOpen a ≡ IsOpen b → a ≡ b
      open_same a b e = cc

  alias_puts : (alias name : List ℕ) (x : Reading) → read_qualified s alias name ≡ Some x → slot_fits v.slots x.instr
      → Puts (row_puts code v r) untested x
      (if bytes_eq alias (codes "M") then variable_value s.names v.slots name
      else row_value code.declared.shape table r name nothing)
  unfolding read_qualified
  alias_puts alias name x is fit = by (bytes_eq alias (codes "M")) is
    where
      by : (b : Bool) → (if b then variable s name else on_some (alias_area s alias) None
          (λ area. field_of_area s name area (area_at s.state.desk area))) ≡ Some x
          → Puts (row_puts code v r) untested x
          (if b then variable_value s.names v.slots name else row_value code.declared.shape table r name nothing)
      by true e = variable_puts code s v r name x e fit
      by false e =
          let w = found (alias_area s alias) (λ area. field_of_area s name area (area_at s.state.desk area)) x e in
          area_puts name w.a (area_at s.state.desk w.a) x refl w.made

  asked_is : (q : Question) → kind_of (asked_of q r) ≡ kind_asked q
  asked_is Recno = refl
  asked_is Reccount = refl
  asked_is Eof = refl
  asked_is Bof = refl
  asked_is IsFound = refl
  asked_is Deleted = refl

  row_machine : Machine s (row_sight code.declared.shape s.names v table r) code.declared.constants (slot_fits v.slots)
      (row_puts code v r) untested
  row_machine = record {
    constant = λ n c st e. ap (λ x. put_some x st) e;
    function = λ f st. refl;
    today = λ st. refl;
    named = name_puts;
    qualified = alias_puts;
    asked = λ q k e fit. record { kind = asked_is q ∙ (is_asked s q k e).kind; put = λ st. refl; passes = λ st. tt };
    constant_passes = λ n c st e. tt;
    function_passes = λ f vs st e. tt;
    today_passes = λ st. tt;
  }

  -- ---- the filter's block

  top_true : (c : Value) → is_true (c ∷ []) ≡ is_truth c
  top_true (value.Number n) = refl
  top_true (value.Text t) = refl
  top_true (value.Date d) = refl
  top_true (value.Logical b) = refl

  block_truth : ResultLaw → Same → code.declared.stack_bound ≤ 64 → (e : Tree) (block : List Instr)
      → block_sound code (block_start table (map kind_held v.slots)) block ≡ true
      → IsWrittenExpr s e kind.Logical code.declared.constants block
      → is_true (block_run code v r block []) ≡ holds_in (row_sight code.declared.shape s.names v table r) e
  block_truth law same few e block sound written =
      let w = walked code same few v r table row.slots block sound in
      let goes : Goes code.declared.constants (row_puts code v r) (pieces_in s e) []
      (through (row_puts code v r) block []) = record { block = block; are = written.pieces; leads = refl } in
      let top = leads s (row_sight code.declared.shape s.names v table r) code.declared.constants (slot_fits v.slots)
      (row_puts code v r) untested row_machine law e kind.Logical []
      (through (row_puts code v r) block []) written.kind_is
      (pieces_fit (slot_fits v.slots) code.declared.constants (pieces_in s e) block written.pieces w.fits) goes in
      ap is_true (w.same ∙ top) ∙ top_true (value_in (row_sight code.declared.shape s.names v table r) e)

-- the block of a declared filter that is sound
sound_block : (code : Code) (slots : List (Option Kind)) (m : ℕ) (f : Filter) → filter_of code.declared (suc m) ≡ Some f
    → is_sound code slots (suc m) ≡ true → block_sound code (block_start f.table slots) (filter_block code (suc m))
    ≡ true
sound_block code slots m f at e =
    let judged : is_sound_filter code slots (suc m) (Some f) ≡ true = ap (is_sound_filter code slots (suc m)) (sym at)
    ∙ (else_yes (suc m == 0) (is_sound_filter code slots (suc m) (filter_of code.declared (suc m)))
    (not_zero m) e) in
    subst (λ x. block_sound code (block_start f.table slots) (instructions_of code (suc m) x) ≡ true) (sym at)
    (and_parts (not (filter_lacks slots (Some f)))
    (block_sound code (block_start f.table slots) (instructions_of code (suc m) (Some f))) judged).1

pub shows : (code : Code) → ResultLaw → Same → code.declared.stack_bound ≤ 64
    → (s : Scoped) (v : Viewer) (m table : ℕ) (r : TriedRow) (e : Tree) → IsOfFilter code s (suc m) table
    → IsOfTable code v table r → is_sound code (map kind_held v.slots) (suc m) ≡ true
    → IsWrittenExpr s e kind.Logical code.declared.constants (filter_block code (suc m))
    → is_visible code v (suc m) r ≡ (is_unhidden v.settings.deleted r && holds_in
    (row_sight code.declared.shape s.names v table r) e)
shows code law same few s v m table r e filter row sound written =
    let sound' = subst (λ t. block_sound code (block_start t (map kind_held v.slots)) (filter_block code (suc m))
    ≡ true) filter.of_table (sound_block code (map kind_held v.slots) m filter.filter filter.declared sound) in
    ap (λ (b : Bool). is_unhidden v.settings.deleted r && b)
    (block_truth code s v (suc m) table r filter row law same few e (filter_block code (suc m)) sound' written)
