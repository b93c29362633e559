-- What instructions on records leave of the values: a field's value has the kind that is declared.
use Rattle.std.proofs.Common.{◌≡◌, ℕ, true, false, List, [], ◌∷◌, ◌++◌, drop, Option, Some, refl, sym, ap, subst, ◌∙◌}
use Rattle.std.specs.Prelude.{slice_get, slice_index_or, is_none}
use Rattle.xvalue.specs.declared.kind.Kind.{Kind}
use Rattle.xvalue.specs.Kinds.{kind_of}
use Rattle.dbf_file.specs.Tables.{letter_at, decimals_at}
use Rattle.dbf_file.specs.Values.{kind_for}
use Rattle.open_table.specs.Open.{OpenState, current_row, field_of}
use Rattle.work_area.specs.Areas.{StoreState, area_table, here}
use Rattle.code_items.specs.declared.code.Code.{Code}
use Rattle.code_items.specs.declared.declared.Declared.{Declared}
use Rattle.code_items.specs.declared.desk.Desk.{Desk}
use Rattle.code_items.specs.Desks.{open_at}
use Rattle.code_items.specs.declared.instr.Question.{Question}
use Rattle.code_items.specs.declared.instr.Question.TheVariants.{Recno, Reccount, Eof, Bof, Found, Deleted}
use Rattle.code_items.specs.declared.instr.Instr.TheVariants.{Records}
use Rattle.code_items.specs.declared.instr.RecordInstr.{RecordInstr}
use Rattle.code_items.specs.declared.instr.RecordInstr.TheVariants.{Field, RowField, Ask, Append, Replace, Delete}
use Rattle.code_items.specs.declared.instr.RecordInstr.TheVariants.{Recall, Pack, Zap, Reindex, Index}
use Rattle.code_rules.specs.Signature.{record_signature}
use Rattle.code_rules.specs.Wants.{fields_at, kind_of_field, field_kind, kind_asked, record_gives, known}
use Rattle.code_rules.specs.Rules.{no_field}
use Rattle.run_values.specs.Tagged.{TaggedValues, pushed}
use Rattle.run_steps.specs.World.{World, desk_of}
use Rattle.run_steps.specs.Effects.{answer, on_table, record_values}
use Rattle.run_steps.specs.Faults.{IsClear}
use Rattle.run_steps.specs.Shapes.{StoreFits}
use Rattle.dbf_file.proofs.ValueLemmas.{value_kind}
use Rattle.run_laws.proofs.Known.{OpenThere}
use Rattle.run_laws.proofs.OnRecords.{field_known}
use Rattle.run_laws.proofs.Tests.{first_no}
use Rattle.fit_laws.proofs.Covered.{Desks, opens}
use Rattle.fit_laws.proofs.Desks.{IsKnown}
use Rattle.fit_laws.proofs.Values.{Tells, push_told, drop_told}

-- ---- the kind of a field

pub value_of_field : (o : OpenState) (f : ℕ) → kind_of (field_of f o) ≡ kind_for (letter_at o.table.structure f)
value_of_field o f =
    value_kind (letter_at o.table.structure f) (decimals_at o.table.structure f)
    (slice_index_or (current_row o).texts f [])

-- ---- FIELD and questions

field_told : (code : Code) (m : Desk) (s : StoreState) (a f : ℕ) (slots : List (Option Kind)) (stack : List Kind)
    (t : TaggedValues) → Desks m (desk_of s) → is_none (open_at m a) ≡ false → StoreFits code.declared s
    → (o : OpenThere code.declared s a) → no_field code.declared (desk_of s) a f ≡ false
    → Tells slots stack t
    → Tells slots (known (Some (field_kind code.declared m a f)) ++ stack)
    (on_table (area_table s a) t (λ o. pushed (field_of f o) t))
field_told code m s a f slots stack t desks is_open fits o e h =
    let d = code.declared in
    let k = kind_for (letter_at o.table.table.structure f) in
    let kind : field_kind d m a f ≡ Some k =
    ap (λ x. kind_of_field (slice_get (fields_at d x) f)) (opens m (desk_of s) desks a is_open)
    ∙ field_known d s a f fits o e in
    let made : Tells slots (k ∷ stack) (pushed (field_of f o.table) t) =
    push_told slots stack t k (field_of f o.table) (value_of_field o.table f) h in
    subst (λ (x : Option Kind). Tells slots (known (Some x) ++ stack)
    (on_table (area_table s a) t (λ o. pushed (field_of f o) t))) (sym kind)
    (subst (λ (x : Option OpenState). Tells slots (k ∷ stack) (on_table x t (λ o. pushed (field_of f o) t)))
    (sym o.there) made)

pub asked_kind : (q : Question) (o : OpenState) → kind_of (answer q o) ≡ kind_asked q
asked_kind Recno o = refl
asked_kind Reccount o = refl
asked_kind Eof o = refl
asked_kind Bof o = refl
asked_kind Found o = refl
asked_kind Deleted o = refl

ask_told : (d : Declared) (s : StoreState) (q : Question) (slots : List (Option Kind)) (stack : List Kind)
    (t : TaggedValues) → OpenThere d s s.selected → Tells slots stack t
    → Tells slots (kind_asked q ∷ stack) (on_table (here s) t (λ o. pushed (answer q o) t))
ask_told d s q slots stack t o h =
    subst (λ (x : Option OpenState). Tells slots (kind_asked q ∷ stack) (on_table x t (λ o. pushed (answer q o) t)))
    (sym o.there) (push_told slots stack t (kind_asked q) (answer q o.table) (asked_kind q o.table) h)

-- ---- all of them

pub record_told : (code : Code) (m : Desk) (w : World) (slots : List (Option Kind)) (stack : List Kind)
    → Desks m (desk_of w.env.store) → StoreFits code.declared w.env.store
    → ((a : ℕ) → is_none (open_at (desk_of w.env.store) a) ≡ false → OpenThere code.declared w.env.store a)
    → (i : RecordInstr) → IsKnown m (Records i) → IsClear code w (Records i)
    → Tells slots stack w.values
    → Tells slots (known (record_gives code.declared m i) ++ drop (record_signature i).taken stack)
    (record_values i w.values w.env)
record_told code m w slots stack desks fits is_open (Field a f) k c h =
    field_told code m w.env.store a f slots stack w.values desks k fits (is_open a c.area)
    (first_no (no_field code.declared (desk_of w.env.store) a f) false c.declared) h
record_told code m w slots stack desks fits is_open (RowField f) k c h = absurd (let e : true ≡ false = c.filter in cc)
record_told code m w slots stack desks fits is_open (Ask q) k c h =
    ask_told code.declared w.env.store q slots stack w.values (is_open w.env.store.selected c.area) h
record_told code m w slots stack desks fits is_open Append k c h = h
record_told code m w slots stack desks fits is_open (Replace f) k c h = drop_told 1 slots stack w.values h
record_told code m w slots stack desks fits is_open Delete k c h = h
record_told code m w slots stack desks fits is_open Recall k c h = h
record_told code m w slots stack desks fits is_open Pack k c h = h
record_told code m w slots stack desks fits is_open Zap k c h = h
record_told code m w slots stack desks fits is_open Reindex k c h = h
record_told code m w slots stack desks fits is_open (Index l) k c h = h
