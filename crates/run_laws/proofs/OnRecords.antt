-- What instructions on records need is there where their tests come out well.
use Rattle.std.proofs.Common.{◌≡◌, ℕ, ◌<◌, ◌≤◌, Bool, true, false, List, [], ◌∷◌, length, Option, Some, refl, sym, ap}
use Rattle.std.proofs.Common.{subst, ◌∙◌, arith}
use Rattle.std.specs.Prelude.{nat_lt, nat_le, slice_get, unwrap_or, is_some, IfSome}
use Rattle.std.specs.List.{list_all}
use Rattle.std.proofs.lemmas.Bool.{leb-true, leb-false, and_parts, or_parts}
use Rattle.xvalue.specs.declared.kind.Kind.{Kind}
use Rattle.dbf_file.specs.declared.field.Field.{Field as TableField}
use Rattle.dbf_file.specs.Tables.{letter_at}
use Rattle.dbf_file.specs.Values.{kind_for}
use Rattle.open_table.specs.Marks.{mark_at}
use Rattle.open_table.specs.Open.{OpenState}
use Rattle.work_area.specs.Areas.{StoreState, area_table, here}
use Rattle.code_items.specs.declared.code.Code.{Code}
use Rattle.code_items.specs.declared.declared.Declared.{Declared}
use Rattle.code_items.specs.declared.instr.Instr.TheVariants.{Records}
use Rattle.code_items.specs.declared.instr.RecordInstr.{RecordInstr}
use Rattle.code_items.specs.declared.instr.RecordInstr.TheVariants.{Field, RowField, Ask, Append, Replace, Delete}
use Rattle.code_items.specs.declared.instr.RecordInstr.TheVariants.{Recall, Pack, Zap, Reindex, Index}
use Rattle.code_items.specs.Desks.{open_at}
use Rattle.code_items.specs.Facts.{Facts}
use Rattle.code_items.specs.Instrs.{is_instr, is_area, is_two}
use Rattle.code_items.specs.Kinds.{clashes}
use Rattle.code_items.specs.States.{opened_by}
use Rattle.code_rules.specs.Wants.{fields_declared, fields_at, kind_of_field, field_kind, if_known}
use Rattle.code_rules.specs.Rules.{is_other_list, is_no_list, is_no_index, no_field, fails_if_open}
use Rattle.run_steps.specs.World.{World, state_of, desk_of}
use Rattle.run_steps.specs.Effects.{list_numbers, index_in}
use Rattle.run_steps.specs.Faults.{IsClear}
use Rattle.run_steps.specs.Needs.{ClosingNeeds, HasField, TakesField, RecordNeeds}
use Rattle.run_steps.specs.Shapes.{StoreFits}
use Rattle.run_steps.proofs.Results.{ResultLaw}
use Rattle.run_laws.proofs.AlikeFields.{fields_alike, alike_kind}
use Rattle.run_laws.proofs.Known.{Known, OpenThere, open_there}
use Rattle.run_laws.proofs.Tests.{Same, first_no, on_top, enough, room_for}
use Rattle.run_laws.proofs.OnAreas.{marks_there, own_indexes, some_index, selected_there, is_here}
use Rattle.run_laws.proofs.OnMoves.{walks}

-- ---- fields

fields_known : (d : Declared) (s : StoreState) (a : ℕ) → (o : OpenThere d s a)
    → fields_at d (open_at (desk_of s) a) ≡ fields_declared (slice_get d.shape.tables o.use_of.table)
fields_known d s a o = ap (fields_at d) o.known

field_there : (d : Declared) (s : StoreState) (a f : ℕ) → StoreFits d s → (o : OpenThere d s a)
    → no_field d (desk_of s) a f ≡ false → f < length o.table.table.structure.fields
field_there d s a f fits o e =
    let fails : nat_le (length (fields_declared (slice_get d.shape.tables o.use_of.table))) f ≡ false =
    ap (fails_if_open (λ b. nat_le (length (fields_at d (Some b))) f)) (sym o.known) ∙ e in
    let alike = fields_alike d s a fits o in
    omega (arith, leb-false (length (fields_declared (slice_get d.shape.tables o.use_of.table))) f fails, alike.count)

has_field : (s : StoreState) (f : ℕ) (x : Option OpenState) (o : OpenState) → x ≡ Some o
    → f < length o.table.structure.fields → HasField f x
has_field s f x o e lt = subst (HasField f) (sym e) (refl, lt)

-- the kind that is declared for a field of an open area's table
pub field_known : (d : Declared) (s : StoreState) (a f : ℕ) → StoreFits d s → (o : OpenThere d s a)
    → no_field d (desk_of s) a f ≡ false
    → field_kind d (desk_of s) a f ≡ Some (kind_for (letter_at o.table.table.structure f))
field_known d s a f fits o e =
    let lt = field_there d s a f fits o e in
    ap (λ (fs : List TableField). kind_of_field (slice_get fs f)) (fields_known d s a o)
    ∙ alike_kind o.table.table.structure (fields_declared (slice_get d.shape.tables o.use_of.table)) f lt
    (fields_alike d s a fits o)

replace_ready : Same → (code : Code) (w : World) → StoreFits code.declared w.env.store → (f : ℕ)
    → OpenThere code.declared w.env.store w.env.store.selected → IsClear code w (Records (Replace f))
    → HasField f (here w.env.store) × IfSome (here w.env.store) (TakesField f w.values)
replace_ready same code w fits f o c =
    let d = code.declared in
    let s = w.env.store in
    let named = first_no (no_field d (desk_of s) s.selected f) false c.declared in
    let lt = field_there d s s.selected f fits o named in
    let kind = field_known d s s.selected f fits o named in
    let clash : clashes (kind_for (letter_at o.table.table.structure f) ∷ []) (state_of w).stack ≡ false =
    ap (λ (k : Option Kind). clashes (if_known k) (state_of w).stack) (sym kind)
    ∙ first_no (clashes (if_known (field_kind d (desk_of s) s.selected f)) (state_of w).stack) false c.kind in (
      has_field s f (here s) o.table o.there lt,
      subst (λ x. IfSome x (TakesField f w.values)) (sym o.there)
          (on_top same (kind_for (letter_at o.table.table.structure f) ∷ []) w.values.stack clash
          (omega (arith, enough w.values.stack 1 c.there))),
    )

-- ---- INDEX

-- the first of some numbers that all pass a test
first_passes : (test : ℕ → Bool) (ns : List ℕ) → 1 ≤ length ns → list_all test ns ≡ true
    → test (unwrap_or (slice_get ns 0) 0) ≡ true
first_passes test [] le all = absurd (omega (arith, le))
first_passes test (n ∷ ns) le all = (and_parts (test n) (list_all test ns) all).0

index_ready : (code : Code) (w : World) → Facts code → StoreFits code.declared w.env.store → (l : ℕ)
    → OpenThere code.declared w.env.store w.env.store.selected → IsClear code w (Records (Index l))
    → ClosingNeeds code (Index l) w.env.store
index_ready code w f fits l o c =
    let d = code.declared in
    let s = w.env.store in
    let p = or_parts (is_no_list d l) (is_no_index d (desk_of s) l) c.declared in
    let q =
    or_parts (nat_lt 1 (opened_by d l))
    (fails_if_open (λ a. is_other_list d a.table l) (open_at (desk_of s) s.selected)) p.1 in
    let own : is_other_list d o.use_of.table l ≡ false =
    ap (fails_if_open (λ a. is_other_list d a.table l)) (sym o.known) ∙ q.1 in
    let marks =
    marks_there d s o.use_of.table o.table (list_numbers d l) fits o.at
    (own_indexes d o.use_of.table l f.lists own) in
    subst (λ x. IfSome x (λ (o : OpenState). is_some (mark_at o.table.marks (index_in d l)) ≡ true)) (sym o.there)
    (first_passes (λ n. is_some (mark_at o.table.table.marks n)) (list_numbers d l)
    (some_index d l o.use_of.table p.0 own) marks)

-- ---- together

pub record_ready : Same → ResultLaw → (code : Code) (w : World) → Facts code → Known code.declared (state_of w)
    → StoreFits code.declared w.env.store → (i : RecordInstr) → is_instr code.declared.version (Records i) ≡ true
    → IsClear code w (Records i) → RecordNeeds code i w.values w.env
record_ready same law code w f k fits (Field a n) legal c =
    let o = open_there code.declared w.env.store a k.areas fits c.area in
    let p = and_parts (is_area a) (is_two n) legal in
    let q = and_parts (nat_le 1 a) (nat_le a 10) p.0 in (
      leb-true 1 a q.0,
      leb-true a 10 q.1,
      has_field w.env.store n (area_table w.env.store a) o.table o.there
          (field_there code.declared w.env.store a n fits o
          (first_no (no_field code.declared (desk_of w.env.store) a n) false c.declared)),
      room_for code.declared.stack_bound w.values.stack f.stack_bound c.room,
    )
record_ready same law code w f k fits (RowField n) legal c = absurd (let e : true ≡ false = c.filter in cc)
record_ready same law code w f k fits (Ask q) legal c = (
  is_here code.declared w.env.store (selected_there code w k fits c.area),
  room_for code.declared.stack_bound w.values.stack f.stack_bound c.room,
)
record_ready same law code w f k fits Append legal c = is_here code.declared w.env.store
    (selected_there code w k fits c.area)
record_ready same law code w f k fits (Replace n) legal c = replace_ready same code w fits n
    (selected_there code w k fits c.area) c
record_ready same law code w f k fits Delete legal c = is_here code.declared w.env.store
    (selected_there code w k fits c.area)
record_ready same law code w f k fits Recall legal c = is_here code.declared w.env.store
    (selected_there code w k fits c.area)
record_ready same law code w f k fits Pack legal c =
    (walks same law code w f k fits (selected_there code w k fits c.area) c.filter, tt)
record_ready same law code w f k fits Zap legal c =
    (walks same law code w f k fits (selected_there code w k fits c.area) c.filter, tt)
record_ready same law code w f k fits Reindex legal c =
    (walks same law code w f k fits (selected_there code w k fits c.area) c.filter, tt)
record_ready same law code w f k fits (Index l) legal c =
    (let o = selected_there code w k fits c.area in
    (walks same law code w f k fits o c.filter, index_ready code w f fits l o c))
