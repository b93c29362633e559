-- The fields of a table in use, and those that are declared for it.
use Rattle.std.proofs.Common.{◌≡◌, ℕ, zero, suc, ◌<◌, List, [], ◌∷◌, length, Some, refl, sym, ap, subst, ◌∙◌, arith}
use Rattle.std.specs.Prelude.{map, slice_get, slice_index_or, IfSome}
use Rattle.dbf_file.specs.declared.field.Field.{Field as TableField}
use Rattle.dbf_file.specs.declared.field.Letter.{Letter}
use Rattle.dbf_file.specs.declared.field.Letter.TheVariants.{C}
use Rattle.dbf_file.specs.Tables.{StructureState, letter_at}
use Rattle.dbf_file.specs.Values.{kind_for}
use Rattle.shape.specs.declared.tables.TableShape.{TableShape}
use Rattle.open_table.specs.Open.{OpenState}
use Rattle.work_area.specs.Areas.{StoreState}
use Rattle.work_area.specs.Making.{HaveAlikeFields}
use Rattle.code_items.specs.declared.declared.Declared.{Declared}
use Rattle.code_rules.specs.Wants.{fields_declared, kind_of_field}
use Rattle.run_steps.specs.Shapes.{StoreFits}
use Rattle.run_laws.proofs.Known.{OpenThere}
use Rattle.run_laws.proofs.Tests.{is_there}

-- the fields of an open area's table hold what the declared ones do
pub fields_alike : (d : Declared) (s : StoreState) (a : ℕ) → StoreFits d s → (o : OpenThere d s a)
    → HaveAlikeFields o.table.table.structure.fields (fields_declared (slice_get d.shape.tables o.use_of.table))
fields_alike d s a fits o =
    let shape = is_there d.shape.tables o.use_of.table o.declared in
    let stands = fits.fields o.use_of.table (omega (arith, o.declared, fits.count)) in
    let by_table = subst (λ x. IfSome x
    (λ (p : OpenState). IfSome (slice_get d.shape.tables o.use_of.table)
    (λ (t : TableShape). HaveAlikeFields p.table.structure.fields t.fields))) o.at stands in
    let alike : HaveAlikeFields o.table.table.structure.fields shape.0.fields = subst
    (λ x. IfSome x (λ (t : TableShape). HaveAlikeFields o.table.table.structure.fields t.fields)) shape.1 by_table in
    subst (λ (fs : List TableField). HaveAlikeFields o.table.table.structure.fields fs)
    (sym (ap fields_declared shape.1)) alike

-- the kind of a field, by its letter
kind_there : (fs : List TableField) (f : ℕ) → f < length fs
    → kind_of_field (slice_get fs f) ≡ Some (kind_for (slice_index_or (map (λ g. g.letter) fs) f C))
kind_there [] f lt = absurd (omega (arith, lt))
kind_there (g ∷ fs) zero lt = refl
kind_there (g ∷ fs) (suc f) lt = kind_there fs f (omega (arith, lt))

-- and its letter
pub letter_there : (fs : List TableField) (f : ℕ) (d : TableField) → f < length fs
    → slice_index_or (map (λ g. g.letter) fs) f C ≡ (slice_index_or fs f d).letter
letter_there [] f d lt = absurd (omega (arith, lt))
letter_there (g ∷ fs) zero d lt = refl
letter_there (g ∷ fs) (suc f) d lt = letter_there fs f d (omega (arith, lt))

-- the kind that is declared for a field is that of its letter
pub alike_kind : (structure : StructureState) (fs : List TableField) (f : ℕ) → f < length structure.fields
    → HaveAlikeFields structure.fields fs → kind_of_field (slice_get fs f) ≡ Some (kind_for (letter_at structure f))
alike_kind structure fs f lt alike =
    let gs = structure.fields in
    let within : f < length fs = omega (arith, lt, alike.count) in
    let g = (is_there gs f lt).0 in
    let each = alike.each f g lt in
    let letters : slice_index_or (map (λ (h : TableField). h.letter) fs) f C ≡ letter_at structure f =
    letter_there fs f g within ∙ sym each.letter ∙ sym (letter_there gs f g lt) in
    kind_there fs f within ∙ ap (λ (l : Letter). Some (kind_for l)) letters
