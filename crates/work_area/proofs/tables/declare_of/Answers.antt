use Rattle.std.proofs.Common.{◌≡◌, List, sym, ap, ◌∙◌, subst}
use Rattle.std.specs.Prelude.{IfSome}
use Rattle.dbf_file.specs.declared.field.Field.{Field}
use Rattle.dbf_file.specs.Fields.{widths_of}
use Rattle.key_lists.specs.KeyForm.{KeyForm}
use Rattle.shape.specs.declared.parts.KeyPart.{KeyPart}
use Rattle.shape.specs.Keys.{IsKey, key_length, key_text}
use Rattle.work_area.proofs.MakingLemmas.{key_same, alike_widths}
use Rattle.work_area.proofs.tables.declare_of.Goals as goal

pub declare_with-requires-clause-key : goal.declare_with-requires-clause-key
declare_with-requires-clause-key g c =
    let structure = c.args.made.now.table.structure in
    let key : List KeyPart = c.args.index.now.key in
    subst (IsKey structure) (sym c.copied.ensures)
    (c.fitting_keys_are_keys.ensures structure key
    (key_same structure.fields c.args.table.now.fields key c.requires.fields c.requires.key.key))

pub declare_with-requires-clause-form : goal.declare_with-requires-clause-form
declare_with-requires-clause-form g c =
    let fields : List Field = c.args.made.now.table.structure.fields in
    let declared : List Field = c.args.table.now.fields in
    let widths : widths_of declared ≡ widths_of fields = sym (alike_widths fields declared c.requires.fields) in
    let key = sym c.copied.ensures in
    let text = sym (c.spelled-text.ensures ∙ ap (λ (fs : List Field). key_text fs c.args.index.now.key)
    c.as_slice.ensures) in
    subst (λ (f : KeyForm). IfSome c.args.list (λ k. g.K.KeyList.form k ≡ f))
    (λ i. record { key_length = key_length (key i) (widths i); key_text = text i }) c.requires.form
