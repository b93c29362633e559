use Rattle.std.proofs.Common.{◌≡◌, ℕ, zero, suc, ◌+◌, List, [], ◌∷◌, refl, sym, ap, ◌∙◌}
use Rattle.std.specs.Prelude.{slice_get, slice_index}
use Rattle.std.proofs.lemmas.Bool.{false≢true}
use Rattle.dbf_file.specs.declared.field.Field.{Field}
use Rattle.dbf_file.specs.Fields.{widths_of}
use Rattle.key_lists.specs.KeyForm.{KeyForm}
use Rattle.shape.specs.declared.parts.KeyPart.{KeyPart}
use Rattle.shape.specs.Keys.{key_length, key_bytes, width_of, key_text}
use Rattle.work_area.proofs.handed.is_list_of.Goals as goal

width_is : (fields : List Field) (n : ℕ) → width_of (slice_get fields n) ≡ slice_index (widths_of fields) n
width_is [] n = refl
width_is (f ∷ fields) zero = refl
width_is (f ∷ fields) (suc n) = width_is fields n

bytes_are : (fields : List Field) (parts : List KeyPart) → key_bytes fields parts ≡ key_length parts (widths_of fields)
bytes_are fields [] = refl
bytes_are fields (part ∷ parts) = ap (λ n. n + key_bytes fields parts) (width_is fields part.field)
    ∙ ap (λ n. slice_index (widths_of fields) part.field + n) (bytes_are fields parts)

pub returns-then-key_length-bytes : goal.returns-then-key_length-bytes
returns-then-key_length-bytes g c =
    let fields : List Field = c.args.table.now.fields in
    let bytes = c.bytes.ensures ∙ ap (λ (fs : List Field). key_bytes fs c.args.index.now.key) c.as_slice-fields.ensures
    ∙ bytes_are fields c.args.index.now.key in (
      λ f. absurd (false≢true f),
      λ e. absurd
          (c.if-key_length-bytes.true (c.key_length.ensures ∙ ap (λ (f : KeyForm). f.key_length) e ∙ sym bytes)),
    )

pub returns : goal.returns
returns g c =
    let fields : List Field = c.args.table.now.fields in
    let key : List KeyPart = c.args.index.now.key in
    let form : KeyForm = g.K.KeyList.form c.args.keys.now in
    let bytes : c.bytes.result ≡ key_length key (widths_of fields) =
    c.bytes.ensures ∙ ap (λ (fs : List Field). key_bytes fs key) c.as_slice-fields.ensures ∙ bytes_are fields key in
    let text : c.as_slice.result.now ≡ key_text fields key = c.as_slice.ensures.value ∙ c.text.ensures
    ∙ ap (λ (fs : List Field). key_text fs key) c.as_slice-fields.ensures in
    let length : form.key_length ≡ key_length key (widths_of fields) =
    sym c.key_length.ensures ∙ c.if-key_length-bytes.false ∙ bytes in (
      λ e. (let same : form.key_text ≡ key_text fields key = sym c.key_text.ensures ∙ c.is_same.ensures.0 e
          ∙ text in λ i. record { key_length = length i; key_text = same i }),
      λ e. c.is_same.ensures.1 (c.key_text.ensures ∙ ap (λ (f : KeyForm). f.key_text) e ∙ sym text),
    )
