use Rattle.std.proofs.Common.{◌≡◌, ◌<◌, ℕ, List, [], length, map, replicate, get_or, refl, sym, ap, ◌∙◌, subst, arith}
use Rattle.std.proofs.lemmas.List.{length-map, get_or-map, take-replicate}
use Rattle.dbf_file.specs.declared.field.Field.{Field}
use Rattle.dbf_file.specs.declared.field.Letter.TheVariants.{C}
use Rattle.dbf_file.specs.Tables.{StructureState, letter_at, decimals_at, row_widths}
use Rattle.dbf_file.specs.Values.{value_by}
use Rattle.open_table.proofs.opened.blank.Goals as goal

-- the value of so many blanks
blank_field : (s : StructureState) (f n : ℕ) (field : Field) → f < length s.fields → field ≡ get_or s.fields f field
    → n ≡ field.width → value_by field.letter field.decimals (replicate n 32)
    ≡ value_by (letter_at s f) (decimals_at s f) (get_or (map (λ width. replicate width 32) (row_widths s)) f [])
blank_field s f n field lt is width =
    let letter : letter_at s f ≡ field.letter =
    get_or-map (λ (g : Field). g.letter) s.fields f field C lt ∙ ap (λ (g : Field). g.letter) (sym is) in
    let decimals : decimals_at s f ≡ field.decimals =
    get_or-map (λ (g : Field). g.decimals) s.fields f field 0 lt ∙ ap (λ (g : Field). g.decimals) (sym is) in
    let there : f < length (row_widths s) =
    subst (λ k. f < k) (sym (length-map s.fields (λ (g : Field). g.width))) lt in
    let blanks : ℕ → List ℕ = λ w. replicate w 32 in
    let text : get_or (map blanks (row_widths s)) f [] ≡ blanks n = get_or-map blanks (row_widths s) f 0 [] there
    ∙ ap blanks (get_or-map (λ (g : Field). g.width) s.fields f field 0 lt ∙ ap (λ (g : Field). g.width) (sym is)
    ∙ sym width) in
    rw (letter, decimals, text) refl

pub returns : goal.returns
returns c =
    let s = c.args.table.now.structure in
    let fields : c.fields.result.now ≡ s.fields =
    c.fields.ensures ∙ ap (λ (t : StructureState). t.fields) c.structure.ensures.same in
    let is = c.index-fields-f.is ∙ ap (λ (fs : List Field). get_or fs c.args.f c.index-fields-f.result) fields in
    let field = c.index-fields-f.result in
    c.lent.ensures
    ∙ ap (value_by field.letter field.decimals) (take-replicate c.from.result 255 32 (omega arith))
    ∙ blank_field s c.args.f c.from.result field c.requires is c.from.ensures
