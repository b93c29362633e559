use Rattle.std.proofs.Common.{◌≡◌, ◌+◌, ℕ, List, ap, ◌∙◌, arith, length, get_or, take}
use Rattle.std.proofs.lemmas.List.{length-map}
use Rattle.dbf_file.specs.declared.field.Field.{Field}
use Rattle.dbf_file.specs.Fields.{total, widths_of, places_from}
use Rattle.dbf_file.specs.Tables.{StructureState}
use Rattle.dbf_file.proofs.PlaceLemmas.{length-places, place_at}
use Rattle.dbf_file.proofs.structure.Structure.place.Goals as goal

pub index-requires : goal.index-requires
index-requires c =
    let fields : c.self.inside.fields.items ≡ c.args.self.now.fields =
    ap (λ (s : StructureState). s.fields) c.self.view_is in
    let count : length (widths_of c.self.inside.fields.items) ≡ length c.self.inside.fields.items =
    length-map c.self.inside.fields.items (λ (f : Field). f.width) in
    let long = ap length c.self.invariant ∙ length-places 1 (widths_of c.self.inside.fields.items) in
    omega (arith, c.requires, ap length fields, count, long)

pub returns-clause-value : goal.returns-clause-value
returns-clause-value c =
    let fields : c.self.inside.fields.items ≡ c.args.self.now.fields =
    ap (λ (s : StructureState). s.fields) c.self.view_is in
    let count : length (widths_of c.args.self.now.fields) ≡ length c.args.self.now.fields =
    length-map c.args.self.now.fields (λ (f : Field). f.width) in
    let places : c.self.inside.places.items ≡ places_from 1 (widths_of c.args.self.now.fields) =
    c.self.invariant ∙ ap (λ (fs : List Field). places_from 1 (widths_of fs)) fields in
    let there : get_or c.self.inside.places.items c.args.f c.index.result.now
    ≡ 1 + total (take c.args.f (widths_of c.args.self.now.fields)) =
    ap (λ (ps : List ℕ). get_or ps c.args.f c.index.result.now) places
    ∙ place_at c.args.f 1 c.index.result.now (widths_of c.args.self.now.fields) (omega (arith, c.requires, count)) in
    c.from.ensures ∙ c.index.ensures ∙ there
