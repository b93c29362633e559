use Rattle.std.proofs.Common.{◌<◌, ℕ, List, length, sym, subst, rules}
use Rattle.dbf_file.specs.declared.field.Field.{Field}
use Rattle.shape_files.specs.Refusals.{FieldsRefusalIs}
use Rattle.shape_files.specs.Shapes.{HasFields, file_name, shape_of}
use Rattle.shape_files.proofs.RefusalLemmas.{fields_told, for_err, table_told}
use Rattle.shape_files.proofs.reading.declare_table.Goals as goal

pub returns-in-Ok-clause-refused : goal.returns-in-Ok-clause-refused
returns-in-Ok-clause-refused g c =
    let holds = g.F.Files.holds c.args.files.now in
    let room : length c.args.declarations.now.tables.items < 32 = search rules in
    let named = c.in-Some.ensures.0 in
    let file = subst (λ (fields : List Field). HasFields (holds (file_name c.args.word.now)) fields) (sym c.of.ensures)
    (subst (λ (name : List ℕ). HasFields (holds (file_name name)) c.in-Ok.fields.items) named c.in-Ok.ensures.fields) in
    for_err c.add_table.result _ _ (λ why. table_told holds (shape_of c.args.declarations.now) c.args.word.now
    (record { name = c.in-Some.name; fields = c.of.result }) (g.F.Files.failed c.args.files.now)
    (g.F.Files.failed c.read_fields.new.files) why c.in-Some.ensures.1 room c.in-Some.ensures.0 file)
    c.add_table.ensures.refused

pub returns-in-Err-clause-refused : goal.returns-in-Err-clause-refused
returns-in-Err-clause-refused g c =
    let holds = g.F.Files.holds c.args.files.now in
    let before = g.F.Files.failed c.args.files.now in
    let after = g.F.Files.failed c.read_fields.new.files in
    let room : length c.args.declarations.now.tables.items < 32 = search rules in
    fields_told holds (shape_of c.args.declarations.now) c.args.word.now before after c.in-Err.refusal
    c.file_names_are_texts.ensures c.in-Some.ensures.1 room
    (subst (λ (name : List ℕ). FieldsRefusalIs holds name before after c.in-Err.refusal)
    (c.in-Some.ensures.0) c.in-Err.ensures.refused)
