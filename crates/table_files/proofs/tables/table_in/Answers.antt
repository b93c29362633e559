use Rattle.std.proofs.Common.{◌≡◌, List, ap, ◌∙◌, subst, refl}
use Rattle.dbf_file.specs.declared.field.Field.{Field}
use Rattle.dbf_file.specs.Tables.{StructureState}
use Rattle.table_files.specs.Loading.{AreDeclared}
use Rattle.table_files.proofs.tables.table_in.Goals as goal

pub returns-clause-table : goal.returns-clause-table
returns-clause-table c =
    let text = c.in-Ok.ensures.found in
    record {
      stamp = text.0;
      text = text.1;
      few = c.in-Ok.ensures.within;
      declared =
          let fields : c.fields.result.now ≡ c.in-Ok.table.structure.fields =
          c.fields.ensures ∙ ap (λ (s : StructureState). s.fields) c.structure.ensures.same in
          subst (λ (fs : List Field). AreDeclared fs c.args.declared.now.fields) fields
          (subst (λ (ds : List Field). AreDeclared c.fields.result.now ds) c.as_slice.ensures
          (c.if-not-are_declared.ensures.0 refl));
    }
