use Rattle.std.proofs.Common.{◌≤◌, length, sym, subst, ap, ◌∙◌}
use Rattle.folder_shapes.proofs.FieldLemmas.{few_fields}
use Rattle.folder_shapes.proofs.owners.key_of_table.Goals as goal

pub made_of-requires : goal.made_of-requires
made_of-requires c =
    subst (λ fields. length fields ≤ 128) (sym (c.fields.ensures ∙ ap (λ s. s.fields) c.structure.ensures.same))
    (few_fields c.args.table.now.structure.fields c.structure.ensures.good.fields)
