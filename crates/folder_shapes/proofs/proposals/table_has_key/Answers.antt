use Rattle.std.proofs.Common.{◌≤◌, length, sym, subst, ap, ◌∙◌}
use Rattle.folder_shapes.proofs.FieldLemmas.{few_fields}
use Rattle.folder_shapes.proofs.proposals.table_has_key.Goals as goal

pub has_key-requires : goal.has_key-requires
has_key-requires c =
    subst (λ fields. length fields ≤ 128) (sym (c.fields.ensures ∙ ap (λ s. s.fields) c.structure.ensures.same))
    (few_fields c.args.table.now.structure.fields c.structure.ensures.good.fields)
