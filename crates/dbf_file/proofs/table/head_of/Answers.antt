use Rattle.std.proofs.Common.{◌∙◌, ◌++◌, ◌∷◌, [], ap, List, ℕ, replicate}
use Rattle.dbf_file.specs.Descriptors.{descriptors_text, field_head_text}
use Rattle.dbf_file.proofs.table.head_of.Goals as goal

pub returns : goal.returns
unfolding field_head_text
returns c = c.in_ok-put_end.ensures ∙ ap (λ (o : List ℕ). o ++ 13 ∷ [])
    (c.in_ok-put_descriptors.ensures ∙ ap (λ (o : List ℕ). o ++ descriptors_text c.args.fields.now)
    (c.in_ok-put_zeros.ensures ∙ ap (λ (o : List ℕ). o ++ replicate 20 0) c.new-head.ensures.items))
