use Rattle.std.proofs.Common.{◌∙◌, ◌++◌, ◌∷◌, ◌-◌, [], ap, length, List, ℕ, replicate}
use Rattle.std.proofs.lemmas.Result.{on_ok_weaker}
use Rattle.dbf_file.proofs.WriteLemmas.{put_described}
use Rattle.dbf_file.proofs.writing.put_descriptor.Goals as goal

pub returns : goal.returns
returns c =
    let old : List ℕ = c.args.out.now.items in
    let name = c.as_slice-name.ensures.value in
    on_ok_weaker c.put_zeros-3.result (λ last. put_described c.args.field.now old _ _ _ _ _ _ _
    (c.in_ok-extend_from_slice.ensures.items ∙ ap (λ (xs : List ℕ). old ++ xs) name)
    (c.in_ok-put_zeros.ensures ∙ ap (λ (xs : List ℕ). c.extend_from_slice.new.self.items ++ replicate (11 - length xs)
    0) name)
    (c.in_ok-push.ensures.items ∙ ap (λ (code : ℕ). c.put_zeros.new.out.items ++ code ∷ []) c.code.ensures)
    c.in_ok-put_zeros-2.ensures c.in_ok-push-2.ensures.items c.in_ok-push-3.ensures.items last) c.put_zeros-3.ensures
