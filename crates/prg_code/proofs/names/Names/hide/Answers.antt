use Rattle.std.proofs.Common.{ℕ, ap, ◌∙◌, rules}
use Rattle.arrayvec.specs.ArrayVec.{ArrayVec}
use Rattle.indexmap.proofs.CallerLemmas.{filter-RetainsPairs}
use Rattle.prg_code.specs.Bindings.{is_left, without_caller}
use Rattle.prg_code.proofs.names.Names.hide.Goals as goal

pub returns : goal.returns
returns c =
    filter-RetainsPairs _ (is_left c.copy_of_name-hidden.result.items) _ (λ k v b w g call. search rules) _ _
    c.retain.ensures.filtered
    ∙ ap (without_caller c.copy_of_name-hidden.result.items) c.self.view_is
    ∙ ap (λ (n : ArrayVec ℕ). without_caller n.items c.args.self.now) c.copy_of_name-hidden.ensures
