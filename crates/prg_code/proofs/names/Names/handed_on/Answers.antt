use Rattle.std.proofs.Common.{ap, ◌∙◌, rules}
use Rattle.prg_code.specs.Bindings.{as_caller, as_callers}
use Rattle.prg_code.proofs.Naming.{all_turned}
use Rattle.prg_code.proofs.names.Names.handed_on.Goals as goal

pub returns : goal.returns
returns c =
    all_turned _ as_caller (λ f k v b w g call. search rules) _ _ _ c.retain.ensures.filtered
    ∙ ap as_callers (c.in_ok-variables.ensures ∙ c.self.view_is)
