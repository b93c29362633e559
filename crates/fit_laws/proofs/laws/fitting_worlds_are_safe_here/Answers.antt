use Rattle.code_rules.specs.Places.{instr_at}
use Rattle.fit_laws.proofs.laws.fitting_worlds_are_safe_here.Goals as goal

pub returns : goal.returns
returns c = λ code ok accepted w f.
    c.faultless_worlds_go_on.ensures code w ok f.shape
    (c.faultless_instructions_are_clear.ensures.faultless code w (instr_at code w.place)
    (c.accepted_code_is_clear.ensures code ok accepted w f))
