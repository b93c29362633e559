use Rattle.code_rules.specs.Places.{instr_at}
use Rattle.run_laws.proofs.Ready.{goes_on}
use Rattle.run_laws.proofs.laws.faultless_worlds_go_on.Goals as goal

pub returns : goal.returns
returns c =
    λ code w legal shape sound. goes_on c.clear_instructions_are_ready.ensures code w legal
    (c.legal_codes.ensures code legal) shape sound
    (c.faultless_instructions_are_clear.ensures.clear code w (instr_at code w.place) sound)
