use Rattle.run_laws.proofs.Ready.{ready}
use Rattle.run_laws.proofs.laws.clear_instructions_are_ready.Goals as goal

pub returns : goal.returns
returns c = λ code w i legal shape instr clear. ready c.same_kinds_are_equal.ensures c.results_have_their_kind.ensures
    code w i (c.legal_codes.ensures code legal) shape instr clear
