use Rattle.std.proofs.Common.{arith}
use Rattle.code_rules.specs.Places.{instr_at}
use Rattle.fit_laws.proofs.Going.{legal_instr}
use Rattle.fit_laws.proofs.Returns.{awaits_on}
use Rattle.fit_laws.proofs.laws.fitting_goes_on.Goals as goal

pub returns : goal.returns
returns c = λ code ok accepted w f e.
    (let facts = c.legal_codes.ensures code ok in
    let legal = legal_instr code facts w.place (omega (arith, f.shape.place, facts.places)) in
    let clear = c.accepted_code_is_clear.ensures code ok accepted w f in
    let kept = c.steps_keep_the_shape.ensures code w (instr_at code w.place) ok f.shape f.apart legal clear e in
    record {
      shape = kept.0;
      apart = kept.1;
      fits = c.steps_keep_fitting.ensures code ok accepted w f e;
      awaits = awaits_on code (c.states_connect.ensures code ok accepted) w f.shape.place e f.awaits;
    })
