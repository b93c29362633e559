use Rattle.std.proofs.Common.{arith}
use Rattle.fit_laws.proofs.laws.accepted_code_is_clear.Goals as goal

pub returns : goal.returns
returns c = λ code ok accepted w f.
    (let room = c.calls_have_room.ensures code ok accepted w f in
    c.kept_rules_leave_no_fault.ensures code w (c.states_connect.ensures code ok accepted)
    (c.filters_walk.ensures code ok accepted)
    (c.rules_are_kept.ensures code accepted w.place
    (omega (arith, f.shape.place, (c.legal_codes.ensures code ok).places))) f room.0 room.1)
