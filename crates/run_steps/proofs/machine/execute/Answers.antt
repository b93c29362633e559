use Rattle.std.specs.Prelude.{Err}
use Rattle.run_steps.proofs.Steps.{stopped, of_world}
use Rattle.run_steps.proofs.machine.execute.Goals as goal

pub returns-in-Err-clause-steps : goal.returns-in-Err-clause-steps
returns-in-Err-clause-steps g c = λ w s r.
    stopped c.args.code.now w c.args.instr c.args.left c.in-Err.stop
    (g.V.Values.stands c.carry_out.new.values) c.args.machine.now.place c.args.machine.now.returns c.carry_out.new.env
    s.place_is s.returns_are
    (of_world c.args.code.now w c.args.instr c.args.left (Err c.in-Err.stop)
    (g.V.Values.stands c.args.machine.now.values)
    (g.V.Values.stands c.carry_out.new.values) c.args.machine.now.env c.carry_out.new.env s.env_is s.stand r.needs
    c.in-Err.ensures.stands)
