use Rattle.std.proofs.Common.{Some}
use Rattle.run_steps.specs.Filters.{instructions_of}
use Rattle.fit_laws.proofs.NeedsMet.{walks_with}
use Rattle.fit_laws.proofs.flows.filters_walk.Goals as goal

pub returns : goal.returns
returns c =
    λ code ok accepted number f e slots l lacks. walks_with code f (instructions_of code number (Some f)) slots l lacks
    ((c.states_connect.ensures code ok accepted).filters number f e)
