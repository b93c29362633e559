use Rattle.std.proofs.Common.{◌+◌, ap, ◌∙◌}
use Rattle.code_rules.specs.Flow.{flow}
use Rattle.code_rules.specs.Places.{state_entered, block_at, instr_at}
use Rattle.prg_laid.proofs.Finding.{on_done}
use Rattle.prg_laid.proofs.Knowing.{flows}
use Rattle.prg_laid.proofs.judging.flowing.Goals as goal

pub returns : goal.returns
returns c =
    let code = c.args.code.now in
    on_done c.begun.result (λ next e. e
    ∙ (ap (state_entered code (block_at code (c.args.place + 1)) (c.args.place + 1))
    (c.in_ok-flow.ensures ∙ (ap (λ i. flow code i c.in_ok-after.after) c.instr_of.ensures
    ∙ ap (flow code (instr_at code c.args.place)) c.in_ok-after.ensures))
    ∙ flows code c.args.place c.args.state.now c.requires.known)) c.begun.ensures
