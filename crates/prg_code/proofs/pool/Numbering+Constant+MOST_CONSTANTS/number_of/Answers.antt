use Rattle.std.proofs.Common.{sym, ◌∙◌}
use Rattle.std.proofs.lemmas.Bool.{false≢true}
use Rattle.prg_code.proofs.Constants.{met}
use Rattle.prg_code.proofs.pool.Numbering+Constant+MOST_CONSTANTS.number_of.Goals as goal

pub returns-clause-once : goal.returns-clause-once
returns-clause-once c held = c.number.ensures.once (met c.args.self.now c.args.value held)

pub returns-clause-full : goal.returns-clause-full
returns-clause-full c e =
    let f = c.number.ensures.full e in
    (f.0, λ held. false≢true (sym f.1 ∙ met c.args.self.now c.args.value held))
