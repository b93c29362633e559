use Rattle.std.proofs.Common.{codes, ap₂, ◌∙◌}
use Rattle.std.proofs.lemmas.Result.{IfOk-weaker}
use Rattle.clap.specs.Simple.{with_rule}
use Rattle.command_words.proofs.words.saving_runner.Goals as goal

pub returns : goal.returns
returns c =
    let run = c.in_ok-saver.ensures (codes "run") c.in_ok-run.ensures in
    IfOk-weaker c.with_word.result _ _ (λ new h. h ∙ ap₂ with_rule run c.screens.ensures) c.with_word.ensures
