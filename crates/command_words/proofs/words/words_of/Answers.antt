use Rattle.std.proofs.Common.{rules, sym, subst}
use Rattle.std.proofs.lemmas.Result.{IfErr-weaker}
use Rattle.clap.specs.Matches.{found_of}
use Rattle.clap.specs.Walk.{rows_of}
use Rattle.command_words.specs.Refused.{RefusesWords}
use Rattle.command_words.proofs.Rows.{command_said}
use Rattle.command_words.proofs.words.words_of.Goals as goal

pub returns-clause-refused : goal.returns-clause-refused
returns-clause-refused c =
    let name = c.in_ok-command.command.now in
    let rows = rows_of (found_of c.in_ok-command.matches.now) in
    let here = command_said c.args.matches.now name rows (search rules) (search rules) in
    IfErr-weaker c.words_behind.result _ _ (λ told h. subst (λ said. RefusesWords said told) (sym here) h)
    c.words_behind.ensures.refused
