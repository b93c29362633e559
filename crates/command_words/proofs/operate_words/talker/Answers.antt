use Rattle.std.proofs.Common.{rules, codes, ap₂, ◌≡◌, ◌∙◌}
use Rattle.std.proofs.lemmas.Result.{IfOk-weaker}
use Rattle.clap.specs.Simple.{with_rule}
use Rattle.clap.specs.Walk.{rule_of}
use Rattle.command_words.specs.CommandLine.{valued_word, flag_word}
use Rattle.command_words.proofs.operate_words.talker.Goals as goal

pub returns : goal.returns
returns c = λ name run.
    let again : rule_of c.flag-again.result ≡ flag_word (codes "continue") = search rules in
    let window : rule_of c.valued-window.result ≡ valued_word (codes "window") = search rules in
    let plain : rule_of c.flag-plain.result ≡ flag_word (codes "plain") = search rules in
    let first = c.in_ok-command.ensures ∙ ap₂ with_rule run c.journal.ensures in
    let second = c.in_ok-command-2.ensures ∙ ap₂ with_rule first again in
    let third = c.in_ok-command-3.ensures ∙ ap₂ with_rule second c.page.ensures in
    let fourth = c.in_ok-command-4.ensures ∙ ap₂ with_rule third window in
    let fifth = c.in_ok-command-5.ensures ∙ ap₂ with_rule fourth plain in
    IfOk-weaker c.with_word-6.result _ _ (λ new h. h ∙ ap₂ with_rule fifth c.screens.ensures) c.with_word-6.ensures
