use Rattle.std.proofs.Common.{rules, codes, ap₂, ◌≡◌, ◌∙◌}
use Rattle.std.proofs.lemmas.Result.{IfOk-weaker}
use Rattle.clap.specs.Simple.{with_rule}
use Rattle.clap.specs.Walk.{rule_of}
use Rattle.command_words.specs.CommandLine.{valued_word, flag_word}
use Rattle.command_words.proofs.words.saver.Goals as goal

pub returns : goal.returns
returns c = λ name run.
    let rehearse : rule_of c.flag-rehearse.result ≡ flag_word (codes "rehearse") = search rules in
    let only_finished : rule_of c.flag-only_finished.result ≡ flag_word (codes "only-finished") = search rules in
    let backup : rule_of c.valued-backup.result ≡ valued_word (codes "backup") = search rules in
    let new_owner : rule_of c.flag-new_owner.result ≡ flag_word (codes "new-owner") = search rules in
    let no_lock : rule_of c.flag-no_lock.result ≡ flag_word (codes "no-lock") = search rules in
    let keep_unchanged : rule_of c.flag-keep_unchanged.result ≡ flag_word (codes "keep-unchanged") = search rules in
    let first = c.in_ok-command.ensures ∙ ap₂ with_rule run rehearse in
    let second = c.in_ok-command-2.ensures ∙ ap₂ with_rule first only_finished in
    let third = c.in_ok-command-3.ensures ∙ ap₂ with_rule second backup in
    let fourth = c.in_ok-command-4.ensures ∙ ap₂ with_rule third new_owner in
    let fifth = c.in_ok-command-5.ensures ∙ ap₂ with_rule fourth no_lock in
    IfOk-weaker c.with_word-6.result _ _ (λ new h. h ∙ ap₂ with_rule fifth keep_unchanged) c.with_word-6.ensures
