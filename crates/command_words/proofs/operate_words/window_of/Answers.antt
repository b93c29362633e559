use Rattle.std.proofs.Common.{codes}
use Rattle.clap.specs.Matches.{found_of}
use Rattle.clap.specs.Walk.{rows_of}
use Rattle.command_words.specs.Said.{word_given}
use Rattle.command_words.proofs.Rows.{no_window}
use Rattle.command_words.proofs.operate_words.window_of.Goals as goal

pub returns-in-None-window_named-clause-refused : goal.returns-in-None-window_named-clause-refused
returns-in-None-window_named-clause-refused c =
    no_window c.in-Some.word (word_given (codes "window") (rows_of (found_of c.args.matches.now))) c.in-Some.ensures
    c.in-None-window_named.ensures
