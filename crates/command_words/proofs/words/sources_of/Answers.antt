use Rattle.std.proofs.Common.{codes, ◌∙◌}
use Rattle.clap.specs.Matches.{found_of}
use Rattle.clap.specs.Simple.{subcommand_rows_of}
use Rattle.clap.specs.Walk.{rows_of}
use Rattle.command_words.proofs.Rows.{same_words, behind}
use Rattle.command_words.proofs.words.sources_of.Goals as goal

pub returns : goal.returns
returns c =
    let found = found_of c.in_ok-matches.matches.now in
    c.get_raw.ensures ∙ same_words found (codes "MAIN")
    ∙ behind (subcommand_rows_of c.args.matches.now) (rows_of found) c.in_ok-matches.ensures.rows
