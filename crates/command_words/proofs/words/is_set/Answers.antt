use Rattle.std.proofs.Common.{rules}
use Rattle.clap.specs.Matches.{found_of}
use Rattle.command_words.proofs.Rows.{is_flag}
use Rattle.command_words.proofs.words.is_set.Goals as goal

pub returns : goal.returns
returns c =
    search (
      rules,
      is_flag (found_of c.args.matches.now) c.args.id.now c.get_one.result c.get_one.ensures.none
          c.get_one.ensures.value,
    )
