use Rattle.command_words.proofs.Making.{made_put}
use Rattle.command_words.proofs.words.with.Goals as goal

pub returns : goal.returns
returns c =
    made_put c.subcommand.result c.args.command c.in_ok-made.field-0 c.args.made c.requires c.in_ok-made.was
    c.subcommand.ensures
