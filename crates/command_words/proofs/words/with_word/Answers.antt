use Rattle.command_words.proofs.Making.{word_put}
use Rattle.command_words.proofs.words.with_word.Goals as goal

pub returns : goal.returns
returns c = word_put c.arg.result c.args.command c.args.word c.requires c.arg.ensures
