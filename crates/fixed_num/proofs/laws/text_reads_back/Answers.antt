use Rattle.fixed_num.proofs.BackLemmas.{parsed-text_of}
use Rattle.fixed_num.proofs.laws.text_reads_back.Goals as goal

pub returns : goal.returns
returns c = parsed-text_of
