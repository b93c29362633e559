use Rattle.dbf_file.proofs.ValueLemmas.{read_back}
use Rattle.dbf_file.proofs.laws.values_read_back.Goals as goal

pub returns : goal.returns
returns c = λ f v kind fits. read_back c.text_reads_back.ensures f v kind fits
