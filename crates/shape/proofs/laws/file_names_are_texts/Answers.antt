use Rattle.shape.proofs.NameLemmas.{name_is_text}
use Rattle.shape.proofs.laws.file_names_are_texts.Goals as goal

pub returns : goal.returns
returns c = name_is_text
