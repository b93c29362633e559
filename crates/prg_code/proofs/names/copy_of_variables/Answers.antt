use Rattle.std.proofs.Common.{rules}
use Rattle.std.proofs.lemmas.Map.Entries.{entries_from_clone}
use Rattle.prg_code.proofs.Naming.{same_name}
use Rattle.prg_code.proofs.names.copy_of_variables.Goals as goal

pub returns : goal.returns
returns c = entries_from_clone _ _ same_name (λ v w h. search rules) _ _ c.in_ok-copy.ensures.cases
