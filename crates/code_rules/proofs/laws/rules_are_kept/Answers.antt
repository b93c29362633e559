use Rattle.code_rules.proofs.Keeping.{keeps_rules}
use Rattle.code_rules.proofs.laws.rules_are_kept.Goals as goal

pub returns : goal.returns
returns c = keeps_rules
