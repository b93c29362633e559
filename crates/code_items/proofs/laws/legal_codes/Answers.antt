use Rattle.code_items.proofs.CodeFacts.{facts}
use Rattle.code_items.proofs.laws.legal_codes.Goals as goal

pub returns : goal.returns
returns c = facts
