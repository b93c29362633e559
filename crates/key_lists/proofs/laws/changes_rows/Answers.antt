use Rattle.key_lists.proofs.LawLemmas.{changes_rows}
use Rattle.key_lists.proofs.laws.changes_rows.Goals as goal

pub returns : goal.returns
returns c = changes_rows
