use Rattle.row_changes.proofs.Parts.{same_texts, sorted_rises}
use Rattle.row_changes.proofs.comparing.put_in_order.Goals as goal

pub returns-clause-same : goal.returns-clause-same
returns-clause-same c = same_texts c.args.rows.now.items c.sort.new.self.items c.sort.ensures.permutation

pub returns-clause-rising : goal.returns-clause-rising
returns-clause-rising c = sorted_rises c.sort.new.self.items c.in_ok-sort.ensures.sorted
