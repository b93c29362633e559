use Rattle.table_files.proofs.OneTable.{one_table}
use Rattle.table_files.proofs.laws.bytes_hold_one_table.Goals as goal

pub returns : goal.returns
returns c = one_table
