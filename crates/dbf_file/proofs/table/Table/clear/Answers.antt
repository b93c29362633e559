use Rattle.dbf_file.specs.Tables.{row_widths}
use Rattle.dbf_file.proofs.TableLemmas.{kept_none, no_rows}
use Rattle.dbf_file.proofs.table.Table.clear.Goals as goal

pub invariant_of-self : goal.invariant_of-self
invariant_of-self c = kept_none c.self.inside.structure c.self.inside.size c.self.inside.rows
    c.self.inside.records.items _ c.self.invariant c.clear.ensures.items

pub returns-clause-rows : goal.returns-clause-rows
returns-clause-rows c = no_rows (row_widths c.self.inside.structure) _
