use Rattle.std.proofs.Common.{◌∙◌, sym, ap, subst, length}
use Rattle.dbf_file.specs.Tables.{TableState, AreRows, row_widths}
use Rattle.dbf_file.proofs.RowLemmas.{length-rows_in}
use Rattle.dbf_file.proofs.TableLemmas.{sound_of}
use Rattle.dbf_file.proofs.table.Table.rows.Goals as goal

pub returns-clause-count : goal.returns-clause-count
returns-clause-count c = sym (length-rows_in (row_widths c.self.inside.structure) c.self.inside.rows
    c.self.inside.records.items) ∙ ap (λ (t : TableState). length t.rows) c.self.view_is

pub returns-clause-sound : goal.returns-clause-sound
returns-clause-sound c = subst (λ (t : TableState). AreRows t.structure t.rows) c.self.view_is
    (sound_of c.self.inside.structure c.self.inside.size c.self.inside.rows c.self.inside.records.items
    c.self.invariant)
