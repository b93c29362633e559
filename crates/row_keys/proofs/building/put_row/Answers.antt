use Rattle.std.proofs.Common.{◌≡◌, ◌++◌, ◌∷◌, [], sym, subst, rules}
use Rattle.dbf_file.specs.Tables.{row_widths}
use Rattle.key_lists.specs.KeyForm.{IsPairOf}
use Rattle.key_lists.specs.Order.{Each}
use Rattle.shape.specs.Keys.{key_length}
use Rattle.row_keys.proofs.ListLemmas.{each_push}
use Rattle.row_keys.proofs.building.put_row.Goals as goal

pub returns-clause-keys : goal.returns-clause-keys
returns-clause-keys c = λ each.
    let right = IsPairOf (key_length c.args.key.now (row_widths c.args.table.now.structure)) in
    let items : c.push.new.self.items ≡ c.args.entries.now.items ++ c.entry_of.result ∷ [] = search rules in
    subst (Each right) (sym items) (each_push right c.args.entries.now.items c.entry_of.result each
    c.entry_of.ensures.key)
