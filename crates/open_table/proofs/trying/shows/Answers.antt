use Rattle.std.proofs.Common.{ℕ, ◌-◌, ap, ◌∙◌}
use Rattle.dbf_file.specs.Rows.{row_at}
use Rattle.open_table.specs.Tried.{TriedRow}
use Rattle.open_table.proofs.trying.shows.Goals as goal

pub returns : goal.returns
returns g c = λ shown sees.
    let counted : ℕ → TriedRow = λ n. record {
      structure = c.args.table.now.structure;
      row = row_at
          c.args.table.now.rows (c.args.number - 1);
      number = c.args.number;
      count = n;
    } in
    sees c.args.number c.see.result c.requires.first c.requires.last
    (record {
      shown = _;
      shows = c.new.ensures ∙ ap counted c.rows.ensures.count;
      says =
          record { met = c.see.ensures };
    })
