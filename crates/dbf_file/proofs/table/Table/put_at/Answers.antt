use Rattle.std.proofs.Common.{◌≡◌, ◌∙◌, ap, arith, length, get_or}
use Rattle.dbf_file.specs.Tables.{TableState, row_widths, decimals_at}
use Rattle.dbf_file.proofs.ValueLemmas.{put_is}
use Rattle.dbf_file.proofs.table.Table.put_at.Goals as goal

pub returns : goal.returns
returns c =
    let text = c.field_mut-text.result.now in
    let fits : length c.put_with_decimals.new.text ≡ get_or (row_widths c.args.self.now.structure) c.args.f 0 =
    omega (arith, c.put_with_decimals.auto.text, c.field_mut-text.ensures.width) in
    put_is c.args.self.now c.args.r c.args.f c.args.from.now (length text) c.field_decimals-decimals.result _
    c.put_with_decimals.new.text c.put_with_decimals.ensures fits c.field_mut-text.ensures.width
    (c.field_decimals-decimals.ensures ∙ ap (λ (t : TableState). decimals_at t.structure c.args.f) c.self.view_is)
