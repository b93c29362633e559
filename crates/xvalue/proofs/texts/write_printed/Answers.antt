use Rattle.std.proofs.Common.{◌∙◌, ap, length}
use Rattle.xvalue.proofs.TextLemmas.{field_length, field_filled}
use Rattle.xvalue.proofs.texts.write_printed.Goals as goal

pub print-requires-clause-whole_field : goal.print-requires-clause-whole_field
print-requires-clause-whole_field c =
    ap length c.as_mut_slice.ensures.value ∙ field_length c.min-width.result c.args.width c.write_blanks.new.text.items
    c.min-width.ensures c.write_blanks.ensures

pub returns : goal.returns
returns c =
    field_filled c.print_fills_its_field.ensures c.min-width.result c.args.width c.min.result c.args.decimals
    c.args.number c.write_blanks.new.text.items c.print.new.field c.min-width.ensures c.min.ensures
    c.write_blanks.ensures c.print.ensures
