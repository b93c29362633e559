use Rattle.screen_lines.proofs.Printing.{text_printed-fits, text_printed-wraps, text_printed-begins}
use Rattle.screen_lines.proofs.Printing.{text_printed-append}
use Rattle.screen_lines.proofs.laws.print_fills_rows.Goals as goal

pub returns : goal.returns
returns c = record {
  fits = text_printed-fits;
  wraps = text_printed-wraps;
  begins = text_printed-begins;
  parts =
      text_printed-append;
}
