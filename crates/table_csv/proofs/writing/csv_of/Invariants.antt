use Rattle.std.proofs.Common.{take}
use Rattle.table_csv.specs.Cells.{lines_of, lines_text}
use Rattle.table_csv.specs.Written.{HasWritten}
use Rattle.table_csv.proofs.writing.csv_of.Given as goal

abbrev pub invariant-loop-r : goal.invariant-loop-r
invariant-loop-r l = HasWritten (lines_text (lines_of l.fn.table.structure.fields (take l.r l.fn.table.rows))) l.writer
