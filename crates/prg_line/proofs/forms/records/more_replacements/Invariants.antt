use Rattle.std.proofs.Common.{length, map}
use Rattle.prg_line.specs.Act.{change_of}
use Rattle.prg_line.specs.Forms.{replacement}
use Rattle.prg_line.specs.Gives.{at_of}
use Rattle.prg_line.proofs.SeveralLemmas.{SoFar}
use Rattle.prg_line.proofs.forms.records.more_replacements.Given as goal

abbrev pub decreases-loop-reader : goal.decreases-loop-reader
decreases-loop-reader l = length l.reader.words.now

abbrev pub invariant-loop-reader : goal.invariant-loop-reader
invariant-loop-reader l =
    SoFar replacement (map change_of l.initial.all.items) (at_of l.initial.reader) (map change_of l.all.items)
    (at_of l.reader)
