use Rattle.std.proofs.Common.{length, map}
use Rattle.prg_line.specs.Act.{letters_of}
use Rattle.prg_line.specs.Forms.{name}
use Rattle.prg_line.specs.Gives.{at_of}
use Rattle.prg_line.proofs.SeveralLemmas.{SoFar}
use Rattle.prg_line.proofs.reader.Reader.more_names.Given as goal

abbrev pub decreases-loop-self : goal.decreases-loop-self
decreases-loop-self l = length l.self.words.now

abbrev pub invariant-loop-self : goal.invariant-loop-self
invariant-loop-self l =
    SoFar name (map letters_of l.initial.all.items) (at_of l.initial.self) (map letters_of l.all.items) (at_of l.self)
