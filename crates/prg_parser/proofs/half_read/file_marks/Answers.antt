use Rattle.prg_parser.specs.Marks.{marks}
use Rattle.prg_parser.proofs.HalfReadLemmas.{all_marked}
use Rattle.prg_parser.proofs.JoinLemmas.{is_nothing}
use Rattle.prg_parser.proofs.half_read.file_marks.Goals as goal

pub returns : goal.returns
returns c =
    all_marked c.loop-rest.found.items c.loop-rest.line c.loop-rest.rest.now (marks c.args.bytes.now)
    c.loop-rest.invariant.marks
    (is_nothing c.loop-rest.rest.now c.is_empty.result c.loop-rest-test.false c.is_empty.ensures)
