use Rattle.std.proofs.Common.{None, []}
use Rattle.std.proofs.lemmas.Result.{IfOk-weaker, IfErr-weaker}
use Rattle.prg_parser.specs.Marks.{marks}
use Rattle.prg_parser.specs.Verdict.{verdict}
use Rattle.prg_parser.proofs.HalfReadLemmas.{tells_end}
use Rattle.prg_parser.proofs.ParseLemmas as by
use Rattle.prg_parser.proofs.parsing.parse.Goals as goal

pub returns-in-Ok-clause-told : goal.returns-in-Ok-clause-told
returns-in-Ok-clause-told c =
    IfErr-weaker c.finished.result _ _
    (λ e h. tells_end (verdict [] None (marks c.args.bytes.now)) c.in-Ok.half.parts.items c.in-Ok.half.unended e
    c.in-Ok.ensures.read.fault h) c.finished.ensures.told

pub returns-in-Ok-clause-named : goal.returns-in-Ok-clause-named
returns-in-Ok-clause-named c =
    IfErr-weaker c.finished.result _ _ (λ e h. by.named c.args.bytes.now e h) (returns-in-Ok-clause-told c)

pub returns-in-Ok-clause-refused : goal.returns-in-Ok-clause-refused
returns-in-Ok-clause-refused c =
    IfErr-weaker c.finished.result _ _
    (λ e h. by.refused c.lines_are_read.ensures.placed c.lines_are_read.ensures.complete c.args.bytes.now e h)
    (returns-in-Ok-clause-told c)

pub returns-in-Ok-clause-faultless : goal.returns-in-Ok-clause-faultless
returns-in-Ok-clause-faultless c =
    IfOk-weaker c.finished.result _ _
    (λ p e. by.faultless c.args.bytes.now c.in-Ok.half.parts.items c.in-Ok.half.unended c.in-Ok.half.builder p
    c.in-Ok.ensures.read e) c.finished.ensures.whole

pub returns-in-Ok-clause-spelled : goal.returns-in-Ok-clause-spelled
returns-in-Ok-clause-spelled c =
    IfOk-weaker c.finished.result _ _
    (λ p e. by.spelled c.lines_are_read.ensures.sound c.lines_are_read.ensures.placed c.args.bytes.now
    c.in-Ok.half.parts.items c.in-Ok.half.unended c.in-Ok.half.builder p c.in-Ok.ensures.read e)
    c.finished.ensures.whole

pub returns-in-Err-clause-named : goal.returns-in-Err-clause-named
returns-in-Err-clause-named c = by.named c.args.bytes.now c.in-Err.refusal c.in-Err.ensures.told

pub returns-in-Err-clause-refused : goal.returns-in-Err-clause-refused
returns-in-Err-clause-refused c =
    by.refused c.lines_are_read.ensures.placed c.lines_are_read.ensures.complete c.args.bytes.now c.in-Err.refusal
    c.in-Err.ensures.told
