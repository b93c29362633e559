use Rattle.std.proofs.Common.{map, List, subst}
use Rattle.std.proofs.lemmas.Result.{err_from_is_err_and}
use Rattle.prg_line.specs.Act.{Change, change_of}
use Rattle.prg_line.specs.Forms.{replacement}
use Rattle.prg_line.specs.Gives.{at_of}
use Rattle.prg_line.proofs.SeveralLemmas.{SoFar, starts, steps, ends, fails, seen_pushed, no_longer, shorter}
use Rattle.prg_line.proofs.forms.records.more_replacements.Goals as goal

pub loop-reader-init : goal.loop-reader-init
loop-reader-init c = starts replacement (map change_of c.args.found.items) (at_of c.args.reader.now)

pub returns-in_err-next : goal.returns-in_err-next
returns-in_err-next c =
    let p = err_from_is_err_and c.from_residual.result c.from_residual.ensures.1 in
    rw (p.1, p.2)
    (fails replacement (map change_of c.args.found.items) (at_of c.args.reader.now) c.in_err-next.field-0.0
    (map change_of c.loop-reader.all.items) (at_of c.loop-reader.reader) (at_of c.comma.new.self)
    c.loop-reader.invariant (c.loop-reader-test.ensures.taken) c.in_err-next.ensures.reads)

pub loop-reader-preserved : goal.loop-reader-preserved
loop-reader-preserved c =
    subst (λ (xs : List Change). SoFar replacement (map change_of c.args.found.items) (at_of c.args.reader.now) xs
    (at_of c.replacement.new.reader))
    (seen_pushed change_of c.loop-reader.all.items c.push.new.self.items c.in_ok-next.next c.in_ok-push.ensures.items)
    (steps replacement (map change_of c.args.found.items) (at_of c.args.reader.now)
    (map change_of c.loop-reader.all.items) (at_of c.loop-reader.reader) (at_of c.comma.new.self)
    (at_of c.replacement.new.reader) (change_of c.in_ok-next.next)
    c.loop-reader.invariant c.loop-reader-test.ensures.taken c.in_ok-next.ensures.reads
    (no_longer c.comma.new.self.words.now c.loop-reader.reader.words.now c.loop-reader-test.ensures.no_longer)
    (shorter c.replacement.new.reader.words.now c.comma.new.self.words.now c.in_ok-next.ensures.shorter))

pub returns : goal.returns
returns c =
    ends replacement (map change_of c.args.found.items) (at_of c.args.reader.now)
    (map change_of c.loop-reader.all.items) (at_of c.loop-reader.reader) (at_of c.comma.new.self)
    c.loop-reader.invariant (c.loop-reader-test.ensures.taken)
