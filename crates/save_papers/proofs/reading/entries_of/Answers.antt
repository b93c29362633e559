use Rattle.std.proofs.Common.{◌≡◌, ◌++◌, ◌∷◌, []}
use Rattle.std.proofs.lemmas.Result.{err_from_is_err_and}
use Rattle.std.proofs.lemmas.List.{map_push}
use Rattle.save_papers.specs.Papers.{entry_view, entry_views}
use Rattle.save_papers.specs.Reading.{paper_entries_at}
use Rattle.save_papers.proofs.Loop.{goes_on, ends, is_done}
use Rattle.save_papers.proofs.reading.entries_of.Goals as goal

pub returns-in_err-entry : goal.returns-in_err-entry
returns-in_err-entry c =
    let p = err_from_is_err_and c.from_residual.result c.from_residual.ensures.1 in
    rw (p.1, p.2) (ends c.in_err-entry.field-0.0 (entry_views c.loop.entries.items) c.args.count c.loop.counter
    c.loop.rest.now (paper_entries_at c.args.count c.args.bytes.now) c.loop-test.true c.in_err-entry.ensures
    c.loop.invariant)

pub loop-preserved : goal.loop-preserved
loop-preserved c =
    let n = c.in_ok-entry.entry in
    let e : entry_views c.push.new.self.items ≡ entry_views c.loop.entries.items ++ entry_view n ∷ [] =
    rw c.in_ok-push.ensures.items (map_push _ c.loop.entries.items n) in
    rw e (goes_on (entry_views c.loop.entries.items) c.args.count c.loop.counter c.loop.rest.now (entry_view n)
    c.in_ok-entry.after.now (paper_entries_at c.args.count c.args.bytes.now) c.loop-test.true c.in_ok-entry.ensures
    c.loop.invariant)

pub returns : goal.returns
returns c = is_done (entry_views c.loop.entries.items) c.args.count c.loop.counter c.loop.rest.now
    (paper_entries_at c.args.count c.args.bytes.now) c.loop-test.false c.loop.invariant
