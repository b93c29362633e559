use Rattle.std.proofs.Common.{◌∙◌, ap}
use Rattle.key_lists.specs.Order.{above}
use Rattle.key_lists.specs.Pairs.{is_before, pairs_from}
use Rattle.row_moves.specs.Seeking.{begun_or_none}
use Rattle.row_moves.proofs.Seeking.{first_run}
use Rattle.row_moves.proofs.key_search.next_begun.Goals as goal

pub returns-in-None-clause-found : goal.returns-in-None-clause-found
returns-in-None-clause-found g c = rw c.in-None.is
    (c.if_begun.ensures ∙ ap (begun_or_none c.args.start.now) c.first_from.ensures.found
    ∙ first_run c.args.start.now (pairs_from c.args.start.now (g.K.KeyList.pairs c.args.keys.now)))

pub returns-in-Some-clause-found : goal.returns-in-Some-clause-found
returns-in-Some-clause-found g c =
    let found = rw (c.key.ensures.value, c.number.ensures) at c.after.ensures.found in
    rw c.in-Some.is (c.if_begun-in-Some.ensures ∙ ap (begun_or_none c.args.start.now) found
    ∙ first_run c.args.start.now (above is_before c.in-Some.entry (g.K.KeyList.pairs c.args.keys.now)))
