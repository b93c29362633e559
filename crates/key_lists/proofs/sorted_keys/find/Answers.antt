use Rattle.std.proofs.Common.{refl, arith}
use Rattle.std.proofs.lemmas.Bool.{false≢true}
use Rattle.key_lists.specs.Pairs.{Pair, is_before}
use Rattle.key_lists.proofs.Ordered.{NotFound, not_found_end, not_found_later, found_at}
use Rattle.key_lists.proofs.PairOrder.{is_before_strict}
use Rattle.key_lists.proofs.sorted_keys.find.Goals as goal
use Rattle.key_lists.proofs.sorted_keys.find.Goals.{then-at-entries-via-then-at-entries}
use Rattle.key_lists.proofs.sorted_keys.find.Goals.{then-at-entries-via-else-at-entries+then-is_after}

-- the search found nothing
missing : (c : goal.Joined-then-at-entries) → NotFound is_before (c.args.key.now, c.args.number) c.args.entries.now
missing c =
    let x : Pair = (c.args.key.now, c.args.number) in
    elim c.then-at-entries.branch [
      | then-at-entries-via-then-at-entries w ↦ not_found_end is_before is_before_strict x _ _ c.requires
          c.place_of-at.ensures.front c.place_of-at.ensures.rest (omega arith)
      | then-at-entries-via-else-at-entries+then-is_after w ↦ not_found_later is_before is_before_strict x _ _
          c.requires c.place_of-at.ensures.front c.place_of-at.ensures.rest w.index-entries-at.result (omega arith)
          w.index-entries-at.is cc
    ]

pub returns-then-at-entries-clause-found : goal.returns-then-at-entries-clause-found
returns-then-at-entries-clause-found c = (λ e. absurd (false≢true e), λ there. absurd ((missing c).absent there))

pub returns-then-at-entries-clause-absent : goal.returns-then-at-entries-clause-absent
returns-then-at-entries-clause-absent c = (missing c).same

pub returns-clause-found : goal.returns-clause-found
returns-clause-found c = (
  λ e. (found_at is_before is_before_strict (c.args.key.now, c.args.number) _ _ c.requires
      c.place_of-at.ensures.front c.place_of-at.ensures.rest c.index-entries-at.result (omega arith)
      c.index-entries-at.is cc).there,
  λ _. refl,
)

pub returns-clause-removed : goal.returns-clause-removed
returns-clause-removed c = (found_at is_before is_before_strict (c.args.key.now, c.args.number) _ _ c.requires
    c.place_of-at.ensures.front c.place_of-at.ensures.rest c.index-entries-at.result (omega arith) c.index-entries-at.is
    cc).removed
