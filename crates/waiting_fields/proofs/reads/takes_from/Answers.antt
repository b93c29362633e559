use Rattle.std.proofs.Common.{◌≡◌, ◌+◌, ◌≤◌, ◌<◌, ◌⊎◌, inl, inr, ⊎_elim, ℕ, length, arith, subst, sym, true, false, ◌∙◌}
use Rattle.std.specs.List.{All, Contains}
use Rattle.std.proofs.lemmas.List.Elements.{All-push}
use Rattle.waiting_fields.specs.Reads.{takes_at}
use Rattle.waiting_fields.proofs.Taking.{one_more, ended, past, first_kept, first_there, goes_by}
use Rattle.waiting_fields.proofs.reads.takes_from.Goals as goal
use Rattle.waiting_fields.proofs.reads.takes_from.Goals.{then-loop-next-test+else-takes_at, else-loop-next-test}

pub loop-next-preserved : goal.loop-next-preserved
loop-next-preserved c =
    let code = c.args.code.now in
    let i = c.loop-next.invariant in
    let more = c.in_ok-push.ensures.items in
    record {
      takes = subst (All (λ place. takes_at code place ≡ true)) (sym more)
          (All-push (λ place. takes_at code place ≡ true) c.loop-next.takes.items c.loop-next.next i.takes
          (sym c.if-takes_at.ensures));
      goes_on = one_more code c.loop-next.takes.items c.push.new.self.items c.loop-next.next
          c.saturating_add-next.result more
          (goes_by (length code) c.loop-next.next c.saturating_add-next.result
          (subst (λ n. n < 18446744073709551616) c.count_of-count.ensures c.count_of-count.type_inv)
          c.saturating_add-next.ensures) i.goes_on;
      first = first_kept c.loop-next.takes.items c.push.new.self.items c.loop-next.next c.args.first more i.first
          c.saturating_add-next.result;
    }

pub returns-clause-goes_on : goal.returns-clause-goes_on
returns-clause-goes_on c =
    let none : takes_at c.args.code.now c.loop-next.next ≡ false =
    elim c.loop-next-test.branch [
      | then-loop-next-test+else-takes_at w ↦ sym w.if-takes_at.ensures
      | else-loop-next-test w ↦ past c.args.code.now c.loop-next.next
          (subst (λ n. n ≤ c.loop-next.next) c.count_of-count.ensures w.loop-next-test.false)
    ] in
    ended c.args.code.now c.loop-next.takes.items c.loop-next.next none c.loop-next.invariant.goes_on

pub returns-clause-first : goal.returns-clause-first
returns-clause-first c =
    let none : takes_at c.args.code.now c.loop-next.next ≡ false =
    elim c.loop-next-test.branch [
      | then-loop-next-test+else-takes_at w ↦ sym w.if-takes_at.ensures
      | else-loop-next-test w ↦ past c.args.code.now c.loop-next.next
          (subst (λ n. n ≤ c.loop-next.next) c.count_of-count.ensures w.loop-next-test.false)
    ] in
    first_there c.args.code.now c.loop-next.takes.items c.loop-next.next c.args.first none c.loop-next.invariant.first
