use Rattle.std.proofs.Common.{◌≡◌, true, false, arith}
use Rattle.run_commands.proofs.TestedParts.{leads_at_once, leads_on, leads_over}
use Rattle.run_commands.proofs.testing.run_checked_in_parts.Goals as goal

pub loop-alloc-init : goal.loop-alloc-init
loop-alloc-init g c = record {
  leads = leads_at_once _ _;
  within = omega arith;
  shape = c.requires.shape;
  apart = c.requires.apart;
}

pub returns-then-is_last-clause-ran : goal.returns-then-is_last-clause-ran
returns-then-is_last-clause-ran g c =
    let last : c.is_last.result ≡ true = search in
    leads_over _ _ _ _ _ _ _ _ c.greater_budgets_change_no_end.ensures c.loop-alloc.invariant.within
    c.test_part-part.ensures.within (c.is_last.ensures.last last) c.loop-alloc.invariant.leads
    c.test_part-part.ensures.ran

pub loop-alloc-preserved : goal.loop-alloc-preserved
loop-alloc-preserved g c =
    let more : c.is_last.result ≡ false = search in
    record {
      leads =
          leads_on _ _ _ _ _ _ _ c.parts_make_the_whole.ensures c.loop-alloc.invariant.leads
          c.test_part-part.ensures.ran (c.is_last.ensures.spent more);
      within =
          let before = c.loop-alloc.invariant.within in
          let paid = c.test_part-part.ensures.paid in
          let within = c.test_part-part.ensures.within in
          omega (arith, before, paid, within);
      shape = c.test_part-part.ensures.shape;
      apart = c.test_part-part.ensures.apart;
    }
