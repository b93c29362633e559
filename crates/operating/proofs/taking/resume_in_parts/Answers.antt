use Rattle.std.proofs.Common.{◌≡◌, true, false, arith}
use Rattle.operating.proofs.PartLemmas.{on, over}
use Rattle.operating.proofs.taking.resume_in_parts.Goals as goal

pub returns-then-is_last : goal.returns-then-is_last
returns-then-is_last g c = λ w t.
    let last : c.is_last.result ≡ true = search in
    over _ w _ _ _ _ _ _ c.parts_make_the_whole.ensures c.loop-alloc.invariant.within c.take_part-part.ensures.within
    (c.is_last.ensures.last last) (c.loop-alloc.invariant.at w t) c.take_part-part.ensures.ran

pub loop-alloc-preserved : goal.loop-alloc-preserved
loop-alloc-preserved g c =
    let more : c.is_last.result ≡ false = search in
    record {
      at = λ w t. on _ w _ _ _ _ _ c.parts_make_the_whole.ensures (c.loop-alloc.invariant.at w t)
          c.take_part-part.ensures.ran (c.is_last.ensures.spent more);
      within =
          let before = c.loop-alloc.invariant.within in
          let paid = c.take_part-part.ensures.paid in
          let within = c.take_part-part.ensures.within in
          omega (arith, before, paid, within);
    }
