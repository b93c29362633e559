use Rattle.std.proofs.Common.{◌∙◌, sym, ap, arith, add-one}
use Rattle.row_moves.specs.Seeking.{cut_or_filled}
use Rattle.row_moves.proofs.Seeking.{cut_or_filled_more}
use Rattle.row_moves.proofs.keys.cut_or_filled.Goals as goal

pub loop-place-preserved : goal.loop-place-preserved
loop-place-preserved c =
    let place = c.loop-place.place in
    let items = rw (c.loop-place.invariant.items, c.byte_at.ensures) at c.push.ensures.items in
    record {
      items = items ∙ sym (cut_or_filled_more place c.args.text.now)
          ∙ ap (λ n. cut_or_filled n c.args.text.now) (sym (add-one place));
      len = omega (arith, c.push.ensures.len, c.loop-place.invariant.len);
    }
