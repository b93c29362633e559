use Rattle.std.proofs.Common.{sym, ap, ◌∙◌, arith}
use Rattle.std.specs.Ordering.{nat_cmp}
use Rattle.byteorder.specs.Endian.{big_number}
use Rattle.key_rows.proofs.KeyFront.{fronts_decide}
use Rattle.key_rows.proofs.entries.compare_short_keys.Goals as goal

pub returns : goal.returns
returns c =
    let front = c.read_u32-front.ensures ∙ ap (big_number 4) c.known.ensures.same in
    let other = c.read_u32-other.ensures ∙ ap (big_number 4) c.known-2.ensures.same in
    c.cmp-2.ensures ∙ ap (λ i. nat_cmp i c.read_u32-other.result) front
    ∙ ap (nat_cmp (big_number 4 c.args.first.now)) other
    ∙ sym (fronts_decide 4 c.args.first.now c.args.second.now (omega arith) (omega arith) c.known.ensures.bytes
    c.known-2.ensures.bytes (λ e. c.if-front-other.false (front ∙ e ∙ sym other)))
