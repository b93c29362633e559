use Rattle.std.proofs.Common.{◌+◌, ◌-◌, ◌/◌, sym, ◌∙◌, arith}
use Rattle.key_lists.specs.Pairs.{Pair}
use Rattle.key_lists.proofs.Rises.{place_of-le}
use Rattle.key_rows.proofs.FlatLemmas.{place_past, place_not_past}
use Rattle.key_rows.proofs.entries.Entries.place.Goals as goal

pub loop-low-init : goal.loop-low-init
loop-low-init c =
    let x : Pair = (c.args.key.now, c.args.number) in
    record {
      low = omega arith;
      high = omega (arith, place_of-le x c.args.self.now.items, c.len-high.ensures);
      within =
          omega (arith, c.len-high.ensures);
    }

pub loop-low-preserved-then-is_below : goal.loop-low-preserved-then-is_below
loop-low-preserved-then-is_below c =
    let x : Pair = (c.args.key.now, c.args.number) in
    let m = c.loop-low.low + (c.loop-low.high - c.loop-low.low) / 2 in
    let l = c.args.self.now.items in
    let next = place_past x l m x c.requires (omega (arith, c.loop-low.invariant.within))
    (sym (c.is_below.ensures x) ∙ c.if-is_below.true) in
    record { low = omega (arith, next); high = c.loop-low.invariant.high; within = c.loop-low.invariant.within }

pub loop-low-preserved : goal.loop-low-preserved
loop-low-preserved c =
    let x : Pair = (c.args.key.now, c.args.number) in
    let m = c.loop-low.low + (c.loop-low.high - c.loop-low.low) / 2 in
    let l = c.args.self.now.items in
    let next = place_not_past x l m x (omega (arith, c.loop-low.invariant.within))
    (sym (c.is_below.ensures x) ∙ c.if-is_below.false) in
    record { low = c.loop-low.invariant.low; high = next; within = omega (arith, c.loop-low.invariant.within) }
