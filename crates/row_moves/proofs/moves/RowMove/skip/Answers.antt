use Rattle.std.proofs.Common.{◌≡◌, ℤ, pos, negsuc, ℕ, Bool, true, false, List, Option, refl, sym, ◌∙◌, arith}
use Rattle.std.proofs.Common.{unsigned_abs}
use Rattle.std.proofs.lemmas.Int.{to_z-of_z}
use Rattle.std.proofs.lemmas.Bool.{false≢true, le-ltb}
use Rattle.std.specs.Int.{w128}
use Rattle.std.specs.Int.Signed.{lt_z}
use Rattle.key_lists.specs.Pairs.{Pair}
use Rattle.row_moves.specs.Moves.{hops, skipped}
use Rattle.row_moves.proofs.moves.RowMove.skip.Goals as goal

-- below 0 the steps go back, else on
back : (shown : ℕ → Bool) (steps : ℤ) (at : Option Pair) (pairs : List Pair) (n : ℕ)
    → lt_z steps (pos 0) ≡ true → n ≡ unsigned_abs steps → hops shown false n at pairs ≡ skipped shown steps at pairs
back shown (pos k) at pairs n lt e = absurd (false≢true (sym (le-ltb k 0 (omega arith)) ∙ lt))
back shown (negsuc k) at pairs n lt e = rw e refl

on : (shown : ℕ → Bool) (steps : ℤ) (at : Option Pair) (pairs : List Pair) (n : ℕ)
    → lt_z steps (pos 0) ≡ false → n ≡ unsigned_abs steps → hops shown true n at pairs ≡ skipped shown steps at pairs
on shown (pos k) at pairs n lt e = rw e refl
on shown (negsuc k) at pairs n lt e = cc

pub returns-then-steps-lt0 : goal.returns-then-steps-lt0
returns-then-steps-lt0 c = λ shown at pairs.
    let size = rw (to_z-of_z w128 c.args.steps c.ranges.steps) at c.unsigned_abs-rows.ensures.value in
    let below = rw (to_z-of_z w128 c.args.steps c.ranges.steps) at c.if-steps-lt0.true in
    back shown c.args.steps at pairs c.unsigned_abs-rows.result below size

pub returns : goal.returns
returns c = λ shown at pairs.
    let size = rw (to_z-of_z w128 c.args.steps c.ranges.steps) at c.unsigned_abs-rows.ensures.value in
    let above = rw (to_z-of_z w128 c.args.steps c.ranges.steps) at c.if-steps-lt0.false in
    on shown c.args.steps at pairs c.unsigned_abs-rows.result above size
