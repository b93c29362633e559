use Rattle.std.proofs.Common.{suc, ◌≤◌, ◌-◌, ◌<◌, length, ◌+◌, ◌*◌}
use Rattle.prg_expr.specs.Tree.{tree_of, trees_of}
use Rattle.std.specs.Prelude.{if◌then◌else◌}
use Rattle.prg_expr.specs.Word.{words}
use Rattle.prg_expr.specs.Reading as spec
use Rattle.prg_expr.proofs.Turns.{SoFar}
use Rattle.prg_expr.proofs.Listing.{SoFar as ArgumentsSoFar}
use Rattle.prg_expr.proofs.parser.+expression.Given as goal

abbrev pub decreases-operand : goal.decreases-operand
decreases-operand l = 20 * length l.tokens.now

abbrev pub decreases-chain : goal.decreases-chain
decreases-chain l = 20 * length l.tokens.now + 2 * l.level

abbrev pub decreases-prefixes : goal.decreases-prefixes
decreases-prefixes l = 20 * length l.tokens.now + 2 * l.level

abbrev pub decreases-comparison : goal.decreases-comparison
decreases-comparison l = 20 * length l.tokens.now + 8

abbrev pub decreases-inside : goal.decreases-inside
decreases-inside l = 20 * length l.tokens.now + 16

abbrev pub decreases-reader : goal.decreases-reader
decreases-reader l = 20 * length l.tokens.now + 2 * l.level + 1

abbrev pub invariant-chain-loop-operator : goal.invariant-chain-loop-operator
invariant-chain-loop-operator l = SoFar (spec.level_at l.depth (l.level - 1)) l.level (words l.tokens) (tree_of l.left)
    (words l.rest) × (length l.rest < length l.tokens)

abbrev pub decreases-chain-loop-operator : goal.decreases-chain-loop-operator
decreases-chain-loop-operator l = length l.rest

abbrev pub decreases-arguments : goal.decreases-arguments
decreases-arguments l = 20 * length l.tokens.now + 17

abbrev pub decreases-called : goal.decreases-called
decreases-called l = 20 * length l.tokens.now + 18

abbrev pub decreases-named : goal.decreases-named
decreases-named l = 20 * length l.tokens.now + 1

abbrev pub invariant-arguments-loop-goes_on : goal.invariant-arguments-loop-goes_on
invariant-arguments-loop-goes_on l = ArgumentsSoFar (spec.inside l.depth)
    (spec.arguments (suc (length (words l.tokens))) (spec.inside l.depth) (words l.tokens)) l.goes_on
    (trees_of l.found.items) (words l.rest) × (length l.rest ≤ length l.tokens)

abbrev pub decreases-arguments-loop-goes_on : goal.decreases-arguments-loop-goes_on
decreases-arguments-loop-goes_on l = 2 * length l.rest + (if l.goes_on then 1 else 0)
