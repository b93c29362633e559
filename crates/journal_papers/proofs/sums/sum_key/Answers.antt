use Rattle.std.proofs.Common.{arith}
use Rattle.std.specs.Prelude.{Some, None}
use Rattle.std.proofs.lemmas.Str.Pattern.{strip_prefix_char}
use Rattle.journal_papers.proofs.KeyLemmas.{of_two, of_one, of_none}
use Rattle.journal_papers.proofs.sums.sum_key.Goals as goal

pub returns-then-begins_with_hyphen : goal.returns-then-begins_with_hyphen
returns-then-begins_with_hyphen c = of_two _ c.in-Some.rest.now
    (strip_prefix_char 45 c.args.name.now (Some c.in-Some.rest) c.in-Some.ensures.cases (omega arith)) search

pub returns-else-begins_with_hyphen : goal.returns-else-begins_with_hyphen
returns-else-begins_with_hyphen c = of_one _ c.in-Some.rest.now
    (strip_prefix_char 45 c.args.name.now (Some c.in-Some.rest) c.in-Some.ensures.cases (omega arith)) search

pub returns-in-None : goal.returns-in-None
returns-in-None c = of_none _ (strip_prefix_char 45 c.args.name.now None c.in-None.ensures.cases (omega arith))
