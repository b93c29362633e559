use Rattle.std.proofs.Common.{map, arith}
use Rattle.std.proofs.lemmas.Grind.{common_steps}
use Rattle.std.specs.Char.{to_ascii_uppercase}
use Rattle.prg_expr.specs.Word.{words}
use Rattle.shape_files.proofs.KeyLemmas.{opened_part}
use Rattle.shape_files.proofs.key.part_at.Goals as goal

pub returns-else-not-is_upper-clause-none : goal.returns-else-not-is_upper-clause-none
returns-else-not-is_upper-clause-none c = λ none.
    opened_part c.args.fields.now (words c.args.tokens.now) _ (map to_ascii_uppercase c.in-Name.word.now)
    (c.upper_part_at.ensures.none none) (grind (arith, common_steps))
