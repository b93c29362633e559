use Rattle.std.specs.Int.{w128}
use Rattle.std.proofs.lemmas.Int.{to_z-of_z}
use Rattle.fixed_num.proofs.PowerLemmas.{scaled_is, scaled_fits, scaled_bound}
use Rattle.fixed_num.proofs.powers.scaled.Goals as goal

pub overflow_mul-result : goal.overflow_mul-result
overflow_mul-result c =
    rw (scaled_is c.args.numerator _ c.args.places c.ranges.numerator c.requires.places c.power_of_ten.ensures.value)
    (scaled_fits c.args.numerator c.args.places c.requires.magnitude c.requires.places)

pub returns-clause-value : goal.returns-clause-value
returns-clause-value c =
    rw (scaled_is c.args.numerator _ c.args.places c.ranges.numerator c.requires.places c.power_of_ten.ensures.value)
    (to_z-of_z w128 _ (scaled_fits c.args.numerator c.args.places c.requires.magnitude c.requires.places))

pub returns-clause-bound : goal.returns-clause-bound
returns-clause-bound c =
    rw (returns-clause-value c) (scaled_bound c.args.numerator c.args.places c.requires.magnitude c.requires.places)
