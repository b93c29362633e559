use Rattle.std.proofs.Common.{◌∙◌}
use Rattle.fixed_num.proofs.OrderLemmas.{whole_cmp, below_cmp, falls_cmp, rises_cmp}
use Rattle.fixed_num.proofs.arithmetic.compared_alike.Goals as goal

pub returns-in-true-true : goal.returns-in-true-true
returns-in-true-true c =
    rw (c.in-true-true.is-0, c.in-true-true.is-1)
    (c.cmp.ensures ∙ below_cmp c.args.a.magnitude c.args.b.magnitude (c.requires.first c.in-true-true.is-0)
    (c.requires.second c.in-true-true.is-1))

pub returns-in-true-false : goal.returns-in-true-false
returns-in-true-false c =
    rw (c.in-true-false.is-0, c.in-true-false.is-1)
    (rises_cmp c.args.a.magnitude c.args.b.magnitude (c.requires.first c.in-true-false.is-0))

pub returns-in-false-true : goal.returns-in-false-true
returns-in-false-true c =
    rw (c.in-false-true.is-0, c.in-false-true.is-1)
    (falls_cmp c.args.a.magnitude c.args.b.magnitude (c.requires.second c.in-false-true.is-1))

pub returns-in-false-false : goal.returns-in-false-false
returns-in-false-false c =
    rw (c.in-false-false.is-0, c.in-false-false.is-1)
    (c.cmp-in-false-false.ensures ∙ whole_cmp c.args.a.magnitude c.args.b.magnitude)
