use Rattle.std.proofs.Common.{refl, rules}
use Rattle.prg_code.proofs.Sameness.{kind_lists_same}
use Rattle.prg_code.proofs.merging.are_kinds_same.Goals as goal

pub returns : goal.returns
returns c =
    kind_lists_same c.args.one.now c.args.two.now c.eq.result c.eq.ensures
    (record { none = refl; none_some = λ b. refl; some_none = λ a. refl; both = λ a b. (search rules, search rules) })
