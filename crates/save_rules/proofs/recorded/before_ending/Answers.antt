-- A name that doesn't end with the bytes has no bytes in front of them.
use Rattle.std.proofs.Common.{drop, sym, ap, ◌∙◌}
use Rattle.std.proofs.lemmas.Bool.Decides.{not_from_Decides}
use Rattle.std.proofs.lemmas.Slice.Eq.{bytes_eq-Decides}
use Rattle.std.specs.Str.{bytes_eq}
use Rattle.save_rules.proofs.EndingLemmas.{ending_is}
use Rattle.save_rules.proofs.recorded.before_ending.Goals as goal

pub returns-else-eq-clause-none : goal.returns-else-eq-clause-none
returns-else-eq-clause-none c = λ front e.
    let name = c.args.name.now in
    let ending = c.args.ending.now in
    let back = c.split_at.ensures.back ∙ ap (λ n. drop n name) c.saturating_sub.ensures
    ∙ ending_is name front ending e in
    not_from_Decides (bytes_eq c.split_at.result.1.now ending) (bytes_eq-Decides c.split_at.result.1.now ending)
    (sym c.eq.ensures ∙ c.if-eq.false) back
