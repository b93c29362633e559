use Rattle.std.proofs.Common.{sym, ◌∙◌}
use Rattle.row_changes.proofs.Parts.{before_none, before_first, first_goes, first_comes, both_stay, turned}
use Rattle.row_changes.proofs.comparing.without_least.Goals as goal

pub returns-in_default-clause-leads : goal.returns-in_default-clause-leads
returns-in_default-clause-leads c =
    first_comes c.args.rest.before.now c.args.rest.after.now c.in_ok-others.others.now c.in_ok-others.field-0-0.now
    c.args.rest.goes c.args.rest.comes c.requires.before c.requires.after c.in_ok-others.ensures.cases.0
    (before_none c.in_ok-others.field-0-0.now.items c.args.rest.before.now c.in_default.ensures.cases)

pub returns-in_default-split_first-clause-leads : goal.returns-in_default-split_first-clause-leads
returns-in_default-split_first-clause-leads c =
    first_goes c.args.rest.before.now c.args.rest.after.now c.in-Some.later.now c.in-Some.first.now c.args.rest.goes
    c.args.rest.comes c.requires.before c.requires.after c.in-Some.ensures.cases.0
    (before_none c.in-Some.first.now.items c.args.rest.after.now c.in_default-split_first.ensures.cases)

pub returns-in-Less-clause-leads : goal.returns-in-Less-clause-leads
returns-in-Less-clause-leads c =
    first_goes c.args.rest.before.now c.args.rest.after.now c.in-Some.later.now c.in-Some.first.now c.args.rest.goes
    c.args.rest.comes c.requires.before c.requires.after c.in-Some.ensures.cases.0
    (before_first c.in-Some.first.now.items c.args.rest.after.now c.in-Some-split_first.others.now
    c.in-Some-split_first.other.now c.in-Some-split_first.ensures.cases.0 (sym c.cmp.ensures ∙ c.in-Less.is))

pub returns-in-Equal-clause-leads : goal.returns-in-Equal-clause-leads
returns-in-Equal-clause-leads c =
    both_stay c.args.rest.before.now c.args.rest.after.now c.in-Some.later.now c.in-Some-split_first.others.now
    c.in-Some.first.now c.in-Some-split_first.other.now c.args.rest.goes c.args.rest.comes c.requires.before
    c.requires.after
    c.in-Some.ensures.cases.0 c.in-Some-split_first.ensures.cases.0 (sym c.cmp.ensures ∙ c.in-Equal.is)

pub returns-in-Greater-clause-leads : goal.returns-in-Greater-clause-leads
returns-in-Greater-clause-leads c =
    first_comes c.args.rest.before.now c.args.rest.after.now c.in-Some-split_first.others.now
    c.in-Some-split_first.other.now c.args.rest.goes c.args.rest.comes c.requires.before c.requires.after
    c.in-Some-split_first.ensures.cases.0
    (before_first c.in-Some-split_first.other.now.items c.args.rest.before.now c.in-Some.later.now c.in-Some.first.now
    c.in-Some.ensures.cases.0 (turned c.in-Some.first.now.items c.in-Some-split_first.other.now.items
    (sym c.cmp.ensures ∙ c.in-Greater.is)))
