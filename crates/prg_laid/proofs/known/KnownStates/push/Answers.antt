use Rattle.prg_laid.proofs.Numbered.{one_more_below, one_more_item}
use Rattle.prg_laid.proofs.known.KnownStates.push.Goals as goal

pub invariant_of-self-2 : goal.invariant_of-self-2
invariant_of-self-2 c =
    one_more_below c.self.inside.kept.items c.in_ok-number.ensures.grown.0 c.kept_number.new.kept.items
    c.self.inside.numbers.items c.push.new.self.items c.in_ok-number.number c.args.state
    c.in_ok-number.ensures.grown.1 c.in_ok-push.ensures.items c.in_ok-number.ensures.there c.self.invariant

pub returns : goal.returns
returns c =
    one_more_item c.self.inside.kept.items c.in_ok-number.ensures.grown.0 c.kept_number.new.kept.items
    c.self.inside.numbers.items c.push.new.self.items c.in_ok-number.number c.args.state c.args.self.now
    c.in_ok-number.ensures.grown.1 c.in_ok-push.ensures.items c.in_ok-number.ensures.there c.self.invariant
    c.self.view_is
