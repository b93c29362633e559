use Rattle.std.proofs.Common.{◌∙◌, ap, ◌++◌}
use Rattle.xvalue.proofs.TextLemmas.{append_fitting}
use Rattle.xvalue.proofs.texts.append.Goals as goal

pub returns : goal.returns
returns c =
    c.in-Ok.ensures.ok
    ∙ ap (λ ys. c.args.text.now.items ++ ys) c.front.ensures
    ∙ append_fitting c.args.text.now.items c.args.bytes.now c.remaining_capacity.result c.remaining_capacity.ensures
