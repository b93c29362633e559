use Rattle.std.proofs.Common.{◌∙◌, ◌*◌, ◌-◌, length, take, drop, ap, arith}
use Rattle.std.proofs.lemmas.List.{take_all, length-drop}
use Rattle.ndx_tree.proofs.walk.bytes_of.Goals as goal

pub returns : goal.returns
returns c =
    let rest = length-drop (c.args.place * 512) c.args.bytes.now in
    c.in-Some.ensures.cases.same ∙ ap (take 512)
    (take_all (length c.args.bytes.now - c.args.place * 512) (drop (c.args.place * 512) c.args.bytes.now)
    (omega (arith, rest)))
