use Rattle.xvalue.proofs.TextLemmas.{fitting_parts}
use Rattle.xvalue.proofs.texts.write_parts.Goals as goal

pub returns : goal.returns
returns c =
    fitting_parts c.clear.new.self.items c.args.first.now c.args.second.now c.args.third.now _ _ _ c.clear.ensures
    c.append.ensures c.append-2.ensures c.append-3.ensures
