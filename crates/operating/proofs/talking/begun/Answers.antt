use Rattle.operating.proofs.TurnLemmas.{talked_begun}
use Rattle.operating.proofs.talking.begun.Goals as goal

pub returns : goal.returns
returns g c = talked_begun _ c.args.store c.args.today c.args.handed.now _ c.opening.result c.banks_go_on.ensures.begun
    c.in_ok-lines.ensures c.requires.ended c.opening.ensures
