use Rattle.std.proofs.Common.{rules, IsTrue}
use Rattle.work_area.proofs.HandedLemmas.{formed}
use Rattle.work_area.proofs.handed.is_formed.Goals as goal

pub returns : goal.returns
returns g c =
    formed g.K.KeyList.form c.args.shape.now c.args.n c.args.list.now c.in-Some.keys c.get-index.result.now
    c.get.result.now (IsTrue c.is_list_of.result)
    (search rules) (search rules) (search rules) c.is_list_of.ensures
