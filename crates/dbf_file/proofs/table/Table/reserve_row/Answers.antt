use Rattle.std.proofs.lemmas.Result.{on_ok_weaker}
use Rattle.dbf_file.proofs.TableLemmas.{room_for_one, small_size}
use Rattle.dbf_file.proofs.table.Table.reserve_row.Goals as goal

pub returns-clause-ok : goal.returns-clause-ok
returns-clause-ok c = on_ok_weaker c.reserve.result
    (λ room. room_for_one c.self.inside.size _ _
    (small_size c.self.inside.structure c.self.inside.size c.self.invariant.good c.self.invariant.right_size).0 room)
    c.reserve.ensures.ok
