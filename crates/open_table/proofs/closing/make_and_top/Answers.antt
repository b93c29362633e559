use Rattle.std.proofs.Common.{arith}
use Rattle.open_table.proofs.closing.make_and_top.Goals as goal

pub returns-in_default-clause-lands : goal.returns-in_default-clause-lands
returns-in_default-clause-lands g c = c.in_default.ensures.lands

pub returns-in-Ok-remake-clause-lands : goal.returns-in-Ok-remake-clause-lands
returns-in-Ok-remake-clause-lands g c = c.in-Ok.ensures.lands

pub returns-in-Err-clause-lands : goal.returns-in-Err-clause-lands
returns-in-Err-clause-lands g c = λ shown sees.
    let lands = c.in-Ok.ensures.lands shown sees in
    omega (arith, lands.within, lands.cost)
