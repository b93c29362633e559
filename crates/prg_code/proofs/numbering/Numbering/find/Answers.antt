use Rattle.std.proofs.Common.{sym, subst}
use Rattle.prg_code.specs.Numbers.{HasNumber}
use Rattle.prg_code.proofs.Numbers.{found}
use Rattle.prg_code.proofs.numbering.Numbering.find.Goals as goal

pub returns-in-Some-clause-there : goal.returns-in-Some-clause-there
returns-in-Some-clause-there g c =
    subst (λ xs. HasNumber g.T.PartialEq.eq xs c.args.item.now c.in-Some.number) c.self.view_is
    (found g.T.PartialEq.eq _ c.args.item.now c.in-Some.number (sym c.in-Some.ensures.index))
