use Rattle.std.proofs.Common.{◌∙◌, sym}
use Rattle.std.proofs.lemmas.Slice.Eq.{bytes_eq-Decides}
use Rattle.prg_laid.proofs.checker.are_same.Goals as goal

pub returns : goal.returns
returns c = λ same. (bytes_eq-Decides c.args.one.now c.args.two.now).0 (sym c.eq.ensures ∙ same)
