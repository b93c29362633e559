use Rattle.std.proofs.Common.{refl}
use Rattle.prg_code.proofs.Sameness.{areas_same}
use Rattle.prg_code.proofs.merging.are_areas_same.Goals as goal

pub returns : goal.returns
returns c =
    areas_same c.args.one.now c.args.two.now c.eq.result c.eq.ensures
    (record {
      closed = refl;
      unsure = refl;
      both = λ a b. refl;
      closed_open = λ b. refl;
      closed_unsure = refl;
      open_closed = λ a. refl;
      open_unsure = λ a. refl;
      unsure_closed = refl;
      unsure_open = λ b. refl;
    })
