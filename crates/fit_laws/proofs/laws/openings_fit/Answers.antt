use Rattle.fit_laws.proofs.Openings.{opening_fits}
use Rattle.fit_laws.proofs.Returns.{procedures_of}
use Rattle.fit_laws.proofs.laws.openings_fit.Goals as goal

pub returns : goal.returns
returns c = λ code store lines today ok accepted fits.
    (let kept = c.openings_have_the_shape.ensures code store lines today ok fits in
    record {
      shape = kept.0;
      apart = kept.1;
      fits =
          opening_fits code c.covers_goes_on.ensures (c.states_connect.ensures code ok accepted) (procedures_of code ok)
          store lines today;
      awaits = tt;
    })
