use Rattle.fit_laws.proofs.Returns.{procedures_of, room, within}
use Rattle.fit_laws.specs.Fits.{procedure_at}
use Rattle.fit_laws.proofs.laws.calls_have_room.Goals as goal

pub returns : goal.returns
returns c = λ code ok accepted w f. (
  room code (procedures_of code ok) (c.states_connect.ensures code ok accepted) w f.shape.place f.awaits,
  within code
      (c.states_connect.ensures code ok accepted) (procedure_at code w.place) w.returns f.awaits,
)
