use Rattle.std.proofs.Common.{subst}
use Rattle.std.proofs.lemmas.Result.{on_ok_weaker}
use Rattle.prg_commands.specs.Acts as acts
use Rattle.prg_commands.specs.Layout.{Laying}
use Rattle.prg_commands.proofs.screen.say_and_get.Goals as goal

pub returns-clause-laid : goal.returns-clause-laid
returns-clause-laid g c = λ judges. on_ok_weaker c.get_on.result (λ got. (
  g.S.Sink.place c.say.new.sink,
  c.in_ok-say.ensures.laid judges,
  subst (λ (f : Laying). acts.GotOn f (g.S.Sink.place c.say.new.sink) c.args.variable.now.items
      (g.S.Sink.place c.get_on.new.sink)) c.in_ok-say.ensures.same got,
)) (c.get_on.ensures.laid judges)
