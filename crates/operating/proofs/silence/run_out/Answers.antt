use Rattle.std.proofs.Common.{◌∙◌, refl}
use Rattle.operating.proofs.PieceLemmas.{on_is, over_is, talked_stood, within_is}
use Rattle.operating.proofs.silence.run_out.Goals as goal

pub take_step-turn-requires-clause-stood : goal.take_step-turn-requires-clause-stood
take_step-turn-requires-clause-stood g c =
    let s = c.requires.talked in (
      s.0,
      s.1,
      s.2,
      talked_stood _ s.0 s.1 s.2 _ _
          (record { joined = c.pieces_make_the_whole.ensures.joined; ended = c.pieces_make_the_whole.ensures.ended })
          s.3,
    )

pub loop-turn-init : goal.loop-turn-init
loop-turn-init g c = record {
  turned = λ store today bytes t. c.take_step-turn.ensures.turned store today bytes
      (talked_stood _ store today bytes _ _
      (record { joined = c.pieces_make_the_whole.ensures.joined; ended = c.pieces_make_the_whole.ensures.ended })
      t);
  within = within_is _ _ _ c.take_step-turn.ensures.further;
  untold = refl;
  cause = refl;
}

pub returns-in-Over-clause-comes_to : goal.returns-in-Over-clause-comes_to
returns-in-Over-clause-comes_to g c =
    λ store today bytes t. over_is _ store today bytes _ _ c.in-Over.outcome _ c.in-Over.is
    (c.loop-turn.invariant.turned store today bytes t)

pub take_quiet_turn-requires-clause-stood : goal.take_quiet_turn-requires-clause-stood
take_quiet_turn-requires-clause-stood g c =
    let s = c.requires.talked in
    (s.0, s.1, s.2, on_is _ s.0 s.1 s.2 _ _ _ _ c.in-On.is (c.loop-turn.invariant.turned s.0 s.1 s.2 s.3))

pub loop-turn-preserved : goal.loop-turn-preserved
loop-turn-preserved g c = record {
  turned = λ store today bytes t. c.in_ok-turn-in-On.ensures.turned store today bytes
      (on_is _ store today bytes _ _ _ _ c.in-On.is (c.loop-turn.invariant.turned store today bytes t));
  within = within_is _ _ _ c.in_ok-turn-in-On.ensures.further;
  untold = c.in_ok-turn-in-On.ensures.untold ∙ c.loop-turn.invariant.untold;
  cause = c.in_ok-turn-in-On.ensures.cause ∙ c.loop-turn.invariant.cause;
}
