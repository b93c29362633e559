use Rattle.std.proofs.Common.{◌∙◌, refl}
use Rattle.operating.proofs.AnswerLemmas.{on_err, unkept_none}
use Rattle.operating.proofs.TurnLemmas.{comes_to, talked_on, turned_all}
use Rattle.operating.proofs.talking.take_turn.Goals as goal

pub answer-requires-clause-talked : goal.answer-requires-clause-talked
answer-requires-clause-talked g c =
    let s = c.requires.talked in (
      s.0,
      s.1,
      talked_on _ s.0 s.1 _ _ _ _ _ _
          (record { joined = c.pieces_make_the_whole.ensures.joined; ended = c.pieces_make_the_whole.ensures.ended })
          s.2
          (c.in-Waits.ensures.goes s.2.world s.2.twin).0,
    )

pub returns-in-Ended-clause-turned : goal.returns-in-Ended-clause-turned
returns-in-Ended-clause-turned g c = λ store today t. comes_to _ store today _ _ _ c.in-Ended.last _ _
    (record { joined = c.pieces_make_the_whole.ensures.joined; ended = c.pieces_make_the_whole.ensures.ended })
    c.requires.within t (c.in-Ended.ensures.goes t.world t.twin)

pub returns-in-Spent-clause-turned : goal.returns-in-Spent-clause-turned
returns-in-Spent-clause-turned g c = λ store today t. talked_on _ store today _ _ _ _ _ _
    (record { joined = c.pieces_make_the_whole.ensures.joined; ended = c.pieces_make_the_whole.ensures.ended }) t
    (c.in-Spent.ensures.goes t.world t.twin).0

pub returns-in_ok-show-in-Marked-clause-turned : goal.returns-in_ok-show-in-Marked-clause-turned
returns-in_ok-show-in-Marked-clause-turned g c =
    λ store today t. talked_on _ store today _ _ _ _ _ _
    (record { joined = c.pieces_make_the_whole.ensures.joined; ended = c.pieces_make_the_whole.ensures.ended }) t
    (c.in-Marked.ensures.goes t.world t.twin).0

pub returns-in-Waits-clause-turned : goal.returns-in-Waits-clause-turned
returns-in-Waits-clause-turned g c = turned_all _ _ _ _ _ _ _ _ _ _ c.answer.result
    (λ store today t. talked_on _ store today _ _ _ _ _ _
    (record { joined = c.pieces_make_the_whole.ensures.joined; ended = c.pieces_make_the_whole.ensures.ended }) t
    (c.in-Waits.ensures.goes t.world t.twin).0)
    c.answer.ensures.turned

pub show-requires : goal.show-requires
show-requires g c =
    let s = c.requires.talked in
    let r = (c.in-Marked.ensures.goes s.2.world s.2.twin).0 in
    (r.world, r.twin)

pub returns-in_err-show-in-Marked-clause-unkept : goal.returns-in_err-show-in-Marked-clause-unkept
returns-in_err-show-in-Marked-clause-unkept g c =
    on_err c.from_residual.result _ (unkept_none _ _ _ _ (c.show.ensures.untold ∙ c.hear-part.ensures.untold) refl)
