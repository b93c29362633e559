use Rattle.operating.proofs.PieceLemmas.{stood_on, stood_over, turned_all}
use Rattle.operating.proofs.silence.take_quiet_turn.Goals as goal

pub take_empty-requires-clause-stood : goal.take_empty-requires-clause-stood
take_empty-requires-clause-stood g c =
    let s = c.requires.stood in (
      s.0,
      s.1,
      s.2,
      stood_on _ s.0 s.1 s.2 _ _ _ _ _
          (record { joined = c.pieces_make_the_whole.ensures.joined; ended = c.pieces_make_the_whole.ensures.ended })
          s.3
          (c.in-Waits.ensures.goes s.3.world s.3.twin).0,
    )

pub returns-in-Ended-clause-turned : goal.returns-in-Ended-clause-turned
returns-in-Ended-clause-turned g c =
    λ store today bytes s. stood_over _ store today bytes _ _ c.in-Ended.last _ _ c.requires.within s
    (c.in-Ended.ensures.goes s.world s.twin)

pub returns-in-Spent-clause-turned : goal.returns-in-Spent-clause-turned
returns-in-Spent-clause-turned g c = λ store today bytes s.
    stood_on _ store today bytes _ _ _ _ _
    (record { joined = c.pieces_make_the_whole.ensures.joined; ended = c.pieces_make_the_whole.ensures.ended }) s
    (c.in-Spent.ensures.goes s.world s.twin).0

pub returns-in_ok-show-in-Marked-clause-turned : goal.returns-in_ok-show-in-Marked-clause-turned
returns-in_ok-show-in-Marked-clause-turned g c = λ store today bytes s.
    stood_on _ store today bytes _ _ _ _ _
    (record { joined = c.pieces_make_the_whole.ensures.joined; ended = c.pieces_make_the_whole.ensures.ended }) s
    (c.in-Marked.ensures.goes s.world s.twin).0

pub returns-in-Waits-clause-turned : goal.returns-in-Waits-clause-turned
returns-in-Waits-clause-turned g c = turned_all _ _ _ _ _ _ _ c.take_empty.result
    (λ store today bytes s. stood_on _ store today bytes _ _ _ _ _
    (record { joined = c.pieces_make_the_whole.ensures.joined; ended = c.pieces_make_the_whole.ensures.ended }) s
    (c.in-Waits.ensures.goes s.world s.twin).0)
    c.take_empty.ensures.turned

pub show-requires : goal.show-requires
show-requires g c =
    let s = c.requires.stood in
    let r = (c.in-Marked.ensures.goes s.3.world s.3.twin).0 in
    (r.world, r.twin)
