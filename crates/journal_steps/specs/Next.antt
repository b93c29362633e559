-- What becomes of a conversation by what stands of it.
use Rattle.std.specs.Prelude.{Bool, ◌&&◌, ◌||◌, if◌then◌else◌}
use Rattle.journal_steps.specs.declared.next.Remains.{Remains}
use Rattle.journal_steps.specs.declared.next.Next.{Next}
use Rattle.journal_steps.specs.declared.next.Next.TheVariants.{Begin, GoOn, Finish, Ended, Changed, Taken, Missing}

-- A save that a note tells of comes first. One that came to its end, or that was never begun, doesn't go on, nor does
-- one over changed tables; and none is begun where anything of it stands.
unfoldable pub next_of : Remains → Bool → Next
next_of found goes_on =
    if found.noted then Finish
    else (if goes_on
    then (if found.done then Ended else (if found.journal && found.begun
    then (if found.same then GoOn else Changed) else Missing))
    else (if found.journal || found.begun || found.done then Taken else Begin))
