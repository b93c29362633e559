-- What is seen of the roll and what was sent stand apart in it.
use Rattle.std.proofs.Common.{◌≡◌, ℕ, List, [], ◌∷◌, ◌++◌, length, take, drop, refl, ap, sym, ◌∙◌}
use Rattle.screen_lines.specs.Kept.{rows_sent, roll_with, Keeps}
use Rattle.screen_lines.specs.Roll.{lines_sent}
use Rattle.screen_lines.specs.declared.cursor.Cursor.{Cursor}

drop_front : (a b : List (List ℕ)) → drop (length a) (a ++ b) ≡ b
drop_front [] b = refl
drop_front (x ∷ a) b = drop_front a b

take_front : (a b : List (List ℕ)) → take (length a) (a ++ b) ≡ a
take_front [] b = refl
take_front (x ∷ a) b = ap (λ r. x ∷ r) (take_front a b)

pub seen_of : (sent : List ℕ) (seen : List (List ℕ)) (cursor : Cursor)
    → seen ≡ drop (roll_with sent seen cursor).base (roll_with sent seen cursor).rows
seen_of sent seen cursor = sym (drop_front (rows_sent sent) seen)

pub sent_of : (sent : List ℕ) (seen : List (List ℕ)) (cursor : Cursor) → Keeps sent seen cursor
    → sent ≡ lines_sent (take (roll_with sent seen cursor).base (roll_with sent seen cursor).rows)
sent_of sent seen cursor k = k.lines.whole ∙ ap lines_sent (sym (take_front (rows_sent sent) seen))
