-- What is sent is lines.
use Rattle.std.proofs.Common.{◌≡◌, ℕ, ◌-◌, ◌<◌, List, [], ◌∷◌, ◌++◌, length, get_or, take, refl, ◌∙◌, ap, arith}
use Rattle.std.proofs.Common.{length-take, false}
use Rattle.std.specs.Prelude.{map, reverse}
use Rattle.std.specs.List.{All, flat_map, suffix_len}
use Rattle.std.proofs.lemmas.List.Elements.{All-take, All-map, All-weaker}
use Rattle.std.proofs.lemmas.List.Sums.{prefix_len_stops, suffix_len_is}
use Rattle.std.proofs.lemmas.List.{length-reverse, get_or-reverse, get_or-take}
use Rattle.screen_lines.specs.declared.commands.ScreenCommand.{ScreenCommand}
use Rattle.screen_lines.specs.Roll.{Roll, is_blank, without_end, line_sent, lines_sent, roll_cleared, roll_sent}
use Rattle.screen_lines.specs.State.{blank_screen}
use Rattle.screen_lines.specs.Commands.{screen_after, bytes_sent}
use Rattle.screen_lines.specs.Shape.{Shows, IsRow, IsWhole, IsSentLine, IsListing}
use Rattle.screen_lines.proofs.Stepping.{IsWhole-after, cleared-Steps}

-- the byte before the part that is cut off stays
last_shows : (row : List ℕ) (n d : ℕ) → n ≡ length row - suffix_len is_blank row → 0 < n
    → is_blank (get_or (take n row) (n - 1) d) ≡ false
last_shows row n d cut some =
    let len = length-reverse row in
    let here : suffix_len is_blank row < length (reverse row) = omega arith in
    let stops = prefix_len_stops is_blank (reverse row) d here in
    let back = get_or-reverse row (suffix_len is_blank row) d (omega arith) in
    let at : length row - 1 - suffix_len is_blank row ≡ n - 1 = omega arith in
    let kept = get_or-take n row (n - 1) d (omega arith) in
    rw kept (rw (back, at) at stops)

-- nothing is left to cut off
trimmed : (row : List ℕ) → suffix_len is_blank (without_end is_blank row) ≡ 0
trimmed row =
    let n : ℕ = length row - suffix_len is_blank row in
    let len : length (take n row) ≡ n = length-take n row ∙ omega arith in
    let none = suffix_len_is is_blank (take n row) n 0 (omega arith) (λ k low high. absurd (omega arith))
    (λ some. last_shows row n 0 refl some) in
    none ∙ omega arith

IsLine-without_end : (row : List ℕ) → IsRow row → IsSentLine (without_end is_blank row)
IsLine-without_end row is =
    let wide = is.wide in
    record {
      short = omega (arith, length-take (length row - suffix_len is_blank row) row);
      plain = All-take Shows (length row - suffix_len is_blank row) row is.plain;
      trimmed = trimmed row;
    }

lines-texts : (rows : List (List ℕ)) → lines_sent rows ≡ flat_map (λ text. text ++ 10 ∷ [])
    (map (without_end is_blank) rows)
lines-texts [] = refl
lines-texts (row ∷ rows) = ap (λ l. line_sent row ++ l) (lines-texts rows)

pub IsListing-sent : (roll : Roll) → IsWhole roll → IsListing (roll_sent roll)
unfolding roll_sent roll_cleared
IsListing-sent roll whole =
    let end = roll_cleared roll in
    let rows = take end.base end.rows in
    let all : All IsRow rows = All-take IsRow end.base end.rows (cleared-Steps roll whole).whole.rows in (
      map (without_end is_blank) rows,
      All-map IsSentLine (without_end is_blank) rows
          (All-weaker IsRow (λ row. IsSentLine (without_end is_blank row)) IsLine-without_end rows all),
      lines-texts rows,
    )

pub IsListing-bytes_of : (commands : List ScreenCommand) → IsListing (bytes_sent commands)
IsListing-bytes_of commands = IsListing-sent (screen_after commands blank_screen).roll (IsWhole-after commands)
