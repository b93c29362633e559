-- What holds of the screen after every list of commands.
use Rattle.std.specs.Prelude.{◌≡◌, ◌≢◌, ℕ, ◌+◌, ◌<◌, ◌≤◌, List, [], ◌∷◌, ◌++◌, length, take}
use Rattle.std.specs.List.{All, flat_map, suffix_len}
use Rattle.screen_lines.specs.Roll.{Roll, is_blank}
use Rattle.screen_lines.specs.declared.cursor.Cursor.{Cursor}
use Rattle.screen_lines.specs.declared.cursor.Cursor.TheVariants.{BeforeFirst, At}

-- no control byte
abbrev pub Shows : ℕ → Type 0
Shows byte = (32 ≤ byte) × (byte ≢ 127)

-- 80 columns that show
pub record IsRow (row : List ℕ) : Type 0 where
  pub wide : length row ≡ 80
  pub plain : All Shows row

abbrev pub IsOnScreen : Cursor → Type 0
IsOnScreen BeforeFirst = Unit {0}
IsOnScreen (At row column) = (row < 25) × (column ≤ 80)

-- 25 rows are seen, each row is one of 80 columns, and the cursor is on the screen or before its first row
pub record IsWhole (roll : Roll) : Type 0 where
  pub seen : length roll.rows ≡ roll.base + 25
  pub rows : All IsRow roll.rows
  pub cursor : IsOnScreen roll.cursor

-- a row sent out is never changed
pub record KeepsSent (old new : Roll) : Type 0 where
  pub more : old.base ≤ new.base
  pub same : take old.base new.rows ≡ take old.base old.rows

-- what a line sent shows: at most 80 columns, and no blank at the end
pub record IsSentLine (text : List ℕ) : Type 0 where
  pub short : length text ≤ 80
  pub plain : All Shows text
  pub trimmed : suffix_len is_blank text ≡ 0

-- such texts, with LF behind each
abbrev pub IsListing : List ℕ → Type 0
IsListing bytes = (texts : List (List ℕ)) × All IsSentLine texts × (bytes ≡ flat_map (λ text. text ++ 10 ∷ []) texts)
