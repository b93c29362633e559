-- The lines of a text. 10 ends a line, 13 is a return.

use Rattle.std.specs.Prelude.{ℕ, ◌==◌, ◌&&◌, Bool, true, false, List, [], ◌∷◌, reverse, map, take, if◌then◌else◌}

abbrev pub begins_with_line_end : List ℕ → Bool
begins_with_line_end [] = false
begins_with_line_end (b ∷ rest) = b == 10

-- a byte put in front of the first line
abbrev pub put_in_front : ℕ → List (List ℕ) → List (List ℕ)
put_in_front b [] = (b ∷ []) ∷ []
put_in_front b (line ∷ others) = (b ∷ line) ∷ others

-- a return just before a line end is no part of the line; nothing follows the last line end
unfoldable pub lines : List ℕ → List (List ℕ)
lines [] = []
lines (b ∷ rest) =
    if b == 10 then [] ∷ lines rest
    else if b == 13 && begins_with_line_end rest then lines rest
    else put_in_front b (lines rest)

-- a line without a return as its last byte; the second list is the line from its end
abbrev pub strip_return : List ℕ → List ℕ → List ℕ
strip_return line [] = line
strip_return line (last ∷ others) = if last == 13 then reverse others else line

unfoldable pub without_return : List ℕ → List ℕ
without_return line = strip_return line (reverse line)

-- ---- the operator's lines, of at most 254 bytes each

abbrev pub short_lines : List ℕ → List (List ℕ)
short_lines bytes = map (take 254) (lines bytes)

-- the next line; where none is left, an empty one
abbrev pub next_line : List (List ℕ) → List ℕ
next_line [] = []
next_line (line ∷ others) = line

abbrev pub lines_behind : List (List ℕ) → List (List ℕ)
lines_behind [] = []
lines_behind (line ∷ others) = others

-- whether none is left
abbrev pub is_out : List (List ℕ) → Bool
is_out [] = true
is_out (line ∷ others) = false

-- nothing, or a text whose last line has its end
abbrev pub is_ended : List ℕ → Bool
is_ended [] = true
is_ended (b ∷ []) = b == 10
is_ended (b ∷ c ∷ rest) = is_ended (c ∷ rest)
