-- The lines of a command file, and how they are joined.

use Rattle.std.specs.Prelude.{ℕ, ◌+◌, ◌==◌, not, Bool, List, [], ◌∷◌, ◌++◌, take, reverse, Option, Some}
use Rattle.std.specs.Prelude.{None, if◌then◌else◌}
use Rattle.std.specs.List.{prefix_len}
use Rattle.prg_expr.specs.Lexicon.{is_blank_or_tab}
use Rattle.text_lines.specs.Lines.{lines}

-- hex 1A ends the file: the bytes before the first one
abbrev pub before_end : List ℕ → List ℕ
before_end bytes = take (prefix_len (λ b. not (b == 26)) bytes) bytes

-- a text without the blanks and tabs in front
unfoldable pub without_indent : List ℕ → List ℕ
without_indent [] = []
without_indent (b ∷ rest) = if is_blank_or_tab b then without_indent rest else b ∷ rest

-- what follows a semicolon in front, in the order from the end
abbrev pub behind_semicolon : List ℕ → Option (List ℕ)
behind_semicolon [] = None
behind_semicolon (b ∷ rest) = if b == 59 then Some (reverse rest) else None

-- what stands before the semicolon that is a line's last byte but blanks
unfoldable pub continued : List ℕ → Option (List ℕ)
continued line = behind_semicolon (without_indent (reverse line))

-- a joined line: the number of its first line, and its bytes
pub record Joined : Type 0 where
  pub first : ℕ
  pub text : List ℕ

-- a continued line put in front of what is joined behind it; behind the file's last line nothing is
abbrev pub glue : ℕ → List ℕ → List Joined → List Joined
glue n front [] = (record { first = n; text = front }) ∷ []
glue n front (next ∷ others) = (record { first = n; text = front ++ next.text }) ∷ others

abbrev pub join_to : ℕ → List ℕ → Option (List ℕ) → List Joined → List Joined
join_to n line None others = (record { first = n; text = line }) ∷ others
join_to n line (Some front) others = glue n front others

-- lines, the first of which has the number n, each joined with those that continue it
unfoldable pub joined : ℕ → List (List ℕ) → List Joined
joined n [] = []
joined n (line ∷ others) = join_to n line (continued line) (joined (n + 1) others)

-- the joined lines of a file
abbrev pub joined_lines : List ℕ → List Joined
joined_lines bytes = joined 1 (lines (before_end bytes))
