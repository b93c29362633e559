-- The lines of a declaration file. 32 and 9 are blanks, 42 is a star.
use Rattle.std.specs.Prelude.{ℕ, Bool, true, false, not, ◌==◌, ◌&&◌, List, [], ◌∷◌, take, drop, codes, if◌then◌else◌}
use Rattle.std.specs.List.{prefix_len}
use Rattle.std.specs.Str.{bytes_eq}
use Rattle.prg_expr.specs.Lexicon.{is_blank_or_tab}
use Rattle.shape_files.specs.declared.line.DeclarationLine.{DeclarationLine}
use Rattle.shape_files.specs.declared.line.DeclarationLine.TheVariants as line

-- ---- words, with blanks between

unfoldable pub behind_blanks : List ℕ → List ℕ
behind_blanks text = drop (prefix_len is_blank_or_tab text) text

abbrev pub word_length : List ℕ → ℕ
word_length text = prefix_len (λ b. not (is_blank_or_tab b)) text

unfoldable pub first_word : List ℕ → List ℕ
first_word text = take (word_length text) text

unfoldable pub behind_word : List ℕ → List ℕ
behind_word text = behind_blanks (drop (word_length text) text)

abbrev pub is_nothing : List ℕ → Bool
is_nothing [] = true
is_nothing (b ∷ text) = false

-- ---- what a line says

pub data Said : Type 0 where
  Nothing : Said
  -- a table's name
  Table : List ℕ → Said
  -- an index's name, that of its table, and the text of its key
  Index : List ℕ → List ℕ → List ℕ → Said
  -- none of these
  Other : Said

abbrev pub said_of : DeclarationLine → Said
said_of line.Nothing = Nothing
said_of (line.Table name) = Table name.now
said_of (line.Index name table key) = Index name.now table.now key.now
said_of line.Other = Other

-- a line of blanks, or one that begins with a star behind its blanks
abbrev pub is_skipped : List ℕ → Bool
is_skipped [] = true
is_skipped (b ∷ text) = b == 42

-- behind TABLE stands one word
unfoldable pub table_said : List ℕ → Said
table_said rest = if not (is_nothing rest) && is_nothing (behind_word rest) then Table (first_word rest) else Other

-- behind INDEX and a name stands ON
abbrev pub is_on : List ℕ → Bool
is_on rest = bytes_eq (first_word (behind_word rest)) (codes "ON")

-- the name behind ON, and all behind it
unfoldable pub of_table : List ℕ → List ℕ
of_table rest = behind_word (behind_word rest)

-- behind the table's name stands KEY
abbrev pub is_key_word : List ℕ → Bool
is_key_word rest = bytes_eq (first_word (behind_word (of_table rest))) (codes "KEY")

unfoldable pub key_in : List ℕ → List ℕ
key_in rest = behind_word (behind_word (of_table rest))

unfoldable pub index_said : List ℕ → Said
index_said rest = if is_on rest && is_key_word rest
    && not (is_nothing (key_in rest)) then Index (first_word rest) (first_word (of_table rest)) (key_in rest) else Other

abbrev pub spoken : List ℕ → Said
spoken text =
    if is_skipped text then Nothing
    else if bytes_eq (first_word text) (codes "TABLE") then table_said (behind_word text)
    else if bytes_eq (first_word text) (codes "INDEX") then index_said (behind_word text)
    else Other

-- `TABLE name`, `INDEX name ON table KEY key`, or nothing
unfoldable pub said_in_line : List ℕ → Said
said_in_line text = spoken (behind_blanks text)
