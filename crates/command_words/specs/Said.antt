-- What stands behind the command's name in the command line: rows of words, each of an id.
use Rattle.std.specs.Prelude.{ℕ, Bool, false, List, Option, codes}
use Rattle.std.specs.List.{find}
use Rattle.std.specs.Option.{option_map, option_and_then, option_map_or}
use Rattle.std.specs.Prelude.{slice_get}
use Rattle.std.specs.Str.{bytes_eq}
use Rattle.clap.specs.Values.{read_as}
use Rattle.clap.specs.Walk.{Row}

-- the words of an id; none where the id has no row
abbrev pub words_said : List ℕ → List Row → Option (List (List ℕ))
words_said id rows = option_map (λ r. r.values) (find (λ r. bytes_eq r.id id) rows)

-- the first of them
abbrev pub word_given : List ℕ → List Row → Option (List ℕ)
word_given id rows = option_and_then (λ ws. slice_get ws 0) (words_said id rows)

-- the words behind the command's name that name command files; none where no command is named
abbrev pub sources_said : Option (List ℕ × List Row) → Option (List (List ℕ))
sources_said said = option_and_then (λ p. words_said (codes "MAIN") p.1) said

-- the first of them as a flag is read from it
abbrev pub word_read : List ℕ → List Row → Option (List ℕ)
word_read id rows = option_and_then (λ r. option_map (read_as r.reading) (slice_get r.values 0))
    (find (λ r. bytes_eq r.id id) rows)

-- whether a word is there that is there or not, which the parser notes as `true` or `false`
abbrev pub has_flag : List ℕ → List Row → Bool
has_flag id rows = option_map_or (λ word. bytes_eq word (codes "true")) (word_read id rows) false
