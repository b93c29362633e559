-- What a text beside a journal tells of files.
use Rattle.std.specs.Prelude.{ℕ, List, [], ◌∷◌, ◌==◌, ◌&&◌, Bool, false, Option, Some, None, codes, option_and_then}
use Rattle.std.specs.Prelude.{string_bytes, if◌then◌else◌}
use Rattle.std.specs.Option.{option_eq}
use Rattle.std.specs.Str.{bytes_eq}
use Rattle.hex.specs.Hex.{encode_lower}
use Rattle.toml.specs.Data.{Members, get_member, as_str}
use Rattle.journal_papers.specs.declared.sums.FileSum.{FileSum}

-- a sum's digits in hex, or that there is no file
unfoldable pub sum_word : Option (List ℕ) → List ℕ
sum_word None = codes "absent"
sum_word (Some sum) = encode_lower sum

abbrev pub begins_with_hyphen : List ℕ → Bool
begins_with_hyphen [] = false
begins_with_hyphen (first ∷ rest) = first == 45

-- the key of a file's sum: its name, of which the first hyphen is left out where two stand in front, since words of the
-- command line are keys too
abbrev pub sum_key : List ℕ → List ℕ
sum_key [] = []
sum_key (first ∷ rest) = if first == 45 && begins_with_hyphen rest then rest else first ∷ rest

-- the word under the file's key is that of its sum
abbrev pub is_said : Members → FileSum → Bool
is_said paper file =
    option_eq bytes_eq (option_and_then as_str (get_member (sum_key (string_bytes file.name)) paper))
    (Some (sum_word file.sum))
