-- The sizes of entries.
use Rattle.std.specs.Prelude.{ℕ, ◌+◌, ◌*◌, ◌/◌}

-- the bytes of an entry: a child, a record number, and the key up to the next multiple of four
abbrev pub entry_size : ℕ → ℕ
entry_size key_length = 8 + (key_length + 3) / 4 * 4

-- the most entries of a page
unfoldable pub most_entries : ℕ → ℕ
most_entries key_length = 504 / entry_size key_length
