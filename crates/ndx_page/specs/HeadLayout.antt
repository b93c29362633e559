-- Page 0 of an index file.
use Rattle.std.specs.Prelude.{◌≡◌, ℕ, ◌≤◌, List, [], ◌∷◌, ◌++◌, length, replicate, slice_index, slice_range, Bool, not}
use Rattle.std.specs.Prelude.{◌&&◌, ◌==◌, nat_lt, nat_le, is_none, position}
use Rattle.ndx_page.specs.declared.head.Head.{Head}
use Rattle.ndx_page.specs.declared.head.HeadFault.{HeadFault}
use Rattle.ndx_page.specs.declared.head.HeadFault.TheVariants.{Short, Kind, Unique, KeyLength, EntrySize, PerPage}
use Rattle.ndx_page.specs.declared.head.HeadFault.TheVariants.{Expression}
use Rattle.ndx_page.specs.Numbers.{number_at, number_text, padded}
use Rattle.ndx_page.specs.Layout.{entry_size, most_entries}

-- The bytes begin with a page 0 that says what the head has. Its other bytes may be any.
pub record IsHead (bytes : List ℕ) (head : Head) : Type 0 where
  pub whole : 512 ≤ length bytes
  pub root : number_at 4 0 bytes ≡ head.root
  pub pages : number_at 4 4 bytes ≡ head.pages
  pub key_length : number_at 2 12 bytes ≡ head.length
  pub per_page : number_at 2 14 bytes ≡ most_entries head.length
  pub kind : number_at 2 16 bytes ≡ 0
  pub size : number_at 2 18 bytes ≡ entry_size head.length
  pub unique : slice_index bytes 23 ≡ 0
  -- the key expression, ended by a zero byte
  pub text : (rest : List ℕ) × (slice_range bytes 24 512 ≡ head.text.items ++ 0 ∷ rest)

-- whether the bytes have this fault
abbrev pub has_head_fault : List ℕ → HeadFault → Bool
has_head_fault bytes Short = nat_lt (length bytes) 512
has_head_fault bytes Kind = not (number_at 2 16 bytes == 0)
has_head_fault bytes Unique = not (slice_index bytes 23 == 0)
has_head_fault bytes KeyLength = not (nat_le 1 (number_at 2 12 bytes) && nat_le (number_at 2 12 bytes) 100)
has_head_fault bytes EntrySize = not (number_at 2 18 bytes == entry_size (number_at 2 12 bytes))
has_head_fault bytes PerPage = not (number_at 2 14 bytes == most_entries (number_at 2 12 bytes))
has_head_fault bytes Expression = is_none (position (λ byte. byte == 0) (slice_range bytes 24 512))

-- the order in which faults are told
abbrev pub head_faults : List HeadFault
head_faults = Short ∷ Kind ∷ Unique ∷ KeyLength ∷ EntrySize ∷ PerPage ∷ Expression ∷ []

-- Page 0 as it is written: root, pages, four bytes 0, key length, most entries, key type 0, entry size, four bytes 0
-- (the last of them is the unique flag), the key expression, and bytes 0 up to the end.
unfoldable pub head_text : Head → List ℕ
head_text head = padded 512
    (number_text 4 head.root ++ number_text 4 head.pages ++ replicate 4 0
    ++ number_text 2 head.length ++ number_text 2 (most_entries head.length)
    ++ number_text 2 0 ++ number_text 2 (entry_size head.length) ++ replicate 4 0
    ++ head.text.items)

-- Bytes begin with one page 0 at most.
abbrev pub HeadsAreTold : Type 0
HeadsAreTold = (bytes : List ℕ) (a b : Head) → IsHead bytes a → IsHead bytes b → a ≡ b
