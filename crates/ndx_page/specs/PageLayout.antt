-- A page of entries.
use Rattle.std.specs.Prelude.{◌≡◌, ℕ, zero, suc, ◌+◌, ◌*◌, ◌<◌, ◌≤◌, ◌⊎◌, List, [], ◌∷◌, ◌++◌, length, take, drop, Bool}
use Rattle.std.specs.Prelude.{not, ◌&&◌, ◌||◌, ◌==◌, nat_lt, if◌then◌else◌, Option, Some, None, find, is_none, All}
use Rattle.std.specs.List.{list_any, flat_map}
use Rattle.ndx_page.specs.declared.page.PageEntry.{PageEntry}
use Rattle.ndx_page.specs.declared.page.Page.{Page}
use Rattle.ndx_page.specs.declared.page.PageFault.{PageFault}
use Rattle.ndx_page.specs.declared.page.PageFault.TheVariants.{Count, Child, Record}
use Rattle.ndx_page.specs.Numbers.{number_at, number_text, padded}
use Rattle.ndx_page.specs.Layout.{entry_size, most_entries}

-- ---- which pages there are

-- In a leaf each child is 0, the last among them, and each record is 1 or more.
abbrev pub IsLeaf : Page → Type 0
IsLeaf page = All (λ e. (e.child ≡ 0) × (0 < e.number)) page.entries.items × (page.last ≡ 0)

-- In an inner page no child is 0, nor is the last.
abbrev pub IsInner : Page → Type 0
IsInner page = All (λ e. 0 < e.child) page.entries.items × (0 < page.last)

-- a page of a file whose keys have this length
pub record FitsKeys (key_length : ℕ) (page : Page) : Type 0 where
  pub most : length page.entries.items ≤ most_entries key_length
  pub keys : All (λ e. length e.key.items ≡ key_length) page.entries.items
  pub kind : IsLeaf page ⊎ IsInner page

-- ---- where they stand

-- The entry from a place on: its child, its record, its key.
unfoldable pub entry_at : ℕ → ℕ → List ℕ → PageEntry
entry_at key_length place bytes =
    record {
      child = number_at 4 place bytes;
      number = number_at 4 (place + 4) bytes;
      key = record { items = take key_length (drop (place + 8) bytes) };
    }

-- so many entries, one behind the other
unfoldable pub entries_at : ℕ → ℕ → ℕ → List ℕ → List PageEntry
entries_at key_length zero place bytes = []
entries_at key_length (suc n) place bytes =
    entry_at key_length place bytes ∷ entries_at key_length n (place + entry_size key_length) bytes

-- The count, the entries, and behind them the last child, which a leaf with entries has no use for. Other bytes may be
-- any.
pub record IsPage (key_length : ℕ) (bytes : List ℕ) (page : Page) : Type 0 where
  pub fits : FitsKeys key_length page
  pub count : number_at 4 0 bytes ≡ length page.entries.items
  pub entries : entries_at key_length (length page.entries.items) 4 bytes ≡ page.entries.items
  pub last : (page.entries.items ≡ []) ⊎ (0 < page.last)
      → number_at 4 (4 + length page.entries.items * entry_size key_length) bytes ≡ page.last

-- ---- faults

-- as many entries as the count tells
abbrev pub told_entries : ℕ → List ℕ → List PageEntry
told_entries key_length bytes = entries_at key_length (number_at 4 0 bytes) 4 bytes

-- and the child after them
abbrev pub told_last : ℕ → List ℕ → ℕ
told_last key_length bytes = number_at 4 (4 + number_at 4 0 bytes * entry_size key_length) bytes

-- a page whose first child is 0 is a leaf
abbrev pub is_told_leaf : List ℕ → Bool
is_told_leaf bytes = number_at 4 4 bytes == 0

-- whether the bytes have this fault
abbrev pub has_page_fault : ℕ → List ℕ → PageFault → Bool
has_page_fault key_length bytes Count = nat_lt (most_entries key_length) (number_at 4 0 bytes)
has_page_fault key_length bytes Child =
    if is_told_leaf bytes then list_any (λ e. not (e.child == 0)) (told_entries key_length bytes)
    else (told_last key_length bytes == 0 || list_any (λ e. e.child == 0) (told_entries key_length bytes))
has_page_fault key_length bytes Record =
    is_told_leaf bytes && list_any (λ e. e.number == 0) (told_entries key_length bytes)

-- the order in which faults are told
abbrev pub page_faults : List PageFault
page_faults = Count ∷ Child ∷ Record ∷ []

-- ---- the page that is told

-- the page that stands in 512 bytes, or none where they have a fault
unfoldable pub page_of : ℕ → List ℕ → Option Page
page_of key_length bytes =
    if is_none (find (has_page_fault key_length bytes) page_faults)
    then Some (record {
      entries = record { items = told_entries key_length bytes };
      last = if is_told_leaf bytes then 0 else told_last key_length bytes;
    })
    else None

-- The page of 512 bytes is the one that stands in them.
pub record PagesAreTold : Type 0 where
  pub stands : (key_length : ℕ) (bytes : List ℕ) (page : Page) → length bytes ≡ 512
      → page_of key_length bytes ≡ Some page → IsPage key_length bytes page
  pub told : (key_length : ℕ) (bytes : List ℕ) (page : Page) → IsPage key_length bytes page
      → page_of key_length bytes ≡ Some page

-- ---- as it is written

-- an entry with the first bytes of its key, so many, and zeros up to the entry's size
unfoldable pub entry_text : ℕ → PageEntry → List ℕ
entry_text key_length e =
    padded (entry_size key_length) (number_text 4 e.child ++ number_text 4 e.number ++ take key_length e.key.items)

-- the first entries, as many as there may be, and the last child; zeros stand in each other byte
unfoldable pub page_text : ℕ → Page → List ℕ
page_text key_length page =
    let entries = take (most_entries key_length) page.entries.items in
    padded 512 (number_text 4 (length entries) ++ flat_map (entry_text key_length) entries ++ number_text 4 page.last)
