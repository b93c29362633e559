-- The table to which an index belongs.
use Rattle.std.specs.Prelude.{◌≡◌, ℕ, ◌+◌, ◌==◌, ◌&&◌, Bool, true, false, List, [], ◌∷◌, Option, Some, None, slice_get}
use Rattle.std.specs.Prelude.{if◌then◌else◌}
use Rattle.std.specs.Option.{is_some}
use Rattle.std.specs.Cmp.Lexicographic.{pointwise}
use Rattle.std.specs.Str.{bytes_eq}
use Rattle.dbf_file.specs.Rows.{Row}
use Rattle.key_lists.specs.KeyForm.{KeyForm}
use Rattle.key_lists.specs.Pairs.{Pair}
use Rattle.row_keys.specs.Lists.{index_list}
use Rattle.shape.specs.declared.parts.KeyPart.{KeyPart}
use Rattle.folder_shapes.specs.declared.found.FoundTable.{FoundTable}
use Rattle.folder_shapes.specs.declared.owners.Owner.{Owner}
use Rattle.folder_shapes.specs.declared.owners.Owner.TheVariants.{Nobody, Unknown, Table}
use Rattle.folder_shapes.specs.Keys.{made_of, plain_text}

-- the key that a table's text fields make by a plain text, with keys of that length
abbrev pub made_by : ℕ → List ℕ → FoundTable → Option (List KeyPart)
made_by key_length plain t = made_of t.table.structure.fields key_length plain

abbrev pub makes : ℕ → List ℕ → FoundTable → Bool
makes key_length plain t = is_some (made_by key_length plain t)

-- the same pairs in the same order
abbrev pub are_one_pair : Pair → Pair → Bool
are_one_pair p q = bytes_eq p.0 q.0 && p.1 == q.1

abbrev pub same_pairs : List Pair → List Pair → Bool
same_pairs ps qs = pointwise are_one_pair ps qs

-- the pairs are those of the rows under a key, if there is one
abbrev pub are_listed : Option (List KeyPart) → List Row → List Pair → Bool
are_listed None rows pairs = false
are_listed (Some parts) rows pairs = same_pairs pairs (index_list parts rows)

-- the pairs are those of the table's rows under the key that its fields make
abbrev pub lists : ℕ → List ℕ → List Pair → FoundTable → Bool
lists key_length plain pairs t = are_listed (made_by key_length plain t) t.table.rows pairs

-- the numbers of the tables of some sort, the first of all having this number
abbrev pub numbers_of : (FoundTable → Bool) → ℕ → List FoundTable → List ℕ
numbers_of sort n [] = []
numbers_of sort n (t ∷ ts) = if sort t then n ∷ numbers_of sort (n + 1) ts else numbers_of sort (n + 1) ts

-- the only table whose fields make the key; among several, the only one whose rows are listed
abbrev pub owner_among : List ℕ → List ℕ → Owner
owner_among [] listed_tables = Nobody
owner_among (t ∷ []) listed_tables = Table t
owner_among (t ∷ u ∷ others) [] = Unknown
owner_among (t ∷ u ∷ others) (l ∷ []) = Table l
owner_among (t ∷ u ∷ others) (l ∷ m ∷ more) = Unknown

-- the tables whose fields make the key of an index of this form, and those whose rows it lists
abbrev pub makers : List FoundTable → KeyForm → List ℕ
makers tables form = numbers_of (makes form.key_length (plain_text form.key_text)) 0 tables

abbrev pub listed_tables : List FoundTable → KeyForm → List Pair → List ℕ
listed_tables tables form pairs = numbers_of (lists form.key_length (plain_text form.key_text) pairs) 0 tables

abbrev pub owner_of : List FoundTable → KeyForm → List Pair → Owner
owner_of tables form pairs = owner_among (makers tables form) (listed_tables tables form pairs)

-- the table of that number is one whose fields make the key
abbrev pub IsMaker : List FoundTable → ℕ → List ℕ → ℕ → Type 0
IsMaker tables key_length plain n =
    (t : FoundTable) × (slice_get tables n ≡ Some t) × (makes key_length plain t ≡ true)

-- the key that they make
abbrev pub HasKey : List FoundTable → ℕ → List ℕ → ℕ → List KeyPart → Type 0
HasKey tables key_length plain n key =
    (t : FoundTable) × (slice_get tables n ≡ Some t) × (made_by key_length plain t ≡ Some key)
