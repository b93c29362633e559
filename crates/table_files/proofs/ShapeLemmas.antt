-- The files of a shape that may be declared: no two alike.
use Rattle.std.proofs.Common.{◌≡◌, ◌≢◌, ◌≤◌, ◌<◌, ◌+◌, ℕ, zero, suc, Bool, true, false, not, ◌||◌, ◌⊎◌, inl}
use Rattle.std.proofs.Common.{inr, nat_le, List, [], ◌∷◌, ◌++◌, Some, length, take, map, reverse, get_or, refl}
use Rattle.std.proofs.Common.{sym, ap, ◌∙◌, subst, arith, append_assoc, append-nil}
use Rattle.std.specs.Prelude.{slice_get, codes}
use Rattle.std.specs.Char.{to_ascii_lowercase}
use Rattle.std.specs.Cmp.Derive.{both_true}
use Rattle.std.specs.List.{AllByRecursion, list_all, list_any}
use Rattle.std.specs.Str.{bytes_eq, str_eq_ignore_ascii_case}
use Rattle.std.proofs.lemmas.Bool.{leb-true, eq-eqb, not-true, false≢true, and_parts}
use Rattle.std.proofs.lemmas.List.{append_cancel_right, reverse-append}
use Rattle.std.proofs.lemmas.Option.{slice_get_within}
use Rattle.dbf_file.specs.Fields.{are_fields}
use Rattle.shape.specs.declared.indexes.IndexShape.{IndexShape}
use Rattle.shape.specs.declared.tables.TableShape.{TableShape}
use Rattle.shape.specs.declared.whole.Shape.{Shape}
use Rattle.shape.specs.Indexes.{has_declared_key, is_index, is_next_index, indexes_go_on, has_index_name}
use Rattle.shape.specs.Names.{is_capital_name, is_file_name}
use Rattle.shape.specs.Tables.{is_table, is_next_table, tables_go_on, has_table_name}
use Rattle.shape.specs.Whole.{is_shape}
use Rattle.table_files.specs.Names.{table_file, index_file, files_of}
use Rattle.table_files.proofs.FileLemmas.{some_same}

-- ---- declared tables

tables_next : (earlier ts : List TableShape) → tables_go_on earlier ts ≡ true → (t : ℕ) (s : TableShape)
    → slice_get ts t ≡ Some s → is_next_table (earlier ++ take t ts) s ≡ true
tables_next earlier [] h t s e = absurd (cc)
tables_next earlier (r ∷ ts) h zero s e =
    subst (λ l. is_next_table l s ≡ true) (sym (append-nil earlier))
    (subst (λ t. is_next_table earlier t ≡ true) (some_same r s e)
    (and_parts (is_next_table earlier r) (tables_go_on (earlier ++ r ∷ []) ts) h).0)
tables_next earlier (r ∷ ts) h (suc t) s e =
    subst (λ l. is_next_table l s ≡ true) (append_assoc earlier (r ∷ []) (take t ts))
    (tables_next (earlier ++ r ∷ []) ts
    (and_parts (is_next_table earlier r) (tables_go_on (earlier ++ r ∷ []) ts) h).1 t s
    e)

shape_tables : (shape : Shape) → is_shape shape ≡ true → tables_go_on [] shape.tables ≡ true
unfolding is_shape
shape_tables shape e =
    (and_parts _ (tables_go_on [] shape.tables) (and_parts _ (indexes_go_on shape.tables [] shape.indexes) e).0).1

table_next : (shape : Shape) → is_shape shape ≡ true → (t : ℕ) (s : TableShape) → slice_get shape.tables t ≡ Some s
    → is_next_table (take t shape.tables) s ≡ true
table_next shape e = tables_next [] shape.tables (shape_tables shape e)

next_named : (earlier : List TableShape) (s : TableShape) → is_next_table earlier s ≡ true
    → is_file_name s.name.items ≡ true
unfolding is_next_table is_table
next_named earlier s e = (and_parts (is_file_name s.name.items) (are_fields s.fields)
    (and_parts _ (list_all (λ f. is_capital_name f.name.items) s.fields) (and_parts (is_table s) _ e).0).0).0

pub table_named : (shape : Shape) → is_shape shape ≡ true → (t : ℕ) (s : TableShape) → slice_get shape.tables t ≡ Some s
    → is_file_name s.name.items ≡ true
table_named shape e t s here = next_named (take t shape.tables) s (table_next shape e t s here)

-- ---- declared indexes

indexes_next : (tables : List TableShape) (earlier xs : List IndexShape) → indexes_go_on tables earlier xs ≡ true
    → (n : ℕ) (x : IndexShape) → slice_get xs n ≡ Some x → is_next_index tables (earlier ++ take n xs) x ≡ true
indexes_next tables earlier [] h n x e = absurd (cc)
indexes_next tables earlier (y ∷ xs) h zero x e =
    subst (λ l. is_next_index tables l x ≡ true) (sym (append-nil earlier))
    (subst (λ z. is_next_index tables earlier z ≡ true) (some_same y x e)
    (and_parts (is_next_index tables earlier y) (indexes_go_on tables (earlier ++ y ∷ []) xs) h).0)
indexes_next tables earlier (y ∷ xs) h (suc n) x e =
    subst (λ l. is_next_index tables l x ≡ true) (append_assoc earlier (y ∷ []) (take n xs))
    (indexes_next tables (earlier ++ y ∷ []) xs
    (and_parts (is_next_index tables earlier y) (indexes_go_on tables (earlier ++ y ∷ []) xs) h).1 n x e)

index_next : (shape : Shape) → is_shape shape ≡ true → (n : ℕ) (x : IndexShape) → slice_get shape.indexes n ≡ Some x
    → is_next_index shape.tables (take n shape.indexes) x ≡ true
unfolding is_shape
index_next shape e = indexes_next shape.tables [] shape.indexes
    (and_parts _ (indexes_go_on shape.tables [] shape.indexes) e).1

next_index_named : (tables : List TableShape) (earlier : List IndexShape) (x : IndexShape)
    → is_next_index tables earlier x ≡ true → is_file_name x.name.items ≡ true
unfolding is_next_index is_index
next_index_named tables earlier x e =
    (and_parts (is_file_name x.name.items) (has_declared_key tables x) (and_parts (is_index tables x) _ e).0).0

pub index_named : (shape : Shape) → is_shape shape ≡ true → (n : ℕ) (x : IndexShape)
    → slice_get shape.indexes n ≡ Some x → is_file_name x.name.items ≡ true
index_named shape e n x here = next_index_named shape.tables (take n shape.indexes) x (index_next shape e n x here)

-- ---- no two files are one

bytes_same : (a : List ℕ) → bytes_eq a a ≡ true
bytes_same [] = refl
bytes_same (c ∷ a) = both_true (eq-eqb c c refl) (bytes_same a)

same_text : (a : List ℕ) → str_eq_ignore_ascii_case a a ≡ true
same_text a = bytes_same (map to_ascii_lowercase a)

neither : (a b : Bool) → a || b ≡ false → (a ≡ false) × (b ≡ false)
neither true b e = absurd (false≢true (sym e))
neither false b e = (refl, e)

not_any : {A : Type 0} (p : A → Bool) (Q : A → Type 0) (xs : List A) → ((x : A) → p x ≡ false → Q x)
    → list_any p xs ≡ false → AllByRecursion Q xs
not_any p Q [] told e = tt
not_any p Q (x ∷ xs) told e = let n = neither (p x) (list_any p xs) e in (told x n.0, not_any p Q xs told n.1)

-- no earlier table has the name of a table
other_tables : (shape : Shape) → is_shape shape ≡ true → (t : ℕ) (s : TableShape) → slice_get shape.tables t ≡ Some s
    → AllByRecursion (λ r. table_file r ≢ table_file s) (take t shape.tables)
unfolding is_next_table
other_tables shape e t s here =
    not_any (has_table_name s.name.items) (λ r. table_file r ≢ table_file s) (take t shape.tables)
    (λ r other same. false≢true (sym other ∙ subst (λ name. str_eq_ignore_ascii_case r.name.items name ≡ true)
    (append_cancel_right r.name.items s.name.items (codes ".DBF") same) (same_text r.name.items)))
    (not-true _ (and_parts (is_table s) _ (table_next shape e t s here)).1)

other_indexes : (shape : Shape) → is_shape shape ≡ true → (n : ℕ) (x : IndexShape) → slice_get shape.indexes n ≡ Some x
    → AllByRecursion (λ y. index_file y ≢ index_file x) (take n shape.indexes)
unfolding is_next_index
other_indexes shape e n x here =
    not_any (has_index_name x.name.items) (λ y. index_file y ≢ index_file x) (take n shape.indexes)
    (λ y other same. false≢true (sym other ∙ subst (λ name. str_eq_ignore_ascii_case y.name.items name ≡ true)
    (append_cancel_right y.name.items x.name.items (codes ".NDX") same) (same_text y.name.items)))
    (not-true _ (and_parts (is_index shape.tables x) _ (index_next shape e n x here)).1)

other_numbers : (a b : ℕ) → a ≡ 70 → b ≡ 88 → a ≡ b → ⊥
other_numbers a b e f g = omega arith

-- a table's file is no index's
other_kinds : (s : TableShape) (x : IndexShape) → table_file s ≢ index_file x
other_kinds s x e =
    let turned : reverse (codes ".DBF") ++ reverse s.name.items ≡ reverse (codes ".NDX") ++ reverse x.name.items =
    sym (reverse-append s.name.items (codes ".DBF")) ∙ ap reverse e ∙ reverse-append x.name.items (codes ".NDX") in
    other_numbers 70 88 refl refl (ap (λ (text : List ℕ). get_or text 0 0) turned)

-- a fact of the first so many
at_taken : {A : Type 0} (P : A → Type 0) (xs : List A) (j k : ℕ) (x : A) → j < k → slice_get xs j ≡ Some x
    → AllByRecursion P (take k xs) → P x
at_taken P xs j zero x lt e h = absurd (omega (arith, lt))
at_taken P [] j (suc k) x lt e h = absurd (cc)
at_taken P (y ∷ xs) zero (suc k) x lt e h = subst P (some_same y x e) h.0
at_taken P (y ∷ xs) (suc j) (suc k) x lt e h = at_taken P xs j k x (omega (arith, lt)) e h.1

-- declared file k is that of a table, or of an index behind so many tables
record IsTableAt (tables : List TableShape) (k : ℕ) (file : List ℕ) : Type 0 where
  pub s : TableShape
  pub at : slice_get tables k ≡ Some s
  pub named : table_file s ≡ file

record IsIndexAt (count : ℕ) (indexes : List IndexShape) (k : ℕ) (file : List ℕ) : Type 0 where
  pub n : ℕ
  pub x : IndexShape
  pub place : k ≡ count + n
  pub at : slice_get indexes n ≡ Some x
  pub named : index_file x ≡ file

index_at : (xs : List IndexShape) (k : ℕ) (file : List ℕ) → slice_get (map index_file xs) k ≡ Some file
    → IsIndexAt 0 xs k file
index_at [] k file e = absurd (cc)
index_at (x ∷ xs) zero file e =
    record { n = 0; x = x; place = refl; at = refl; named = some_same (index_file x) file e }
index_at (x ∷ xs) (suc k) file e = let i = index_at xs k file e in
    record { n = suc i.n; x = i.x; place = omega (arith, i.place); at = i.at; named = i.named }

file_at : (ss : List TableShape) (xs : List IndexShape) (k : ℕ) (file : List ℕ)
    → slice_get (map table_file ss ++ map index_file xs) k ≡ Some file
    → IsTableAt ss k file ⊎ IsIndexAt (length ss) xs k file
file_at [] xs k file e = inr (index_at xs k file e)
file_at (s ∷ ss) xs zero file e = inl (record { s = s; at = refl; named = some_same (table_file s) file e })
file_at (s ∷ ss) xs (suc k) file e = elim (file_at ss xs k file e) [
  | inl t ↦ inl (record { s = t.s; at = t.at; named = t.named })
  | inr i ↦ inr (record { n = i.n; x = i.x; place = omega (arith, i.place); at = i.at; named = i.named })
]

pub files_differ : (shape : Shape) → is_shape shape ≡ true → (j k : ℕ) (file : List ℕ) → j < k
    → slice_get (files_of shape) j ≡ Some file → slice_get (files_of shape) k ≡ Some file → ⊥
files_differ shape legal j k file lt e f = elim (file_at shape.tables shape.indexes j file e) [
  | inl one ↦ (elim (file_at shape.tables shape.indexes k file f) [
    | inl two ↦ at_taken (λ r. table_file r ≢ table_file two.s) shape.tables j k one.s lt one.at
        (other_tables shape legal k two.s two.at) (one.named ∙ sym two.named)
    | inr two ↦ other_kinds one.s two.x (one.named ∙ sym two.named)
  ])
  | inr one ↦ (elim (file_at shape.tables shape.indexes k file f) [
    | inl two ↦ (let low : k < length shape.tables = slice_get_within shape.tables k two.s two.at in let place : j
        ≡ length shape.tables + one.n = one.place in absurd (omega arith))
    | inr two ↦ at_taken (λ y. index_file y ≢ index_file two.x) shape.indexes one.n two.n one.x
        (let p = one.place in let q = two.place in omega (arith, p, q)) one.at
        (other_indexes shape legal two.n two.x two.at) (one.named ∙ sym two.named)
  ])
]

-- ---- how many there are

pub few_declared : (shape : Shape) → is_shape shape ≡ true → (length shape.tables ≤ 32) × (length shape.indexes ≤ 64)
unfolding is_shape
few_declared shape e =
    let counts =
    (and_parts _ (tables_go_on [] shape.tables) (and_parts _ (indexes_go_on shape.tables [] shape.indexes) e).0).0 in
    let c = and_parts (nat_le (length shape.tables) 32) (nat_le (length shape.indexes) 64) counts in
    (leb-true (length shape.tables) 32 c.0, leb-true (length shape.indexes) 64 c.1)
