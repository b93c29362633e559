-- A shape stays legal where what may be declared next is added to it.
use Rattle.std.proofs.Common.{◌≡◌, ◌<◌, ℕ, zero, suc, Bool, true, not, ◌&&◌, nat_le, List, [], ◌∷◌, ◌++◌, length}
use Rattle.std.proofs.Common.{length-append, refl, sym, subst, append_assoc, append-nil, arith}
use Rattle.std.specs.Prelude.{slice_get}
use Rattle.std.specs.List.{list_any}
use Rattle.std.proofs.lemmas.Bool.{le-leb, and_parts, and_from}
use Rattle.shape.specs.declared.indexes.IndexShape.{IndexShape}
use Rattle.shape.specs.declared.parts.KeyPart.{KeyPart}
use Rattle.shape.specs.declared.tables.TableShape.{TableShape}
use Rattle.shape.specs.declared.whole.Shape.{Shape}
use Rattle.shape.specs.Indexes.{fits_table, has_declared_key, has_index_name, is_index, is_next_index, indexes_go_on}
use Rattle.shape.specs.Names.{is_file_name}
use Rattle.shape.specs.Tables.{is_next_table, tables_go_on}
use Rattle.shape.specs.Whole.{is_shape}
use Rattle.shape_files.specs.Shapes.{no_shape, with_index, with_declared_table}

-- ---- tables

tables_more : (earlier ts : List TableShape) (t : TableShape) → tables_go_on earlier ts ≡ true
    → is_next_table (earlier ++ ts) t ≡ true → tables_go_on earlier (ts ++ t ∷ []) ≡ true
tables_more earlier [] t g n =
    and_from (is_next_table earlier t) true (subst (λ l. is_next_table l t ≡ true) (append-nil earlier) n) refl
tables_more earlier (x ∷ ts) t g n =
    let p = and_parts (is_next_table earlier x) (tables_go_on (earlier ++ x ∷ []) ts) g in
    and_from (is_next_table earlier x) (tables_go_on (earlier ++ x ∷ []) (ts ++ t ∷ [])) p.0
    (tables_more (earlier ++ x ∷ []) ts t p.1
    (subst (λ l. is_next_table l t ≡ true) (sym (append_assoc earlier (x ∷ []) ts)) n))

-- ---- indexes

indexes_more : (tables : List TableShape) (earlier xs : List IndexShape) (x : IndexShape)
    → indexes_go_on tables earlier xs ≡ true → is_next_index tables (earlier ++ xs) x ≡ true
    → indexes_go_on tables earlier (xs ++ x ∷ []) ≡ true
indexes_more tables earlier [] x g n = and_from (is_next_index tables earlier x) true
    (subst (λ l. is_next_index tables l x ≡ true) (append-nil earlier) n) refl
indexes_more tables earlier (y ∷ xs) x g n =
    let p = and_parts (is_next_index tables earlier y) (indexes_go_on tables (earlier ++ y ∷ []) xs) g in
    and_from (is_next_index tables earlier y) (indexes_go_on tables (earlier ++ y ∷ []) (xs ++ x ∷ [])) p.0
    (indexes_more tables (earlier ++ y ∷ []) xs x p.1
    (subst (λ l. is_next_index tables l x ≡ true) (sym (append_assoc earlier (y ∷ []) xs)) n))

-- a table more leaves the others their numbers
fits_stays : (tables : List TableShape) (t : TableShape) (n : ℕ) (key : List KeyPart)
    → fits_table (slice_get tables n) key ≡ true → fits_table (slice_get (tables ++ t ∷ []) n) key ≡ true
fits_stays [] t n key e = absurd (cc)
fits_stays (x ∷ tables) t zero key e = e
fits_stays (x ∷ tables) t (suc n) key e = fits_stays tables t n key e

next_stays : (tables : List TableShape) (t : TableShape) (earlier : List IndexShape) (x : IndexShape)
    → is_next_index tables earlier x ≡ true → is_next_index (tables ++ t ∷ []) earlier x ≡ true
unfolding is_index is_next_index
next_stays tables t earlier x e =
    let p = and_parts (is_index tables x) (not (list_any (has_index_name x.name.items) earlier)) e in
    let q = and_parts (is_file_name x.name.items) (has_declared_key tables x) p.0 in
    and_from (is_index (tables ++ t ∷ []) x) (not (list_any (has_index_name x.name.items) earlier))
    (and_from (is_file_name x.name.items) (has_declared_key (tables ++ t ∷ []) x) q.0
    (fits_stays tables t x.table x.key q.1))
    p.1

indexes_stay : (tables : List TableShape) (t : TableShape) (earlier xs : List IndexShape)
    → indexes_go_on tables earlier xs ≡ true → indexes_go_on (tables ++ t ∷ []) earlier xs ≡ true
indexes_stay tables t earlier [] e = refl
indexes_stay tables t earlier (x ∷ xs) e =
    let p = and_parts (is_next_index tables earlier x) (indexes_go_on tables (earlier ++ x ∷ []) xs) e in
    and_from (is_next_index (tables ++ t ∷ []) earlier x) (indexes_go_on (tables ++ t ∷ []) (earlier ++ x ∷ []) xs)
    (next_stays tables t earlier x p.0)
    (indexes_stay tables t (earlier ++ x ∷ []) xs p.1)

-- ---- whole shapes

record IsShape (s : Shape) : Type 0 where
  few_tables : nat_le (length s.tables) 32 ≡ true
  few_indexes : nat_le (length s.indexes) 64 ≡ true
  tables : tables_go_on [] s.tables ≡ true
  indexes : indexes_go_on s.tables [] s.indexes ≡ true

parts_of : (s : Shape) → is_shape s ≡ true → IsShape s
unfolding is_shape
parts_of s e =
    let a : Bool = nat_le (length s.tables) 32 in
    let b : Bool = nat_le (length s.indexes) 64 in
    let c : Bool = tables_go_on [] s.tables in
    let d : Bool = indexes_go_on s.tables [] s.indexes in
    let p = and_parts (a && b && c) d e in
    let q = and_parts (a && b) c p.0 in
    let r = and_parts a b q.0 in
    record { few_tables = r.0; few_indexes = r.1; tables = q.1; indexes = p.1 }

whole_of : (s : Shape) → IsShape s → is_shape s ≡ true
unfolding is_shape
whole_of s h =
    let a : Bool = nat_le (length s.tables) 32 in
    let b : Bool = nat_le (length s.indexes) 64 in
    let c : Bool = tables_go_on [] s.tables in
    let d : Bool = indexes_go_on s.tables [] s.indexes in
    and_from (a && b && c) d (and_from (a && b) c (and_from a b h.few_tables h.few_indexes) h.tables) h.indexes

one_more : {X : Type 0} → (xs : List X) (x : X) (most : ℕ) → length xs < most
    → nat_le (length (xs ++ x ∷ [])) most ≡ true
one_more xs x most h = le-leb (length (xs ++ x ∷ [])) most (omega (arith, length-append xs (x ∷ []), h))

pub table_added : (s : Shape) (t : TableShape) → length s.tables < 32 → is_next_table s.tables t ≡ true
    → is_shape s ≡ true → is_shape (with_declared_table s t) ≡ true
table_added s t room n e =
    let h = parts_of s e in
    whole_of (with_declared_table s t) (record {
      few_tables = one_more s.tables t 32 room;
      few_indexes = h.few_indexes;
      tables = tables_more [] s.tables t h.tables n;
      indexes = indexes_stay s.tables t [] s.indexes h.indexes;
    })

pub index_added : (s : Shape) (x : IndexShape) → length s.indexes < 64 → is_next_index s.tables s.indexes x ≡ true
    → is_shape s ≡ true → is_shape (with_index s x) ≡ true
index_added s x room n e =
    let h = parts_of s e in
    whole_of (with_index s x) (record {
      few_tables = h.few_tables;
      few_indexes = one_more s.indexes x 64 room;
      tables = h.tables;
      indexes = indexes_more s.tables [] s.indexes x h.indexes n;
    })

pub nothing_legal : is_shape no_shape ≡ true
unfolding is_shape
nothing_legal = refl
