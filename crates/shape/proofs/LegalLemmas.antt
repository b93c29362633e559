-- What follows for the tables and indexes of a shape that may be declared.
use Rattle.std.proofs.Common.{◌≡◌, ◌<◌, ℕ, zero, suc, Bool, true, false, not, ◌&&◌, ◌==◌, nat_le, List, [], ◌∷◌, ◌++◌}
use Rattle.std.proofs.Common.{Option, Some, length, get_or, cond, refl, sym, ap, ◌∙◌, subst, arith}
use Rattle.std.specs.Prelude.{slice_get, codes}
use Rattle.std.specs.List.{list_all}
use Rattle.std.proofs.lemmas.Bool.{leb-true, eqb-true, false≢true, and_parts, and_from}
use Rattle.dbf_file.specs.declared.field.Field.{Field}
use Rattle.shape.specs.declared.indexes.IndexShape.{IndexShape}
use Rattle.shape.specs.declared.tables.TableShape.{TableShape}
use Rattle.shape.specs.declared.parts.KeyPart.{KeyPart}
use Rattle.shape.specs.declared.whole.Shape.{Shape}
use Rattle.shape.specs.Indexes.{fits_table, has_declared_key, is_index, is_next_index, indexes_go_on}
use Rattle.shape.specs.Keys.{is_key, name_of, part_spelled, more_spelled, key_text}
use Rattle.shape.specs.Names.{is_capital_byte, is_capital_name, begins_with_capital}
use Rattle.shape.specs.Tables.{is_table, is_next_table, tables_go_on}
use Rattle.shape.specs.Whole.{is_shape, IsLegal}

-- ---- texts without a zero

no_zero : List ℕ → Bool
no_zero [] = true
no_zero (b ∷ text) = not (b == 0) && no_zero text

no_zero-append : (a b : List ℕ) → no_zero a ≡ true → no_zero b ≡ true → no_zero (a ++ b) ≡ true
unfolding no_zero
no_zero-append [] b e f = f
no_zero-append (x ∷ a) b e f =
    let p = and_parts (not (x == 0)) (no_zero a) e in and_from (not (x == 0)) (no_zero (a ++ b)) p.0
    (no_zero-append a b p.1 f)

none_at : (text : List ℕ) (k : ℕ) → no_zero text ≡ true → k < length text → get_or text k 0 ≡ 0 → ⊥
unfolding no_zero
none_at [] k e lt z = omega arith
none_at (b ∷ text) zero e lt z = (let p = and_parts (not (b == 0)) (no_zero text) e in let f : not (b == 0)
    ≡ false = ap (λ n. not (n == 0)) {y = 0} z in false≢true (sym f ∙ p.0))
none_at (b ∷ text) (suc k) e lt z = none_at text k (and_parts (not (b == 0)) (no_zero text) e).1 (omega arith) z

capital : (b : ℕ) → is_capital_byte b ≡ true → not (b == 0) ≡ true
capital b e = elim (b == 0) as (λ t. b == 0 ≡ t → not t ≡ true) [
  | true ↦ λ f. absurd (false≢true (ap is_capital_byte (sym (eqb-true b 0 f)) ∙ e))
  | false ↦ λ f. refl
] refl

capitals : (name : List ℕ) → list_all is_capital_byte name ≡ true → no_zero name ≡ true
unfolding no_zero
capitals [] e = refl
capitals (b ∷ name) e =
    let p = and_parts (is_capital_byte b) (list_all is_capital_byte name) e in and_from (not (b == 0))
    (no_zero name) (capital b p.0) (capitals name p.1)

named : (fields : List Field) (k : ℕ) → list_all (λ f. is_capital_name f.name.items) fields ≡ true
    → no_zero (name_of (slice_get fields k)) ≡ true
unfolding no_zero
named [] k e = refl
named (f ∷ fields) zero e = capitals f.name.items
    (and_parts (begins_with_capital f.name.items) (list_all is_capital_byte f.name.items)
    (and_parts (is_capital_name f.name.items) (list_all (λ g. is_capital_name g.name.items) fields) e).0).1
named (f ∷ fields) (suc k) e =
    named fields k (and_parts (is_capital_name f.name.items) (list_all (λ g. is_capital_name g.name.items) fields) e).1

upper_text : no_zero (codes "UPPER(") ≡ true
unfolding no_zero
upper_text = refl

close_text : no_zero (codes ")") ≡ true
unfolding no_zero
close_text = refl

module _ (fields : List Field) (good : list_all (λ f. is_capital_name f.name.items) fields ≡ true) where
  spelled : (part : KeyPart) → no_zero (part_spelled fields part) ≡ true
  spelled part = elim part.upper as
      (λ u. no_zero (cond u (codes "UPPER(" ++ (name_of (slice_get fields part.field) ++ codes ")"))
      (name_of (slice_get fields part.field))) ≡ true) [
        | true ↦ no_zero-append (codes "UPPER(") (name_of (slice_get fields part.field) ++ codes ")") upper_text
            (no_zero-append (name_of (slice_get fields part.field)) (codes ")") (named fields part.field good)
            close_text)
        | false ↦ named fields part.field good
      ]

  more : (parts : List KeyPart) → no_zero (more_spelled fields parts) ≡ true
  unfolding no_zero
  more [] = refl
  more (part ∷ parts) = no_zero-append (part_spelled fields part) (more_spelled fields parts) (spelled part)
      (more parts)

  whole : (parts : List KeyPart) → no_zero (key_text fields parts) ≡ true
  unfolding no_zero
  whole [] = refl
  whole (part ∷ parts) = no_zero-append (part_spelled fields part) (more_spelled fields parts) (spelled part)
      (more parts)

-- ---- what the tests tell

table_there : (earlier ts : List TableShape) (k : ℕ) (t : TableShape) → tables_go_on earlier ts ≡ true
    → slice_get ts k ≡ Some t → is_table t ≡ true
unfolding is_next_table
table_there earlier [] k t e f = absurd (cc)
table_there earlier (u ∷ ts) zero t e f =
    let p = and_parts (is_next_table earlier u) (tables_go_on (earlier ++ u ∷ []) ts) e in
    let here : u ≡ t = cc in
    subst (λ (w : TableShape). is_table w ≡ true) here (and_parts (is_table u) _ p.0).0
table_there earlier (u ∷ ts) (suc k) t e f =
    table_there (earlier ++ u ∷ []) ts k t
    (and_parts (is_next_table earlier u) (tables_go_on (earlier ++ u ∷ []) ts) e).1 f

index_there : (tables : List TableShape) (earlier xs : List IndexShape) (n : ℕ) (x : IndexShape)
    → indexes_go_on tables earlier xs ≡ true → slice_get xs n ≡ Some x → is_index tables x ≡ true
unfolding is_next_index
index_there tables earlier [] n x e f = absurd (cc)
index_there tables earlier (y ∷ xs) zero x e f =
    let p = and_parts (is_next_index tables earlier y) (indexes_go_on tables (earlier ++ y ∷ []) xs) e in
    let here : y ≡ x = cc in
    subst (λ (w : IndexShape). is_index tables w ≡ true) here (and_parts (is_index tables y) _ p.0).0
index_there tables earlier (y ∷ xs) (suc n) x e f = index_there tables (earlier ++ y ∷ []) xs n x
    (and_parts (is_next_index tables earlier y) (indexes_go_on tables (earlier ++ y ∷ []) xs) e).1 f

capital_fields : (t : TableShape) → is_table t ≡ true → list_all (λ f. is_capital_name f.name.items) t.fields ≡ true
unfolding is_table
capital_fields t e = (and_parts _ (list_all (λ f. is_capital_name f.name.items) t.fields) e).1

declared_key : (tables : List TableShape) (x : IndexShape) → is_index tables x ≡ true
    → fits_table (slice_get tables x.table) x.key ≡ true
unfolding is_index
declared_key tables x e = (and_parts _ (has_declared_key tables x) e).1

fits_within : (tables : List TableShape) (n : ℕ) (parts : List KeyPart) → fits_table (slice_get tables n) parts ≡ true
    → n < length tables
fits_within [] n parts e = absurd (cc)
fits_within (t ∷ tables) zero parts e = omega arith
fits_within (t ∷ tables) (suc n) parts e = omega (arith, fits_within tables n parts e)

pub legal : (s : Shape) → is_shape s ≡ true → IsLegal s
unfolding is_shape
legal s e =
    let a = and_parts _ (indexes_go_on s.tables [] s.indexes) e in
    let b = and_parts _ (tables_go_on [] s.tables) a.0 in
    let c = and_parts (nat_le (length s.tables) 32) (nat_le (length s.indexes) 64) b.0 in
    record {
      few_tables = leb-true (length s.tables) 32 c.0;
      few_indexes = leb-true (length s.indexes) 64 c.1;
      indexes = λ n x there.
          let fits = declared_key s.tables x (index_there s.tables [] s.indexes n x a.1 there) in
          record {
            within = fits_within s.tables x.table x.key fits;
            key = λ t is.
                let at : fits_table (Some t) x.key ≡ true =
                subst (λ (o : Option TableShape). fits_table o x.key ≡ true) is fits in
                let p = and_parts (is_key t.fields x.key) (nat_le (length (key_text t.fields x.key)) 100) at in
                record {
                  key = p.0;
                  short = leb-true (length (key_text t.fields x.key)) 100 p.1;
                  no_zero = λ there. none_at (key_text t.fields x.key) there.0
                      (whole t.fields (capital_fields t (table_there [] s.tables x.table t b.1 is)) x.key) there.1
                      there.2;
                };
          };
    }
