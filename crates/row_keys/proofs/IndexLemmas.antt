-- How lists of keys go along with a change of their table.
use Rattle.std.proofs.Common.{◌≡◌, ◌≢◌, ℕ, zero, suc, ◌+◌, ◌<◌, false, ◌==◌, List, [], ◌∷◌, ◌++◌}
use Rattle.std.proofs.Common.{length, set, refl, sym, ap, ◌∙◌, subst, arith}
use Rattle.std.proofs.lemmas.Bool.{eqb-false, or_parts}
use Rattle.std.proofs.lemmas.List.{set-set, set-get_or, get_or-set_other, length-set}
use Rattle.std.specs.List.{Contains}
use Rattle.dbf_file.specs.Rows.{Row, row_at, no_row, with_text}
use Rattle.dbf_file.specs.Tables.{StructureState, row_widths}
use Rattle.key_lists.specs.KeyForm.{KeyForm, IsKeyText}
use Rattle.key_lists.specs.Order.{inserted, without}
use Rattle.key_lists.specs.Pairs.{Pair, is_before}
use Rattle.key_lists.specs.SortedList.{SortedList}
use Rattle.shape.specs.declared.parts.KeyPart.{KeyPart}
use Rattle.shape.specs.Keys.{IsKey, cased, part_text, key_of, key_length}
use Rattle.row_keys.specs.Lists.{index_list, row_pair, IsIndexList, IsIndexOf, IsExact, IsAsBefore, HasAdded}
use Rattle.row_keys.specs.Lists.{names_field}
use Rattle.row_keys.proofs.ListLemmas.{index_list-same}

pub sound_same : (s : StructureState) (parts : List KeyPart) (a b : SortedList) → IsIndexOf s parts a
    → b.form ≡ a.form → IsIndexOf s parts b
sound_same s parts a b sound form = record {
  key = sound.key;
  length = ap (λ f. f.key_length) form ∙ sound.length;
  text = subst (λ (f : KeyForm). IsKeyText f.key_text) (sym form) sound.text;
}

pub exact_same : (s : StructureState) (rows : List Row) (parts : List KeyPart) (a b : SortedList)
    → IsExact s rows parts a → IsAsBefore a b → IsExact s rows parts b
exact_same s rows parts a b exact same =
    record { sound = sound_same s parts a b exact.sound same.form; pairs = same.pairs ∙ exact.pairs }

-- ---- rows that change

row_at-end : (rows : List Row) (row : Row) → row_at (rows ++ row ∷ []) (length rows) ≡ row
row_at-end [] row = refl
row_at-end (r ∷ rows) row = row_at-end rows row

row_at-set : (rows : List Row) (r : ℕ) (row : Row) → r < length rows → row_at (set rows r row) r ≡ row
row_at-set [] r row lt = absurd (omega arith)
row_at-set (x ∷ rows) zero row lt = refl
row_at-set (x ∷ rows) (suc r) row lt = row_at-set rows r row (omega arith)

pub pair-end : (parts : List KeyPart) (rows : List Row) (row : Row)
    → row_pair parts (rows ++ row ∷ []) (length rows) ≡ (key_of parts row.texts, length rows + 1)
unfolding row_pair
pair-end parts rows row = ap (λ x. (key_of parts x.texts, length rows + 1)) (row_at-end rows row)

pub pair-set : (parts : List KeyPart) (rows : List Row) (r : ℕ) (row : Row) → r < length rows
    → row_pair parts (set rows r row) r ≡ (key_of parts row.texts, r + 1)
unfolding row_pair
pair-set parts rows r row lt = ap (λ x. (key_of parts x.texts, r + 1)) (row_at-set rows r row lt)

number_of : (parts : List KeyPart) (rows : List Row) (r : ℕ) (key : List ℕ) (n : ℕ) → (key, n) ≡ row_pair parts rows r
    → n ≡ r + 1
unfolding row_pair
number_of parts rows r key n e = ap (λ (p : Pair). p.1) e

abbrev pub ListLaw : Type 0
ListLaw = (parts : List KeyPart) (rows : List Row) → IsIndexList parts rows

module _ (law : ListLaw) (s : StructureState) (rows : List Row) (row : Row) where
  abbrev longer : List Row
  longer = rows ++ row ∷ []

  -- the new row's pair is in no list
  pub exact-absent : (parts : List KeyPart) (a : SortedList) → IsExact s rows parts a
      → Contains a.pairs (row_pair parts longer (length rows)) → ⊥
  exact-absent parts a exact there =
      let listed : Contains (index_list parts rows) (key_of parts row.texts, length rows + 1) =
      subst (Contains (index_list parts rows)) (pair-end parts rows row)
      (subst (λ ps. Contains ps (row_pair parts longer (length rows))) exact.pairs there) in
      let w = (law parts rows).only (key_of parts row.texts) (length rows + 1) listed in
      let e : length rows + 1 ≡ w.0 + 1 = number_of parts rows w.0 (key_of parts row.texts) (length rows + 1) w.2 in
      omega (arith, w.1, e)

  pub exact-added : (parts : List KeyPart) (a b : SortedList) → IsExact s rows parts a
      → HasAdded longer (length rows) parts a b → IsExact s longer parts b
  exact-added parts a b exact added = record {
    sound = sound_same s parts a b exact.sound added.form;
    pairs =
        added.pairs ∙ ap (λ p. inserted is_before p a.pairs) (pair-end parts rows row)
        ∙ ap (inserted is_before (key_of parts row.texts, length rows + 1)) exact.pairs
        ∙ sym ((law parts rows).added row);
  }

-- ---- a row of which field f had this text before

-- a key that isn't made of the field is as it was
pub unnamed : (parts : List KeyPart) (texts : List (List ℕ)) (f : ℕ) (text : List ℕ) → names_field parts f ≡ false
    → key_of parts (set texts f text) ≡ key_of parts texts
unnamed [] texts f text e = refl
unnamed (part ∷ parts) texts f text e =
    let both = or_parts (part.field == f) (names_field parts f) e in
    let other : part.field ≢ f = eqb-false part.field f both.0 in
    ap (λ ts. cased part.upper ts ++ key_of parts (set texts f text))
    (get_or-set_other texts f part.field text [] other)
    ∙ ap (λ key. part_text part texts ++ key) (unnamed parts texts f text both.1)

module _ (s : StructureState) (rows : List Row) (r f : ℕ) (text : List ℕ) where
  abbrev before : Row
  before = record { marked = (row_at rows r).marked; texts = set (row_at rows r).texts f text }

  -- a key that stays equal leaves the list as it is
  pub exact-left : (parts : List KeyPart) (a : SortedList) → key_of parts (set (row_at rows r).texts f text)
      ≡ key_of parts (row_at rows r).texts → IsExact s (with_text rows r f text) parts a → IsExact s rows parts a
  exact-left parts a same exact =
      record { sound = exact.sound; pairs = exact.pairs ∙ index_list-same parts rows r before same }

  module _ (law : ListLaw) (lt : r < length rows) (parts : List KeyPart) (a : SortedList) (old : List ℕ)
      (mid : List Pair) where
    there : IsExact s (with_text rows r f text) parts a → old ≡ key_of parts (set (row_at rows r).texts f text)
        → mid ≡ without is_before (old, r + 1) a.pairs
        → mid ≡ without is_before (row_pair parts (set rows r before) r) (index_list parts (set rows r before))
    there exact e out =
        out ∙ ap (λ key. without is_before (key, r + 1) a.pairs) e
        ∙ ap (λ p. without is_before p a.pairs) (sym (pair-set parts rows r before lt))
        ∙ ap (without is_before (row_pair parts (set rows r before) r)) exact.pairs

    -- while it is out, no pair has its number
    pub followed-absent : IsExact s (with_text rows r f text) parts a → old
        ≡ key_of parts (set (row_at rows r).texts f text) → mid ≡ without is_before (old, r + 1) a.pairs
        → (new : List ℕ) → Contains mid (new, r + 1) → ⊥
    followed-absent exact e out new is_in =
        (law parts (set rows r before)).out r new (omega (arith, lt, length-set rows r before))
        (subst (λ ps. Contains ps (new, r + 1)) (there exact e out) is_in)

    -- a key that changed goes out and in again
    pub followed : (b : SortedList) (new : List ℕ) → IsExact s (with_text rows r f text) parts a → b.form ≡ a.form
        → old ≡ key_of parts (set (row_at rows r).texts f text) → mid ≡ without is_before (old, r + 1) a.pairs
        → new ≡ key_of parts (row_at rows r).texts → b.pairs ≡ inserted is_before (new, r + 1) mid
        → IsExact s rows parts b
    followed b new exact form e out is_new put = record {
      sound = sound_same s parts a b exact.sound form;
      pairs =
          put ∙ ap (λ key. inserted is_before (key, r + 1) mid) is_new
          ∙ ap (inserted is_before (key_of parts (row_at rows r).texts, r + 1)) (there exact e out)
          ∙ sym ((law parts (set rows r before)).changed r (row_at rows r)
          (omega (arith, lt, length-set rows r before)))
          ∙ ap (index_list parts) (set-set rows r before (row_at rows r) ∙ set-get_or rows r no_row);
    }
