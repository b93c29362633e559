-- A store made of tables, and of lists for their indexes.
use Rattle.std.proofs.Common.{◌≡◌, ◌≢◌, ℕ, zero, suc, ◌+◌, ◌<◌, ◌↔◌, ◌⊎◌, inl, inr, true, false, ◌==◌, Some, List, []}
use Rattle.std.proofs.Common.{◌∷◌, ◌++◌, length, get_or, set, map, take, add-one, refl, sym, ap, ◌∙◌, subst, arith}
use Rattle.std.specs.Prelude.{◌&&◌, nat_le, slice_get, MatchBool}
use Rattle.std.proofs.lemmas.Bool.{eqb-true, eq-eqb, false≢true}
use Rattle.std.proofs.lemmas.List.{get_or-set_same, get_or-set_other, get_or-map, length-set, length-map}
use Rattle.std.proofs.lemmas.Option.{slice_get-get_or, get_or_from_slice_get}
use Rattle.dbf_file.specs.declared.field.Field.{Field}
use Rattle.dbf_file.specs.Rows.{Row}
use Rattle.dbf_file.specs.Tables.{StructureState, TableState}
use Rattle.key_lists.specs.Pairs.{Pair}
use Rattle.shape.specs.declared.indexes.IndexShape.{IndexShape}
use Rattle.shape.specs.declared.tables.TableShape.{TableShape}
use Rattle.shape.specs.declared.whole.Shape.{Shape}
use Rattle.shape.specs.declared.parts.KeyPart.{KeyPart}
use Rattle.shape.specs.Keys.{is_text_field, holds_text, width_of, names_text, key_bytes, is_key}
use Rattle.dbf_file.specs.Fields.{widths_of}
use Rattle.std.specs.List.{list_all}
use Rattle.row_keys.specs.Lists.{index_list}
use Rattle.open_table.specs.Marks.{IndexMark, with_stale}
use Rattle.open_table.specs.Tables.{IndexedState}
use Rattle.open_table.specs.Open.{OpenState, in_table}
use Rattle.work_area.specs.Making.{IsAlike, HaveAlikeFields, AreOfShape, AreReady, mark_for, Declares, IsMarkOf}
use Rattle.work_area.specs.Making.{FirstIs, AreMarks, IsNewTable, AreNewTables, unused}

-- ---- marks of the indexes so far

module _ (lists : ℕ → List Pair → Type 0) (fields : List Field) (rows : List Row) (t : ℕ) where
  marks_alone : (n : ℕ) (x : IndexShape) (m : IndexMark) (marks : List IndexMark) → (x.table == t) ≡ true
      → IsMarkOf lists fields rows n x m → marks ≡ [] → AreMarks lists fields rows t n (x ∷ []) (marks ++ m ∷ [])
  marks_alone n x m marks here is none = subst
      (λ b. MatchBool b (FirstIs (IsMarkOf lists fields rows n x) (AreMarks lists fields rows t (n + 1) [])
      (marks ++ m ∷ [])) (AreMarks lists fields rows t (n + 1) [] (marks ++ m ∷ []))) (sym here)
      (subst (λ ms. FirstIs (IsMarkOf lists fields rows n x) (AreMarks lists fields rows t (n + 1) []) (ms ++ m ∷ []))
      (sym none) (is, refl))

  first_more : (P : IndexMark → Type 0) (Q R : List IndexMark → Type 0) (m : IndexMark) (marks : List IndexMark)
      → ((ms : List IndexMark) → Q ms → R (ms ++ m ∷ [])) → FirstIs P Q marks → FirstIs P R (marks ++ m ∷ [])
  first_more P Q R m [] more h = absurd h
  first_more P Q R m (k ∷ marks) more h = (h.0, more marks h.1)

  first_same : (P : IndexMark → Type 0) (Q R : List IndexMark → Type 0) (marks : List IndexMark)
      → ((ms : List IndexMark) → Q ms → R ms) → FirstIs P Q marks → FirstIs P R marks
  first_same P Q R [] more h = absurd h
  first_same P Q R (k ∷ marks) more h = (h.0, more marks h.1)

  -- one more index of the table
  marks_push : (n k : ℕ) (xs : List IndexShape) (x : IndexShape) (m : IndexMark) (marks : List IndexMark)
      → k ≡ n + length xs → (x.table == t) ≡ true → IsMarkOf lists fields rows k x m
      → AreMarks lists fields rows t n xs marks → AreMarks lists fields rows t n (xs ++ x ∷ []) (marks ++ m ∷ [])
  marks_push n k [] x m marks e here is h =
      (let same : k ≡ n = omega arith in marks_alone n x m marks here
      (subst (λ j. IsMarkOf lists fields rows j x m) same is) h)
  marks_push n k (y ∷ ys) x m marks e here is h =
      let further : (ms : List IndexMark) → AreMarks lists fields rows t (n + 1) ys ms
      → AreMarks lists fields rows t (n + 1) (ys ++ x ∷ []) (ms ++ m ∷ []) =
      λ ms. marks_push (n + 1) k ys x m ms (omega arith) here is in
      (elim (y.table == t) as
      (λ b. MatchBool b (FirstIs (IsMarkOf lists fields rows n y) (AreMarks lists fields rows t (n + 1) ys) marks)
      (AreMarks lists fields rows t (n + 1) ys marks)
      → MatchBool b (FirstIs (IsMarkOf lists fields rows n y) (AreMarks lists fields rows t (n + 1) (ys ++ x ∷ []))
      (marks ++ m ∷ [])) (AreMarks lists fields rows t (n + 1) (ys ++ x ∷ []) (marks ++ m ∷ []))) [
        | true ↦ λ p. first_more (IsMarkOf lists fields rows n y) (AreMarks lists fields rows t (n + 1) ys)
            (AreMarks lists fields rows t (n + 1) (ys ++ x ∷ [])) m marks further p
        | false ↦ λ p. further marks p
      ]) h

  -- one more index of another table
  marks_skip : (n : ℕ) (xs : List IndexShape) (x : IndexShape) (marks : List IndexMark) → (x.table == t) ≡ false
      → AreMarks lists fields rows t n xs marks → AreMarks lists fields rows t n (xs ++ x ∷ []) marks
  marks_skip n [] x marks other h = subst
      (λ b. MatchBool b (FirstIs (IsMarkOf lists fields rows n x) (AreMarks lists fields rows t (n + 1) []) marks)
      (AreMarks lists fields rows t (n + 1) [] marks)) (sym other) h
  marks_skip n (y ∷ ys) x marks other h =
      let further : (ms : List IndexMark) → AreMarks lists fields rows t (n + 1) ys ms
      → AreMarks lists fields rows t (n + 1) (ys ++ x ∷ []) ms = λ ms. marks_skip (n + 1) ys x ms other in
      (elim (y.table == t) as
      (λ b. MatchBool b (FirstIs (IsMarkOf lists fields rows n y) (AreMarks lists fields rows t (n + 1) ys) marks)
      (AreMarks lists fields rows t (n + 1) ys marks)
      → MatchBool b (FirstIs (IsMarkOf lists fields rows n y) (AreMarks lists fields rows t (n + 1) (ys ++ x ∷ []))
      marks) (AreMarks lists fields rows t (n + 1) (ys ++ x ∷ []) marks)) [
        | true ↦ λ p. first_same (IsMarkOf lists fields rows n y) (AreMarks lists fields rows t (n + 1) ys)
            (AreMarks lists fields rows t (n + 1) (ys ++ x ∷ [])) marks further p
        | false ↦ λ p. further marks p
      ]) h

-- ---- one more index

declared_here : (shape : Shape) (lists : ℕ → List Pair → Type 0) (xs : List IndexShape) (x : IndexShape) (t : ℕ)
    (s : TableShape) (table : TableState) (old new : List OpenState) (o : OpenState)
    (h : Declares shape (lists (length xs)) (length xs) x old new) → slice_get old x.table ≡ Some o
    → slice_get shape.tables x.table ≡ Some s → (x.table == t) ≡ true → IsNewTable lists xs t s table o
    → IsNewTable lists (xs ++ x ∷ []) t s table h.fresh
declared_here shape lists xs x t s table old new o h there of_table here is =
    let more = h.mark o s there of_table in
    let mark : IndexMark = with_stale (mark_for (length xs) s.fields x) more.stale in
    let made : IsMarkOf lists s.fields table.rows (length xs) x mark = record {
      number = refl;
      parts = refl;
      text = refl;
      fresh = subst (λ (rs : List Row). (more.stale ≡ false) ↔ lists (length xs) (index_list x.key rs)) is.rows
          more.told;
    } in
    record {
      structure = ap (λ (s : IndexedState). s.structure) more.added ∙ is.structure;
      rows = ap (λ (s : IndexedState). s.rows) more.added ∙ is.rows;
      unused = h.same o there ∙ ap (λ p. in_table p h.fresh.table) is.unused;
      marks = subst (AreMarks lists s.fields table.rows t 0 (xs ++ x ∷ []))
          (sym (ap (λ (s : IndexedState). s.marks) more.added))
          (marks_push lists s.fields table.rows t 0 (length xs) xs x mark o.table.marks (omega arith) here made
          is.marks);
    }

declared_other : (lists : ℕ → List Pair → Type 0) (xs : List IndexShape) (x : IndexShape) (t : ℕ) (s : TableShape)
    (table : TableState) (o : OpenState) → (x.table == t) ≡ false → IsNewTable lists xs t s table o
    → IsNewTable lists (xs ++ x ∷ []) t s table o
declared_other lists xs x t s table o other is = record {
  structure = is.structure;
  rows = is.rows;
  unused = is.unused;
  marks = marks_skip lists s.fields table.rows t 0 xs x o.table.marks other is.marks;
}

one_more : (shape : Shape) (lists : ℕ → List Pair → Type 0) (xs : List IndexShape) (x : IndexShape)
    (tables : List TableState) (old new : List OpenState) → AreNewTables shape lists xs tables old
    → Declares shape (lists (length xs)) (length xs) x old new → AreNewTables shape lists (xs ++ x ∷ []) tables new
one_more shape lists xs x tables old new made h = record {
  count = ap (λ (os : List OpenState). length os) h.put ∙ length-set old x.table h.fresh ∙ made.count;
  each = λ t d e s lt is.
      let within : t < length old = omega (arith, made.count) in
      (elim (x.table == t) as (λ b. (x.table == t) ≡ b → IsNewTable lists (xs ++ x ∷ []) t s (get_or tables t d)
      (get_or new t e)) [
        | true ↦ λ f. (let same : x.table ≡ t = eqb-true x.table t f in
            let there : slice_get old x.table ≡ Some (get_or old t e) =
            ap (slice_get old) same ∙ slice_get-get_or old t e within in
            let found : get_or new t e ≡ h.fresh = ap (λ (os : List OpenState). get_or os t e) h.put
            ∙ ap (λ k. get_or (set old k h.fresh) t e) same ∙ get_or-set_same old t h.fresh e within in
            subst (IsNewTable lists (xs ++ x ∷ []) t s (get_or tables t d)) (sym found)
            (declared_here shape lists xs x t s (get_or tables t d) old new (get_or old t e) h there
            (ap (slice_get shape.tables) same ∙ is) f (made.each t d e s lt is)))
        | false ↦ λ f. (let differ : t ≢ x.table = λ g. false≢true (sym f ∙ eq-eqb x.table t (sym g)) in
            let found : get_or new t e ≡ get_or old t e =
            ap (λ (os : List OpenState). get_or os t e) h.put ∙ get_or-set_other old x.table t h.fresh e differ in
            subst (IsNewTable lists (xs ++ x ∷ []) t s (get_or tables t d)) (sym found)
            (declared_other lists xs x t s (get_or tables t d) (get_or old t e) f (made.each t d e s lt is)))
      ]) refl;
}

take_more : (xs : List IndexShape) (n : ℕ) (x : IndexShape) → slice_get xs n ≡ Some x
    → take (suc n) xs ≡ take n xs ++ x ∷ []
take_more [] n x e = absurd (cc)
take_more (y ∷ xs) zero x e = (let same : y ≡ x = cc in ap (λ z. z ∷ []) same)
take_more (y ∷ xs) (suc n) x e = ap (λ zs. y ∷ zs) (take_more xs n x e)

take_length : (xs : List IndexShape) (n : ℕ) (x : IndexShape) → slice_get xs n ≡ Some x → length (take n xs) ≡ n
take_length [] n x e = absurd (cc)
take_length (y ∷ xs) zero x e = refl
take_length (y ∷ xs) (suc n) x e = ap suc (take_length xs n x e)

pub index_declared : (shape : Shape) (lists : ℕ → List Pair → Type 0) (indexes : List IndexShape) (n : ℕ)
    (tables : List TableState) (old new : List OpenState) (x : IndexShape) → slice_get indexes n ≡ Some x
    → Declares shape (lists n) n x old new → AreNewTables shape lists (take n indexes) tables old
    → AreNewTables shape lists (take (n + 1) indexes) tables new
index_declared shape lists indexes n tables old new x e h made =
    let count : length (take n indexes) ≡ n = take_length indexes n x e in
    let next : take (n + 1) indexes ≡ take n indexes ++ x ∷ [] =
    ap (λ k. take k indexes) (add-one n) ∙ take_more indexes n x e in
    subst (λ xs. AreNewTables shape lists xs tables new) (sym next)
    (one_more shape lists (take n indexes) x tables old new made
    (subst (λ k. Declares shape (lists k) k x old new) (sym count) h))

-- ---- tables that wait for their indexes

pub got : (xs : List OpenState) (k : ℕ) (y : OpenState) (t : ℕ) (o : OpenState) → slice_get (set xs k y) t ≡ Some o
    → (slice_get xs t ≡ Some o) ⊎ ((t ≡ k) × (o ≡ y) × ((z : OpenState) × (slice_get xs k ≡ Some z)))
got [] k y t o e = inl e
got (x ∷ xs) zero y zero o e = inr (refl, (let same : o ≡ y = cc in same), (x, refl))
got (x ∷ xs) zero y (suc t) o e = inl e
got (x ∷ xs) (suc k) y zero o e = inl e
got (x ∷ xs) (suc k) y (suc t) o e = elim (got xs k y t o e) as
    (λ _. (slice_get (x ∷ xs) (suc t) ≡ Some o)
    ⊎ ((suc t ≡ suc k) × (o ≡ y) × ((z : OpenState) × (slice_get (x ∷ xs) (suc k) ≡ Some z)))) [
      | inl f ↦ inl f
      | inr f ↦ inr (ap suc f.0, f.1, f.2)
    ]

pub still_ready : (lists : List Pair → Type 0) (n : ℕ) (x : IndexShape) (shape : Shape) (old new : List OpenState)
    → AreReady shape old → Declares shape lists n x old new → AreReady shape new
still_ready lists n x shape old new ready h = record {
  count = ap (λ (os : List OpenState). length os) h.put ∙ length-set old x.table h.fresh ∙ ready.count;
  fields = λ t o s there is.
      elim (got old x.table h.fresh t o (ap (λ (os : List OpenState). slice_get os t) (sym h.put) ∙ there)) as
      (λ _. HaveAlikeFields o.table.structure.fields s.fields) [
        | inl f ↦ ready.fields t o s f is
        | inr f ↦ (let at : slice_get shape.tables x.table ≡ Some s = ap (slice_get shape.tables) (sym f.0) ∙ is in
            subst (λ (st : StructureState). HaveAlikeFields st.fields s.fields)
            (sym (ap (λ (p : OpenState). p.table.structure) f.1 ∙ ap (λ (i : IndexedState). i.structure)
            (h.mark f.2.0 s f.2.1 at).added)) (ready.fields x.table f.2.0 s f.2.1 at))
      ];
  unused = λ t o there.
      elim (got old x.table h.fresh t o (ap (λ (os : List OpenState). slice_get os t) (sym h.put) ∙ there)) as
      (λ _. o.list ≡ []) [
        | inl f ↦ ready.unused t o f
        | inr f ↦ ap (λ (p : OpenState). p.list) (f.1 ∙ h.same f.2.0 f.2.1) ∙ ready.unused x.table f.2.0 f.2.1
      ];
}

map_got : (tables : List TableState) (t : ℕ) (o : OpenState) → slice_get (map unused tables) t ≡ Some o
    → (table : TableState) × (slice_get tables t ≡ Some table) × (o ≡ unused table)
map_got [] t o e = absurd (cc)
map_got (x ∷ tables) zero o e = (x, refl, (let same : o ≡ unused x = cc in same))
map_got (x ∷ tables) (suc t) o e = map_got tables t o e

pub first_ready : (shape : Shape) (limit : ℕ) (tables : List TableState) (made : List OpenState)
    → made ≡ map unused tables → AreOfShape shape limit tables → AreReady shape made
first_ready shape limit tables made e of_shape = subst (AreReady shape) (sym e) (record {
  count = length-map tables unused ∙ of_shape.count;
  fields = λ t o s there is. (let w = map_got tables t o there in
      subst (λ (st : StructureState). HaveAlikeFields st.fields s.fields)
      (ap (λ (table : TableState). table.structure) (get_or_from_slice_get tables t w.0 w.0 w.1)
      ∙ ap (λ (p : OpenState). p.table.structure) (sym w.2)) (of_shape.fields t w.0 s is));
  unused = λ t o there. ap (λ (p : OpenState). p.list) (map_got tables t o there).2;
})

pub first_tables : (shape : Shape) (lists : ℕ → List Pair → Type 0) (tables : List TableState) (made : List OpenState)
    → made ≡ map unused tables → AreNewTables shape lists [] tables made
first_tables shape lists tables made e = subst (AreNewTables shape lists [] tables) (sym e) (record {
  count = length-map tables unused;
  each = λ t d f s lt is. subst (IsNewTable lists [] t s (get_or tables t d)) (sym (get_or-map unused tables t d f lt))
      (record { structure = refl; rows = refl; unused = refl; marks = refl });
})

-- ---- fields that hold the same

tail_alike : (f g : Field) (fields others : List Field) → HaveAlikeFields (f ∷ fields) (g ∷ others)
    → HaveAlikeFields fields others
tail_alike f g fields others alike =
    record { count = omega (arith, alike.count); each = λ k d lt. alike.each (suc k) d (omega arith) }

first_alike : (f g : Field) (fields others : List Field) → HaveAlikeFields (f ∷ fields) (g ∷ others) → IsAlike f g
first_alike f g fields others alike = alike.each 0 f (omega arith)

pub alike_widths : (fields others : List Field) → HaveAlikeFields fields others → widths_of fields ≡ widths_of others
alike_widths [] [] alike = refl
alike_widths [] (g ∷ others) alike = absurd (omega (arith, alike.count))
alike_widths (f ∷ fields) [] alike = absurd (omega (arith, alike.count))
alike_widths (f ∷ fields) (g ∷ others) alike = ap (λ w. w ∷ widths_of fields)
    (first_alike f g fields others alike).width ∙ ap (λ ws. g.width ∷ ws)
    (alike_widths fields others (tail_alike f g fields others alike))

text_same : (fields others : List Field) (n : ℕ) → HaveAlikeFields fields others
    → is_text_field (slice_get fields n) ≡ is_text_field (slice_get others n)
text_same [] [] n alike = refl
text_same [] (g ∷ others) n alike = absurd (omega (arith, alike.count))
text_same (f ∷ fields) [] n alike = absurd (omega (arith, alike.count))
text_same (f ∷ fields) (g ∷ others) zero alike = ap holds_text (first_alike f g fields others alike).letter
text_same (f ∷ fields) (g ∷ others) (suc n) alike = text_same fields others n (tail_alike f g fields others alike)

width_same : (fields others : List Field) (n : ℕ) → HaveAlikeFields fields others
    → width_of (slice_get fields n) ≡ width_of (slice_get others n)
width_same [] [] n alike = refl
width_same [] (g ∷ others) n alike = absurd (omega (arith, alike.count))
width_same (f ∷ fields) [] n alike = absurd (omega (arith, alike.count))
width_same (f ∷ fields) (g ∷ others) zero alike = (first_alike f g fields others alike).width
width_same (f ∷ fields) (g ∷ others) (suc n) alike = width_same fields others n (tail_alike f g fields others alike)

names_same : (fields others : List Field) (parts : List KeyPart) → HaveAlikeFields fields others
    → list_all (names_text fields) parts ≡ list_all (names_text others) parts
names_same fields others [] alike = refl
names_same fields others (part ∷ parts) alike = ap (λ b. b && list_all (names_text fields) parts)
    (text_same fields others part.field alike) ∙ ap (λ b. names_text others part && b)
    (names_same fields others parts alike)

bytes_same : (fields others : List Field) (parts : List KeyPart) → HaveAlikeFields fields others
    → key_bytes fields parts ≡ key_bytes others parts
bytes_same fields others [] alike = refl
bytes_same fields others (part ∷ parts) alike = ap (λ n. n + key_bytes fields parts)
    (width_same fields others part.field alike) ∙ ap (λ n. width_of (slice_get others part.field) + n)
    (bytes_same fields others parts alike)

-- a key that fits fields fits others that hold the same
pub key_same : (fields others : List Field) (parts : List KeyPart) → HaveAlikeFields fields others
    → is_key others parts ≡ true → is_key fields parts ≡ true
unfolding is_key
key_same fields others parts alike e =
    let names : list_all (names_text fields) parts ≡ list_all (names_text others) parts =
    names_same fields others parts alike in
    let bytes : key_bytes fields parts ≡ key_bytes others parts = bytes_same fields others parts alike in
    ap (λ b. nat_le 1 (length parts) && nat_le (length parts) 8 && b && nat_le 1 (key_bytes fields parts) && nat_le
    (key_bytes fields parts) 100) names
    ∙ ap (λ n. nat_le 1 (length parts) && nat_le (length parts) 8 && list_all (names_text others) parts && nat_le 1 n
    && nat_le n 100) bytes ∙ e
