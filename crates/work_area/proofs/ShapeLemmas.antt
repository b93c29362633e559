-- Stores keep their shape.
use Rattle.std.proofs.Common.{◌≡◌, ◌≢◌, ℕ, zero, suc, ◌+◌, ◌<◌, Bool, true, false, ◌==◌, Option, Some, None, List, []}
use Rattle.std.proofs.Common.{◌∷◌, length, get_or, map, cond, is_some, refl, sym, ap, ◌∙◌, subst, arith, inl, inr}
use Rattle.std.specs.Prelude.{find, slice_get, MatchBool}
use Rattle.std.proofs.lemmas.Bool.{eqb-true, eq-eqb, false≢true}
use Rattle.std.proofs.lemmas.List.{length-set, length-map}
use Rattle.std.proofs.lemmas.Option.{slice_get_within, get_or_from_slice_get}
use Rattle.dbf_file.specs.declared.field.Field.{Field}
use Rattle.dbf_file.specs.Rows.{Row}
use Rattle.dbf_file.specs.Fields.{widths_of}
use Rattle.dbf_file.specs.Tables.{StructureState, TableState, row_widths}
use Rattle.key_lists.specs.Pairs.{Pair}
use Rattle.shape.specs.declared.indexes.IndexShape.{IndexShape}
use Rattle.shape.specs.declared.tables.TableShape.{TableShape}
use Rattle.shape.specs.declared.whole.Shape.{Shape}
use Rattle.shape.specs.Keys.{key_length, key_text}
use Rattle.open_table.specs.Marks.{IndexMark, mark_at, with_stale, parts_in, text_in}
use Rattle.open_table.specs.Open.{OpenState, closed, place_in, replaced_at, remarked_at}
use Rattle.work_area.specs.declared.uses.Use.{Use}
use Rattle.work_area.specs.Areas.{StoreState, selected_use, used_table, table_at, here, with_table, with_used, with_use}
use Rattle.work_area.specs.Areas.{changed_found, change_here, closed_at, closed_other, closed_here, closed_all}
use Rattle.work_area.specs.Calls.{used_here}
use Rattle.work_area.specs.Making.{HaveAlikeFields, AreOfShape, AreMarks, FirstIs, IsMarkOf, IsNewStore, IsNewTable}
use Rattle.work_area.specs.Making.{mark_for}
use Rattle.work_area.specs.Shapes.{still, AreFound, StoreHasShape, IsSameKind, KindsStay, ShapesStay}
use Rattle.work_area.proofs.AreaLemmas.{let_go}
use Rattle.work_area.proofs.MakingLemmas.{alike_widths, got}

-- ---- tables in use

still_mapped : (f : IndexMark → Bool) (marks : List IndexMark) → map still (map (λ m. with_stale m (f m)) marks)
    ≡ map still marks
still_mapped f [] = refl
still_mapped f (m ∷ marks) = ap (λ ms. still m ∷ ms) (still_mapped f marks)

pub kinds_stay : (o : OpenState) → KindsStay o
kinds_stay o = record {
  by_move = λ landing. record { structure = refl; marks = refl };
  chain = λ p q a b. record { structure = b.structure ∙ a.structure; marks = b.marks ∙ a.marks };
  by_append = record { structure = refl; marks = still_mapped _ o.table.marks };
  by_replace = λ f v. (elim (place_in (length o.table.rows) o.pointer) as
      (λ r. IsSameKind o
      (record {
        table = replaced_at o f v r;
        list = o.list;
        order = o.order;
        pointer = o.pointer;
        bof = o.bof;
        found =
            o.found;
      })) [
        | None ↦ record { structure = refl; marks = refl }
        | Some r ↦ record { structure = refl; marks = still_mapped _ o.table.marks }
      ]);
  by_mark = λ marked. (elim (place_in (length o.table.rows) o.pointer) as
      (λ r. IsSameKind o
      (record {
        table = remarked_at o marked r;
        list = o.list;
        order = o.order;
        pointer = o.pointer;
        bof = o.bof;
        found = o.found;
      })) [
        | None ↦ record { structure = refl; marks = refl }
        | Some r ↦ record { structure = refl; marks = refl }
      ]);
  by_pack = record { structure = refl; marks = still_mapped _ o.table.marks };
  by_zap = record { structure = refl; marks = still_mapped _ o.table.marks };
  by_reindex = record { structure = refl; marks = still_mapped _ o.table.marks };
  by_open = λ list. record { structure = refl; marks = still_mapped _ o.table.marks };
  by_close = record { structure = refl; marks = refl };
  by_order = λ order. record { structure = refl; marks = refl };
  by_go = λ number. record { structure = refl; marks = refl };
}

-- ---- the store

-- a table among those that are closed
pub closed_got : (tables : List OpenState) (t : ℕ) (a : OpenState) → slice_get (map closed tables) t ≡ Some a
    → (o : OpenState) × (slice_get tables t ≡ Some o) × (a ≡ closed o)
closed_got [] t a e = absurd (cc)
closed_got (o ∷ tables) zero a e = (o, refl, (let same : a ≡ closed o = cc in same))
closed_got (o ∷ tables) (suc t) a e = closed_got tables t a e

module _ (shape : Shape) where
  same_tables : (s s' : StoreState) → s'.tables ≡ s.tables → StoreHasShape shape s → StoreHasShape shape s'
  same_tables s s' e h = record {
    count = ap (λ (ts : List OpenState). length ts) e ∙ h.count;
    fields = λ t o d there is. h.fields t o d (ap (λ (ts : List OpenState). slice_get ts t) (sym e) ∙ there) is;
    indexes = λ n x o d index there is. h.indexes n x o d index
        (ap (λ (ts : List OpenState). slice_get ts x.table) (sym e) ∙ there) is;
    alone = λ n x t o index there has. h.alone n x t o index
        (ap (λ (ts : List OpenState). slice_get ts t) (sym e) ∙ there) has;
  }

  at_table : (s : StoreState) (t : ℕ) (o p : OpenState) → StoreHasShape shape s → table_at s t ≡ Some o → IsSameKind o p
      → StoreHasShape shape (with_table s t p)
  at_table s t o p h at same = record {
    count = length-set s.tables t p ∙ h.count;
    fields = λ k a d there is. elim (got s.tables t p k a there) as
        (λ _. HaveAlikeFields a.table.structure.fields d.fields) [
          | inl e ↦ h.fields k a d e is
          | inr e ↦ subst (λ (st : StructureState). HaveAlikeFields st.fields d.fields)
              (sym (ap (λ (b : OpenState). b.table.structure) e.1 ∙ same.structure))
              (h.fields t o d at (ap (slice_get shape.tables) (sym e.0) ∙ is))
        ];
    indexes = λ n x a d index there is. elim (got s.tables t p x.table a there) as
        (λ _. mark_at (map still a.table.marks) n ≡ Some (mark_for n d.fields x)) [
          | inl e ↦ h.indexes n x a d index e is
          | inr e ↦ ap (λ (b : OpenState). mark_at (map still b.table.marks) n) e.1 ∙ ap (λ ms. mark_at ms n) same.marks
              ∙ h.indexes n x o d index (ap (slice_get s.tables) e.0 ∙ at) is
        ];
    alone = λ n x k a index there has. elim (got s.tables t p k a there) as (λ _. k ≡ x.table) [
      | inl e ↦ h.alone n x k a index e has
      | inr e ↦ e.0 ∙ h.alone n x t o index at
          (ap (λ (m : Option IndexMark). is_some m)
          (ap (λ ms. mark_at ms n) (sym same.marks) ∙ ap (λ (b : OpenState). mark_at (map still b.table.marks) n)
          (sym e.1)) ∙ has)
    ];
  }

  at_used : (s : StoreState) (u : Option Use) (o p : OpenState) → StoreHasShape shape s → used_table s u ≡ Some o
      → IsSameKind o p → StoreHasShape shape (with_used u p s)
  at_used s None o p h at same = absurd (cc)
  at_used s (Some v) o p h at same = at_table s v.table o p h at same

  by_found : (s : StoreState) (f : OpenState → OpenState) (found : Option OpenState)
      → ((o : OpenState) → IsSameKind o (f o)) → here s ≡ found → StoreHasShape shape s
      → StoreHasShape shape (changed_found f found s)
  by_found s f None same at h = h
  by_found s f (Some o) same at h = at_used s (selected_use s) o (f o) h at (same o)

  by_change : (s : StoreState) (f : OpenState → OpenState) → ((o : OpenState) → IsSameKind o (f o))
      → StoreHasShape shape s → StoreHasShape shape (change_here f s)
  by_change s f same h = by_found s f (here s) same refl h

  by_close : (s : StoreState) → StoreHasShape shape s → StoreHasShape shape (closed_here s)
  by_close s h = same_tables (change_here closed s) (closed_here s) refl
      (by_change s closed (λ o. record { structure = refl; marks = refl }) h)

  by_close_all : (s : StoreState) → StoreHasShape shape s → StoreHasShape shape (closed_all s)
  by_close_all s h = record {
    count = length-map s.tables closed ∙ h.count;
    fields = λ t a d there is. (let w = closed_got s.tables t a there in
        subst (λ (b : OpenState). HaveAlikeFields b.table.structure.fields d.fields) (sym w.2)
        (h.fields t w.0 d w.1 is));
    indexes = λ n x a d index there is. (let w = closed_got s.tables x.table a there in
        ap (λ (b : OpenState). mark_at (map still b.table.marks) n) w.2 ∙ h.indexes n x w.0 d index w.1 is);
    alone = λ n x t a index there has. (let w = closed_got s.tables t a there in
        h.alone n x t w.0 index w.1 (ap (λ (b : OpenState). is_some (mark_at (map still b.table.marks) n)) (sym w.2)
        ∙ has));
  }

  at_closed : (s : StoreState) (t : ℕ) (found : Option OpenState) → table_at s t ≡ found → StoreHasShape shape s
      → StoreHasShape shape (closed_at t found s)
  at_closed s t None at h = h
  at_closed s t (Some o) at h = at_table s t o (closed o) h at (record { structure = refl; marks = refl })

  by_let_go : (s : StoreState) (t : ℕ) (u : Option Use) → StoreHasShape shape s
      → StoreHasShape shape (closed_other t u s)
  by_let_go s t None h = h
  by_let_go s t (Some u) h = elim (u.table == t) as
      (λ b. StoreHasShape shape (cond b s (closed_at u.table (table_at s u.table) s))) [
        | true ↦ h
        | false ↦ at_closed s
            u.table (table_at s u.table) refl h
      ]

  by_open : (s : StoreState) (t list : ℕ) (o p : OpenState) → StoreHasShape shape s → table_at s t ≡ Some o
      → IsSameKind o p → StoreHasShape shape (used_here t list p s)
  by_open s t list o p h at same =
      let held : Use = record { table = t; list = list; filter = 0 } in
      let mid : StoreState = closed_other t (selected_use s) (with_table s t p) in
      subst (StoreHasShape shape) (let_go s t p held)
      (same_tables mid (with_use mid s.selected (Some held)) refl
      (by_let_go (with_table s t p) t (selected_use s) (at_table s t o p h at same)))

  there_still : (marks : List IndexMark) (n : ℕ) → is_some (mark_at (map still marks) n) ≡ is_some (mark_at marks n)
  there_still [] n = refl
  there_still (m ∷ marks) n = elim (m.number == n) as
      (λ b. is_some (cond b (Some (still m)) (mark_at (map still marks) n))
      ≡ is_some (cond b (Some m) (mark_at marks n))) [ true ↦ refl | false ↦ there_still marks n ]

  pub shapes_stay : (s : StoreState) → ShapesStay shape s
  shapes_stay s = record {
    at_table = at_table s;
    at_here = λ o p h at same. at_used s (selected_use s) o p h at same;
    by_change = by_change s;
    by_use = λ area u h. record { count = h.count; fields = h.fields; indexes = h.indexes; alone = h.alone };
    by_select = λ area h. record { count = h.count; fields = h.fields; indexes = h.indexes; alone = h.alone };
    by_close = by_close s;
    by_close_all = by_close_all s;
    by_index = λ list o p h at same. (let k = at_used s (selected_use s) o p h at same in
        record { count = k.count; fields = k.fields; indexes = k.indexes; alone = k.alone });
    by_open = λ t list o p h at same. by_open s t list o p h at same;
    declared = λ n x o d h index at is. sym (there_still o.table.marks n)
        ∙ ap (λ (m : Option IndexMark). is_some m) (h.indexes n x o d index at is);
  }

-- ---- the marks of a new store

module _ (lists : ℕ → List Pair → Type 0) (fields : List Field) (rows : List Row) (t : ℕ) where
  first_mark : (k n : ℕ) (x : IndexShape) (Q : List IndexMark → Type 0) (marks : List IndexMark) → k ≡ n
      → FirstIs (IsMarkOf lists fields rows k x) Q marks → mark_at (map still marks) n ≡ Some (mark_for n fields x)
  first_mark k n x Q [] e h = absurd h
  first_mark k n x Q (m ∷ marks) e h =
      let number : m.number ≡ n = h.0.number ∙ e in
      let here : (m.number == n) ≡ true = eq-eqb m.number n number in
      ap (λ b. cond b (Some (still m)) (mark_at (map still marks) n)) here
      ∙ (λ i. Some (record { number = number i; parts = h.0.parts i; text = h.0.text i; stale = true }))

  later_mark : (k n : ℕ) (y x : IndexShape) (Q : List IndexMark → Type 0) (marks : List IndexMark) → k < n
      → ((ms : List IndexMark) → Q ms → mark_at (map still ms) n ≡ Some (mark_for n fields x))
      → FirstIs (IsMarkOf lists fields rows k y) Q marks → mark_at (map still marks) n ≡ Some (mark_for n fields x)
  later_mark k n y x Q [] lt more h = absurd h
  later_mark k n y x Q (m ∷ marks) lt more h =
      let other : (m.number == n) ≡ false = elim (m.number == n) as
      (λ b. (m.number == n) ≡ b → b ≡ false) [
        | true ↦ λ e. absurd
            (omega (arith, h.0.number, eqb-true m.number n e, lt))
        | false ↦ λ e. refl
      ] refl in
      ap (λ b. cond b (Some (still m)) (mark_at (map still marks) n)) other ∙ more marks h.1

  mark_found : (k n i : ℕ) (xs : List IndexShape) (x : IndexShape) (marks : List IndexMark) → k + i ≡ n
      → slice_get xs i ≡ Some x → x.table ≡ t → AreMarks lists fields rows t k xs marks
      → mark_at (map still marks) n ≡ Some (mark_for n fields x)
  mark_found k n i [] x marks e at same h = absurd (cc)
  mark_found k n zero (y ∷ xs) x marks e at same h =
      let is : y ≡ x = cc in
      let here : (y.table == t) ≡ true = eq-eqb y.table t (ap (λ (z : IndexShape). z.table) is ∙ same) in
      let first : FirstIs (IsMarkOf lists fields rows k y) (AreMarks lists fields rows t (k + 1) xs) marks = subst
      (λ b. MatchBool b (FirstIs (IsMarkOf lists fields rows k y) (AreMarks lists fields rows t (k + 1) xs) marks)
      (AreMarks lists fields rows t (k + 1) xs marks)) here h in
      first_mark k n y (AreMarks lists fields rows t (k + 1) xs) marks (omega arith) first
      ∙ ap (λ z. Some (mark_for n fields z)) is
  mark_found k n (suc i) (y ∷ xs) x marks e at same h =
      let more : (ms : List IndexMark) → AreMarks lists fields rows t (k + 1) xs ms
      → mark_at (map still ms) n ≡ Some (mark_for n fields x) =
      λ ms. mark_found (k + 1) n i xs x ms (omega arith) at same in
      (elim (y.table == t) as
      (λ b. MatchBool b (FirstIs (IsMarkOf lists fields rows k y) (AreMarks lists fields rows t (k + 1) xs) marks)
      (AreMarks lists fields rows t (k + 1) xs marks) → mark_at (map still marks) n ≡ Some (mark_for n fields x)) [
        | true ↦ λ p. later_mark k n y x (AreMarks lists fields rows t (k + 1) xs) marks (omega arith) more p
        | false ↦ λ p. more marks p
      ]) h

  -- behind the first mark of another number the search goes on
  other_mark : (k n : ℕ) (y : IndexShape) (Q : List IndexMark → Type 0) (P : Option IndexMark → Type 0)
      (marks : List IndexMark) → k ≢ n → ((ms : List IndexMark) → Q ms → P (mark_at (map still ms) n))
      → FirstIs (IsMarkOf lists fields rows k y) Q marks → P (mark_at (map still marks) n)
  other_mark k n y Q P [] differ more h = absurd h
  other_mark k n y Q P (m ∷ marks) differ more h =
      let other : (m.number == n) ≡ false = elim (m.number == n) as
      (λ b. (m.number == n) ≡ b → b ≡ false) [
        | true ↦ λ e. absurd (differ (sym h.0.number ∙ eqb-true m.number n e))
        | false ↦ λ e. refl
      ] refl in
      subst P (ap (λ b. cond b (Some (still m)) (mark_at (map still marks) n)) (sym other)) (more marks h.1)

  -- indexes of greater numbers have no mark of this one
  none_found : (k n : ℕ) (xs : List IndexShape) (marks : List IndexMark) → n < k
      → AreMarks lists fields rows t k xs marks → mark_at (map still marks) n ≡ None
  none_found k n [] marks lt h = ap (λ (ms : List IndexMark). mark_at (map still ms) n) h
  none_found k n (y ∷ xs) marks lt h =
      let more : (ms : List IndexMark) → AreMarks lists fields rows t (k + 1) xs ms → mark_at (map still ms) n ≡ None =
      λ ms. none_found (k + 1) n xs ms (omega arith) in
      (elim (y.table == t) as
      (λ b. MatchBool b (FirstIs (IsMarkOf lists fields rows k y) (AreMarks lists fields rows t (k + 1) xs) marks)
      (AreMarks lists fields rows t (k + 1) xs marks) → mark_at (map still marks) n ≡ None) [
        | true ↦ λ p. other_mark k n y (AreMarks lists fields rows t (k + 1) xs) (λ m. m ≡ None) marks (omega arith)
            more p
        | false ↦ λ p. more marks p
      ]) h

  found_alone : (k n i : ℕ) (xs : List IndexShape) (x : IndexShape) (marks : List IndexMark) → k + i ≡ n
      → slice_get xs i ≡ Some x → AreMarks lists fields rows t k xs marks → is_some (mark_at (map still marks) n) ≡ true
      → x.table ≡ t
  found_alone k n i [] x marks e at h has = absurd (cc)
  found_alone k n zero (y ∷ xs) x marks e at h has =
      let is : y ≡ x = cc in
      (elim (y.table == t) as (λ b. (y.table == t) ≡ b → MatchBool b
      (FirstIs (IsMarkOf lists fields rows k y) (AreMarks lists fields rows t (k + 1) xs) marks)
      (AreMarks lists fields rows t (k + 1) xs marks) → x.table ≡ t) [
        | true ↦ λ f p. ap (λ (z : IndexShape). z.table) (sym is) ∙ eqb-true y.table t f
        | false ↦ λ f p. absurd
            (false≢true (ap (λ (m : Option IndexMark). is_some m) (sym (none_found (k + 1) n xs marks (omega arith) p))
            ∙ has))
      ]) refl h
  found_alone k n (suc i) (y ∷ xs) x marks e at h has =
      let more : (ms : List IndexMark) → AreMarks lists fields rows t (k + 1) xs ms
      → is_some (mark_at (map still ms) n) ≡ true → x.table ≡ t =
      λ ms. found_alone (k + 1) n i xs x ms (omega arith) at in
      (elim (y.table == t) as
      (λ b. MatchBool b (FirstIs (IsMarkOf lists fields rows k y) (AreMarks lists fields rows t (k + 1) xs) marks)
      (AreMarks lists fields rows t (k + 1) xs marks) → x.table ≡ t) [
        | true ↦ λ p. other_mark k n y (AreMarks lists fields rows t (k + 1) xs) (λ m. is_some m ≡ true → x.table ≡ t)
            marks (omega arith) more p has
        | false ↦ λ p. more marks p has
      ]) h

-- the table at a place as it was handed in
new_at : (lists : ℕ → List Pair → Type 0) (shape : Shape) (handed : List TableState) (most : ℕ) (s : StoreState) (t : ℕ)
    (o : OpenState) (d : TableShape) (none : TableState) → IsNewStore lists shape handed most s → table_at s t ≡ Some o
    → slice_get shape.tables t ≡ Some d → IsNewTable lists shape.indexes t d (get_or handed t none) o
new_at lists shape handed most s t o d none made at is =
    let lt : t < length handed = omega (arith, slice_get_within s.tables t o at, made.tables.count) in
    subst (IsNewTable lists shape.indexes t d (get_or handed t none)) (get_or_from_slice_get s.tables t o o at)
    (made.tables.each t none o d lt is)

table_there : (xs : List TableShape) (t : ℕ) → t < length xs → (d : TableShape) × (slice_get xs t ≡ Some d)
table_there [] t lt = absurd (omega (arith, lt))
table_there (d ∷ xs) zero lt = (d, refl)
table_there (d ∷ xs) (suc t) lt = table_there xs t (omega (arith, lt))

pub starts : (shape : Shape) (lists : ℕ → List Pair → Type 0) (handed : List TableState) (most : ℕ) (s : StoreState)
    → AreOfShape shape most handed → IsNewStore lists shape handed most s → StoreHasShape shape s
starts shape lists handed most s of_shape made =
    let none : OpenState → TableState = λ o. record { structure = o.table.structure; rows = []; spare = 0 } in
    record {
      count = made.tables.count ∙ of_shape.count;
      fields = λ t o d at is. (let new = new_at lists shape handed most s t o d (none o) made at is in
          subst (λ (st : StructureState). HaveAlikeFields st.fields d.fields) (sym new.structure)
          (of_shape.fields t (none o) d is));
      indexes = λ n x o d index at is. (let new = new_at lists shape handed most s x.table o d (none o) made at is in
          mark_found lists d.fields (get_or handed x.table (none o)).rows x.table 0 n n shape.indexes x o.table.marks
          (omega arith) index refl new.marks);
      alone = λ n x t o index at has.
          let d = table_there shape.tables t
          (omega (arith, slice_get_within s.tables t o at, made.tables.count, of_shape.count)) in
          let new = new_at lists shape handed most s t o d.0 (none o) made at d.1 in
          sym (found_alone lists d.0.fields (get_or handed t (none o)).rows t 0 n n shape.indexes x o.table.marks
          (omega arith) index new.marks has);
    }

-- ---- declared indexes

same_parts : (marks : List IndexMark) (n : ℕ) → parts_in (mark_at marks n) ≡ parts_in (mark_at (map still marks) n)
same_parts [] n = refl
same_parts (m ∷ marks) n = elim (m.number == n) as
    (λ b. parts_in (cond b (Some m) (mark_at marks n))
    ≡ parts_in (cond b (Some (still m)) (mark_at (map still marks) n))) [ true ↦ refl | false ↦ same_parts marks n ]

same_text : (marks : List IndexMark) (n : ℕ) → text_in (mark_at marks n) ≡ text_in (mark_at (map still marks) n)
same_text [] n = refl
same_text (m ∷ marks) n = elim (m.number == n) as
    (λ b. text_in (cond b (Some m) (mark_at marks n))
    ≡ text_in (cond b (Some (still m)) (mark_at (map still marks) n))) [ true ↦ refl | false ↦ same_text marks n ]

-- the one of a property is the first
find_only : (p : OpenState → Bool) (xs : List OpenState) (k : ℕ) (x : OpenState) → slice_get xs k ≡ Some x → p x ≡ true
    → ((t : ℕ) (y : OpenState) → slice_get xs t ≡ Some y → p y ≡ true → t ≡ k) → find p xs ≡ Some x
find_only p [] k x at here only = absurd (cc)
find_only p (y ∷ xs) zero x at here only =
    let is : y ≡ x = cc in
    ap (λ b. cond b (Some y) (find p xs)) (ap p is ∙ here) ∙ ap Some is
find_only p (y ∷ xs) (suc k) x at here only =
    let other : p y ≡ false = elim (p y) as
    (λ b. p y ≡ b → b ≡ false) [ true ↦ λ e. absurd (omega (arith, only zero y refl e)) | false ↦ λ e. refl ]
    refl in
    ap (λ b. cond b (Some y) (find p xs)) other ∙ find_only p xs k x at here
    (λ t z there has. omega (arith, only (suc t) z there has))

pub are_found : (shape : Shape) (s : StoreState) → StoreHasShape shape s → AreFound shape s
are_found shape s h n x o d index at is =
    let mark : mark_at (map still o.table.marks) n ≡ Some (mark_for n d.fields x) = h.indexes n x o d index at is in
    let parts : parts_in (mark_at o.table.marks n) ≡ x.key =
    same_parts o.table.marks n ∙ ap (λ (m : Option IndexMark). parts_in m) mark in
    let text : text_in (mark_at o.table.marks n) ≡ key_text d.fields x.key =
    same_text o.table.marks n ∙ ap (λ (m : Option IndexMark). text_in m) mark in
    let widths : row_widths o.table.structure ≡ widths_of d.fields =
    alike_widths o.table.structure.fields d.fields (h.fields x.table o d at is) in
    let size : key_length (parts_in (mark_at o.table.marks n)) (row_widths o.table.structure)
    ≡ key_length x.key (widths_of d.fields) =
    ap (λ key. key_length key (row_widths o.table.structure)) parts ∙ ap (key_length x.key) widths in
    record {
      found = find_only (λ a. is_some (mark_at a.table.marks n)) s.tables x.table o at
          (sym (there_still shape o.table.marks n) ∙ ap (λ (m : Option IndexMark). is_some m) mark)
          (λ t a there has. h.alone n x t a index there (there_still shape a.table.marks n ∙ has));
      parts = parts;
      form = λ i. record { key_length = size i; key_text = text i };
    }
