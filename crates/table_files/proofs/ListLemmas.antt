-- What files hold of indexes, and what a load finds of them.
use Rattle.std.proofs.Common.{◌≡◌, ◌≢◌, ◌<◌, ◌+◌, ℕ, zero, suc, true, false, not, ◌==◌, Option, Some, List, [], ◌∷◌}
use Rattle.std.proofs.Common.{length, cond, refl, sym, ap, ◌∙◌, subst, arith}
use Rattle.std.proofs.lemmas.Bool.{eqb-true, eq-eqb}
use Rattle.std.proofs.lemmas.Option.{slice_get_within}
use Rattle.std.specs.Prelude.{slice_get, MatchBool}
use Rattle.dbf_file.specs.declared.field.Field.{Field}
use Rattle.dbf_file.specs.declared.stamp.Stamp.{Stamp}
use Rattle.dbf_file.specs.Rows.{Row}
use Rattle.file_access.specs.Holding.{Holds, HoldsOneThing}
use Rattle.ndx_tree.specs.IndexText.{IsIndexText}
use Rattle.key_lists.specs.KeyForm.{KeyForm}
use Rattle.key_lists.specs.Pairs.{Pair}
use Rattle.ndx_tree.specs.Trees.{TreeView}
use Rattle.row_keys.specs.Lists.{index_list}
use Rattle.shape.specs.declared.indexes.IndexShape.{IndexShape}
use Rattle.shape.specs.declared.parts.KeyPart.{KeyPart}
use Rattle.shape.specs.declared.whole.Shape.{Shape}
use Rattle.shape.specs.Whole.{is_shape}
use Rattle.open_table.specs.Open.{OpenState}
use Rattle.open_table.specs.Marks.{IndexMark, mark_at, is_fresh, parts_in}
use Rattle.work_area.specs.Areas.{StoreState, mark_in}
use Rattle.work_area.specs.Making.{AreMarks, FirstIs as FirstMark, IsMarkOf, key_form, lists_just}
use Rattle.work_area.specs.Shapes.{AreFound, IsFoundIn}
use Rattle.table_files.specs.Loading.{FoundList, Loaded}
use Rattle.table_files.specs.Names.{index_file}
use Rattle.table_files.specs.Saving.{has_fresh_index, AreSaved, HoldsLists, FindsLists}
use Rattle.table_files.proofs.FileLemmas.{some_same, index_place}
use Rattle.table_files.proofs.LawLemmas.{marks_at, finds_saved}
use Rattle.table_files.proofs.WriteLemmas.{index_written}

-- ---- what was written of an index

pub holds_lists : (before after : Holds) (shape : Shape) (store : StoreState) (stamp : Stamp) (k : ℕ)
    → AreFound shape store → AreSaved shape store stamp k before after → HoldsLists after shape store k
holds_lists before after shape store stamp k found h n x s o saved =
    let is : IsFoundIn store n x s o = found n x o s saved.index saved.table saved.declared in
    let listed : has_fresh_index store n ≡ true =
    ap (λ (u : Option OpenState). is_fresh (mark_in u n)) is.found ∙ saved.fresh in
    let place : ℕ = length shape.tables + n in
    let w = h.written place saved.within (index_file x) (index_place shape n x saved.index)
    (index_written shape store place n refl ∙ listed) in
    record {
      bytes = w.0;
      held = w.2;
      text =
          subst (λ (key : List KeyPart). IsIndexText w.0 (key_form s x) (index_list key o.table.rows)) is.parts
          (subst (λ (form : KeyForm). IsIndexText w.0 form
          (index_list (parts_in (mark_at o.table.marks n)) o.table.rows)) is.form (w.1.index n o refl is.found));
    }

-- ---- the mark of an index in a new store

module _ (lists : ℕ → List Pair → Type 0) (fields : List Field) (rows : List Row) (t : ℕ) where
  abbrev IsMarked : ℕ → IndexShape → List IndexMark → Type 0
  IsMarked n x marks = (m : IndexMark) × (mark_at marks n ≡ Some m) × IsMarkOf lists fields rows n x m

  first_marked : (n : ℕ) (x : IndexShape) (Q : List IndexMark → Type 0) (marks : List IndexMark)
      → FirstMark (IsMarkOf lists fields rows n x) Q marks → IsMarked n x marks
  first_marked n x Q [] h = absurd h
  first_marked n x Q (m ∷ marks) h =
      (m, ap (λ b. cond b (Some m) (mark_at marks n)) (eq-eqb m.number n h.0.number), h.0)

  behind_marked : (k n : ℕ) (y x : IndexShape) (Q : List IndexMark → Type 0) (marks : List IndexMark) → k ≢ n
      → ((ms : List IndexMark) → Q ms → IsMarked n x ms) → FirstMark (IsMarkOf lists fields rows k y) Q marks
      → IsMarked n x marks
  behind_marked k n y x Q [] differ more h = absurd h
  behind_marked k n y x Q (m ∷ marks) differ more h =
      let other : (m.number == n) ≡ false = elim (m.number == n) as
      (λ b. (m.number == n) ≡ b → b ≡ false) [
        | true ↦ λ e. absurd (differ (sym h.0.number ∙ eqb-true m.number n e))
        | false ↦ λ e. refl
      ] refl in
      let found = more marks h.1 in
      (found.0, ap (λ b. cond b (Some m) (mark_at marks n)) other ∙ found.1, found.2)

  marked : (k n i : ℕ) (xs : List IndexShape) (x : IndexShape) (marks : List IndexMark) → k + i ≡ n
      → slice_get xs i ≡ Some x → x.table ≡ t → AreMarks lists fields rows t k xs marks → IsMarked n x marks
  marked k n i [] x marks e at same h = absurd (cc)
  marked k n zero (y ∷ xs) x marks e at same h =
      let is : y ≡ x = some_same y x at in
      let place : k ≡ n = omega arith in
      let here : (y.table == t) ≡ true = eq-eqb y.table t (ap (λ (z : IndexShape). z.table) is ∙ same) in
      let first : FirstMark (IsMarkOf lists fields rows k y) (AreMarks lists fields rows t (k + 1) xs) marks = subst
      (λ b. MatchBool b (FirstMark (IsMarkOf lists fields rows k y) (AreMarks lists fields rows t (k + 1) xs) marks)
      (AreMarks lists fields rows t (k + 1) xs marks)) here h in
      subst (λ j. IsMarked j x marks) place
      (subst (λ z. IsMarked k z marks) is (first_marked k y (AreMarks lists fields rows t (k + 1) xs) marks first))
  marked k n (suc i) (y ∷ xs) x marks e at same h =
      let more : (ms : List IndexMark) → AreMarks lists fields rows t (k + 1) xs ms → IsMarked n x ms =
      λ ms. marked (k + 1) n i xs x ms (omega arith) at same in
      (elim (y.table == t) as
      (λ b. MatchBool b (FirstMark (IsMarkOf lists fields rows k y) (AreMarks lists fields rows t (k + 1) xs) marks)
      (AreMarks lists fields rows t (k + 1) xs marks) → IsMarked n x marks) [
        | true ↦ λ p. behind_marked k n y x (AreMarks lists fields rows t (k + 1) xs) marks (omega arith) more p
        | false ↦ λ p. more marks p
      ]) h

-- ---- what a load finds

pub finds_lists : (before after : Holds) (shape : Shape) (store loaded : StoreState) (stamp : Stamp) (k limit : ℕ)
    → HoldsOneThing after → is_shape shape ≡ true
    → AreSaved shape store stamp k before after → Loaded after shape limit loaded
    → FindsLists after shape store k loaded
finds_lists before after shape store loaded stamp k limit one legal h g n x s o l saved there file short =
    let low : x.table < k = (let within = saved.within in let declared = slice_get_within shape.tables x.table s
    saved.declared in omega (arith, within, declared)) in
    let rows : l.table.rows ≡ o.table.rows =
    ((finds_saved before after shape store loaded stamp k limit one legal h g).saved x.table s o l low
    saved.declared saved.table there).1 in
    let list = g.listed.each n x s saved.index saved.declared in
    let same : list.found ≡ Some file.bytes = one (index_file x) list.found (Some file.bytes) list.held file.held in
    let just = (list.just (index_list x.key o.table.rows)).1
    (subst (λ (f : Option (List ℕ)). FoundList f (key_form s x) (index_list x.key o.table.rows)) (sym same)
    (short, file.text.file)) in
    let m = marked (lists_just (λ (k : TreeView). k.pairs) g.lists) s.fields l.table.rows x.table 0 n n shape.indexes x
    l.table.marks (omega arith) saved.index refl
    (marks_at after shape limit loaded x.table s l g saved.declared there) in
    let stale : m.0.stale ≡ false = m.2.fresh.1
    (subst (λ (rs : List Row). lists_just (λ (k : TreeView). k.pairs) g.lists n (index_list x.key rs)) (sym rows)
    just) in
    ap is_fresh m.1 ∙ ap not stale
