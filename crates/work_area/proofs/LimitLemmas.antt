-- No table comes to have more records than it may.
use Rattle.std.proofs.Common.{◌≡◌, ℕ, zero, suc, ◌<◌, ◌≤◌, Bool, Option, Some, None, List, length, get_or, set, map, refl, sym, ap, ◌∙◌}
use Rattle.std.proofs.Common.{[], ◌∷◌, replicate, Result, Ok, Err, ◌↔◌, ⊎_elim, subst, arith}
use Rattle.std.specs.Prelude.{slice_get, OnOk, OnErr}
use Rattle.std.proofs.lemmas.Bool.{cases_lt}
use Rattle.std.specs.List.{All}
use Rattle.std.proofs.lemmas.List.{length-append, length-set}
use Rattle.std.proofs.lemmas.List.Elements.{All-set, All-map}
use Rattle.std.proofs.lemmas.Option.{slice_get_within, get_or_from_slice_get}
use Rattle.dbf_file.specs.Rows.{Row, blank_row}
use Rattle.dbf_file.specs.Tables.{TableState, row_widths}
use Rattle.key_lists.specs.Pairs.{Pair}
use Rattle.shape.specs.declared.whole.Shape.{Shape}
use Rattle.xvalue.specs.declared.value.Value.{Value}
use Rattle.open_table.specs.declared.opened.AppendError.{AppendError}
use Rattle.open_table.specs.declared.opened.AppendError.TheVariants.{Full}
use Rattle.open_table.specs.Open.{OpenState, closed, with_blank, place_in, replaced_at, replaced_here, remarked_at}
use Rattle.open_table.specs.Open.{remarked_here}
use Rattle.open_table.specs.Tables.{IndexedState}
use Rattle.work_area.specs.declared.uses.Use.{Use}
use Rattle.work_area.specs.Areas.{StoreState, IsStore, AreWithin, IsWithinLimit, selected_use, used_table, here}
use Rattle.work_area.specs.Areas.{with_table, with_use, with_used, with_here, changed_found, change_here, closed_here}
use Rattle.work_area.specs.Areas.{closed_at, closed_other, closed_all}
use Rattle.work_area.specs.Calls.{used_here, indexed_here}
use Rattle.work_area.specs.Making.{AreOfShape, AreNewTables}

-- no more records than there were
abbrev pub IsNoLonger : OpenState → OpenState → Type 0
IsNoLonger o p = length p.table.rows ≤ length o.table.rows

-- ---- tables in use

set_few : (rows : List Row) (r : ℕ) (row : Row) → length (set rows r row) ≤ length rows
set_few rows r row = let same = length-set rows r row in omega (arith, same)

pub replaced_no_longer : (f : ℕ) (v : Value) (o : OpenState) → IsNoLonger o (replaced_here f v o)
replaced_no_longer f v o = at (place_in (length o.table.rows) o.pointer)
  where
    at : (r : Option ℕ) → length (replaced_at o f v r).rows ≤ length o.table.rows
    at None = omega arith
    at (Some r) = set_few o.table.rows r _

pub remarked_no_longer : (marked : Bool) (o : OpenState) → IsNoLonger o (remarked_here marked o)
remarked_no_longer marked o = at (place_in (length o.table.rows) o.pointer)
  where
    at : (r : Option ℕ) → length (remarked_at o marked r).rows ≤ length o.table.rows
    at None = omega arith
    at (Some r) = set_few o.table.rows r _

-- ---- lists of tables

put_within : (limit : ℕ) (tables : List OpenState) (t : ℕ) (p : OpenState) → length p.table.rows ≤ limit
    → AreWithin limit tables → AreWithin limit (set tables t p)
put_within limit tables t p few h = All-set (λ (o : OpenState). length o.table.rows ≤ limit) tables t p few h

pub there_within : (limit : ℕ) (tables : List OpenState) (t : ℕ) (o : OpenState) → AreWithin limit tables
    → slice_get tables t ≡ Some o → length o.table.rows ≤ limit
there_within limit tables t o h e =
    let found = ap (λ (p : OpenState). length p.table.rows) (get_or_from_slice_get tables t o o e) in
    let le = h t o (slice_get_within tables t o e) in omega (arith, found, le)

closed_within : (limit : ℕ) (tables : List OpenState) → AreWithin limit tables → AreWithin limit (map closed tables)
closed_within limit tables h = All-map (λ (o : OpenState). length o.table.rows ≤ limit) closed tables h

-- ---- the invariant of stores

with_within : (tables : List OpenState) (areas : List (Option Use)) (selected limit t : ℕ) (p : OpenState)
    → IsStore tables areas selected limit → length p.table.rows ≤ limit → IsStore (set tables t p) areas selected limit
with_within tables areas selected limit t p h few = record {
  ten = h.ten;
  one = h.one;
  last = h.last;
  few = h.few;
  declared = λ a u e. (let le = h.declared a u e in let same = length-set tables t p in omega (arith, le, same));
  apart = h.apart;
  within = put_within limit tables t p few h.within;
}

-- a table in the place of one that had as many records or more
pub put_in : (tables : List OpenState) (areas : List (Option Use)) (selected limit t : ℕ) (o p : OpenState)
    → IsStore tables areas selected limit → t < length tables → o ≡ get_or tables t o → IsNoLonger o p
    → IsStore (set tables t p) areas selected limit
put_in tables areas selected limit t o p h lt there few =
    let was = h.within t o lt in
    let found = ap (λ (q : OpenState). length q.table.rows) there in
    with_within tables areas selected limit t p h (omega (arith, was, found, few))

-- the same behind a change that may be refused
pub made_no_longer : {T E : Type 0} (r : Result T E) (o p made : OpenState) → OnOk r (p ≡ made) → OnErr r (p ≡ o)
    → IsNoLonger o made → IsNoLonger o p
made_no_longer (Ok x) o p made ok err few = subst (IsNoLonger o) (sym ok) few
made_no_longer (Err e) o p made ok err few = (let same = ap (λ (q : OpenState). length q.table.rows) err in omega
    (arith, same))

-- a row more, where there was room for it
grown : {A : Type 0} (limit : ℕ) (r : Result A AppendError) (o p : OpenState) → length o.table.rows ≤ limit
    → OnOk r (p ≡ with_blank o) → OnErr r (p ≡ o) → ((r ≡ Err Full) ↔ (limit ≤ length o.table.rows))
    → length p.table.rows ≤ limit
grown limit (Ok x) o p few ok err full =
    ⊎_elim (λ lt.
    let longer = length-append o.table.rows (blank_row (row_widths o.table.structure) ∷ []) in
    let made = ap (λ (q : OpenState). length q.table.rows) ok in omega (arith, lt, longer, made))
    (λ le. absurd (let e : Ok x ≡ Err Full = full.1 le in cc)) (cases_lt (length o.table.rows) limit)
grown limit (Err e) o p few ok err full = (let same = ap (λ (q : OpenState). length q.table.rows) err in omega
    (arith, same, few))

pub grown_in : {A : Type 0} (tables : List OpenState) (areas : List (Option Use)) (selected limit t : ℕ)
    (r : Result A AppendError) (o p : OpenState) → IsStore tables areas selected limit → t < length tables
    → o ≡ get_or tables t o → OnOk r (p ≡ with_blank o) → OnErr r (p ≡ o)
    → ((r ≡ Err Full) ↔ (limit ≤ length o.table.rows)) → IsStore (set tables t p) areas selected limit
grown_in tables areas selected limit t r o p h lt there ok err full =
    let was = h.within t o lt in
    let found = ap (λ (q : OpenState). length q.table.rows) there in
    with_within tables areas selected limit t p h
    (grown limit r o p (omega (arith, was, found)) ok err full)

-- all tables closed
pub all_closed : (tables : List OpenState) (areas : List (Option Use)) (selected limit : ℕ)
    → IsStore tables areas selected limit → AreWithin limit (map closed tables)
all_closed tables areas selected limit h = closed_within limit tables h.within

none_held : (k n : ℕ) (u : Use) → get_or (replicate k None) n None ≡ Some u → ⊥
none_held zero n u e = cc
none_held (suc k) zero u e = cc
none_held (suc k) (suc n) u e = none_held k n u e

-- all areas closed, and the first selected
pub none_open : (tables : List OpenState) (limit : ℕ) → limit ≤ 1000000 → AreWithin limit tables
    → IsStore tables (replicate 10 None) 1 limit
none_open tables limit few within = record {
  ten = refl;
  one = omega arith;
  last = omega arith;
  few = few;
  declared = λ a u e. absurd (none_held 10 a u e);
  apart = λ a b u v e f same. absurd (none_held 10 a u e);
  within = within;
}

there_is : {X : Type 0} (xs : List X) (n : ℕ) → n < length xs → (x : X) × (slice_get xs n ≡ Some x)
there_is [] n lt = absurd (omega (arith, lt))
there_is (x ∷ xs) zero lt = (x, refl)
there_is (x ∷ xs) (suc n) lt = there_is xs n (omega (arith, lt))

-- tables that were handed to a new store
pub new_within : (shape : Shape) (lists : ℕ → List Pair → Type 0) (tables : List TableState) (limit : ℕ)
    (made : List OpenState) → AreOfShape shape limit tables → AreNewTables shape lists shape.indexes tables made
    → AreWithin limit made
new_within shape lists tables limit made handed is = λ k e lt.
    let count = is.count in
    let declared = handed.count in
    let within : k < length tables = omega (arith, count, lt) in
    let t = there_is tables k within in
    let d = there_is shape.tables k (omega (arith, declared, within)) in
    let rows = ap (λ (rs : List Row). length rs) (is.each k t.0 e d.0 within d.1).rows in
    let few = handed.few k t.0 within in omega (arith, rows, few)

-- ---- stores

module _ (limit : ℕ) where
  at_table : (s : StoreState) (t : ℕ) (p : OpenState) → length p.table.rows ≤ limit → IsWithinLimit limit s
      → IsWithinLimit limit (with_table s t p)
  at_table s t p few h = record { limit_is = h.limit_is; within = put_within limit s.tables t p few h.within }

  at_used : (s : StoreState) (u : Option Use) (p : OpenState) → length p.table.rows ≤ limit → IsWithinLimit limit s
      → IsWithinLimit limit (with_used u p s)
  at_used s None p few h = h
  at_used s (Some u) p few h = at_table s u.table p few h

  -- the selected area's table changed
  pub at_here : (s : StoreState) (p : OpenState) → length p.table.rows ≤ limit → IsWithinLimit limit s
      → IsWithinLimit limit (with_here p s)
  at_here s p few h = at_used s (selected_use s) p few h

  used_few : (s : StoreState) (u : Option Use) (o : OpenState) → IsWithinLimit limit s → used_table s u ≡ Some o
      → length o.table.rows ≤ limit
  used_few s None o h e = absurd (cc)
  used_few s (Some u) o h e = there_within limit s.tables u.table o h.within e

  pub here_few : (s : StoreState) (o : OpenState) → IsWithinLimit limit s → here s ≡ Some o
      → length o.table.rows ≤ limit
  here_few s o h e = used_few s (selected_use s) o h e

  by_found : (s : StoreState) (f : OpenState → OpenState) (found : Option OpenState) → ((o : OpenState)
      → IsNoLonger o (f o)) → here s ≡ found → IsWithinLimit limit s → IsWithinLimit limit (changed_found f found s)
  by_found s f None few at h = h
  by_found s f (Some o) few at h =
      let was = here_few s o h at in let le = few o in at_here s (f o) (omega (arith, was, le)) h

  pub by_change : (s : StoreState) (f : OpenState → OpenState) → ((o : OpenState) → IsNoLonger o (f o))
      → IsWithinLimit limit s → IsWithinLimit limit (change_here f s)
  by_change s f few h = by_found s f (here s) few refl h

  -- what areas hold, and which is selected, is nothing to it
  pub same_tables : (s s' : StoreState) → s'.limit ≡ s.limit → s'.tables ≡ s.tables → IsWithinLimit limit s
      → IsWithinLimit limit s'
  same_tables s s' limits tables h = record {
    limit_is = limits ∙ h.limit_is;
    within = subst (AreWithin limit) (sym tables) h.within;
  }

  pub by_close : (s : StoreState) → IsWithinLimit limit s → IsWithinLimit limit (closed_here s)
  by_close s h =
      same_tables (change_here closed s) (closed_here s) refl refl (by_change s closed (λ o. omega arith) h)

  pub by_close_all : (s : StoreState) → IsWithinLimit limit s → IsWithinLimit limit (closed_all s)
  by_close_all s h = record { limit_is = h.limit_is; within = closed_within limit s.tables h.within }

  pub by_index : (s : StoreState) (list : ℕ) (p : OpenState) → length p.table.rows ≤ limit → IsWithinLimit limit s
      → IsWithinLimit limit (indexed_here list p s)
  by_index s list p few h = same_tables (with_here p s) (indexed_here list p s) refl refl (at_here s p few h)

  pub by_open : (s : StoreState) (t list : ℕ) (p : OpenState) → length p.table.rows ≤ limit → IsWithinLimit limit s
      → IsWithinLimit limit (used_here t list p s)
  by_open s t list p few h =
      same_tables (with_table (closed_here s) t p) (used_here t list p s) refl refl
      (at_table (closed_here s) t p few (by_close s h))
