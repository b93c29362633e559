-- What becomes of the store where the selected area's table changes.
use Rattle.std.proofs.Common.{◌≡◌, ℕ, ◌<◌, Bool, true, false, Option, Some, None, Result, Ok, Err, List, [], ◌∷◌, zero}
use Rattle.std.proofs.Common.{suc, length, get_or, set, cond, ◌==◌, refl, sym, ap, ◌∙◌, subst}
use Rattle.std.specs.Prelude.{slice_get, IfSome, IsSome}
use Rattle.std.proofs.lemmas.Option.{slice_get_read}
use Rattle.dbf_file.specs.Rows.{Row}
use Rattle.row_moves.specs.declared.landed.Spent.{Spent}
use Rattle.row_moves.specs.Moves.{Landing}
use Rattle.open_table.specs.declared.refused.Refused.{Refused}
use Rattle.open_table.specs.Tried.{TriedRow, ShowsRows}
use Rattle.open_table.specs.Open.{OpenState, IsMoved, IsEnded, landed, opened}
use Rattle.work_area.specs.declared.uses.Use.{Use}
use Rattle.work_area.specs.Areas.{StoreState, selected_use, used_table, table_at, here, with_table, with_used}
use Rattle.work_area.specs.Areas.{with_here, with_use, closed_other, closed_at}
use Rattle.work_area.specs.Calls.{MovesHere, EndsHere, put_landed, with_list, indexed_here, used_here}
use Rattle.work_area.proofs.AreaLemmas.{let_go}

pub put_same : (tables : List OpenState) (t : ℕ) (o : OpenState) → slice_get tables t ≡ Some o → set tables t o ≡ tables
put_same [] t o e = refl
put_same (x ∷ tables) zero o e = (let same : o ≡ x = cc in ap (λ y. y ∷ tables) same)
put_same (x ∷ tables) (suc t) o e = ap (λ ys. x ∷ ys) (put_same tables t o e)

pub used_at : (s : StoreState) (u : Option Use) (t : ℕ) (o : OpenState) → IsSome (used_table s u)
    → IfSome u (λ v. v.table ≡ t) → with_used u o s ≡ with_table s t o
used_at s None t o some e = absurd (cc)
used_at s (Some v) t o some e = ap (λ n. with_table s n o) e

-- the selected area's table stands at a place, and is this
pub record IsHere (s : StoreState) (t : ℕ) (o : OpenState) : Type 0 where
  pub open_is : IsSome (here s)
  pub place : IfSome (selected_use s) (λ u. u.table ≡ t)
  pub table : here s ≡ table_at s t
  pub item : slice_get s.tables t ≡ Some o

pub here_is : (s : StoreState) (t : ℕ) (o : OpenState) → IsHere s t o → here s ≡ Some o
here_is s t o h = h.table ∙ h.item

pub put_here : (s : StoreState) (t : ℕ) (o fresh : OpenState) → IsHere s t o → with_here fresh s ≡ with_table s t fresh
put_here s t o fresh h = used_at s (selected_use s) t fresh h.open_is h.place

-- what was there put back
pub put_back : (s : StoreState) (t : ℕ) (o : OpenState) → IsHere s t o → with_here o s ≡ s
put_back s t o h = put_here s t o o h ∙ ap
    (λ ts. record { tables = ts; areas = s.areas; selected = s.selected; limit = s.limit })
    (put_same s.tables t o h.item)

pub from_here : (s : StoreState) (t : ℕ) (o : OpenState) (P : OpenState → Type 0) → IsHere s t o → P o
    → IfSome (here s) P
from_here s t o P h p = subst (λ x. IfSome x P) (sym (here_is s t o h)) p

moved_by : (old new : StoreState) (o fresh : OpenState) (landing : Landing) (budget : ℕ) (r : Result ℕ Spent)
    → with_here o old ≡ old → new ≡ with_here fresh old → IsMoved (landed o) o fresh landing budget r
    → IsMoved (put_landed with_here o old) old new landing budget r
moved_by old new o fresh landing budget (Ok cost) back e h = (h.0, h.1, e ∙ ap (λ p. with_here p old) h.2)
moved_by old new o fresh landing budget (Err spent) back e h = (h.0, e ∙ ap (λ p. with_here p old) h.1 ∙ back)

-- a move of the table is one of the store
pub moved : {F : Type 0} (answers : F → TriedRow → Bool → Type 0) (see : F) (landing : OpenState → (ℕ → Bool) → Landing)
    (old new : StoreState) (t : ℕ) (o fresh : OpenState) (budget : ℕ) (r : Result ℕ Spent)
    → IsHere old t o → new ≡ with_table old t fresh
    → ((shown : ℕ → Bool) → ShowsRows answers see o.table.structure o.table.rows shown
    → IsMoved (landed o) o fresh (landing o shown) budget r)
    → MovesHere answers see landing old new budget r
moved answers see landing old new t o fresh budget r h e said = from_here old t o _ h
    (λ shown sees. moved_by old new o fresh (landing o shown) budget r (put_back old t o h)
    (e ∙ sym (put_here old t o fresh h)) (said shown sees))

pub ended_by : (old new : StoreState) (o changed fresh : OpenState) (landing : Landing) (budget : ℕ)
    (r : Result ℕ Refused) → with_here o old ≡ old → new ≡ with_here fresh old
    → IsEnded (landed changed) o fresh landing budget r → IsEnded (put_landed with_here changed old) old new landing
    budget r
ended_by old new o changed fresh landing budget (Ok cost) back e h = (h.0, h.1, e ∙ ap (λ p. with_here p old) h.2)
ended_by old new o changed fresh landing budget (Err refused) back e h = (h.0, e ∙ ap (λ p. with_here p old) h.1 ∙ back)

pub ended : {F : Type 0} (answers : F → TriedRow → Bool → Type 0) (see : F) (rows : OpenState → List Row)
    (change : OpenState → OpenState) (landing : OpenState → (ℕ → Bool) → Landing) (old new : StoreState) (t : ℕ)
    (o fresh : OpenState) (budget : ℕ) (r : Result ℕ Refused)
    → IsHere old t o → new ≡ with_table old t fresh
    → ((shown : ℕ → Bool) → ShowsRows answers see o.table.structure (rows o) shown
    → IsEnded (landed (change o)) o fresh (landing o shown) budget r)
    → EndsHere answers see rows change landing old new budget r
ended answers see rows change landing old new t o fresh budget r h e said = from_here old t o _ h
    (λ shown sees. ended_by old new o (change o) fresh (landing o shown) budget r (put_back old t o h)
    (e ∙ sym (put_here old t o fresh h)) (said shown sees))

pub stands : (inside s : StoreState) (t : ℕ) (o : OpenState) → inside ≡ s → IsSome (here s)
    → IfSome (selected_use s) (λ u. u.table ≡ t) → here s ≡ table_at s t → t < length s.tables
    → o ≡ get_or inside.tables t o → IsHere s t o
stands inside s t o view some place table lt e = record {
  open_is = some;
  place = place;
  table = table;
  item = slice_get_read s.tables (length s.tables) t o refl lt
      (subst (λ (x : StoreState). o ≡ get_or x.tables t o) view e);
}

-- ---- a change of the table, and then of what its area holds

pub not_ended : (put : OpenState → StoreState → StoreState) (old new : StoreState) (o changed fresh : OpenState)
    (landing : Landing) (budget : ℕ) (refused : Refused) → with_here o old ≡ old → new ≡ with_here fresh old
    → IsEnded (landed changed) o fresh landing budget (Err refused)
    → IsEnded (put_landed put changed old) old new landing budget (Err refused)
not_ended put old new o changed fresh landing budget refused back e h = (h.0, e ∙ ap (λ p. with_here p old) h.1 ∙ back)

pub indexed : (list number : ℕ) (old mid new : StoreState) (t : ℕ) (o fresh : OpenState) (landing : Landing)
    (budget cost : ℕ) → IsHere old t o → mid ≡ with_table old t fresh
    → new ≡ with_use mid mid.selected (with_list list (selected_use mid))
    → IsEnded (landed (opened (number ∷ []) o)) o fresh landing budget (Ok cost)
    → IsEnded (put_landed (indexed_here list) (opened (number ∷ []) o) old) old new landing budget (Ok cost)
indexed list number old mid new t o fresh landing budget cost here_is e f h = (
  h.0,
  h.1,
  f ∙ ap (λ (s : StoreState). with_use s s.selected (with_list list (selected_use s))) e
      ∙ ap (λ s. with_use s old.selected (with_list list (selected_use old)))
      (sym (put_here old t o fresh here_is) ∙ ap (λ p. with_here p old) h.2),
)

-- a declared table opened in the selected area
pub there : (inside s : StoreState) (t : ℕ) (o : OpenState) → inside ≡ s → t < length s.tables
    → o ≡ get_or inside.tables t o → slice_get s.tables t ≡ Some o
there inside s t o view lt e =
    slice_get_read s.tables (length s.tables) t o refl lt (subst (λ (x : StoreState). o ≡ get_or x.tables t o) view e)

pub from_there : (s : StoreState) (t : ℕ) (o : OpenState) (P : OpenState → Type 0) → slice_get s.tables t ≡ Some o → P o
    → IfSome (table_at s t) P
from_there s t o P e p = subst (λ x. IfSome x P) (sym e) p

at_selected : (t : ℕ) (found : Option OpenState) (s : StoreState) → (closed_at t found s).selected ≡ s.selected
at_selected t None s = refl
at_selected t (Some o) s = refl

other_selected : (t : ℕ) (x : Option Use) (s : StoreState) → (closed_other t x s).selected ≡ s.selected
other_selected t None s = refl
other_selected t (Some u) s = elim (u.table == t) as
    (λ b. (cond b s (closed_at u.table (table_at s u.table) s)).selected
    ≡ s.selected) [ true ↦ refl | false ↦ at_selected u.table (table_at s u.table) s ]

pub used : (t list : ℕ) (indexes : List ℕ) (old mid gone new : StoreState) (o fresh : OpenState) (landing : Landing)
    (budget cost : ℕ) → mid ≡ with_table old t fresh → gone ≡ closed_other t (selected_use mid) mid
    → new ≡ with_use gone gone.selected (Some (record { table = t; list = list; filter = 0 }))
    → IsEnded (landed (opened indexes o)) o fresh landing budget (Ok cost)
    → IsEnded (put_landed (used_here t list) (opened indexes o) old) old new landing budget (Ok cost)
used t list indexes old mid gone new o fresh landing budget cost e f k h =
    let held : Use = record { table = t; list = list; filter = 0 } in
    let mid_is : gone ≡ closed_other t (selected_use old) (with_table old t fresh) =
    f ∙ ap (λ (s : StoreState). closed_other t (selected_use s) s) e in
    let selected : gone.selected ≡ old.selected =
    ap (λ (s : StoreState). s.selected) mid_is ∙ other_selected t (selected_use old) (with_table old t fresh) in (
      h.0,
      h.1,
      k ∙ ap (λ n. with_use gone n (Some held)) selected ∙ ap (λ s. with_use s old.selected (Some held)) mid_is
          ∙ let_go old t fresh held
          ∙ ap (λ p. used_here t list p old) h.2,
    )

pub not_used : (put : OpenState → StoreState → StoreState) (t : ℕ) (old new : StoreState) (o changed fresh : OpenState)
    (landing : Landing) (budget : ℕ) (refused : Refused) → slice_get old.tables t ≡ Some o
    → new ≡ with_table old t fresh → IsEnded (landed changed) o fresh landing budget (Err refused)
    → IsEnded (put_landed put changed old) old new landing budget (Err refused)
not_used put t old new o changed fresh landing budget refused is e h = (
  h.0,
  e ∙ ap (λ p. with_table old t p) h.1 ∙ ap
      (λ ts. record { tables = ts; areas = old.areas; selected = old.selected; limit = old.limit })
      (put_same old.tables t o is),
)
