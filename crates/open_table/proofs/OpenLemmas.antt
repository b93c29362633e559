-- Open indexes stay open.
use Rattle.std.proofs.Common.{◌≡◌, ℕ, ◌<◌, ◌≤◌, Bool, true, false, not, ◌||◌, ◌&&◌, ◌==◌, Option, Some, List, [], ◌∷◌}
use Rattle.std.proofs.Common.{length, get_or, map, cond, refl, sym, ap, ◌∙◌, subst, Result, Ok, Err, is_ok, is_some, arith}
use Rattle.std.specs.Prelude.{OnOk, OnErr}
use Rattle.dbf_file.specs.Rows.{Row, unmarked}
use Rattle.open_table.specs.Tables.{IndexedState}
use Rattle.row_moves.specs.declared.landed.Landed.{Landed}
use Rattle.row_moves.specs.Moves.{Landing}
use Rattle.open_table.specs.declared.refused.Refused.{Refused}
use Rattle.open_table.specs.Open.{OpenState, IsOpen, IsEnded, landed}
use Rattle.std.specs.List.{All}
use Rattle.std.proofs.lemmas.Bool.{eqb-true, eq-eqb, and_right}
use Rattle.std.proofs.lemmas.List.Folds.{list_any_at}
use Rattle.open_table.specs.Marks.{IndexMark, is_among, mark_at, is_fresh, with_stale, parts_in}
use Rattle.open_table.specs.Marks.{left_stale, only_fresh, made_fresh}
use Rattle.std.proofs.lemmas.List.Sums.{length-filter, count_by-le-length}

abbrev pub used : List ℕ → ℕ → Option ℕ → Bool → Bool → IndexedState → OpenState
used list order pointer bof found table =
    record { table = table; list = list; order = order; pointer = pointer; bof = bof; found = found }

-- each of some numbers is among them
pub among : (numbers : List ℕ) (k d : ℕ) → k < length numbers → is_among numbers (get_or numbers k d) ≡ true
among numbers k d lt = list_any_at (λ other. other == get_or numbers k d) numbers k d lt
    (eq-eqb (get_or numbers k d) (get_or numbers k d) refl)

fresh_step : (b stale other : Bool) (m : IndexMark) (rest others : Option IndexMark)
    → is_fresh (cond b (Some (with_stale m stale)) rest) ≡ true → (b ≡ true → stale ≡ false → other ≡ false)
    → (is_fresh rest ≡ true → is_fresh others ≡ true) → is_fresh (cond b (Some (with_stale m other)) others) ≡ true
fresh_step true true other m rest others h step more = cc
fresh_step true false other m rest others h step more = ap not (step refl refl)
fresh_step false stale other m rest others h step more = more h

-- an index that isn't stale stays so where a change leaves its mark
pub still_fresh : (f : IndexMark → Bool) (marks : List IndexMark) (n : ℕ)
    → ((m : IndexMark) → m.number ≡ n → m.stale ≡ false → f m ≡ false) → is_fresh (mark_at marks n) ≡ true
    → is_fresh (mark_at (map (λ m. with_stale m (f m)) marks) n) ≡ true
still_fresh f [] n step h = h
still_fresh f (m ∷ marks) n step h = fresh_step (m.number == n) m.stale (f m) m (mark_at marks n)
    (mark_at (map (λ m. with_stale m (f m)) marks) n) h (λ e s. step m (eqb-true m.number n e) s)
    (still_fresh f marks n step)

pub fresh_left : (numbers : List ℕ) (marks : List IndexMark) → All (λ n. is_fresh (mark_at marks n) ≡ true) numbers
    → All (λ n. is_fresh (mark_at (left_stale numbers marks) n) ≡ true) numbers
fresh_left numbers marks all k d lt =
    let n = get_or numbers k d in
    let is_in : is_among numbers n ≡ true = among numbers k d lt in
    still_fresh (λ m. m.stale || not (is_among numbers m.number)) marks n
    (λ m e s. ap (λ b. b || not (is_among numbers m.number)) s ∙ ap (λ x. not (is_among numbers x)) e ∙ ap not is_in)
    (all k d lt)

pub open_left : (t u : IndexedState) (list numbers : List ℕ) (order : ℕ) → numbers ≡ list → IsOpen t list order
    → u.marks ≡ left_stale numbers t.marks → IsOpen u list order
open_left t u list numbers order same is_open e = record {
  few = is_open.few;
  fresh = subst (λ ms. All (λ n. is_fresh (mark_at ms n) ≡ true) list) (sym (e ∙ ap (λ ns. left_stale ns t.marks) same))
      (fresh_left list t.marks is_open.fresh);
  order_within = is_open.order_within;
}

pub either : {T E : Type 0} (r : Result T E) (P Q C : Type 0) → OnOk r P → OnErr r Q → (P → C) → (Q → C) → C
either (Ok x) P Q C p q f g = f p
either (Err e) P Q C p q f g = g q

pub open_packed : (t u : IndexedState) (list numbers : List ℕ) (order : ℕ) → numbers ≡ list → IsOpen t list order
    → u.marks ≡ only_fresh numbers t.marks → IsOpen u list order
open_packed t u list numbers order same is_open e = record {
  few = is_open.few;
  fresh = subst (λ ms. All (λ n. is_fresh (mark_at ms n) ≡ true) list) (sym (e ∙ ap (λ ns. only_fresh ns t.marks) same))
      (λ k d lt.
      let n = get_or list k d in
      still_fresh (λ m. not (is_among list m.number)) t.marks n
      (λ m at s. ap (λ x. not (is_among list x)) at ∙ ap not (among list k d lt)) (is_open.fresh k d lt));
  order_within = is_open.order_within;
}

pub open_remade : (t u : IndexedState) (list numbers : List ℕ) (order : ℕ) → IsOpen t list order
    → u.marks ≡ made_fresh numbers t.marks → IsOpen u list order
open_remade t u list numbers order is_open e = record {
  few = is_open.few;
  fresh = subst (λ ms. All (λ n. is_fresh (mark_at ms n) ≡ true) list) (sym e)
      (λ k d lt. still_fresh (λ m. m.stale && not (is_among numbers m.number)) t.marks (get_or list k d)
      (λ m at s. ap (λ b. b && not (is_among numbers m.number)) s) (is_open.fresh k d lt));
  order_within = is_open.order_within;
}

-- a change of the table, and the move at its end
pub ended_by : (ended : Result Landed Refused) (result : Result ℕ Refused) (old v changed new : OpenState)
    (landing : Landing) (budget : ℕ) → OnOk ended (v ≡ changed) → OnErr ended (v ≡ old) → is_ok result ≡ is_ok ended
    → IsEnded (landed v) v new landing budget result → IsEnded (landed changed) old new landing budget result
ended_by (Ok x) (Ok cost) old v changed new landing budget e f s h = (h.0, h.1, h.2 ∙ ap (λ a. landed a landing) e)
ended_by (Ok x) (Err r) old v changed new landing budget e f s h = cc
ended_by (Err x) (Ok cost) old v changed new landing budget e f s h = cc
ended_by (Err x) (Err r) old v changed new landing budget e f s h = (h.0, h.1 ∙ f)

-- no more rows than there were, refused or not
pub no_more : {T E : Type 0} (r : Result T E) (old new made : IndexedState) → OnOk r (new ≡ made) → OnErr r (new ≡ old)
    → length made.rows ≤ length old.rows → length new.rows ≤ length old.rows
no_more r old new made ok err le =
    let few : IndexedState → Type 0 = λ t. length t.rows ≤ length old.rows in
    either r (new ≡ made) (new ≡ old) (few new) ok err (λ e. subst few (sym e) le)
    (λ e. subst few (sym e) (let le : length old.rows ≤ length old.rows = omega arith in le))

pub fewer_unmarked : (rows : List Row) → length (unmarked rows) ≤ length rows
fewer_unmarked rows = let unmarked_is = length-filter (λ (row : Row). not row.marked) rows in
    let le = count_by-le-length (λ (row : Row). not row.marked) rows in omega (arith, unmarked_is, le)

pub on_ok : {T E : Type 0} (r : Result T E) (P Q : Type 0) → (P → Q) → OnOk r P → OnOk r Q
on_ok (Ok x) P Q f p = f p
on_ok (Err e) P Q f p = tt

pub on_err : {T E : Type 0} (r : Result T E) (P Q : Type 0) → (P → Q) → OnErr r P → OnErr r Q
on_err (Ok x) P Q f p = tt
on_err (Err e) P Q f p = f p

made_step : (b other : Bool) (m : IndexMark) (rest others : Option IndexMark) → is_some (cond b (Some m) rest) ≡ true
    → (b ≡ true → other ≡ false) → (is_some rest ≡ true → is_fresh others ≡ true)
    → is_fresh (cond b (Some (with_stale m other)) others) ≡ true
made_step true other m rest others h step more = ap not (step refl)
made_step false other m rest others h step more = more h

made_one : (f : IndexMark → Bool) (marks : List IndexMark) (n : ℕ) → ((m : IndexMark) → m.number ≡ n → f m ≡ false)
    → is_some (mark_at marks n) ≡ true → is_fresh (mark_at (map (λ m. with_stale m (f m)) marks) n) ≡ true
made_one f [] n step h = h
made_one f (m ∷ marks) n step h = made_step (m.number == n) (f m) m (mark_at marks n)
    (mark_at (map (λ m. with_stale m (f m)) marks) n) h (λ e. step m (eqb-true m.number n e)) (made_one f marks n step)

-- indexes that were made anew are open
pub open_made : (t u : IndexedState) (list : List ℕ) (order : ℕ) → length list ≤ 7 → order ≤ length list
    → All (λ n. is_some (mark_at t.marks n) ≡ true) list → u.marks ≡ made_fresh list t.marks → IsOpen u list order
open_made t u list order few within declared e = record {
  few = few;
  fresh = subst (λ ms. All (λ n. is_fresh (mark_at ms n) ≡ true) list) (sym e)
      (λ k d lt. made_one (λ m. m.stale && not (is_among list m.number)) t.marks (get_or list k d)
      (λ m at. ap (λ x. m.stale && not (is_among list x)) at ∙ ap (λ b. m.stale && not b) (among list k d lt)
      ∙ and_right m.stale false refl) (declared k d lt));
  order_within = within;
}
