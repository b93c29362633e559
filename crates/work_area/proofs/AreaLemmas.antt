-- What becomes of the areas where one of them is closed, or holds another table.
use Rattle.std.proofs.Common.{◌≡◌, ◌≢◌, ℕ, ◌-◌, ◌<◌, ◌≤◌, Bool, true, false, ◌==◌, Option, Some, None, List, [], ◌∷◌}
use Rattle.std.proofs.Common.{zero, suc, length, get_or, set, map, cond, refl, sym, ap, ◌∙◌, arith, ◌⊎◌, inl, inr}
use Rattle.std.proofs.Common.{⊎_elim}
use Rattle.std.specs.List.{list_any}
use Rattle.std.specs.Prelude.{slice_get}
use Rattle.std.proofs.lemmas.Bool.{eqb-true, eq-eqb, false≢true, cases_lt}
use Rattle.std.proofs.lemmas.List.{get_or-set_same, get_or-set_other, length-set}
use Rattle.std.proofs.lemmas.List.Folds.{list_any_at}
use Rattle.std.proofs.Math.ListN.{get_or-eq_default}
use Rattle.open_table.specs.Open.{OpenState, closed}
use Rattle.work_area.specs.declared.uses.Use.{Use}
use Rattle.work_area.specs.Areas.{IsStore, holds, StoreState, selected_use, used_table, table_at, with_table, with_use}
use Rattle.work_area.specs.Areas.{with_used, changed_found, closed_at, closed_other, closed_here}

-- what an area holds where one area got something else
pub at_set : (areas : List (Option Use)) (p a : ℕ) (x : Option Use) (u : Use) → p < length areas
    → get_or (set areas p x) a None ≡ Some u → ((a ≡ p) × (x ≡ Some u)) ⊎ ((a ≢ p) × (get_or areas a None ≡ Some u))
at_set areas p a x u lt e =
    elim (a == p) as (λ b. a == p ≡ b → ((a ≡ p) × (x ≡ Some u)) ⊎ ((a ≢ p) × (get_or areas a None ≡ Some u))) [
      | true ↦ λ f. (let same : a ≡ p = eqb-true a p f in inl
          (same, sym (get_or-set_same areas p x None lt) ∙ ap (λ k. get_or (set areas p x) k None) (sym same) ∙ e))
      | false ↦ λ f. (let differ : a ≢ p = λ same. false≢true (sym f ∙ eq-eqb a p same) in inr
          (differ, sym (get_or-set_other areas p a x None differ) ∙ e))
    ] refl

held_at : (areas : List (Option Use)) (a t : ℕ) (u : Use) → get_or areas a None ≡ Some u → u.table ≡ t
    → list_any (holds t) areas ≡ true
held_at areas a t u e same =
    let within : a < length areas = ⊎_elim (λ lt. lt)
    (λ le. absurd (let f : None ≡ Some u = sym (get_or-eq_default areas None le) ∙ e in cc))
    (cases_lt a (length areas)) in
    list_any_at (holds t) areas a None within (ap (holds t) e ∙ eq-eqb u.table t same)

-- an area that holds a table which no other area holds
pub held_sound : (tables : List OpenState) (areas : List (Option Use)) (selected limit : ℕ) (held : Use)
    → held.table < length tables → list_any (holds held.table)
    (set areas (selected - 1) None) ≡ false → IsStore tables areas selected limit
    → IsStore tables (set areas (selected - 1) (Some held)) selected limit
held_sound tables areas selected limit held lt elsewhere h =
    let p = selected - 1 in
    let within : p < length areas = omega (arith, h.ten, h.one, h.last) in
    let other : (a : ℕ) (u : Use) → a ≢ p → get_or areas a None ≡ Some u → u.table ≡ held.table → ⊥ =
    λ a u differ e same. false≢true (sym elsewhere ∙ held_at (set areas p None) a held.table u
    (get_or-set_other areas p a None None differ ∙ e) same) in
    record {
      ten = length-set areas p (Some held) ∙ h.ten;
      one = h.one;
      last = h.last;
      few = h.few;
      declared = λ a u e. elim (at_set areas p a (Some held) u within e) as (λ _. u.table < length tables) [
        | inl f ↦ (let same : held ≡ u = (let g : Some held ≡ Some u = f.1 in cc) in let e2 = ap (λ (w : Use). w.table)
            same in omega arith)
        | inr f ↦ h.declared a u f.1
      ];
      apart = λ a b u v e f same. elim (at_set areas p a (Some held) u within e) as (λ _. a ≡ b) [
        | inl k ↦ elim (at_set areas p b (Some held) v within f) as (λ _. a ≡ b) [
          | inl l ↦ k.0 ∙ sym l.0
          | inr l ↦ absurd (let is : held ≡ u = (let g : Some held ≡ Some u = k.1 in cc) in other b v l.0 l.1
              (sym same ∙ ap (λ (w : Use). w.table) (sym is)))
        ]
        | inr k ↦ elim (at_set areas p b (Some held) v within f) as (λ _. a ≡ b) [
          | inl l ↦ absurd (let is : held ≡ v = (let g : Some held ≡ Some v = l.1 in cc) in other a u k.0 k.1
              (same ∙ ap (λ (w : Use). w.table) (sym is)))
          | inr l ↦ h.apart a b u v k.1 l.1 same
        ]
      ];
      within = h.within;
    }

-- ---- a table opened in the place of another

set_twice : {X : Type 0} (xs : List X) (p : ℕ) (x y : X) → set (set xs p x) p y ≡ set xs p y
set_twice [] p x y = refl
set_twice (z ∷ xs) zero x y = refl
set_twice (z ∷ xs) (suc p) x y = ap (λ zs. z ∷ zs) (set_twice xs p x y)

set_both : {X : Type 0} (xs : List X) (p q : ℕ) (x y : X) → q ≢ p → set (set xs p x) q y ≡ set (set xs q y) p x
set_both [] p q x y differ = refl
set_both (z ∷ xs) zero zero x y differ = absurd (differ refl)
set_both (z ∷ xs) zero (suc q) x y differ = refl
set_both (z ∷ xs) (suc p) zero x y differ = refl
set_both (z ∷ xs) (suc p) (suc q) x y differ = ap (λ zs. z ∷ zs) (set_both xs p q x y (λ e. differ (ap suc e)))

pub get_set_other : {X : Type 0} (xs : List X) (p q : ℕ) (x : X) → q ≢ p → slice_get (set xs p x) q ≡ slice_get xs q
get_set_other [] p q x differ = refl
get_set_other (z ∷ xs) zero zero x differ = absurd (differ refl)
get_set_other (z ∷ xs) zero (suc q) x differ = refl
get_set_other (z ∷ xs) (suc p) zero x differ = refl
get_set_other (z ∷ xs) (suc p) (suc q) x differ = get_set_other xs p q x (λ e. differ (ap suc e))

abbrev pub put_closed : Option Use → Option OpenState → StoreState → StoreState
put_closed x None s = s
put_closed x (Some o) s = with_used x (closed o) s

pub put_closed_here : (found : Option OpenState) (s : StoreState) → changed_found closed found s
    ≡ put_closed (selected_use s) found s
put_closed_here None s = refl
put_closed_here (Some o) s = refl

-- the same areas, and tables that are equal
same_store : (s : StoreState) (tables tables' : List OpenState) (held : Use) → tables' ≡ tables
    → with_use (record { tables = tables'; areas = s.areas; selected = s.selected; limit = s.limit }) s.selected
    (Some held) ≡ with_use
    (record { tables = tables; areas = set s.areas (s.selected - 1) None; selected = s.selected; limit = s.limit })
    s.selected (Some held)
same_store s tables tables' held e =
    (let back : set s.areas (s.selected - 1) (Some held) ≡ set (set s.areas (s.selected - 1) None) (s.selected - 1)
    (Some held) = sym (set_twice s.areas (s.selected - 1) None (Some held)) in λ i.
    record { tables = e i; areas = back i; selected = s.selected; limit = s.limit })

-- the table of an area that held another, or this one, or none
let_go_at : (s : StoreState) (u : Use) (found : Option OpenState) (b : Bool) (t : ℕ) (fresh : OpenState) (held : Use)
    → slice_get s.tables u.table ≡ found → (u.table == t) ≡ b
    → with_use (cond b (with_table s t fresh)
    (closed_at u.table (table_at (with_table s t fresh) u.table) (with_table s t fresh))) s.selected (Some held)
    ≡ with_use (with_table (with_use (put_closed (Some u) found s) s.selected None) t fresh) s.selected (Some held)
let_go_at s u None true t fresh held there same = same_store s (set s.tables t fresh) (set s.tables t fresh) held refl
let_go_at s u (Some o) true t fresh held there same =
    same_store s (set (set s.tables u.table (closed o)) t fresh) (set s.tables t fresh) held
    (sym (ap (λ k. set (set s.tables k (closed o)) t fresh) (eqb-true u.table t same)
    ∙ set_twice s.tables t (closed o) fresh))
let_go_at s u found false t fresh held there same =
    let differ : u.table ≢ t = λ e. false≢true (sym same ∙ eq-eqb u.table t e) in
    let other : table_at (with_table s t fresh) u.table ≡ found =
    get_set_other s.tables t u.table fresh differ ∙ there in
    ap (λ o. with_use (closed_at u.table o (with_table s t fresh)) s.selected (Some held)) other
    ∙ (elim found as (λ f. with_use (closed_at u.table f (with_table s t fresh)) s.selected (Some held)
    ≡ with_use (with_table (with_use (put_closed (Some u) f s) s.selected None) t fresh) s.selected (Some held)) [
      | None ↦ same_store s (set s.tables t fresh) (set s.tables t fresh) held refl
      | Some o ↦ same_store s (set (set s.tables u.table (closed o)) t fresh)
          (set (set s.tables t fresh) u.table (closed o)) held (set_both s.tables t u.table fresh (closed o) differ)
    ])

let_go_in : (s : StoreState) (x : Option Use) (t : ℕ) (fresh : OpenState) (held : Use)
    → with_use (closed_other t x (with_table s t fresh)) s.selected (Some held)
    ≡ with_use (with_table (with_use (put_closed x (used_table s x) s) s.selected None) t fresh) s.selected (Some held)
let_go_in s None t fresh held = same_store s (set s.tables t fresh) (set s.tables t fresh) held refl
let_go_in s (Some u) t fresh held = let_go_at s u (slice_get s.tables u.table) (u.table == t) t fresh held refl refl

pub let_go : (s : StoreState) (t : ℕ) (fresh : OpenState) (held : Use)
    → with_use (closed_other t (selected_use s) (with_table s t fresh)) s.selected (Some held)
    ≡ with_use (with_table (closed_here s) t fresh) s.selected (Some held)
let_go s t fresh held = let_go_in s (selected_use s) t fresh held
    ∙ sym (ap (λ x. with_use (with_table (with_use x s.selected None) t fresh) s.selected (Some held))
    (put_closed_here (used_table s (selected_use s)) s))

-- ---- tables taken out of use one by one

pub closed_front : ℕ → List OpenState → List OpenState
closed_front zero tables = tables
closed_front (suc n) [] = []
closed_front (suc n) (o ∷ tables) = closed o ∷ closed_front n tables

pub front_none : (tables : List OpenState) → closed_front 0 tables ≡ tables
unfolding closed_front
front_none tables = refl

pub front_length : (n : ℕ) (tables : List OpenState) → length (closed_front n tables) ≡ length tables
unfolding closed_front
front_length zero tables = refl
front_length (suc n) [] = refl
front_length (suc n) (o ∷ tables) = ap suc (front_length n tables)

pub front_more : (n : ℕ) (tables : List OpenState) (o : OpenState) → n < length tables
    → o ≡ get_or (closed_front n tables) n o → set (closed_front n tables) n (closed o) ≡ closed_front (suc n) tables
unfolding closed_front
front_more n [] o lt e = absurd (omega arith)
front_more zero (x ∷ tables) o lt e = ap (λ y. closed y ∷ tables) e
front_more (suc n) (x ∷ tables) o lt e = ap (λ ys. closed x ∷ ys) (front_more n tables o (omega arith) e)

pub front_all : (n : ℕ) (tables : List OpenState) → length tables ≤ n → closed_front n tables ≡ map closed tables
unfolding closed_front
front_all zero [] le = refl
front_all zero (x ∷ tables) le = absurd (omega arith)
front_all (suc n) [] le = refl
front_all (suc n) (x ∷ tables) le = ap (λ ys. closed x ∷ ys) (front_all n tables (omega arith))
