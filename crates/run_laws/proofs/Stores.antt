-- Stores whose tables and work areas are as a code declares, table by table and area by area, and what changes leave
-- of that.
use Rattle.std.proofs.Common.{◌≡◌, ◌≢◌, ℕ, zero, suc, ◌-◌, ◌<◌, ◌≤◌, true, false, List, [], ◌∷◌, length, Option, Some}
use Rattle.std.proofs.Common.{None, refl, sym, ap, subst, ◌∙◌, arith, cond, ◌⊎◌, inl, inr}
use Rattle.std.specs.Prelude.{◌==◌, ◌&&◌, ◌||◌, nat_lt, nat_le, map, replicate, slice_get, slice_set, slice_index_or}
use Rattle.std.specs.Prelude.{is_some, IfSome}
use Rattle.std.specs.List.{list_any}
use Rattle.std.proofs.lemmas.Bool.{eqb-true, eqb-false, eq-eqb, false≢true, ltb-true, leb-true, lt-ltb, le-leb}
use Rattle.std.proofs.lemmas.Bool.{and_parts, and_from}
use Rattle.std.proofs.lemmas.List.{length-set, length-map}
use Rattle.std.proofs.lemmas.Option.{slice_get_within}
use Rattle.dbf_file.specs.Tables.{StructureState}
use Rattle.shape.specs.declared.indexes.IndexShape.{IndexShape}
use Rattle.shape.specs.declared.tables.TableShape.{TableShape}
use Rattle.open_table.specs.Open.{OpenState, closed}
use Rattle.open_table.specs.Marks.{IndexMark, mark_at}
use Rattle.work_area.specs.declared.uses.Use.{Use}
use Rattle.work_area.specs.Areas.{StoreState, AreApart, selected_use, used_table, here, holds, is_elsewhere, with_table}
use Rattle.work_area.specs.Areas.{with_use, with_used, with_selected, closed_here, closed_all}
use Rattle.work_area.specs.Calls.{used_here}
use Rattle.work_area.specs.Making.{HaveAlikeFields}
use Rattle.work_area.specs.Shapes.{still, IsSameKind, KindsStay}
use Rattle.work_area.proofs.AreaLemmas.{at_set, get_set_other, put_closed, put_closed_here}
use Rattle.work_area.proofs.ShapeLemmas.{closed_got}
use Rattle.code_items.specs.declared.declared.Declared.{Declared}
use Rattle.code_items.specs.States.{is_list_of, is_filter_of, opened_by, is_open}
use Rattle.run_steps.specs.World.{order_of}
use Rattle.run_steps.specs.Effects.{list_numbers}
use Rattle.run_steps.specs.Shapes.{ListStands}
use Rattle.run_laws.proofs.Known.{area_by}
use Rattle.run_laws.proofs.Tests.{first_no, second_no, is_there}

-- a table holds what is declared, and has its declared indexes
pub record KindFits (d : Declared) (t : ℕ) (o : OpenState) : Type 0 where
  pub fields : IfSome (slice_get d.shape.tables t)
      (λ (declared : TableShape). HaveAlikeFields o.table.structure.fields declared.fields)
  pub indexes : (n : ℕ) (x : IndexShape) → slice_get d.shape.indexes n ≡ Some x → x.table ≡ t
      → is_some (mark_at o.table.marks n) ≡ true

-- what an area holds, by the table that is there: the indexes of its list are open, and list, order and filter are
-- legal
pub record HeldBy (d : Declared) (u : Use) (there : Option OpenState) : Type 0 where
  pub list : IfSome there (ListStands d u)
  pub legal : is_open d (area_by u (order_of there)) ≡ true

pub record IsSound (d : Declared) (s : StoreState) : Type 0 where
  pub count : length s.tables ≡ length d.shape.tables
  pub kinds : (t : ℕ) (o : OpenState) → slice_get s.tables t ≡ Some o → KindFits d t o
  pub held : (n : ℕ) (u : Use) → slice_index_or s.areas n None ≡ Some u → HeldBy d u (slice_get s.tables u.table)
  pub ten : length s.areas ≡ 10
  pub one : 1 ≤ s.selected
  pub last : s.selected ≤ 10
  pub apart : AreApart s.areas

-- ---- elements of a list of which one is replaced

got_set : {A : Type 0} (xs : List A) (t k : ℕ) (p a : A) → slice_get (slice_set xs t p) k ≡ Some a
    → ((k ≡ t) × (a ≡ p)) ⊎ (slice_get xs k ≡ Some a)
got_set [] t k p a e = absurd (cc)
got_set (x ∷ xs) zero zero p a e = inl (refl, (let same : a ≡ p = cc in same))
got_set (x ∷ xs) zero (suc k) p a e = inr e
got_set (x ∷ xs) (suc t) zero p a e = inr e
got_set (x ∷ xs) (suc t) (suc k) p a e =
    elim (got_set xs t k p a e) as (λ _. ((suc k ≡ suc t) × (a ≡ p)) ⊎ (slice_get xs k ≡ Some a)) [
      | inl h ↦ inl (ap suc h.0, h.1)
      | inr h ↦ inr h
    ]

pub set_there : {A : Type 0} (xs : List A) (t : ℕ) (p x : A) → slice_get xs t ≡ Some x
    → slice_get (slice_set xs t p) t ≡ Some p
set_there [] t p x e = absurd (cc)
set_there (y ∷ xs) zero p x e = refl
set_there (y ∷ xs) (suc t) p x e = set_there xs t p x e

-- no two areas hold one table, where what one got instead is held by no other
apart_put : (areas : List (Option Use)) (p : ℕ) (x : Option Use) → p < length areas → AreApart areas
    → ((n : ℕ) (u v : Use) → n ≢ p → slice_index_or areas n None ≡ Some u → x ≡ Some v → u.table ≡ v.table → ⊥)
    → AreApart (slice_set areas p x)
apart_put areas p x lt apart alone = λ a b u v e f same. elim (at_set areas p a x u lt e) as (λ _. a ≡ b) [
  | inl k ↦ elim (at_set areas p b x v lt f) as (λ _. a ≡ b) [
    | inl l ↦ k.0 ∙ sym l.0
    | inr l ↦ absurd (alone b v u l.0 l.1 k.1 (sym same))
  ]
  | inr k ↦ elim (at_set areas p b x v lt f) as (λ _. a ≡ b) [
    | inl l ↦ absurd (alone a u v k.0 k.1 l.1 same)
    | inr l ↦ apart a b u v k.1 l.1 same
  ]
]

-- ---- tables changed

still_there : (n : ℕ) (ms : List IndexMark) → is_some (mark_at (map still ms) n) ≡ is_some (mark_at ms n)
still_there n [] = refl
still_there n (m ∷ ms) =
    elim (m.number == n) as (λ b. is_some (cond b (Some (still m)) (mark_at (map still ms) n)) ≡ is_some
    (cond b (Some m) (mark_at ms n))) [
      | true ↦ refl
      | false ↦ still_there n ms
    ]

kind_stays : (d : Declared) (t : ℕ) (o p : OpenState) → IsSameKind o p → KindFits d t o → KindFits d t p
kind_stays d t o p same h = record {
  fields =
      subst (λ (st : StructureState). IfSome (slice_get d.shape.tables t)
      (λ (declared : TableShape). HaveAlikeFields st.fields declared.fields)) (sym same.structure) h.fields;
  indexes =
      λ n x at is. sym (still_there n p.table.marks) ∙ ap (λ (ms : List IndexMark). is_some (mark_at ms n)) same.marks
      ∙ still_there n o.table.marks ∙ h.indexes n x at is;
}

kinds_set : (d : Declared) (tables : List OpenState) (t : ℕ) (p : OpenState) → KindFits d t p
    → ((k : ℕ) (a : OpenState) → slice_get tables k ≡ Some a → KindFits d k a) → (k : ℕ) (a : OpenState)
    → slice_get (slice_set tables t p) k ≡ Some a → KindFits d k a
kinds_set d tables t p fits h k a e = elim (got_set tables t k p a e) as (λ _. KindFits d k a) [
  | inl g ↦ subst (λ j. KindFits d j a) (sym g.0) (subst (KindFits d t) (sym g.1) fits)
  | inr g ↦ h k a g
]

-- the same list and order
pub like : (d : Declared) (u : Use) (o p : OpenState) → p.list ≡ o.list → p.order ≡ o.order → HeldBy d u (Some o)
    → HeldBy d u (Some p)
like d u o p list order h =
    (let stands : o.list ≡ list_numbers d
    u.list = h.list in record { list = list ∙ stands; legal = ap (λ k. is_open d (area_by u k)) order ∙ h.legal })

held_set : (d : Declared) (tables : List OpenState) (t : ℕ) (o p : OpenState) (u : Use) → slice_get tables t ≡ Some o
    → (HeldBy d u (Some o) → HeldBy d u (Some p)) → HeldBy d u (slice_get tables u.table)
    → HeldBy d u (slice_get (slice_set tables t p) u.table)
held_set d tables t o p u at keeps h =
    elim (u.table == t) as (λ b. u.table == t ≡ b → HeldBy d u (slice_get (slice_set tables t p) u.table)) [
      | true ↦ λ e. (let same : u.table ≡ t = eqb-true u.table t e in
          subst (HeldBy d u) (sym (ap (slice_get (slice_set tables t p)) same ∙ set_there tables t p o at))
          (keeps (subst (HeldBy d u) (ap (slice_get tables) same ∙ at) h)))
      | false ↦ λ e. subst (HeldBy d u)
          (sym (get_set_other tables t u.table p (λ same. false≢true (sym e ∙ eq-eqb u.table t same)))) h
    ] refl

pub at_table : (d : Declared) (s : StoreState) (t : ℕ) (o p : OpenState) → IsSound d s → slice_get s.tables t ≡ Some o
    → IsSameKind o p → ((u : Use) → HeldBy d u (Some o) → HeldBy d u (Some p)) → IsSound d (with_table s t p)
at_table d s t o p h at same keeps = record {
  count = length-set s.tables t p ∙ h.count;
  kinds = kinds_set d s.tables t p (kind_stays d t o p same (h.kinds t o at)) h.kinds;
  held = λ n u e. held_set d s.tables t o p u at (keeps u) (h.held n u e);
  ten = h.ten;
  one = h.one;
  last = h.last;
  apart = h.apart;
}

pub at_used : (d : Declared) (s : StoreState) (x : Option Use) (o p : OpenState) → IsSound d s → used_table s x ≡ Some o
    → IsSameKind o p → ((u : Use) → HeldBy d u (Some o) → HeldBy d u (Some p)) → IsSound d (with_used x p s)
at_used d s None o p h at same keeps = absurd (cc)
at_used d s (Some v) o p h at same keeps = at_table d s v.table o p h at same keeps

-- ---- areas changed

pub selects : (d : Declared) (s : StoreState) (a : ℕ) → IsSound d s → 1 ≤ a → a ≤ 10 → IsSound d (with_selected a s)
selects d s a h least most = record {
  count = h.count;
  kinds = h.kinds;
  held = h.held;
  ten = h.ten;
  one = least;
  last = most;
  apart = h.apart;
}

-- the selected area's table changed, and something else of that table in the area, or nothing
pub put_both : (d : Declared) (s : StoreState) (u : Use) (o p : OpenState) (x : Option Use) → IsSound d s
    → selected_use s ≡ Some u → slice_get s.tables u.table ≡ Some o → IsSameKind o p
    → ((v : Use) → x ≡ Some v → (v.table ≡ u.table) × HeldBy d v (Some p))
    → IsSound d (with_use (with_table s u.table p) s.selected x)
put_both d s u o p x h there at same fits =
    let within : s.selected - 1 < length s.areas = omega (arith, h.ten, h.one, h.last) in record {
      count = length-set s.tables u.table p ∙ h.count;
      kinds = kinds_set d s.tables u.table p (kind_stays d u.table o p same (h.kinds u.table o at)) h.kinds;
      held =
          λ n v e. elim (at_set s.areas (s.selected - 1) n x v within e) as
          (λ _. HeldBy d v (slice_get (slice_set s.tables u.table p) v.table)) [
            | inl k ↦ (let f = fits v k.1 in subst (HeldBy d v)
                (sym (ap (slice_get (slice_set s.tables u.table p)) f.0 ∙ set_there s.tables u.table p o at)) f.1)
            | inr k ↦ subst (HeldBy d v) (sym
                (get_set_other s.tables u.table v.table p (λ e2. k.0 (h.apart n (s.selected - 1) v u k.1 there e2))))
                (h.held n v k.1)
          ];
      ten = length-set s.areas (s.selected - 1) x ∙ h.ten;
      one = h.one;
      last = h.last;
      apart =
          apart_put s.areas (s.selected - 1) x within h.apart
          (λ n a b differ e f e2. differ (h.apart n (s.selected - 1) a u e there (e2 ∙ (fits b f).0)));
    }

-- the selected area holds something else of its table
pub put_use : (d : Declared) (s : StoreState) (u : Use) (x : Option Use) → IsSound d s → selected_use s ≡ Some u
    → ((v : Use) → x ≡ Some v → (v.table ≡ u.table) × HeldBy d v (slice_get s.tables v.table))
    → IsSound d (with_use s s.selected x)
put_use d s u x h there fits =
    let within : s.selected - 1 < length s.areas = omega (arith, h.ten, h.one, h.last) in record {
      count = h.count;
      kinds = h.kinds;
      held =
          λ n v e. elim (at_set s.areas (s.selected - 1) n x v within e) as
          (λ _. HeldBy d v (slice_get s.tables v.table)) [
            | inl k ↦ (fits v k.1).1
            | inr k ↦ h.held n v k.1
          ];
      ten = length-set s.areas (s.selected - 1) x ∙ h.ten;
      one = h.one;
      last = h.last;
      apart =
          apart_put s.areas (s.selected - 1) x within h.apart
          (λ n a b differ e f e2. differ (h.apart n (s.selected - 1) a u e there (e2 ∙ (fits b f).0)));
    }

-- nothing in an area
put_none : (d : Declared) (s : StoreState) → IsSound d s → IsSound d (with_use s s.selected None)
put_none d s h =
    let within : s.selected - 1 < length s.areas = omega (arith, h.ten, h.one, h.last) in record {
      count = h.count;
      kinds = h.kinds;
      held =
          λ n v e. elim (at_set s.areas (s.selected - 1) n None v within e) as
          (λ _. HeldBy d v (slice_get s.tables v.table)) [
            | inl k ↦ absurd (let f : None ≡ Some v = k.1 in cc)
            | inr k ↦ h.held n v k.1
          ];
      ten = length-set s.areas (s.selected - 1) None ∙ h.ten;
      one = h.one;
      last = h.last;
      apart =
          apart_put s.areas (s.selected - 1) None within h.apart
          (λ n a b differ e f e2. absurd (let g : None ≡ Some b = f in cc));
    }

areas_stay : (x : Option Use) (found : Option OpenState) (s : StoreState) → (put_closed x found s).areas ≡ s.areas
areas_stay x None s = refl
areas_stay None (Some o) s = refl
areas_stay (Some u) (Some o) s = refl

-- a table closed is of the same kind
closed_put : (d : Declared) (s : StoreState) (x : Option Use) (found : Option OpenState)
    → ((o : OpenState) → KindsStay o) → IsSound d s → selected_use s ≡ x → used_table s x ≡ found
    → IsSound d (with_use (put_closed x found s) s.selected None)
closed_put d s None None stay h there at = put_none d s h
closed_put d s None (Some o) stay h there at = put_none d s h
closed_put d s (Some u) None stay h there at = put_none d s h
closed_put d s (Some u) (Some o) stay h there at =
    put_both d s u o (closed o) None h there at (stay o).by_close (λ v e. absurd (cc))

pub closes : (d : Declared) (s : StoreState) → ((o : OpenState) → KindsStay o) → IsSound d s → IsSound d (closed_here s)
closes d s stay h =
    subst (λ z. IsSound d (with_use z s.selected None)) (sym (put_closed_here (here s) s))
    (closed_put d s (selected_use s) (here s) stay h refl refl)

closed_areas : (s : StoreState) → (closed_here s).areas ≡ slice_set s.areas (s.selected - 1) None
closed_areas s =
    ap (λ (areas : List (Option Use)). slice_set areas (s.selected - 1) None)
    (ap (λ (z : StoreState). z.areas) (put_closed_here (here s) s) ∙ areas_stay (selected_use s) (here s) s)

none_held : (k n : ℕ) (u : Use) → slice_index_or (replicate k None) n None ≡ Some u → ⊥
none_held zero n u e = cc
none_held (suc k) zero u e = cc
none_held (suc k) (suc n) u e = none_held k n u e

-- all areas closed, whatever they held
pub closes_all : (d : Declared) (s : StoreState) → ((o : OpenState) → KindsStay o)
    → length s.tables ≡ length d.shape.tables
    → ((t : ℕ) (o : OpenState) → slice_get s.tables t ≡ Some o → KindFits d t o) → IsSound d (closed_all s)
closes_all d s stay count kinds = record {
  count = length-map s.tables closed ∙ count;
  kinds = λ t a e. (let w = closed_got s.tables t a e in subst (KindFits d t) (sym w.2)
      (kind_stays d t w.0 (closed w.0) (stay w.0).by_close (kinds t w.0 w.1)));
  held = λ n u e. absurd (none_held 10 n u e);
  ten = refl;
  one = omega arith;
  last = omega arith;
  apart = λ a b u v e f same. absurd (none_held 10 a u e);
}

-- a table that some areas don't hold
not_held : (areas : List (Option Use)) (n t : ℕ) (u : Use) → list_any (holds t) areas ≡ false
    → slice_index_or areas n None ≡ Some u → u.table ≡ t → ⊥
not_held [] n t u none e same = cc
not_held (a ∷ areas) zero t u none e same =
    eqb-false u.table t (ap (holds t) (sym e) ∙ first_no (holds t a) (list_any (holds t) areas) none) same
not_held (a ∷ areas) (suc n) t u none e same =
    not_held areas n t u (second_no (holds t a) (list_any (holds t) areas) none) e same

-- the selected area holds a table that no other one holds
pub opens : (d : Declared) (s : StoreState) (t l : ℕ) (o p : OpenState) → ((o : OpenState) → KindsStay o) → IsSound d s
    → slice_get s.tables t ≡ Some o → IsSameKind o p → is_elsewhere s t ≡ false
    → HeldBy d (record { table = t; list = l; filter = 0 }) (Some p) → IsSound d (used_here t l p s)
opens d s t l o p stay h at same elsewhere fits =
    let z = closed_here s in
    let c : IsSound d z = closes d s stay h in
    let none : list_any (holds t) z.areas ≡ false = ap (list_any (holds t)) (closed_areas s) ∙ elsewhere in
    let held : Use = record { table = t; list = l; filter = 0 } in
    let within : s.selected - 1 < length z.areas = omega (arith, c.ten, h.one, h.last) in
    let there = is_there z.tables t (within_tables s.tables z.tables t o (c.count ∙ sym h.count) at) in record {
      count = length-set z.tables t p ∙ c.count;
      kinds = kinds_set d z.tables t p (kind_stays d t o p same (h.kinds t o at)) c.kinds;
      held =
          λ n v e. elim (at_set z.areas (s.selected - 1) n (Some held) v within e) as
          (λ _. HeldBy d v (slice_get (slice_set z.tables t p) v.table)) [
            | inl k ↦ (let is : held ≡ v = (let g : Some held ≡ Some v = k.1 in cc) in subst
                (λ (u : Use). HeldBy d u (slice_get (slice_set z.tables t p) u.table)) is
                (subst (HeldBy d held) (sym (set_there z.tables t p there.0 there.1)) fits))
            | inr k ↦ subst (HeldBy d v) (sym (get_set_other z.tables t v.table p (not_held z.areas n t v none k.1)))
                (c.held n v k.1)
          ];
      ten = length-set z.areas (s.selected - 1) (Some held) ∙ c.ten;
      one = c.one;
      last = c.last;
      apart =
          apart_put z.areas (s.selected - 1) (Some held) within c.apart
          (λ n a b differ e f e2. not_held z.areas n t a none e
          (e2 ∙ (let g : Some held ≡ Some b = f in let is : held ≡ b = cc in sym (ap (λ (w : Use). w.table) is))));
    }
  where
    within_tables : (tables tables' : List OpenState) (t : ℕ) (o : OpenState) → length tables' ≡ length tables
        → slice_get tables t ≡ Some o → t < length tables'
    within_tables tables tables' t o same e = omega (arith, same, slice_get_within tables t o e)

-- ---- orders, lists and filters that are legal

pub legal_from : (d : Declared) (u : Use) (order : ℕ) → u.table < length d.shape.tables
    → u.list == 0 || is_list_of d u.table u.list ≡ true → order ≤ opened_by d u.list
    → u.filter == 0 || is_filter_of d u.table u.filter ≡ true → is_open d (area_by u order) ≡ true
legal_from d u order table list le filter =
    and_from (nat_lt u.table (length d.shape.tables) && (u.list == 0 || is_list_of d u.table u.list) && nat_le order
    (opened_by d u.list)) (u.filter == 0 || is_filter_of d u.table u.filter)
    (and_from (nat_lt u.table (length d.shape.tables) && (u.list == 0 || is_list_of d u.table u.list))
    (nat_le order (opened_by d u.list))
    (and_from (nat_lt u.table (length d.shape.tables)) (u.list == 0 || is_list_of d u.table u.list)
    (lt-ltb u.table (length d.shape.tables) table) list)
    (le-leb order (opened_by d u.list) le)) filter

-- what a legal area has
pub record Legal (d : Declared) (u : Use) (order : ℕ) : Type 0 where
  pub table : u.table < length d.shape.tables
  pub list : u.list == 0 || is_list_of d u.table u.list ≡ true
  pub order_within : order ≤ opened_by d u.list
  pub filter : u.filter == 0 || is_filter_of d u.table u.filter ≡ true

pub legal_parts : (d : Declared) (u : Use) (order : ℕ) → is_open d (area_by u order) ≡ true → Legal d u order
legal_parts d u order e =
    let a =
    and_parts (nat_lt u.table (length d.shape.tables) && (u.list == 0 || is_list_of d u.table u.list) && nat_le
    order (opened_by d u.list)) (u.filter == 0 || is_filter_of d u.table u.filter) e in
    let b =
    and_parts (nat_lt u.table (length d.shape.tables) && (u.list == 0 || is_list_of d u.table u.list))
    (nat_le order (opened_by d u.list)) a.0 in
    let c = and_parts (nat_lt u.table (length d.shape.tables)) (u.list == 0 || is_list_of d u.table u.list) b.0 in
    record {
      table = ltb-true u.table (length d.shape.tables) c.0;
      list = c.1;
      order_within = leb-true order (opened_by d u.list) b.1;
      filter = a.1;
    }
