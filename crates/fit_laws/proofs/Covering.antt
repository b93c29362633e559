-- A state covers itself, and covering goes on.
use Rattle.std.proofs.Common.{◌≡◌, ℕ, Bool, true, ◌&&◌, ◌==◌, List, [], ◌∷◌, Option, Some, None, refl, sym, ◌∙◌, subst}
use Rattle.std.proofs.lemmas.Bool.{and_parts, and_from, eqb-true, eq-eqb}
use Rattle.xvalue.specs.declared.kind.Kind.{Kind}
use Rattle.xvalue.specs.Kinds.{same_kind}
use Rattle.xvalue.proofs.KindLemmas.{kinds_same}
use Rattle.code_items.specs.declared.desk.OpenArea.{OpenArea}
use Rattle.code_items.specs.declared.desk.AreaState.{AreaState}
use Rattle.code_items.specs.declared.desk.AreaState.TheVariants.{Closed, Open as IsOpen, Unsure}
use Rattle.code_items.specs.declared.desk.Desk.{Desk}
use Rattle.code_items.specs.declared.state.State.{State}
use Rattle.code_items.specs.Pairs.{along}
use Rattle.code_items.specs.Desks.{same_area, area_covered, areas_covered, desk_covered}
use Rattle.code_items.specs.Kinds.{same_pair, same_kinds, slot_covered, slots_covered}
use Rattle.code_rules.specs.Rules.{covers}
use Rattle.code_rules.proofs.Covering.{kind_self, slot_self, number_self, area_self}

-- ---- each is covered by itself

along_self : {A : Type 0} (test : A × A → Bool) → ((a : A) → test (a, a) ≡ true) → (xs : List A)
    → along test xs xs ≡ true
along_self test each [] = refl
along_self test each (x ∷ xs) = and_from (test (x, x)) (along test xs xs) (each x) (along_self test each xs)

pair_self : (k : Kind) → same_pair (k, k) ≡ true
pair_self k = kind_self k

pub slots_self : (slots : List (Option Kind)) → slots_covered slots slots ≡ true
slots_self slots = along_self slot_covered slot_self slots

pub desk_self : (desk : Desk) → desk_covered desk desk ≡ true
desk_self desk =
    and_from (desk.selected == desk.selected) (areas_covered desk.areas desk.areas) (number_self desk.selected)
    (along_self area_covered area_self desk.areas)

pub stack_self : (kinds : List Kind) → same_kinds kinds kinds ≡ true
stack_self kinds = along_self same_pair pair_self kinds

pub covers_from : (m s : State) → slots_covered m.slots s.slots ≡ true → desk_covered m.desk s.desk ≡ true
    → same_kinds m.stack s.stack ≡ true → covers m s ≡ true
covers_from m s a b c =
    and_from (slots_covered m.slots s.slots && desk_covered m.desk s.desk) (same_kinds m.stack s.stack)
    (and_from (slots_covered m.slots s.slots) (desk_covered m.desk s.desk) a b) c

pub covers_self : (s : State) → covers s s ≡ true
covers_self s = covers_from s s (slots_self s.slots) (desk_self s.desk) (stack_self s.stack)

-- ---- what covers a cover covers what that covers

along_on : {A : Type 0} (test : A × A → Bool)
    → ((a b c : A) → test (a, b) ≡ true → test (b, c) ≡ true → test (a, c) ≡ true) → (xs ys zs : List A)
    → along test xs ys ≡ true → along test ys zs ≡ true → along test xs zs ≡ true
along_on test each [] [] zs e f = f
along_on test each [] (y ∷ ys) zs e f = absurd (cc)
along_on test each (x ∷ xs) [] zs e f = absurd (cc)
along_on test each (x ∷ xs) (y ∷ ys) [] e f = absurd (cc)
along_on test each (x ∷ xs) (y ∷ ys) (z ∷ zs) e f =
    let a = and_parts (test (x, y)) (along test xs ys) e in
    let b = and_parts (test (y, z)) (along test ys zs) f in
    and_from (test (x, z)) (along test xs zs) (each x y z a.0 b.0) (along_on test each xs ys zs a.1 b.1)

kind_on : (k l m : Kind) → same_kind k l ≡ true → same_kind l m ≡ true → same_kind k m ≡ true
kind_on k l m e f = subst (λ x. same_kind x m ≡ true) (sym (kinds_same k l e)) f

pair_on : (k l m : Kind) → same_pair (k, l) ≡ true → same_pair (l, m) ≡ true → same_pair (k, m) ≡ true
pair_on k l m e f = kind_on k l m e f

slot_on : (a b c : Option Kind) → slot_covered (a, b) ≡ true → slot_covered (b, c) ≡ true → slot_covered (a, c) ≡ true
slot_on None b c e f = refl
slot_on (Some k) None c e f = absurd (cc)
slot_on (Some k) (Some l) None e f = absurd (cc)
slot_on (Some k) (Some l) (Some m) e f = kind_on k l m e f

number_on : (x y z : ℕ) → (x == y) ≡ true → (y == z) ≡ true → (x == z) ≡ true
number_on x y z e f = eq-eqb x z (eqb-true x y e ∙ eqb-true y z f)

open_on : (a b c : OpenArea) → same_area a b ≡ true → same_area b c ≡ true → same_area a c ≡ true
open_on a b c e f =
    let e3 = and_parts (a.table == b.table && a.list == b.list && a.order == b.order) (a.filter == b.filter) e in
    let e2 = and_parts (a.table == b.table && a.list == b.list) (a.order == b.order) e3.0 in
    let e1 = and_parts (a.table == b.table) (a.list == b.list) e2.0 in
    let f3 = and_parts (b.table == c.table && b.list == c.list && b.order == c.order) (b.filter == c.filter) f in
    let f2 = and_parts (b.table == c.table && b.list == c.list) (b.order == c.order) f3.0 in
    let f1 = and_parts (b.table == c.table) (b.list == c.list) f2.0 in
    and_from (a.table == c.table && a.list == c.list && a.order == c.order) (a.filter == c.filter)
    (and_from (a.table == c.table && a.list == c.list) (a.order == c.order)
    (and_from (a.table == c.table) (a.list == c.list) (number_on a.table b.table c.table e1.0 f1.0)
    (number_on a.list b.list c.list e1.1 f1.1))
    (number_on a.order b.order c.order e2.1 f2.1))
    (number_on a.filter b.filter c.filter e3.1 f3.1)

area_on : (a b c : AreaState) → area_covered (a, b) ≡ true → area_covered (b, c) ≡ true → area_covered (a, c) ≡ true
area_on Unsure b c e f = refl
area_on Closed Closed c e f = f
area_on Closed (IsOpen b) c e f = absurd (cc)
area_on Closed Unsure c e f = absurd (cc)
area_on (IsOpen a) Closed c e f = absurd (cc)
area_on (IsOpen a) Unsure c e f = absurd (cc)
area_on (IsOpen a) (IsOpen b) Closed e f = absurd (cc)
area_on (IsOpen a) (IsOpen b) Unsure e f = absurd (cc)
area_on (IsOpen a) (IsOpen b) (IsOpen c) e f = open_on a b c e f

desk_on : (a b c : Desk) → desk_covered a b ≡ true → desk_covered b c ≡ true → desk_covered a c ≡ true
desk_on a b c e f =
    let e1 = and_parts (a.selected == b.selected) (areas_covered a.areas b.areas) e in
    let f1 = and_parts (b.selected == c.selected) (areas_covered b.areas c.areas) f in
    and_from (a.selected == c.selected) (areas_covered a.areas c.areas)
    (number_on a.selected b.selected c.selected e1.0 f1.0)
    (along_on area_covered area_on a.areas b.areas c.areas e1.1 f1.1)

pub covers_on : (a b c : State) → covers a b ≡ true → covers b c ≡ true → covers a c ≡ true
covers_on a b c e f =
    let e2 = and_parts (slots_covered a.slots b.slots && desk_covered a.desk b.desk) (same_kinds a.stack b.stack) e in
    let e1 = and_parts (slots_covered a.slots b.slots) (desk_covered a.desk b.desk) e2.0 in
    let f2 = and_parts (slots_covered b.slots c.slots && desk_covered b.desk c.desk) (same_kinds b.stack c.stack) f in
    let f1 = and_parts (slots_covered b.slots c.slots) (desk_covered b.desk c.desk) f2.0 in
    covers_from a c (along_on slot_covered slot_on a.slots b.slots c.slots e1.0 f1.0)
    (desk_on a.desk b.desk c.desk e1.1 f1.1) (along_on same_pair pair_on a.stack b.stack c.stack e2.1 f2.1)
