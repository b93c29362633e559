-- What is known where two ways meet: no more and no less than is known on both.
use Rattle.std.proofs.Common.{◌≡◌, refl, ap, sym, ◌∙◌, Bool, true, false, ◌==◌, List, [], ◌∷◌}
use Rattle.std.proofs.Common.{length, map, Option, Some, None, arith, subst}
use Rattle.std.specs.List.{zip}
use Rattle.std.proofs.lemmas.Bool.{and_from, and_parts, cond_both}
use Rattle.std.proofs.lemmas.Bool.Decides.{nat_tests}
use Rattle.xvalue.specs.declared.kind.Kind.{Kind}
use Rattle.xvalue.specs.Kinds.{same_kind}
use Rattle.xvalue.proofs.KindLemmas.{kinds_same}
use Rattle.code_items.specs.declared.desk.OpenArea.{OpenArea}
use Rattle.code_items.specs.declared.desk.AreaState.{AreaState}
use Rattle.code_items.specs.declared.desk.AreaState.TheVariants.{Closed, Open, Unsure}
use Rattle.code_items.specs.declared.state.State.{State}
use Rattle.code_items.specs.Pairs.{along}
use Rattle.code_items.specs.Desks.{area_covered, areas_covered, same_area}
use Rattle.code_items.specs.Kinds.{slot_covered}
use Rattle.code_rules.proofs.Covering.{slot_self, number_self, area_self}
use Rattle.prg_code.specs.Merging.{merged_area, merged_kind, DoMeet, MergesWays}

area_first : (a b : AreaState) → area_covered (merged_area (a, b), a) ≡ true
area_first a b =
    cond_both (area_covered (a, b)) a Unsure (λ m. area_covered (m, a) ≡ true) (λ _. area_self a) (λ _. refl)

area_second : (a b : AreaState) → area_covered (merged_area (a, b), b) ≡ true
area_second a b = cond_both (area_covered (a, b)) a Unsure (λ m. area_covered (m, b) ≡ true) (λ e. e) (λ _. refl)

same_two : (x y z : OpenArea) → same_area x y ≡ true → same_area x z ≡ true → same_area y z ≡ true
same_two x y z e f = grind (arith, nat_tests)

covered_two : (m a b : AreaState) → area_covered (m, a) ≡ true → area_covered (m, b) ≡ true
    → area_covered (a, b) ≡ false → area_covered (m, Unsure) ≡ true
covered_two Unsure a b e f n = refl
covered_two Closed Closed Closed e f n = sym n
covered_two Closed Closed (Open z) e f n = f
covered_two Closed Closed Unsure e f n = f
covered_two Closed (Open y) b e f n = e
covered_two Closed Unsure b e f n = e
covered_two (Open x) Closed b e f n = e
covered_two (Open x) (Open y) Closed e f n = f
covered_two (Open x) (Open y) (Open z) e f n = sym n ∙ same_two x y z e f
covered_two (Open x) (Open y) Unsure e f n = f
covered_two (Open x) Unsure b e f n = e

area_most : (m a b : AreaState) → area_covered (m, a) ≡ true → area_covered (m, b) ≡ true
    → area_covered (m, merged_area (a, b)) ≡ true
area_most m a b e f =
    cond_both (area_covered (a, b)) a Unsure (λ x. area_covered (m, x) ≡ true) (λ _. e) (covered_two m a b e f)

kind_two : (x y z : Kind) → same_kind x y ≡ true → same_kind x z ≡ true → same_kind y z ≡ true
kind_two x y z e f = subst (λ k. same_kind k z ≡ true) (kinds_same x y e) f

slot_first : (a b : Option Kind) → slot_covered (merged_kind (a, b), a) ≡ true
slot_first a b = cond_both (slot_covered (a, b)) a None (λ m. slot_covered (m, a) ≡ true) (λ _. slot_self a) (λ _. refl)

slot_second : (a b : Option Kind) → slot_covered (merged_kind (a, b), b) ≡ true
slot_second a b = cond_both (slot_covered (a, b)) a None (λ m. slot_covered (m, b) ≡ true) (λ e. e) (λ _. refl)

slots_two : (m a b : Option Kind) → slot_covered (m, a) ≡ true → slot_covered (m, b) ≡ true
    → slot_covered (a, b) ≡ false → slot_covered (m, None) ≡ true
slots_two None a b e f n = refl
slots_two (Some x) None b e f n = e
slots_two (Some x) (Some y) None e f n = f
slots_two (Some x) (Some y) (Some z) e f n = sym n ∙ kind_two x y z e f

slot_most : (m a b : Option Kind) → slot_covered (m, a) ≡ true → slot_covered (m, b) ≡ true
    → slot_covered (m, merged_kind (a, b)) ≡ true
slot_most m a b e f =
    cond_both (slot_covered (a, b)) a None (λ x. slot_covered (m, x) ≡ true) (λ _. e) (slots_two m a b e f)

-- along lists

all_first : {A : Type 0} (test : A × A → Bool) (merge : A × A → A) → ((a b : A) → test (merge (a, b), a) ≡ true)
    → (as' bs : List A) → length as' ≡ length bs → along test (map merge (zip as' bs)) as' ≡ true
all_first test merge law [] [] e = refl
all_first test merge law [] (b ∷ bs) e = absurd (omega (arith, e))
all_first test merge law (a ∷ as') [] e = absurd (omega (arith, e))
all_first test merge law (a ∷ as') (b ∷ bs) e =
    and_from _ _ (law a b) (all_first test merge law as' bs (omega (arith, e)))

all_second : {A : Type 0} (test : A × A → Bool) (merge : A × A → A) → ((a b : A) → test (merge (a, b), b) ≡ true)
    → (as' bs : List A) → length as' ≡ length bs → along test (map merge (zip as' bs)) bs ≡ true
all_second test merge law [] [] e = refl
all_second test merge law [] (b ∷ bs) e = absurd (omega (arith, e))
all_second test merge law (a ∷ as') [] e = absurd (omega (arith, e))
all_second test merge law (a ∷ as') (b ∷ bs) e =
    and_from _ _ (law a b) (all_second test merge law as' bs (omega (arith, e)))

all_most : {A : Type 0} (test : A × A → Bool) (merge : A × A → A)
    → ((m a b : A) → test (m, a) ≡ true → test (m, b) ≡ true → test (m, merge (a, b)) ≡ true) → (ms as' bs : List A)
    → along test ms as' ≡ true → along test ms bs ≡ true → along test ms (map merge (zip as' bs)) ≡ true
all_most test merge law [] [] bs e f = refl
all_most test merge law [] (a ∷ as') bs e f = grind (arith, e)
all_most test merge law (m ∷ ms) [] bs e f = grind (arith, e)
all_most test merge law (m ∷ ms) (a ∷ as') [] e f = f
all_most test merge law (m ∷ ms) (a ∷ as') (b ∷ bs) e f =
    let p = and_parts (test (m, a)) (along test ms as') e in
    let q = and_parts (test (m, b)) (along test ms bs) f in
    and_from _ _ (law m a b p.0 q.0) (all_most test merge law ms as' bs p.1 q.1)

pub merges : (one two : State) → DoMeet one two → MergesWays one two
merges one two meet = record {
  first = record {
    desk = and_from _ _ (number_self one.desk.selected)
        (all_first area_covered merged_area area_first one.desk.areas two.desk.areas meet.areas);
    slots = all_first slot_covered merged_kind slot_first one.slots two.slots meet.slots;
  };
  second = record {
    desk = and_from _ _ (ap (λ n. one.desk.selected == n) (sym meet.selected) ∙ number_self one.desk.selected)
        (all_second area_covered merged_area area_second one.desk.areas two.desk.areas meet.areas);
    slots = all_second slot_covered merged_kind slot_second one.slots two.slots meet.slots;
  };
  most = λ map a b.
      let p = and_parts (map.desk.selected == one.desk.selected) (areas_covered map.desk.areas one.desk.areas) a.desk in
      let q = and_parts (map.desk.selected == two.desk.selected) (areas_covered map.desk.areas two.desk.areas) b.desk in
      record {
        desk = and_from _ _ p.0
            (all_most area_covered merged_area area_most map.desk.areas one.desk.areas two.desk.areas p.1 q.1);
        slots = all_most slot_covered merged_kind slot_most map.slots one.slots two.slots a.slots b.slots;
      };
}
