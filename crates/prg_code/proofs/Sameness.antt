-- Lists of work areas and of kinds that are the same.
use Rattle.std.proofs.Common.{◌≡◌, ◌↔◌, ◌==◌, ◌&&◌, Bool, true, false, List, Option, None, Some, IsTrue, refl, sym, ap}
use Rattle.std.proofs.Common.{subst, ◌∙◌, rules}
use Rattle.std.specs.Bool.{Decides}
use Rattle.std.specs.Cmp.Lexicographic.{pointwise}
use Rattle.std.proofs.lemmas.Bool.{false≢true}
use Rattle.std.proofs.lemmas.Bool.Decides.{nat_tests}
use Rattle.std.proofs.lemmas.Slice.Eq.{slice_eq-Decides}
use Rattle.xvalue.specs.declared.kind.Kind.{Kind}
use Rattle.code_items.specs.declared.desk.OpenArea.{OpenArea}
use Rattle.code_items.specs.declared.desk.AreaState.{AreaState}
use Rattle.code_items.specs.declared.desk.AreaState.TheVariants.{Closed, Open, Unsure}

apart : {P : Type 0} (r : Bool) → r ≡ false → (P → ⊥) → Decides r P
apart r e never = (λ yes. absurd (false≢true (sym e ∙ yes)), λ p. absurd (never p))

-- a test of areas, case by case
pub record ComparesAreas (E : AreaState → AreaState → Bool) : Type 0 where
  pub closed : E Closed Closed ≡ true
  pub unsure : E Unsure Unsure ≡ true
  pub both : (a b : OpenArea)
      → E (Open a) (Open b) ≡ (a.table == b.table && (a.list == b.list && (a.order == b.order && a.filter == b.filter)))
  pub closed_open : (b : OpenArea) → E Closed (Open b) ≡ false
  pub closed_unsure : E Closed Unsure ≡ false
  pub open_closed : (a : OpenArea) → E (Open a) Closed ≡ false
  pub open_unsure : (a : OpenArea) → E (Open a) Unsure ≡ false
  pub unsure_closed : E Unsure Closed ≡ false
  pub unsure_open : (b : OpenArea) → E Unsure (Open b) ≡ false

same_open : (a b : OpenArea)
    → Decides (a.table == b.table && (a.list == b.list && (a.order == b.order && a.filter == b.filter)))
    (Open a ≡ Open b)
same_open a b = search (rules, nat_tests)

areas_decide : {E : AreaState → AreaState → Bool} → ComparesAreas E → (a b : AreaState) → Decides (E a b) (a ≡ b)
areas_decide m Closed Closed = (λ _. refl, λ _. m.closed)
areas_decide m Closed (Open b) = apart _ (m.closed_open b) (λ e. search rules)
areas_decide m Closed Unsure = apart _ m.closed_unsure (λ e. search rules)
areas_decide m (Open a) Closed = apart _ (m.open_closed a) (λ e. search rules)
areas_decide m (Open a) (Open b) = subst (λ r. Decides r (Open a ≡ Open b)) (sym (m.both a b)) (same_open a b)
areas_decide m (Open a) Unsure = apart _ (m.open_unsure a) (λ e. search rules)
areas_decide m Unsure Closed = apart _ m.unsure_closed (λ e. search rules)
areas_decide m Unsure (Open b) = apart _ (m.unsure_open b) (λ e. search rules)
areas_decide m Unsure Unsure = (λ _. refl, λ _. m.unsure)

pub areas_same : {E : AreaState → AreaState → Bool} (xs ys : List AreaState) (r : Bool) → r ≡ pointwise E xs ys
    → ComparesAreas E → IsTrue r ↔ (xs ≡ ys)
areas_same {E} xs ys r e m = slice_eq-Decides (areas_decide m) xs ys r e

-- a test of slots' kinds, case by case
pub record ComparesKinds (E : Option Kind → Option Kind → Bool) : Type 0 where
  pub none : E None None ≡ true
  pub none_some : (b : Kind) → E None (Some b) ≡ false
  pub some_none : (a : Kind) → E (Some a) None ≡ false
  pub both : (a b : Kind) → Decides (E (Some a) (Some b)) (a ≡ b)

kinds_decide : {E : Option Kind → Option Kind → Bool} → ComparesKinds E → (a b : Option Kind) → Decides (E a b) (a ≡ b)
kinds_decide m None None = (λ _. refl, λ _. m.none)
kinds_decide m None (Some b) = apart _ (m.none_some b) (λ e. search rules)
kinds_decide m (Some a) None = apart _ (m.some_none a) (λ e. search rules)
kinds_decide m (Some a) (Some b) = (λ e. ap Some ((m.both a b).0 e), λ e. (m.both a b).1 (search rules))

pub kind_lists_same : {E : Option Kind → Option Kind → Bool} (xs ys : List (Option Kind)) (r : Bool)
    → r ≡ pointwise E xs ys → ComparesKinds E → IsTrue r ↔ (xs ≡ ys)
kind_lists_same {E} xs ys r e m = slice_eq-Decides (kinds_decide m) xs ys r e
