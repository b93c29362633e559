-- Lists that are handed in for indexes.
use Rattle.std.proofs.Common.{◌≡◌, ◌↔◌, ℕ, Option, Some, sym, subst, rules}
use Rattle.std.specs.Prelude.{slice_get, IfSome}
use Rattle.key_lists.specs.KeyForm.{KeyForm}
use Rattle.shape.specs.declared.indexes.IndexShape.{IndexShape}
use Rattle.shape.specs.declared.tables.TableShape.{TableShape}
use Rattle.shape.specs.declared.whole.Shape.{Shape}
use Rattle.work_area.specs.Making.{IsFormed, key_form}

one_thing : {A : Type 0} (found : Option A) (a b : A) → found ≡ Some a → found ≡ Some b → a ≡ b
one_thing found a b e f = search (rules, e, f)

pub formed : {X : Type 0} (form : X → KeyForm) (shape : Shape) (n : ℕ) (list : Option X) (k : X) (i : IndexShape)
    (t : TableShape) (P : Type 0) → list ≡ Some k → slice_get shape.indexes n ≡ Some i
    → slice_get shape.tables i.table ≡ Some t → P ↔ (form k ≡ key_form t i) → P ↔ IsFormed form shape n list
formed {X} form shape n list k i t P e index table both = (
  λ p x s found has. (
      let same : i ≡ x = one_thing (slice_get shape.indexes n) i x index found in
      let has_it : slice_get shape.tables i.table ≡ Some s =
      subst (λ (y : IndexShape). slice_get shape.tables y.table ≡ Some s) (sym same) has in
      let table_is : t ≡ s = one_thing (slice_get shape.tables i.table) t s table has_it in
      let key : form k ≡ key_form s x =
      subst (λ y. form k ≡ key_form s y) same (subst (λ u. form k ≡ key_form u i) table_is (both.0 p)) in
      subst (λ l. IfSome l (λ m. form m ≡ key_form s x)) (sym e) key),
  λ h. both.1 (subst (λ l. IfSome l (λ m. form m ≡ key_form t i)) e (h i t index table)),
)
