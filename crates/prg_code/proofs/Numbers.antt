-- What the words of an index set say of items by number.
use Rattle.std.proofs.Common.{◌≡◌, ℕ, ap, Bool, false, List, [], ◌∷◌, ◌++◌, length}
use Rattle.std.proofs.Common.{Some, slice_get, get_or, position, if◌then◌else◌, refl}
use Rattle.std.specs.List.{list_any}
use Rattle.std.proofs.lemmas.List.Quantifiers.{position-Some}
use Rattle.std.proofs.lemmas.Option.{slice_get-get_or}
use Rattle.indexmap.specs.IndexSet.{insert_key}
use Rattle.prg_code.specs.Numbers.{HasNumber}

-- what goes behind a list has its length as its number
pub last_number : {A : Type 0} (xs : List A) (x : A) → slice_get (xs ++ x ∷ []) (length xs) ≡ Some x
last_number [] x = refl
last_number (y ∷ ys) x = last_number ys x

module _ {T : Type 0} (eq : T → T → Bool) (xs : List T) (item : T) where
  -- the place at which an item is found is its number
  pub found : (n : ℕ) → position (eq item) xs ≡ Some n → HasNumber eq xs item n
  found n e =
      let p = position-Some (eq item) xs n item e in
      (get_or xs n item, slice_get-get_or xs n item p.0, p.1)

  -- an item without a number goes behind the others
  pub added : list_any (eq item) xs ≡ false → insert_key eq xs item ≡ xs ++ item ∷ []
  added e = ap (λ b. if b then xs else xs ++ item ∷ []) e
