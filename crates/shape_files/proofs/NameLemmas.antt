-- Names that tables and indexes have, and one more.
use Rattle.std.proofs.Common.{◌≡◌, ◌<◌, ◌≤◌, ℕ, zero, suc, Bool, true, false, List, [], ◌∷◌, length}
use Rattle.std.proofs.Common.{take, refl, sym, subst, ap, ◌∙◌, arith}
use Rattle.std.specs.Prelude.{Option, Some, None, IfSome, MatchOption, slice_get}
use Rattle.std.specs.List.{list_any}
use Rattle.std.proofs.lemmas.Bool.{both_ways, or_from, or_parts}
use Rattle.std.proofs.lemmas.List.{take_all}
use Rattle.std.proofs.lemmas.Slice.Eq.{bytes_eq-Decides}
use Rattle.std.specs.Str.{bytes_eq}
use Rattle.dbf_file.specs.declared.field.Field.{Field}
use Rattle.shape.specs.Keys.{name_of}
use Rattle.shape_files.specs.Keys.{LacksField}

-- none of a list passes, so none of its front does
pub none_in_front : {X : Type 0} (p : X → Bool) (xs : List X) (n : ℕ) → list_any p xs ≡ false
    → list_any p (take n xs) ≡ false
none_in_front p xs zero e = refl
none_in_front p [] (suc n) e = refl
none_in_front p (x ∷ xs) (suc n) e =
    let q = or_parts (p x) (list_any p xs) e in
    or_from (p x) (list_any p (take n xs)) q.0 (none_in_front p xs n q.1)

-- none of a front passes, so none of a shorter one does
pub none_before : {X : Type 0} (p : X → Bool) (xs : List X) (n i : ℕ) → n ≤ i → list_any p (take i xs) ≡ false
    → list_any p (take n xs) ≡ false
none_before p xs zero i l e = refl
none_before p [] (suc n) i l e = refl
none_before p (x ∷ xs) (suc n) zero l e = absurd (omega (arith, l))
none_before p (x ∷ xs) (suc n) (suc i) l e =
    let q = or_parts (p x) (list_any p (take i xs)) e in
    or_from (p x) (list_any p (take n xs)) q.0 (none_before p xs n i (omega (arith, l)) q.1)

-- none of the whole list passes where a front has all of it
pub none_at_all : {X : Type 0} (p : X → Bool) (xs : List X) (n i : ℕ) → length xs ≤ i → list_any p (take i xs) ≡ false
    → list_any p (take n xs) ≡ false
none_at_all p xs n i l e = none_in_front p xs n (subst (λ ys. list_any p ys ≡ false) (take_all i xs l) e)

pub same_bytes : (xs ys : List ℕ) → bytes_eq xs ys ≡ true → xs ≡ ys
same_bytes xs ys e = (bytes_eq-Decides xs ys).0 e

some_is : {X : Type 0} (x y : X) → Some x ≡ Some y → x ≡ y
some_is x y e = cc

-- what stands in a front of which none passes doesn't pass
pub none_there : {X : Type 0} (p : X → Bool) (xs : List X) (i n : ℕ) (x : X) → i < n → slice_get xs i ≡ Some x
    → list_any p (take n xs) ≡ false → p x ≡ false
none_there p [] i n x l g e = absurd (cc)
none_there p (y ∷ xs) i zero x l g e = absurd (omega (arith, l))
none_there p (y ∷ xs) zero (suc n) x l g e =
    subst (λ z. p z ≡ false) (some_is y x g) (or_parts (p y) (list_any p (take n xs)) e).0
none_there p (y ∷ xs) (suc i) (suc n) x l g e =
    none_there p xs i n x (omega (arith, l)) g (or_parts (p y) (list_any p (take n xs)) e).1

pub bytes_differ : (xs ys : List ℕ) → bytes_eq xs ys ≡ false → xs ≡ ys → ⊥
bytes_differ xs ys e same = both_ways (bytes_eq xs ys) e ((bytes_eq-Decides xs ys).1 same)

-- no field of a front of 256 has the name, so no part names one of that name
pub lacks_field : (fields : List Field) (name : List ℕ)
    → list_any (λ f. bytes_eq f.name.items name) (take 256 fields) ≡ false → LacksField fields name
lacks_field fields name e part n same =
    bytes_differ n.field.name.items name
    (none_there (λ f. bytes_eq f.name.items name) fields part.field 256 n.field n.is_byte n.there e)
    (sym (ap name_of n.there) ∙ same)

-- ---- numbers that fit a byte

pub byte_found : (r : Option ℕ) (n : ℕ) (P : ℕ → Type 0) → MatchOption r (255 < n) (λ byte. byte ≡ n) → P n
    → IfSome r P
byte_found None n P m p = tt
byte_found (Some b) n P m p = subst P (sym m) p

pub byte_past : (r : Option ℕ) (n : ℕ) → MatchOption r (255 < n) (λ byte. byte ≡ n) → r ≡ None → 255 < n
byte_past None n m e = m
byte_past (Some b) n m e = absurd (cc)
