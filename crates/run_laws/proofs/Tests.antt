-- What tests of kinds, heights and numbers say of values, stacks and lists.
use Rattle.std.proofs.Common.{◌≡◌, ℕ, zero, suc, ◌+◌, ◌-◌, ◌<◌, ◌≤◌, Bool, true, false, List, [], ◌∷◌, length, Option}
use Rattle.std.proofs.Common.{Some, None, refl, ap, ◌∙◌, subst, arith}
use Rattle.std.specs.Prelude.{not, ◌||◌, ◌&&◌, slice_get, slice_index_or, map, option_map, ◌==◌, nat_lt}
use Rattle.std.specs.List.{list_all}
use Rattle.std.proofs.lemmas.Bool.{ltb-false, ne_eqb, or_parts, and_parts, not-false}
use Rattle.std.proofs.lemmas.List.{length-map}
use Rattle.std.proofs.lemmas.Option.{slice_get-map}
use Rattle.xvalue.specs.declared.kind.Kind.{Kind}
use Rattle.xvalue.specs.declared.value.Value.{Value}
use Rattle.xvalue.specs.Kinds.{kind_of, same_kind}
use Rattle.code_items.specs.Kinds.{clashes}
use Rattle.code_rules.specs.Rules.{has_other, is_free}
use Rattle.run_values.specs.Tagged.{HasOnTop, HoldsKind}
use Rattle.run_steps.specs.World.{kind_held}

-- kinds that are found the same are the same
abbrev pub Same : Type 0
Same = (one other : Kind) → same_kind one other ≡ true → one ≡ other

-- the first and the second of two tests that both fail
pub first_no : (x y : Bool) → x || y ≡ false → x ≡ false
first_no x y e = (or_parts x y e).0

pub second_no : (x y : Bool) → x || y ≡ false → y ≡ false
second_no x y e = (or_parts x y e).1

-- of two tests the first holds, and not both do
pub then_no : (x y : Bool) → x ≡ true → x && y ≡ false → y ≡ false
then_no true y h e = e
then_no false y h e = absurd (cc)

-- of two tests one holds, and not the first
pub else_yes : (x y : Bool) → x ≡ false → x || y ≡ true → y ≡ true
else_yes true y h e = absurd (cc)
else_yes false y h e = e

pub not_zero : (n : ℕ) → suc n == 0 ≡ false
not_zero n = ne_eqb (suc n) 0 (λ e. absurd (omega (arith, e)))

-- the kinds wanted are on top, where none that is there is another, and there are as many
pub on_top : Same → (kinds : List Kind) (vs : List Value) → clashes kinds (map kind_of vs) ≡ false
    → length kinds ≤ length vs → HasOnTop kinds vs
on_top same [] vs h le = tt
on_top same (k ∷ kinds) [] h le = absurd (omega (arith, le))
on_top same (k ∷ kinds) (v ∷ vs) h le =
    let p = or_parts (not (same_kind (kind_of v) k)) (clashes kinds (map kind_of vs)) h in
    (same (kind_of v) k (not-false (same_kind (kind_of v) k) p.0), on_top same kinds vs p.1 (omega (arith, le)))

-- a slot that is there, isn't free and has no other kind holds the kind
pub slot_holds : Same → (k : Kind) (slots : List (Option Value)) (n : ℕ) → n < length slots
    → has_other k (slice_get (map kind_held slots) n) ≡ false → is_free (slice_get (map kind_held slots) n) ≡ false
    → HoldsKind k (slice_get slots n)
slot_holds same k [] n lt other free = absurd (omega (arith, lt))
slot_holds same k (None ∷ slots) zero lt other free = absurd (cc)
slot_holds same k (Some v ∷ slots) zero lt other free = same (kind_of v) k (not-false (same_kind (kind_of v) k) other)
slot_holds same k (s ∷ slots) (suc n) lt other free = slot_holds same k slots n (omega (arith, lt)) other free

-- at least as many values as are taken
pub enough : (vs : List Value) (n : ℕ) → nat_lt (length (map kind_of vs)) n ≡ false → n ≤ length vs
enough vs n h = omega (arith, ltb-false (length (map kind_of vs)) n h, length-map vs kind_of)

-- room for one more
pub room_for : (bound : ℕ) (vs : List Value) → bound ≤ 64 → nat_lt bound (length (map kind_of vs) - 0 + 1) ≡ false
    → length vs < 64
room_for bound vs le h = omega (arith, ltb-false bound (length (map kind_of vs) - 0 + 1) h, length-map vs kind_of, le)

-- an element of a list that passes a test passes it
pub all_at : {A : Type 0} (test : A → Bool) (xs : List A) (n : ℕ) (x : A) → list_all test xs ≡ true
    → slice_get xs n ≡ Some x → test x ≡ true
all_at test [] n x all e = absurd (cc)
all_at test (y ∷ xs) zero x all e =
    let same : y ≡ x = cc in
    subst (λ z. test z ≡ true) same (and_parts (test y) (list_all test xs) all).0
all_at test (y ∷ xs) (suc n) x all e = all_at test xs n x (and_parts (test y) (list_all test xs) all).1 e

pub all_within : {A : Type 0} (test : A → Bool) (xs : List A) (n : ℕ) (d : A) → list_all test xs ≡ true → n < length xs
    → test (slice_index_or xs n d) ≡ true
all_within test [] n d all lt = absurd (omega (arith, lt))
all_within test (y ∷ xs) zero d all lt = (and_parts (test y) (list_all test xs) all).0
all_within test (y ∷ xs) (suc n) d all lt =
    all_within test xs n d (and_parts (test y) (list_all test xs) all).1 (omega (arith, lt))

-- an element that is there
pub is_there : {A : Type 0} (xs : List A) (n : ℕ) → n < length xs → (x : A) × (slice_get xs n ≡ Some x)
is_there [] n lt = absurd (omega (arith, lt))
is_there (x ∷ xs) zero lt = (x, refl)
is_there (x ∷ xs) (suc n) lt = is_there xs n (omega (arith, lt))

pub mapped_at : {A B : Type 0} (f : A → B) (xs : List A) (n : ℕ) (x : A) → slice_get xs n ≡ Some x
    → slice_get (map f xs) n ≡ Some (f x)
mapped_at f xs n x e = slice_get-map f xs n ∙ ap (option_map f) e
