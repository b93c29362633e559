-- How what stands is judged.
use Rattle.std.proofs.Common.{◌≡◌, ◌≢◌, ◌⊎◌, inl, inr, ℕ, zero, suc, Bool, true, false, List, [], ◌∷◌, Option, Some}
use Rattle.std.proofs.Common.{None, map, slice_get, refl, rules}
use Rattle.std.proofs.lemmas.Slice.Eq.{bytes_eq-Decides}
use Rattle.std.specs.Str.{bytes_eq}
use Rattle.std.specs.List.{list_any}
use Rattle.save_steps.specs.declared.slots.Slot.{Slot}
use Rattle.save_steps.specs.declared.slots.Slot.TheVariants.{Waiting, Placed}
use Rattle.save_steps.specs.Finishing.{is_foreign, same_sum, slot_of}
use Rattle.save_steps.specs.Folders.{Renewal}

pub same_bytes : (s : List ℕ) → bytes_eq s s ≡ true
same_bytes s = search (rules, bytes_eq-Decides)

pub other_bytes : (a b : List ℕ) → a ≢ b → bytes_eq a b ≡ false
other_bytes a b ne = search (rules, bytes_eq-Decides)

pub same_or_not : (a b : List ℕ) → (a ≡ b) ⊎ (a ≢ b)
same_or_not a b = by_test (bytes_eq a b) refl
  where
    by_test : (r : Bool) → bytes_eq a b ≡ r → (a ≡ b) ⊎ (a ≢ b)
    by_test true e = inl ((bytes_eq-Decides a b).0 e)
    by_test false e = inr (λ h. let e' : bytes_eq a b ≡ true = (bytes_eq-Decides a b).1 h in absurd cc)

same_as_itself : (a : Option (List ℕ)) → same_sum a a ≡ true
same_as_itself None = refl
same_as_itself (Some s) = same_bytes s

-- a file that is as it was, with its new file beside it
pub waits : (old : Option (List ℕ)) (new : List ℕ) → slot_of old (Some new) old new ≡ Waiting
unfolding slot_of
waits old new = rw (same_bytes new, same_as_itself old) refl

-- a new file in its place
pub is_placed : (old : Option (List ℕ)) (new : List ℕ) → slot_of (Some new) None old new ≡ Placed
unfolding slot_of
is_placed old new = rw (same_bytes new) refl

-- none is foreign if each isn't
pub none_foreign : (slot : Renewal → Slot) (cs : List Renewal)
    → ((k : ℕ) (c : Renewal) → slice_get cs k ≡ Some c → is_foreign (slot c) ≡ false)
    → list_any is_foreign (map slot cs) ≡ false
none_foreign slot [] h = refl
none_foreign slot (c ∷ cs) h =
    let here : is_foreign (slot c) ≡ false = h zero c refl in
    let rest : list_any is_foreign (map slot cs) ≡ false = none_foreign slot cs (λ k b. h (suc k) b) in
    rw (here, rest) refl
