-- Parameters that hide names, one after another.
use Rattle.std.proofs.Common.{◌≡◌, ℕ, Bool, true, false, if◌then◌else◌, List, [], ◌∷◌, Option, Some, cond, refl, ap}
use Rattle.std.proofs.Common.{subst, ◌∙◌}
use Rattle.std.specs.Str.{bytes_eq}
use Rattle.std.proofs.lemmas.Slice.Eq.{bytes_eq-Decides}
use Rattle.arrayvec.specs.ArrayVec.{ArrayVec}
use Rattle.std.specs.Option.{option_map}
use Rattle.prg_code.specs.declared.names.Variable.{Variable}
use Rattle.prg_code.specs.Bindings.{NamedVariables, slot_named, as_caller, as_callers}
use Rattle.prg_writer.specs.Naming.{slot_behind, SeesParameters}

alike : (ps : List (ArrayVec ℕ)) (slots : List ℕ) (f g : List ℕ → Option ℕ) → ((n : List ℕ) → f n ≡ g n)
    → (name : List ℕ) → slot_behind ps slots f name ≡ slot_behind ps slots g name
alike [] slots f g h name = h name
alike (p ∷ ps) [] f g h name = h name
alike (p ∷ ps) (slot ∷ slots) f g h name =
    alike ps slots (λ n. if bytes_eq p.items n then Some slot else f n)
    (λ n. if bytes_eq p.items n then Some slot else g n)
    (λ n. ap (λ x. if bytes_eq p.items n then Some slot else x) (h n)) name

-- what a name stands for behind one parameter
behind_one : (p : ArrayVec ℕ) (slot : ℕ) (earlier later : NamedVariables) → slot_named later p.items ≡ Some slot
    → ((other : List ℕ) → bytes_eq p.items other ≡ false → slot_named later other ≡ slot_named earlier other)
    → (n : List ℕ) (b : Bool) → bytes_eq p.items n ≡ b
    → slot_named later n ≡ (if b then Some slot else slot_named earlier n)
behind_one p slot earlier later is others n true e =
    subst (λ m. slot_named later m ≡ Some slot) ((bytes_eq-Decides p.items n).0 e) is
behind_one p slot earlier later is others n false e = others n e

-- the first parameter, and those behind it
pub named_first : (ps : List (ArrayVec ℕ)) (slots : List ℕ) (p : ArrayVec ℕ) (slot : ℕ)
    (earlier between later : NamedVariables) → slot_named between p.items ≡ Some slot
    → ((other : List ℕ) → bytes_eq p.items other ≡ false → slot_named between other ≡ slot_named earlier other)
    → SeesParameters ps slots between later
    → SeesParameters (p ∷ ps) (slot ∷ slots) earlier later
named_first ps slots p slot earlier between later is others h name =
    h name ∙ alike ps slots (slot_named between) (λ n. if bytes_eq p.items n then Some slot else slot_named earlier n)
    (λ n. behind_one p slot earlier between is others n (bytes_eq p.items n) refl) name

same_slot : (b : Bool) (v : Variable) (one two : Option Variable)
    → option_map (λ (x : Variable). x.slot) one ≡ option_map (λ (x : Variable). x.slot) two
    → option_map (λ (x : Variable). x.slot) (cond b (Some (as_caller v)) one)
    ≡ option_map (λ (x : Variable). x.slot) (cond b (Some v) two)
same_slot true v one two h = refl
same_slot false v one two h = h

-- names that are handed on stand for the same slots
callers_named : (names : NamedVariables) (name : List ℕ) → slot_named (as_callers names) name ≡ slot_named names name
callers_named [] name = refl
callers_named (e ∷ es) name = same_slot (bytes_eq name e.0.items) e.1 _ _ (callers_named es name)

pub handed_on : (ps : List (ArrayVec ℕ)) (slots : List ℕ) (names handed later : NamedVariables)
    → handed ≡ as_callers names → SeesParameters ps slots handed later → SeesParameters ps slots names later
handed_on ps slots names handed later is h name =
    h name ∙ alike ps slots (slot_named handed) (slot_named names)
    (λ n. ap (λ (ns : NamedVariables). slot_named ns n) is ∙ callers_named names n) name
