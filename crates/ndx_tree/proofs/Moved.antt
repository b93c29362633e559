-- The first and the last of a list, taken out.
use Rattle.std.proofs.Common.{◌≡◌, ℕ, Some, ◌+◌, List, [], ◌∷◌, ◌++◌, length, get_or, take, ap, ◌∙◌, refl, subst}
use Rattle.key_lists.specs.Pairs.{Pair}
use Rattle.key_lists.specs.Rising.{last_of}
use Rattle.key_lists.proofs.Rises.{last_back}
use Rattle.key_lists.proofs.Ordered.{Each-append_right}
use Rattle.key_rows.specs.Flat.{HaveKeys}
use Rattle.key_rows.proofs.FlatLemmas.{last_apart}

pub last_pushed : (low low2 : List Pair) (x : Pair) → low2 ≡ low ++ x ∷ [] → last_of low2 ≡ Some x
last_pushed low low2 x e = ap last_of e ∙ last_back x low (x ∷ []) refl

pub last_read : (l : List Pair) (x : Pair) (n : ℕ) → n + 1 ≡ length l → x ≡ get_or l n x → last_of l ≡ Some x
last_read l x n e g = last_pushed (take n l) l x (last_apart l (take n l) x n e g refl)

-- the last of keys of one length has that length
pub last_size : (k : ℕ) (l front : List Pair) (x : Pair) → HaveKeys k l → l ≡ front ++ x ∷ [] → length x.0 ≡ k
last_size k l front x a e =
    (Each-append_right (λ p. length p.0 ≡ k) front (x ∷ []) (subst (λ (m : List Pair). HaveKeys k m) e a)).0
