-- Lists of pairs that are the same.
use Rattle.std.proofs.Common.{◌≡◌, ◌==◌, ℕ, Bool, List, refl, ap}
use Rattle.std.specs.Bool.{Decides}
use Rattle.std.specs.Str.{bytes_eq}
use Rattle.std.proofs.lemmas.Bool.Decides.{Decides-and, Decides-eqb, Decides-like, same_from_decides}
use Rattle.std.proofs.lemmas.Slice.Eq.{bytes_eq-Decides, slice_eq-Decides}
use Rattle.key_lists.specs.Pairs.{Pair}
use Rattle.folder_shapes.specs.Owners.{are_one_pair, same_pairs}

joined : (a b : List ℕ) (m n : ℕ) → (a ≡ b) × (m ≡ n) → ◌≡◌ {A = Pair} (a, m) (b, n)
joined a b m n h = rw (h.0, h.1) refl

parted : (p q : Pair) → p ≡ q → (p.0 ≡ q.0) × (p.1 ≡ q.1)
parted p q e = (ap (λ (x : Pair). x.0) e, ap (λ (x : Pair). x.1) e)

one : (p q : Pair) → Decides (are_one_pair p q) (p ≡ q)
one p q =
    Decides-like (are_one_pair p q) (λ h. joined p.0 q.0 p.1 q.1 h) (λ e. parted p q e)
    (Decides-and (bytes_eq p.0 q.0) (p.1 == q.1) (bytes_eq-Decides p.0 q.0) (Decides-eqb p.1 q.1))

pub same_of : (r : Bool) (ps qs : List Pair) → Decides r (ps ≡ qs) → r ≡ same_pairs ps qs
same_of r ps qs h = same_from_decides r (same_pairs ps qs) h (slice_eq-Decides one ps qs (same_pairs ps qs) refl)
