-- What a page of the tree is seen as, and what holds of it.
use Rattle.std.specs.Prelude.{◌≡◌, ℕ, zero, suc, ◌+◌, ◌*◌, ◌/◌, ◌<◌, ◌≤◌, ◌⊎◌, Bool, true, false, List, [], ◌∷◌, ◌++◌}
use Rattle.std.specs.Prelude.{length, drop, get_or, Option, Some, None}
use Rattle.key_lists.specs.Pairs.{Pair}
use Rattle.key_lists.specs.Rising.{last_of, IsRising, with_pair, has, without_pair}

-- a page by the pairs in its leaves, its height, its own entries and the most entries that one may have
pub record PageView : Type 0 where
  pub pairs : List Pair
  pub height : ℕ
  pub count : ℕ
  pub most : ℕ

-- the pairs of pages that stand side by side
abbrev pub pairs_of_pages : List PageView → List Pair
pairs_of_pages [] = []
pairs_of_pages (c ∷ cs) = c.pairs ++ pairs_of_pages cs

-- a leaf's pairs are its entries, and an inner page's those of its children
abbrev pub pairs_of : List Pair → List PageView → List Pair
pairs_of es [] = es
pairs_of es (c ∷ cs) = pairs_of_pages (c ∷ cs)

abbrev pub height_of : List PageView → ℕ
height_of [] = 1
height_of (c ∷ cs) = c.height + 1

-- what is seen of a page with these parts
abbrev pub view_of : ℕ → List Pair → List PageView → PageView
view_of most es cs = record { pairs = pairs_of es cs; height = height_of cs; count = length es; most = most }

-- Each separator is the last pair of the child before it. There is one child more.
abbrev pub IsCut : List Pair → List PageView → Type 0
IsCut [] [] = ⊥
IsCut [] (c ∷ []) = Unit {0}
IsCut [] (c ∷ d ∷ cs) = ⊥
IsCut (s ∷ ss) [] = ⊥
IsCut (s ∷ ss) (c ∷ cs) = (last_of c.pairs ≡ Some s) × IsCut ss cs

-- the fewest pairs below a page that is not the root
unfoldable pub least_pairs : ℕ → ℕ
least_pairs zero = 2
least_pairs (suc zero) = 2
least_pairs (suc (suc height)) = 3 * least_pairs (suc height)

-- the fewest pairs in a tree of this height
unfoldable pub least_root : ℕ → ℕ
least_root zero = 0
least_root (suc zero) = 0
least_root (suc (suc height)) = 2 * least_pairs (suc height)

-- a child below a page: of this height, with the same most entries, and at least half filled
pub record IsChild (height most : ℕ) (c : PageView) : Type 0 where
  pub level : c.height ≡ height
  pub same_most : c.most ≡ most
  pub half : most / 2 ≤ c.count
  pub full : c.count ≤ most
  pub filled : least_pairs height ≤ length c.pairs
  pub high : 0 < height

abbrev pub AreChildren : ℕ → ℕ → List PageView → Type 0
AreChildren height most [] = Unit {0}
AreChildren height most (c ∷ cs) = IsChild height most c × AreChildren height most cs

-- what holds between the entries and the children
abbrev pub IsFramed : ℕ → List Pair → List PageView → Type 0
IsFramed most es [] = Unit {0}
IsFramed most es (c ∷ cs) = IsCut es (c ∷ cs) × AreChildren c.height most (c ∷ cs)

-- what holds of a page's parts
pub record IsFramedPage (most : ℕ) (es : List Pair) (cs : List PageView) : Type 0 where
  pub rising : IsRising (pairs_of es cs)
  pub framed : IsFramed most es cs
  pub four : 4 ≤ most

-- A page takes x. Where it is then too full, its later half becomes a page of its own, after a separator.
abbrev pub Inserts : PageView → Pair → PageView → Option (Pair × PageView) → Type 0
Inserts old x new None = (new.pairs ≡ with_pair x old.pairs) × (new.height ≡ old.height) × (new.most ≡ old.most)
    × (old.count ≤ new.count) × (new.count ≤ old.most)
Inserts old x new (Some p) = (new.pairs ++ p.1.pairs ≡ with_pair x old.pairs) × (last_of new.pairs ≡ Some p.0)
    × IsChild old.height old.most new × IsChild old.height old.most p.1

-- A page takes x where its leaf has room, and says whether it did.
abbrev pub InsertsInRoom : PageView → Pair → PageView → Bool → Type 0
InsertsInRoom old x new false = new ≡ old
InsertsInRoom old x new true = (0 < old.height) × Inserts old x new None

-- a page with the parts es and cs, which has too many, becomes one with es2 and cs2, a separator and a later page
abbrev pub Divides : ℕ → List Pair → List PageView → List Pair → List PageView → Pair × PageView → Type 0
Divides most es cs es2 cs2 p = (pairs_of es2 cs2 ++ p.1.pairs ≡ pairs_of es cs)
    × (last_of (pairs_of es2 cs2) ≡ Some p.0) × IsChild (height_of cs) most (view_of most es2 cs2)
    × IsChild (height_of cs) most p.1 × IsFramedPage most es2 cs2

-- a page has as many pairs as its entries ask for
pub record IsWell (v : PageView) : Type 0 where
  pub filled : v.most / 2 ≤ v.count → least_pairs v.height ≤ length v.pairs
  pub some : 0 < v.count → 0 < length v.pairs
  pub tall : (1 < v.height → 0 < v.count) → least_root v.height ≤ length v.pairs

-- A page loses x, and says whether it had it. It may have one entry less then.
abbrev pub Removes : PageView → Pair → PageView → Bool → Type 0
Removes old x new false = (has x old.pairs ≡ false) × (new ≡ old)
Removes old x new true = (has x old.pairs ≡ true) × (new.pairs ≡ without_pair x old.pairs) × (new.height ≡ old.height)
    × (new.most ≡ old.most) × (old.count ≤ new.count + 1) × (new.count ≤ old.count) × IsWell new

-- Of two pages side by side with so many entries, one has one less than half.
pub record IsUneven (most l r : ℕ) : Type 0 where
  pub low : most / 2 ≤ l + 1
  pub high : most / 2 ≤ r + 1
  pub full_low : l ≤ most
  pub full_high : r ≤ most
  pub light : (l < most / 2) ⊎ (r < most / 2)

-- An entry moves over to the page that has less: from so many entries in the first to so many.
abbrev pub Evens : ℕ → ℕ → ℕ → Type 0
Evens l r l2 = ((l < r) × (l2 ≡ l + 1)) ⊎ ((r ≤ l) × (l2 + 1 ≡ l))

-- Two pages side by side become one, or are parted anew.
abbrev pub Joins : PageView → PageView → PageView → Option (Pair × PageView) → Type 0
Joins l r new None = (new.pairs ≡ l.pairs ++ r.pairs) × IsChild l.height l.most new
Joins l r new (Some p) = (new.pairs ++ p.1.pairs ≡ l.pairs ++ r.pairs) × (last_of new.pairs ≡ Some p.0)
    × IsChild l.height l.most new × IsChild l.height l.most p.1

-- what may stand for a child after a removal below it: one entry may be missing
pub record IsLight (height most : ℕ) (c : PageView) : Type 0 where
  pub level : c.height ≡ height
  pub same_most : c.most ≡ most
  pub half : most / 2 ≤ c.count + 1
  pub full : c.count ≤ most
  pub well : IsWell c
  pub high : 0 < height

-- each page but the one at i is a child
abbrev pub AreBut : ℕ → ℕ → ℕ → List PageView → Type 0
AreBut height most i [] = Unit {0}
AreBut height most zero (c ∷ cs) = AreChildren height most cs
AreBut height most (suc i) (c ∷ cs) = IsChild height most c × AreBut height most i cs

-- each page but those at i and after it is a child
abbrev pub AreChildrenBesides : ℕ → ℕ → ℕ → List PageView → Type 0
AreChildrenBesides height most i [] = Unit {0}
AreChildrenBesides height most zero (c ∷ cs) = AreChildren height most (drop 1 cs)
AreChildrenBesides height most (suc i) (c ∷ cs) = IsChild height most c × AreChildrenBesides height most i cs

-- an inner page below which an entry was taken out: the child at `at` may be light
pub record IsMending (h most at : ℕ) (es : List Pair) (cs : List PageView) : Type 0 where
  pub rising : IsRising (pairs_of_pages cs)
  pub cut : IsCut es cs
  pub but : AreBut h most at cs
  pub light : (d : PageView) → IsLight h most (get_or cs at d)
  pub four : 4 ≤ most
  pub within : at < length cs
  pub two : 0 < length es
  pub full : length es ≤ most

-- what becomes of it
pub record Mends (most : ℕ) (es : List Pair) (cs : List PageView) (es2 : List Pair) (cs2 : List PageView) : Type 0 where
  pub page : IsFramedPage most es2 cs2
  pub pairs : pairs_of es2 cs2 ≡ pairs_of_pages cs
  pub height : height_of cs2 ≡ height_of cs
  pub lost : length es ≤ length es2 + 1
  pub fewer : length es2 ≤ length es
