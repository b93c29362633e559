-- An index file: page 0, and a tree of pages.
use Rattle.std.specs.Prelude.{◌≡◌, ℕ, zero, suc, ◌*◌, ◌/◌, Bool, true, false, not, ◌||◌, ◌==◌, nat_lt, Option, Some}
use Rattle.std.specs.Prelude.{None, List, [], ◌∷◌, ◌++◌, length, take, drop}
use Rattle.ndx_page.specs.declared.head.Head.{Head}
use Rattle.ndx_page.specs.declared.page.PageEntry.{PageEntry}
use Rattle.ndx_page.specs.declared.page.Page.{Page}
use Rattle.ndx_page.specs.HeadLayout.{IsHead}
use Rattle.ndx_page.specs.PageLayout.{IsPage}
use Rattle.key_lists.specs.Order.{Each, IsAscending}
use Rattle.key_lists.specs.Pairs.{Pair, is_before, key_before}
use Rattle.key_lists.specs.KeyForm.{KeyForm}

-- how many whole pages the bytes are
abbrev pub page_count : List ℕ → ℕ
page_count bytes = length bytes / 512

-- the bytes of a page, page 0 being the first
abbrev pub page_at : ℕ → List ℕ → List ℕ
page_at n bytes = take 512 (drop (n * 512) bytes)

-- ---- what a walk meets

-- a pair of a leaf, or the key of the entry between two children, a separator
pub data Item : Type 0 where
  Listed : Pair → Item
  Between : List ℕ → Item

-- the pairs among them
abbrev pub listed : List Item → List Pair
listed [] = []
listed (Listed p ∷ items) = p ∷ listed items
listed (Between key ∷ items) = listed items

-- the pairs of a leaf's entries
abbrev pub leaf_pairs : List PageEntry → List Pair
leaf_pairs [] = []
leaf_pairs (e ∷ es) = (e.key.items, e.number) ∷ leaf_pairs es

abbrev pub all_listed : List Pair → List Item
all_listed [] = []
all_listed (p ∷ ps) = Listed p ∷ all_listed ps

-- a child's number, with the separator behind it if there is one
abbrev pub Link : Type 0
Link = ℕ × Option (List ℕ)

-- the children of an inner page
abbrev pub links : List PageEntry → ℕ → List Link
links [] last = (last, None) ∷ []
links (e ∷ es) last = (e.child, Some e.key.items) ∷ links es last

-- a separator as an item
abbrev pub separator_items : Option (List ℕ) → List Item
separator_items None = []
separator_items (Some key) = Between key ∷ []

-- ---- which tree stands in the pages

-- Below children side by side: which pages are reached, and what is met, from the left. R says it of one child.
abbrev pub AreBelow : (ℕ → List ℕ → List Item → Type 0) → List Link → List ℕ → List Item → Type 0
AreBelow R [] reached items = (reached ≡ []) × (items ≡ [])
AreBelow R (c ∷ cs) reached items = (r1 : List ℕ) × (r2 : List ℕ) × (i1 : List Item) × (i2 : List Item)
    × (reached ≡ r1 ++ r2) × (items ≡ i1 ++ (separator_items c.1 ++ i2)) × R c.0 r1 i1 × AreBelow R cs r2 i2

-- Below a page whose last child is that: in a leaf, which has none, its pairs are met, and it has to stand where leaves
-- stand.
abbrev pub IsNode : (ℕ → List ℕ → List Item → Type 0) → Bool → Page → ℕ → List ℕ → List Item → Type 0
IsNode R here page zero reached items =
    (here ≡ true) × (reached ≡ []) × (items ≡ all_listed (leaf_pairs page.entries.items))
IsNode R here page (suc last) reached items = AreBelow R (links page.entries.items (suc last)) reached items

-- From page n on, with at most so many pages one below another, these pages are reached, and these items met. Leaves
-- stand where `level` more pages would be allowed.
abbrev pub IsBelow : ℕ → List ℕ → ℕ → ℕ → ℕ → List ℕ → List Item → Type 0
IsBelow key_length bytes level zero n reached items = ⊥
IsBelow key_length bytes level (suc d) n reached items = (page : Page) × (rest : List ℕ)
    × IsPage key_length (page_at n bytes) page × (reached ≡ n ∷ rest)
    × IsNode (IsBelow key_length bytes level d) (d == level) page page.last rest items

abbrev pub is_listed : ℕ → List ℕ → Bool
is_listed n [] = false
is_listed n (m ∷ ms) = n == m || is_listed n ms

-- page 0, a page outside the file, or one that was reached before
abbrev pub is_barred : ℕ → ℕ → List ℕ → Bool
is_barred count n seen = n == 0 || (not (nat_lt n count) || is_listed n seen)

-- each page is in the file, and none is reached twice, nor is one of those seen before
abbrev pub AreFresh : ℕ → List ℕ → List ℕ → Type 0
AreFresh count seen [] = Unit {0}
AreFresh count seen (n ∷ ns) = (is_barred count n seen ≡ false) × AreFresh count (seen ++ n ∷ []) ns

-- each separator is no less than each key to the left of it, and no greater than each key to the right
abbrev pub AreBounds : List Pair → List Item → Type 0
AreBounds left [] = Unit {0}
AreBounds left (Listed p ∷ items) = AreBounds (left ++ p ∷ []) items
AreBounds left (Between key ∷ items) = Each (λ p. key_before key p.0 ≡ false) left
    × Each (λ p. key_before p.0 key ≡ false) (listed items) × AreBounds left items

-- the pairs rise, and the separators stand between their sides
pub record AreInOrder (items : List Item) : Type 0 where
  pub rising : IsAscending is_before (listed items)
  pub bounds : AreBounds [] items

-- From the root on, at most 20 pages stand one below another.
pub record IsTreeOf (bytes : List ℕ) (key_length : ℕ) (root : ℕ) (pairs : List Pair) : Type 0 where
  pub level : ℕ
  pub reached : List ℕ
  pub items : List Item
  pub below : IsBelow key_length bytes level 20 root reached items
  pub fresh : AreFresh (page_count bytes) [] reached
  pub order : AreInOrder items
  pub pairs_are : pairs ≡ listed items

-- the bytes are an index file of these pairs
pub record IsIndexFile (bytes : List ℕ) (form : KeyForm) (pairs : List Pair) : Type 0 where
  pub head : Head
  pub is_head : IsHead bytes head
  pub key_length : head.length ≡ form.key_length
  pub key_text : head.text.items ≡ form.key_text
  pub tree : IsTreeOf bytes head.length head.root pairs
