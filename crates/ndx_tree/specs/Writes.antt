-- What stands in the bytes of an index file behind page 0 when pages have been written.
use Rattle.std.specs.Prelude.{◌≡◌, ℕ, ◌+◌, ◌<◌, ◌≤◌, ◌⊎◌, Some, List, [], ◌∷◌, ◌++◌, length}
use Rattle.ndx_page.specs.declared.page.PageEntry.{PageEntry}
use Rattle.ndx_page.specs.declared.page.Page.{Page}
use Rattle.ndx_page.specs.PageLayout.{IsPage, page_text}
use Rattle.key_lists.specs.Order.{Each}
use Rattle.key_lists.specs.Pairs.{Pair}
use Rattle.key_lists.specs.Rising.{last_of}
use Rattle.ndx_tree.specs.Pages.{PageView, pairs_of_pages}
use Rattle.ndx_tree.specs.IndexText.{pages_text, IsOwnPage, IsHalfFull}
use Rattle.ndx_tree.specs.IndexFile.{Item, Listed, Between, listed, Link, AreBelow, IsBelow, AreFresh}

-- each separator is the key of the last pair before it
abbrev pub AreLast : List Pair → List Item → Type 0
AreLast before [] = Unit {0}
AreLast before (Listed p ∷ items) = AreLast (before ++ p ∷ []) items
AreLast before (Between key ∷ items) = ((s : Pair) × (last_of before ≡ Some s) × (s.0 ≡ key)) × AreLast before items

-- numbers that were given to pages after the first so many, up to a last
abbrev pub AreGiven : ℕ → ℕ → List ℕ → Type 0
AreGiven first last numbers = Each (λ n. (first < n) × (n ≤ last)) numbers

-- and numbers that were not
abbrev pub AreOthers : ℕ → ℕ → List ℕ → Type 0
AreOthers first last numbers = Each (λ n. (n ≤ first) ⊎ (last < n)) numbers

-- The page and those below it stand behind page 0 and so many first pages, up to the page n, which is the page itself.
-- More may follow.
pub record IsWritten (key_length first n : ℕ) (body : List ℕ) (view : PageView) : Type 0 where
  pub reached : List ℕ
  pub items : List Item
  pub below : (front rest : List ℕ) (level : ℕ) → length front ≡ 512
      → IsBelow key_length (front ++ (body ++ rest)) level (level + view.height) n reached items
  pub given : AreGiven first n reached
  pub all : length reached + first ≡ n
  pub fresh : (count : ℕ) (seen : List ℕ) → n < count → AreOthers first n seen → AreFresh count seen reached
  pub pairs : listed items ≡ view.pairs
  pub last : (before : List Pair) → AreLast before items

-- an entry between children
abbrev pub IsLink : ℕ → PageEntry → Type 0
IsLink key_length e = (length e.key.items ≡ key_length) × (0 < e.child) × (e.number ≡ 0)

-- the children that entries name, each with the entry's key behind it
abbrev pub entry_links : List PageEntry → List Link
entry_links [] = []
entry_links (e ∷ es) = (e.child, Some e.key.items) ∷ entry_links es

-- Children of one height stand there, and entries name them.
pub record AreWritten (key_length height first n : ℕ) (body : List ℕ) (es : List PageEntry)
    (cs : List PageView) : Type 0 where
  pub reached : List ℕ
  pub items : List Item
  pub below : (front rest : List ℕ) (level : ℕ) → length front ≡ 512
      → AreBelow (IsBelow key_length (front ++ (body ++ rest)) level (level + height)) (entry_links es) reached items
  pub given : AreGiven first n reached
  pub all : length reached + first ≡ n
  pub fresh : (count : ℕ) (seen : List ℕ) → n < count → AreOthers first n seen → AreFresh count seen reached
  pub pairs : listed items ≡ pairs_of_pages cs
  pub last : (before : List Pair) → AreLast before items
  pub entries : Each (IsLink key_length) es

-- the page stands at the end
pub record IsAppended (key_length : ℕ) (old new : List ℕ) (page : Page) : Type 0 where
  pub text : List ℕ
  pub whole : length text ≡ 512
  pub is : text ≡ page_text key_length page
  pub stands : IsPage key_length text page
  pub items : new ≡ old ++ text

-- Whole pages, all of them half full, stand behind `old`. The last of them has the number n.
pub record ArePages (key_length first n : ℕ) (old new : List ℕ) : Type 0 where
  pub pages : List Page
  pub items : new ≡ old ++ pages_text key_length pages
  pub count : first + length pages ≡ n
  pub own : Each (IsOwnPage key_length) pages
  pub half : Each (IsHalfFull key_length) pages

-- The pages below a page with so many entries stand so too, and that page is the last.
pub record IsPageText (key_length first n : ℕ) (old new : List ℕ) (entry_count : ℕ) : Type 0 where
  pub pages : List Page
  pub page : Page
  pub items : new ≡ old ++ pages_text key_length (pages ++ page ∷ [])
  pub count : first + length pages + 1 ≡ n
  pub own : Each (IsOwnPage key_length) (pages ++ page ∷ [])
  pub half : Each (IsHalfFull key_length) pages
  pub entries : length page.entries.items ≡ entry_count
