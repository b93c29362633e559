-- An index file as it is written.
use Rattle.std.specs.Prelude.{◌≡◌, ℕ, ◌+◌, ◌*◌, ◌/◌, ◌<◌, ◌≤◌, List, [], ◌∷◌, ◌++◌, length}
use Rattle.ndx_page.specs.declared.head.Head.{Head}
use Rattle.ndx_page.specs.declared.page.Page.{Page}
use Rattle.ndx_page.specs.HeadLayout.{head_text}
use Rattle.ndx_page.specs.Layout.{most_entries}
use Rattle.ndx_page.specs.PageLayout.{FitsKeys, page_text}
use Rattle.key_lists.specs.Order.{Each}
use Rattle.key_lists.specs.Pairs.{Pair}
use Rattle.key_lists.specs.KeyForm.{KeyForm}
use Rattle.ndx_tree.specs.IndexFile.{IsIndexFile}

-- the texts of pages, one behind the other
abbrev pub pages_text : ℕ → List Page → List ℕ
pages_text key_length [] = []
pages_text key_length (p ∷ ps) = page_text key_length p ++ pages_text key_length ps

-- a page of a file with such keys; an entry between children has no record
pub record IsOwnPage (key_length : ℕ) (page : Page) : Type 0 where
  pub fits : FitsKeys key_length page
  pub plain : 0 < page.last → Each (λ e. e.number ≡ 0) page.entries.items

-- it has at least half of the entries that there may be
abbrev pub IsHalfFull : ℕ → Page → Type 0
IsHalfFull key_length page = most_entries key_length / 2 ≤ length page.entries.items

-- Page 0, the other pages, and the root behind them, each as it is written alone, with 0 in each byte that has no
-- meaning. The tree has just these pages, and each but the root is at least half full.
pub record IsIndexText (bytes : List ℕ) (form : KeyForm) (pairs : List Pair) : Type 0 where
  pub head : Head
  pub pages : List Page
  pub root : Page
  pub text : bytes ≡ head_text head ++ pages_text head.length (pages ++ root ∷ [])
  pub whole : length bytes ≡ (length pages + 2) * 512
  pub key_length : head.length ≡ form.key_length
  pub key_text : head.text.items ≡ form.key_text
  pub root_is : head.root ≡ length pages + 1
  pub count : head.pages ≡ length pages + 2
  pub own : Each (IsOwnPage head.length) (pages ++ root ∷ [])
  pub half : Each (IsHalfFull head.length) pages
  pub file : IsIndexFile bytes form pairs
  -- each page is reached, since none is reached twice
  pub reached : length file.tree.reached ≡ length pages + 1

-- No bytes are the index file of two lists.
abbrev pub HoldsOneList : Type 0
HoldsOneList = (bytes : List ℕ) (form other : KeyForm) (pairs others : List Pair) → IsIndexFile bytes form pairs
    → IsIndexFile bytes other others → (other ≡ form) × (others ≡ pairs)
