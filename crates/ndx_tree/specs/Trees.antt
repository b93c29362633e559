-- What a tree is seen as, and what holds of it.
use Rattle.std.specs.Prelude.{◌≡◌, ℕ, ◌+◌, ◌<◌, ◌≤◌, ◌^◌, List, Contains, length}
use Rattle.std.specs.Vec.{vec_len}
use Rattle.ndx_page.specs.Layout.{most_entries}
use Rattle.key_lists.specs.Pairs.{Pair}
use Rattle.key_lists.specs.KeyForm.{KeyForm, IsKeyList}
use Rattle.ndx_tree.specs.Pages.{PageView, least_root}
use Rattle.key_lists.specs.Rising.{IsRising}
use Rattle.ndx_tree.specs.Blanks.{IsPool}
use Rattle.ndx_tree.specs.declared.page.SparePages.{SparePages}

-- a tree by its pairs, how many pages stand one below another, for how many more pairs it has reserved, how many pages
-- the last search saw, and its keys' form
pub record TreeView : Type 0 where
  pub pairs : List Pair
  pub height : ℕ
  pub spare : ℕ
  pub seen : ℕ
  pub form : KeyForm

-- a root rises, has the pairs that its height asks for, and more than one child unless it is a leaf
pub record IsRoot (root : PageView) : Type 0 where
  pub rising : IsRising root.pairs
  pub tall : least_root root.height ≤ length root.pairs
  pub inner : 1 < root.height → 0 < root.count

-- a tree by its keys' form, its root, the pages that stand ready, and for how many more pairs it has reserved
pub record IsTree (form : KeyForm) (root : PageView) (pool : SparePages) (reserved : ℕ) : Type 0 where
  pub list : IsKeyList form root.pairs
  pub text : Contains form.key_text 0 → ⊥
  pub top : IsRoot root
  pub most : root.most ≡ most_entries form.key_length
  pub stock : IsPool root.most pool
  pub one : reserved ≤ 1
  -- a reservation is a leaf and an inner page for each level
  pub ready : 0 < reserved → (0 < vec_len pool.leaves) × (root.height ≤ vec_len pool.inner)
  pub few : length root.pairs + reserved < 2 ^ 32
