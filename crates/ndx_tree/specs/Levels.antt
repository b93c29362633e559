-- A page above others.
use Rattle.std.specs.Prelude.{◌≡◌, ℕ, ◌+◌, List, length}
use Rattle.key_lists.specs.Rising.{IsRising}
use Rattle.ndx_tree.specs.Pages.{PageView, pairs_of_pages, height_of}

-- it has the pairs of these, is one higher, and has an entry between each two of them
pub record IsAbove (most : ℕ) (cs : List PageView) (page : PageView) : Type 0 where
  pub pairs : page.pairs ≡ pairs_of_pages cs
  pub rising : IsRising page.pairs
  pub level : page.height ≡ height_of cs
  pub same_most : page.most ≡ most
  pub count : page.count + 1 ≡ length cs
