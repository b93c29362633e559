-- Blank pages, which stand ready for splits.
use Rattle.std.specs.Prelude.{◌≡◌, ℕ, ◌+◌, ◌<◌, ◌≤◌, []}
use Rattle.std.specs.Vec.{vec_capacity}
use Rattle.key_lists.specs.Order.{Each}
use Rattle.ndx_tree.specs.Rooms.{room_for}
use Rattle.ndx_tree.specs.declared.page.Blank.{Blank}
use Rattle.ndx_tree.specs.declared.page.SparePages.{SparePages}

-- it has nothing, and room for the entries of a page that has one too many
pub record IsBlank (most : ℕ) (b : Blank) : Type 0 where
  pub no_entry : b.entries.items ≡ []
  pub no_child : b.children.items ≡ []
  pub entry_room : room_for most ≤ b.entries.room

-- and for the children of one
pub record IsInnerBlank (most : ℕ) (b : Blank) : Type 0 where
  pub blank : IsBlank most b
  pub child_room : most + 1 < vec_capacity b.children

-- blank leaves, and blank inner pages
pub record IsPool (most : ℕ) (pool : SparePages) : Type 0 where
  pub leaves : Each (IsBlank most) pool.leaves.items
  pub inner : Each (IsInnerBlank most) pool.inner.items
