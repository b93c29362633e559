-- How many entries a page may have, and the room for them.
use Rattle.std.specs.Prelude.{ℕ, ◌+◌, ◌*◌, ◌-◌, ◌/◌, ◌≤◌, List}
use Rattle.key_lists.specs.Pairs.{Pair}
use Rattle.key_rows.specs.Flat.{HaveKeys}

-- the keys have one length, of which so many fit into a page
pub record AreKeyed (most : ℕ) (pairs : List Pair) : Type 0 where
  pub key_length : ℕ
  pub fits : (key_length + 8) * most ≤ 504
  pub keys : HaveKeys key_length pairs

-- the bytes for the longest pairs of which so many fit into a page, and for one more
unfoldable pub room_for : ℕ → ℕ
room_for most = (most + 1) * (504 / most - 4)
