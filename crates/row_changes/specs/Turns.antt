-- Two lists of rows in order, gone through side by side.
use Rattle.std.specs.Prelude.{◌≡◌, ℕ, ◌+◌, List, map}
use Rattle.std.specs.Global.{Vec}
use Rattle.row_changes.specs.Changes.{GoesAndComes}
use Rattle.row_changes.specs.Ordered.{Rising}

-- the bytes of rows
abbrev pub texts : List (Vec ℕ) → List (List ℕ)
texts rows = map (λ (row : Vec ℕ). row.items) rows

-- with m rows gone and n come before them, the rows that are left make it M and N
pub record AddUp (before after : List (List ℕ)) (m n M N : ℕ) : Type 0 where
  pub goes : ℕ
  pub comes : ℕ
  pub there : GoesAndComes before after goes comes
  pub gone : M ≡ m + goes
  pub come : N ≡ n + comes

-- what is left, with what was counted, leads to what the whole would
pub record LeadsOn (before after : List (List ℕ)) (m n : ℕ) (left right : List (List ℕ)) (i j : ℕ) : Type 0 where
  pub left_rises : Rising left
  pub right_rises : Rising right
  pub back : (M N : ℕ) → AddUp left right i j M N → AddUp before after m n M N
