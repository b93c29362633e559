-- A row that a test of rows is asked for.
use Rattle.std.specs.Prelude.{◌≡◌, ℕ, ◌-◌, ◌≤◌, Bool, List, length}
use Rattle.std.specs.Borrow.{Bor}
use Rattle.dbf_file.specs.Rows.{Row, row_at}
use Rattle.dbf_file.specs.Tables.{StructureState}

-- the row, the structure of its table, its record number, and how many records the table has
pub record TriedRow : Type 0 where
  pub structure : StructureState
  pub row : Row
  pub number : ℕ
  pub count : ℕ

-- the row of a record, counted from 1
abbrev pub tried : StructureState → List Row → ℕ → TriedRow
tried structure rows n = record { structure = structure; row = row_at rows (n - 1); number = n; count = length rows }

-- at each record the test answers what is shown
abbrev pub ShowsRows : {F : Type 0} → (F → TriedRow → Bool → Type 0) → F → StructureState → List Row → (ℕ → Bool)
    → Type 0
ShowsRows answers see structure rows shown =
    (n : ℕ) (r : Bool) → 1 ≤ n → n ≤ length rows → answers see (tried structure rows n) r → r ≡ shown n

-- a test of rows may be called at each row of a table of this structure
abbrev pub MayAskRows : {F : Type 0} → (F → Bor TriedRow → Type 0) → F → StructureState → Type 0
MayAskRows may see structure = (r : Bor TriedRow) → r.now.structure ≡ structure → may see r
