-- The faults that are listed while the writing goes on.
use Rattle.std.specs.Prelude.{◌≡◌, ℕ, Bool, ◌&&◌, ◌==◌, List, ◌∷◌}
use Rattle.std.specs.List.{list_any}
use Rattle.std.specs.declared.cmp.Ordering.{Ordering}
use Rattle.std.specs.Ordering.{nat_cmp, ordering_then}
use Rattle.std.specs.BTreeSet.{BTreeSet, contains}
use Rattle.prg_code.specs.declared.fault.CompileFault.{CompileFault}

-- the fault that is told, and those that are listed behind it
pub record ListedFaults : Type 0 where
  pub told : CompileFault
  pub others : List CompileFault

-- faults of one line of one file
abbrev pub same_line : CompileFault → CompileFault → Bool
same_line a b = a.file == b.file && a.line == b.line

-- a fault of this line is told or listed
abbrev pub has_line : CompileFault → CompileFault → List CompileFault → Bool
has_line fault told others = list_any (same_line fault) (told ∷ others)

abbrev pub place_cmp : ℕ × ℕ → ℕ × ℕ → Ordering
place_cmp a b = ordering_then (nat_cmp a.0 b.0) (nat_cmp a.1 b.1)

-- these are the files and lines of the faults that are told or listed
abbrev pub ArePlaces : BTreeSet (ℕ × ℕ) → CompileFault → List CompileFault → Type 0
ArePlaces places told others =
    (fault : CompileFault) → contains place_cmp places (fault.file, fault.line) ≡ has_line fault told others
