-- What lists and filters open and need, by their numbers, and where a fault is told.
use Rattle.std.specs.Prelude.{ℕ, zero, suc, Bool, true, false, not, List, Option, Some, length, slice_get}
use Rattle.std.specs.List.{list_any}
use Rattle.std.specs.Option.{option_map_or}
use Rattle.xvalue.specs.declared.kind.Kind.{Kind}
use Rattle.xvalue.specs.Kinds.{same_kind}
use Rattle.arrayvec.specs.ArrayVec.{ArrayVec}
use Rattle.code_items.specs.declared.declared.Need.{Need}
use Rattle.prg_code.specs.declared.filters.FilterBlock.{FilterBlock}
use Rattle.prg_code.specs.declared.fault.CompileError.{CompileError}
use Rattle.prg_code.specs.declared.fault.CompileError.TheVariants as error
use Rattle.prg_code.specs.declared.fault.CompileRefusal.{CompileRefusal}
use Rattle.prg_code.specs.declared.fault.CompileRefusal.TheVariants as refusal

-- how many indexes a list of this number opens, counted from 1; none where there is no such list
abbrev pub indexes_opened : List (ArrayVec ℕ) → ℕ → ℕ
indexes_opened lists zero = 0
indexes_opened lists (suc n) = option_map_or (λ list. length list.items) (slice_get lists n) 0

-- whether a slot isn't known to have a value of this kind
abbrev pub is_other : Kind → Option (Option Kind) → Bool
is_other wanted (Some (Some kind)) = not (same_kind kind wanted)
is_other wanted _ = true

abbrev pub is_unmet : List (Option Kind) → Need → Bool
is_unmet kinds need = is_other need.kind (slice_get kinds need.slot)

-- whether the filter of this number, counted from 1, needs a value that isn't known to be there
abbrev pub has_unmet_needs : List FilterBlock → ℕ → List (Option Kind) → Bool
has_unmet_needs filters zero kinds = false
has_unmet_needs filters (suc n) kinds =
    option_map_or (λ filter. list_any (is_unmet kinds) filter.needs.items) (slice_get filters n) false

-- a fault in this line of this file
abbrev pub told_at : CompileError → ℕ → ℕ → CompileRefusal
told_at (error.Fault kind) file line = refusal.Fault (record { file = file; line = line; kind = kind })
told_at error.NoMemory file line = refusal.NoMemory
