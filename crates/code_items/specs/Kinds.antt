-- Kinds that are wanted, and kinds that a map covers.
use Rattle.std.specs.Prelude.{ℕ, zero, suc, Bool, true, false, not, ◌||◌, List, [], ◌∷◌, Option, Some, None}
use Rattle.xvalue.specs.declared.kind.Kind.{Kind}
use Rattle.xvalue.specs.Kinds.{same_kind}
use Rattle.code_items.specs.Pairs.{along}

-- the first is another than the second
abbrev pub other_kind : Kind × Kind → Bool
other_kind p = not (same_kind p.0 p.1)

-- one of the kinds that are there, from the top, is another than wanted
abbrev pub clashes : List Kind → List Kind → Bool
clashes [] there = false
clashes (kind ∷ kinds) [] = false
clashes (kind ∷ kinds) (top ∷ there) = not (same_kind top kind) || clashes kinds there

abbrev pub same_pair : Kind × Kind → Bool
same_pair p = same_kind p.0 p.1

-- two stacks have the same kinds
abbrev pub same_kinds : List Kind → List Kind → Bool
same_kinds one two = along same_pair one two

-- a map's stack is the second with so many values more on top, of which nothing is known
abbrev pub kinds_covered : ℕ → List Kind → List Kind → Bool
kinds_covered zero map there = same_kinds map there
kinds_covered (suc unknown) [] there = false
kinds_covered (suc unknown) (kind ∷ map) there = kinds_covered unknown map there

-- a slot of the map is free, or of the kind that is there
abbrev pub slot_covered : Option Kind × Option Kind → Bool
slot_covered (None, there) = true
slot_covered (Some kind, None) = false
slot_covered (Some kind, Some there) = same_kind kind there

abbrev pub slots_covered : List (Option Kind) → List (Option Kind) → Bool
slots_covered map there = along slot_covered map there
