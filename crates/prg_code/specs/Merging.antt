-- What is known where ways meet: what is known on each of them.
use Rattle.std.specs.Prelude.{◌≡◌, true, if◌then◌else◌, List, [], Option, None, map, length}
use Rattle.std.specs.List.{zip}
use Rattle.xvalue.specs.declared.kind.Kind.{Kind}
use Rattle.code_items.specs.declared.desk.AreaState.{AreaState}
use Rattle.code_items.specs.declared.desk.AreaState.TheVariants.{Unsure}
use Rattle.code_items.specs.declared.state.State.{State}
use Rattle.code_items.specs.Desks.{area_covered, desk_covered}
use Rattle.code_items.specs.Kinds.{slot_covered, slots_covered}

-- a work area that is the same on both ways; else nothing is known of it
abbrev pub merged_area : AreaState × AreaState → AreaState
merged_area ways = if area_covered ways then ways.0 else Unsure

-- a slot of the same kind on both ways; else it is free
abbrev pub merged_kind : Option Kind × Option Kind → Option Kind
merged_kind ways = if slot_covered ways then ways.0 else None

abbrev pub merged_areas : List AreaState → List AreaState → List AreaState
merged_areas one two = map merged_area (zip one two)

abbrev pub merged_kinds : List (Option Kind) → List (Option Kind) → List (Option Kind)
merged_kinds one two = map merged_kind (zip one two)

-- the area that is selected on the first way, and an empty stack
abbrev pub merged_state : State → State → State
merged_state one two = record {
  desk = record {
    selected = one.desk.selected;
    areas = merged_areas one.desk.areas two.desk.areas;
  };
  slots = merged_kinds one.slots two.slots;
  stack = [];
}

-- ways on which the same area is selected, with as many areas and slots
pub record DoMeet (one two : State) : Type 0 where
  pub selected : one.desk.selected ≡ two.desk.selected
  pub areas : length one.desk.areas ≡ length two.desk.areas
  pub slots : length one.slots ≡ length two.slots

-- the same area is selected, and the same is known of each area and of each slot; the stacks may differ
pub record KnowSame (one two : State) : Type 0 where
  pub selected : one.desk.selected ≡ two.desk.selected
  pub areas : one.desk.areas ≡ two.desk.areas
  pub slots : one.slots ≡ two.slots

-- what is known in the map is known there
pub record IsKnown (map there : State) : Type 0 where
  pub desk : desk_covered map.desk there.desk ≡ true
  pub slots : slots_covered map.slots there.slots ≡ true

-- where ways meet, nothing is known but what is known on both, and all of that
pub record MergesWays (one two : State) : Type 0 where
  pub first : IsKnown (merged_state one two) one
  pub second : IsKnown (merged_state one two) two
  pub most : (map : State) → IsKnown map one → IsKnown map two → IsKnown map (merged_state one two)
