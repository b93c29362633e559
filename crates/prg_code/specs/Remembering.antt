-- What is kept of a state in little room, and what is known of it again.
use Rattle.std.specs.Prelude.{◌≡◌, ℕ, ◌-◌, List, [], ◌++◌, None, take, length, replicate}
use Rattle.code_items.specs.declared.desk.AreaState.TheVariants.{Closed}
use Rattle.code_items.specs.declared.desk.Desk.{Desk}
use Rattle.code_items.specs.declared.state.State.{State}
use Rattle.prg_code.specs.declared.seen.Seen.{Seen}

-- what is kept, and behind it the same item so many times, are all
abbrev pub AreAllBut : {A : Type 0} → A → List A → List A → Type 0
AreAllBut blank kept all = (n : ℕ) × (all ≡ kept ++ replicate n blank)

-- so many items: what was kept, and behind it the same item
abbrev pub filled_up : {A : Type 0} → A → ℕ → List A → List A
filled_up blank size kept = take size kept ++ replicate (size - length kept) blank

-- the selected work area, the work areas but closed ones at the end, and the slots but those at the end of which
-- nothing is known
pub record Remembers (seen : Seen) (state : State) : Type 0 where
  pub selected : seen.selected ≡ state.desk.selected
  pub areas : AreAllBut Closed seen.areas.items state.desk.areas
  pub slots : AreAllBut None seen.kinds.items state.slots

abbrev pub desk_remembered : Seen → Desk
desk_remembered seen = record { selected = seen.selected; areas = filled_up Closed 10 seen.areas.items }

-- with so many slots and an empty stack
abbrev pub state_remembered : Seen → ℕ → State
state_remembered seen slots = record {
  desk = desk_remembered seen;
  slots = filled_up None slots seen.kinds.items;
  stack = [];
}
