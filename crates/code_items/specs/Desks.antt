-- What is known of the work areas, and when a map covers it.
use Rattle.std.specs.Prelude.{ℕ, zero, suc, Bool, true, false, ◌&&◌, ◌==◌, List, Option, Some, None, length, replicate}
use Rattle.std.specs.Prelude.{slice_get, slice_set}
use Rattle.code_items.specs.declared.desk.OpenArea.{OpenArea}
use Rattle.code_items.specs.declared.desk.AreaState.{AreaState}
use Rattle.code_items.specs.declared.desk.AreaState.TheVariants.{Closed, Open, Unsure}
use Rattle.code_items.specs.declared.desk.Desk.{Desk}
use Rattle.code_items.specs.Pairs.{along}

abbrev pub same_area : OpenArea → OpenArea → Bool
same_area a b = a.table == b.table && a.list == b.list && a.order == b.order && a.filter == b.filter

-- nothing is known of the map's area, or it is as the other
abbrev pub area_covered : AreaState × AreaState → Bool
area_covered (Unsure, there) = true
area_covered (Closed, Closed) = true
area_covered (Closed, Open b) = false
area_covered (Closed, Unsure) = false
area_covered (Open a, Closed) = false
area_covered (Open a, Open b) = same_area a b
area_covered (Open a, Unsure) = false

abbrev pub areas_covered : List AreaState → List AreaState → Bool
areas_covered map there = along area_covered map there

-- the same selected work area, and areas that are covered
abbrev pub desk_covered : Desk → Desk → Bool
desk_covered map there = map.selected == there.selected && areas_covered map.areas there.areas

-- an area that is known to be open
abbrev pub if_open : Option AreaState → Option OpenArea
if_open None = None
if_open (Some Closed) = None
if_open (Some (Open a)) = Some a
if_open (Some Unsure) = None

-- the area of this number, counted from 1, if it is known to be open
abbrev pub open_at : Desk → ℕ → Option OpenArea
open_at desk zero = None
open_at desk (suc n) = if_open (slice_get desk.areas n)

-- the selected area as told; as it was where none is selected
abbrev pub put_at : ℕ → AreaState → List AreaState → List AreaState
put_at zero area areas = areas
put_at (suc n) area areas = slice_set areas n area

abbrev pub with_selected_area : AreaState → Desk → Desk
with_selected_area area desk = record desk { areas = put_at desk.selected area desk.areas }

-- all areas closed and the first selected
abbrev pub all_closed : Desk → Desk
all_closed desk = record { selected = 1; areas = replicate (length desk.areas) Closed }
