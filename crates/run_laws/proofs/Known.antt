-- What a world of a code's shape has: what its state says, and the table, list, order and filter of each open area.
use Rattle.std.proofs.Common.{◌≡◌, ℕ, zero, suc, ◌-◌, ◌<◌, ◌≤◌, true, false, List, [], ◌∷◌, length, Option, Some, None}
use Rattle.std.proofs.Common.{refl, ap, subst, ◌∙◌, arith}
use Rattle.std.specs.Prelude.{◌&&◌, ◌||◌, ◌==◌, slice_get, slice_index_or, map, nat_lt, nat_le, is_none, IfSome}
use Rattle.std.specs.List.{list_all}
use Rattle.std.proofs.lemmas.Bool.{leb-true, ltb-true, eqb-true, and_parts}
use Rattle.std.proofs.lemmas.Option.{get_or_from_slice_get}
use Rattle.open_table.specs.Open.{OpenState}
use Rattle.work_area.specs.declared.uses.Use.{Use}
use Rattle.work_area.specs.Areas.{StoreState, use_at, used_table, table_at, area_table}
use Rattle.code_items.specs.declared.declared.Declared.{Declared}
use Rattle.code_items.specs.declared.desk.OpenArea.{OpenArea}
use Rattle.code_items.specs.declared.state.State.{State}
use Rattle.code_items.specs.Desks.{open_at, if_open as open_in}
use Rattle.code_items.specs.States.{is_list_of, is_filter_of, opened_by, is_open, is_area_state, is_desk, is_state}
use Rattle.run_steps.specs.World.{order_of, area_state, desk_of}
use Rattle.run_steps.specs.Effects.{list_numbers}
use Rattle.run_steps.specs.Shapes.{StoreFits, ListStands}
use Rattle.run_laws.proofs.Tests.{all_at, is_there, mapped_at}

-- what is known of a state of a code
pub record Known (d : Declared) (s : State) : Type 0 where
  pub one : 1 ≤ s.desk.selected
  pub last : s.desk.selected ≤ 10
  pub ten : length s.desk.areas ≡ 10
  pub areas : list_all (is_area_state d) s.desk.areas ≡ true
  pub slots : length s.slots ≡ d.slots
  pub stack : length s.stack ≤ d.stack_bound

pub known_of : (d : Declared) (s : State) → is_state d s ≡ true → Known d s
unfolding is_state is_desk
known_of d s e =
    let a = and_parts (is_desk d s.desk && length s.slots == d.slots) (nat_le (length s.stack) d.stack_bound) e in
    let b = and_parts (is_desk d s.desk) (length s.slots == d.slots) a.0 in
    let c =
    and_parts (nat_le 1 s.desk.selected && nat_le s.desk.selected 10 && length s.desk.areas == 10)
    (list_all (is_area_state d) s.desk.areas) b.0 in
    let f = and_parts (nat_le 1 s.desk.selected && nat_le s.desk.selected 10) (length s.desk.areas == 10) c.0 in
    let g = and_parts (nat_le 1 s.desk.selected) (nat_le s.desk.selected 10) f.0 in
    record {
      one = leb-true 1 s.desk.selected g.0;
      last = leb-true s.desk.selected 10 g.1;
      ten = eqb-true (length s.desk.areas) 10 f.1;
      areas = c.1;
      slots = eqb-true (length s.slots) d.slots b.1;
      stack = leb-true (length s.stack) d.stack_bound a.1;
    }

-- a declared table
pub declared_table : (d : Declared) (a : OpenArea) → is_open d a ≡ true → a.table < length d.shape.tables
declared_table d a e =
    let x =
    and_parts (nat_lt a.table (length d.shape.tables) && (a.list == 0 || is_list_of d a.table a.list) && nat_le
    a.order (opened_by d a.list)) (a.filter == 0 || is_filter_of d a.table a.filter) e in
    let y =
    and_parts (nat_lt a.table (length d.shape.tables) && (a.list == 0 || is_list_of d a.table a.list))
    (nat_le a.order (opened_by d a.list)) x.0 in
    let z = and_parts (nat_lt a.table (length d.shape.tables)) (a.list == 0 || is_list_of d a.table a.list) y.0 in
    ltb-true a.table (length d.shape.tables) z.0

-- its filter is one of that table, if it has one
own_filter : (d : Declared) (a : OpenArea) → is_open d a ≡ true
    → (a.filter == 0 || is_filter_of d a.table a.filter) ≡ true
own_filter d a e =
    (and_parts (nat_lt a.table (length d.shape.tables) && (a.list == 0 || is_list_of d a.table a.list)
    && nat_le a.order (opened_by d a.list)) (a.filter == 0 || is_filter_of d a.table a.filter) e).1

-- what is known of an area that holds a table, by the table's order
abbrev pub area_by : Use → ℕ → OpenArea
area_by u order = record { table = u.table; list = u.list; order = order; filter = u.filter }

-- an open area: what it holds, its table, and what is known of it
pub record OpenThere (d : Declared) (s : StoreState) (a : ℕ) : Type 0 where
  pub use_of : Use
  pub table : OpenState
  pub held : use_at s a ≡ Some use_of
  pub at : table_at s use_of.table ≡ Some table
  pub there : area_table s a ≡ Some table
  pub known : open_at (desk_of s) a ≡ Some (area_by use_of table.order)
  pub declared : use_of.table < length d.shape.tables
  pub filter : (use_of.filter == 0 || is_filter_of d use_of.table use_of.filter) ≡ true
  pub list : table.list ≡ list_numbers d use_of.list

use_found : (tables : List OpenState) (areas : List (Option Use)) (n : ℕ)
    → is_none (open_in (slice_get (map (area_state tables) areas) n)) ≡ false
    → (u : Use) × (slice_get areas n ≡ Some (Some u))
use_found tables [] n e = absurd (cc)
use_found tables (None ∷ areas) zero e = absurd (cc)
use_found tables (Some u ∷ areas) zero e = (u, refl)
use_found tables (a ∷ areas) (suc n) e = use_found tables areas n e

pub open_there : (d : Declared) (s : StoreState) (a : ℕ) → list_all (is_area_state d) (desk_of s).areas ≡ true
    → StoreFits d s → is_none (open_at (desk_of s) a) ≡ false → OpenThere d s a
open_there d s zero all fits e = absurd (cc)
open_there d s (suc n) all fits e =
    let p = use_found s.tables s.areas n e in
    let u : Use = p.0 in
    let seen = mapped_at (area_state s.tables) s.areas n (Some u) p.1 in
    let is_one = all_at (is_area_state d) (map (area_state s.tables) s.areas) n
    (area_state s.tables (Some u)) all seen in
    let area = area_by u (order_of (slice_get s.tables u.table)) in
    let declared : u.table < length d.shape.tables = declared_table d area is_one in
    let t = is_there s.tables u.table (omega (arith, declared, fits.count)) in
    let same : suc n - 1 ≡ n = omega arith in
    let held : use_at s (suc n) ≡ Some u =
    ap (λ k. slice_index_or s.areas k None) same ∙ get_or_from_slice_get s.areas n (Some u) None p.1 in
    let there : area_table s (suc n) ≡ Some t.0 = ap (used_table s) held ∙ t.1 in
    record {
      use_of = u;
      table = t.0;
      held = held;
      at = t.1;
      there = there;
      known = ap open_in seen ∙ ap (λ (x : Option OpenState). Some (area_by u (order_of x))) t.1;
      declared = declared;
      filter = own_filter d area is_one;
      list =
          subst (λ (x : Option OpenState). IfSome x (ListStands d u)) there
          (subst (λ (x : Option Use). IfSome x (λ (v : Use). IfSome (area_table s (suc n)) (ListStands d v))) held
          (fits.lists (suc n)));
    }
