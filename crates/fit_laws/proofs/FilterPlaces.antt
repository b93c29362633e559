-- The blocks of a legal code's filters.
use Rattle.std.proofs.Common.{◌≡◌, ◌≤◌, ◌<◌, ℕ, zero, suc, ◌+◌, ◌-◌, true, false, ◌&&◌, ◌==◌, nat_le, nat_lt, List, []}
use Rattle.std.proofs.Common.{◌∷◌, ◌++◌, length, map, take, get_or, Option, Some, None, refl, ap, ◌∙◌, subst, arith}
use Rattle.std.specs.Prelude.{slice_get}
use Rattle.std.proofs.lemmas.Bool.{and_parts, ltb-true, ne_eqb}
use Rattle.std.proofs.lemmas.List.{append-nil, length-map, length-append, take-map, get_or-append-add}
use Rattle.std.proofs.lemmas.Option.{slice_get_within, slice_get_past}
use Rattle.code_items.specs.declared.declared.Filter.{Filter}
use Rattle.code_items.specs.declared.code.Map.{Map}
use Rattle.code_items.specs.declared.code.Proc.{Proc}
use Rattle.code_items.specs.declared.code.Code.{Code}
use Rattle.code_items.specs.Facts.{Facts}
use Rattle.code_items.specs.Legal.{places_in_all, places_of, maps_rise, blocks_fill, IsCode}
use Rattle.code_rules.specs.Places.{block_from, block_at, map_in, map_at, filter_start, start_of}
use Rattle.fit_laws.proofs.BlockPlaces.{Begun, begun_at, some_each, part, filled_within, taken_both}
use Rattle.fit_laws.proofs.Standing.{lengths, filter_lengths, filled}

length_in : Option Filter → ℕ
length_in None = 0
length_in (Some f) = f.length

length_of : (fs : List Filter) (n : ℕ) → get_or (filter_lengths fs) n 0 ≡ length_in (slice_get fs n)
unfolding length_in
length_of [] n = refl
length_of (f ∷ fs) zero = refl
length_of (f ∷ fs) (suc n) = length_of fs n

length_at : (fs : List Filter) (n : ℕ) (f : Filter) → slice_get fs n ≡ Some f
    → get_or (filter_lengths fs) n 0 ≡ f.length
unfolding length_in
length_at fs n f e = length_of fs n ∙ ap length_in e

abbrev all_lengths : Code → List ℕ
all_lengths code = lengths code.procedures ++ filter_lengths code.declared.filters

-- the first place of the filter whose number is n, counted from 0
abbrev pub first_place : Code → ℕ → ℕ
first_place code n = places_of code.procedures + places_in_all (map (λ f. f.length) (take n code.declared.filters))

-- its block
pub record Place (code : Code) (n : ℕ) (f : Filter) : Type 0 where
  pub number : (block_at code (first_place code n)).number ≡ length code.procedures + n
  pub first : (block_at code (first_place code n)).first ≡ first_place code n
  pub end : (block_at code (first_place code n)).end ≡ first_place code n + f.length
  pub some : 1 ≤ f.length
  pub last : first_place code n + f.length ≤ length code.instructions

before : (code : Code) (n : ℕ)
    → places_in_all (take (length code.procedures + n) (all_lengths code)) ≡ first_place code n
before code n =
    let e : length code.procedures + n ≡ length (lengths code.procedures) + n = rw length-map refl in
    taken_both (lengths code.procedures) (filter_lengths code.declared.filters) n (length code.procedures + n) e
    ∙ ap (λ t. places_of code.procedures + places_in_all t)
    (take-map (λ (f : Filter). f.length) n code.declared.filters)

length_here : (code : Code) (n : ℕ) (f : Filter) → slice_get code.declared.filters n ≡ Some f
    → get_or (all_lengths code) (length code.procedures + n) 0 ≡ f.length
length_here code n f e =
    let m : length (lengths code.procedures) ≡ length code.procedures =
    length-map code.procedures (λ (p : Proc). p.length) in
    subst (λ k. get_or (all_lengths code) (k + n) 0 ≡ f.length) m
    (get_or-append-add (lengths code.procedures) (filter_lengths code.declared.filters) n 0
    ∙ length_at code.declared.filters n f e)

number_there : (code : Code) (n : ℕ) (f : Filter) → slice_get code.declared.filters n ≡ Some f
    → length code.procedures + n < length (all_lengths code)
number_there code n f e =
    let a = length-append (lengths code.procedures) (filter_lengths code.declared.filters) in
    let b = length-map code.procedures (λ (p : Proc). p.length) in
    let c = length-map code.declared.filters (λ (f : Filter). f.length) in
    omega (arith, a, b, c, slice_get_within code.declared.filters n f e)

begun_in : (code : Code) (n : ℕ) → length code.procedures + n < length (all_lengths code)
    → 1 ≤ get_or (all_lengths code) (length code.procedures + n) 0
    → Begun 0 0 (all_lengths code) (length code.procedures + n) (block_at code (first_place code n))
unfolding block_at
begun_in code n lt some =
    subst (λ ns. Begun 0 0 (all_lengths code) (length code.procedures + n) (block_from 0 0 ns (first_place code n)))
    (append-nil (all_lengths code))
    (begun_at 0 0 (all_lengths code) [] (length code.procedures + n) (first_place code n) lt some
    (omega (arith, before code n)))

pub place_of_filter : (code : Code) → IsCode code → (n : ℕ) (f : Filter) → slice_get code.declared.filters n ≡ Some f
    → Place code n f
place_of_filter code ok n f e =
    let lt = number_there code n f e in
    let full : blocks_fill (length code.instructions) (all_lengths code ++ []) ≡ true =
    rw append-nil (filled code ok) in
    let some = some_each (length code.instructions) (all_lengths code) [] (length code.procedures + n) full lt in
    let b = begun_in code n lt some in
    let l = length_here code n f e in
    let w = before code n in
    record {
      number = omega (arith, b.numbered);
      first = omega (arith, b.begun, w);
      end = omega (arith, b.ended, w, l);
      some = omega (arith, some, l);
      last =
          omega (
            arith,
            part (all_lengths code) (length code.procedures + n) lt,
            filled_within
                (length code.instructions) (all_lengths code) (filled code ok),
            w,
            l,
          );
    }

pub start_is : (code : Code) (n : ℕ) (f : Filter) → slice_get code.declared.filters n ≡ Some f
    → start_of code (length code.procedures + n) ≡ filter_start code.declared.slots f
unfolding start_of
start_is code n f e =
    let none : slice_get code.procedures (length code.procedures + n) ≡ None =
    slice_get_past code.procedures (length code.procedures + n) (omega arith) in
    let m : length code.procedures + n - length code.procedures ≡ n = omega arith in
    rw (none, m, e) refl

-- no map stands behind the procedures' places
absent : (maps : List Map) (least places place : ℕ) → maps_rise least places maps ≡ true → places ≤ place
    → map_in maps place ≡ None
absent [] least places place e le = refl
absent (m ∷ maps) least places place e le =
    let a = and_parts (nat_le least m.place && nat_lt m.place places) (maps_rise (m.place + 1) places maps) e in
    let lt = ltb-true m.place places (and_parts (nat_le least m.place) (nat_lt m.place places) a.0).1 in
    let other : (m.place == place) ≡ false = ne_eqb m.place place (λ same. absurd (omega (arith, lt, le, same))) in
    rw (other) (absent maps (m.place + 1) places place a.1 le)

pub no_map : (code : Code) → Facts code → (place : ℕ) → places_of code.procedures ≤ place → map_at code place ≡ None
unfolding map_at
no_map code facts place le = absent code.maps 0 (places_of code.procedures) place facts.maps le
