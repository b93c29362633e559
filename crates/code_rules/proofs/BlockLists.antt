-- Blocks one behind the other, and maps at rising places.
use Rattle.std.proofs.Common.{◌≡◌, ◌≤◌, ◌<◌, ℕ, zero, suc, ◌+◌, ◌==◌, Bool, true, false, ◌&&◌, nat_lt, nat_le, cond}
use Rattle.std.proofs.Common.{if◌then◌else◌, List, [], ◌∷◌, ◌++◌, length, get_or, Some, None, refl, sym, ap, ◌∙◌, arith}
use Rattle.std.specs.Prelude.{slice_get}
use Rattle.std.proofs.lemmas.Bool.Decides.{nat_tests}
use Rattle.std.proofs.lemmas.Bool.{leb-true, and_parts}
use Rattle.code_items.specs.declared.code.Map.{Map}
use Rattle.code_items.specs.Legal.{maps_rise}
use Rattle.code_rules.specs.declared.blocks.Block.{Block}
use Rattle.code_rules.specs.Places.{block_from, map_in, found_at}

not_below : (a b : ℕ) → nat_lt a b ≡ false → b ≤ a
not_below a b e = grind (arith, nat_tests)

not_above : (a b : ℕ) → b ≤ a → nat_lt a b ≡ false
not_above a b le = grind (arith, nat_tests)

-- the block of a place among further ones, where it is in none of the first
abbrev pub or_behind : List ℕ → ℕ → Block → Block
or_behind ns place b = if nat_lt place b.end then b else block_from b.number b.first ns place

behind_none : (number first : ℕ) (ns : List ℕ) (place : ℕ) → first ≤ place
    → block_from number first ns place ≡ or_behind ns place (record { number = number; first = first; end = first })
behind_none number first ns place le =
    let e : nat_lt place first ≡ false = not_above place first le in
    rw e refl

pub block_of_both : (number first : ℕ) (ms ns : List ℕ) (place : ℕ) → first ≤ place
    → block_from number first (ms ++ ns) place ≡ or_behind ns place (block_from number first ms place)
block_of_both number first [] ns place le = behind_none number first ns place le
block_of_both number first (m ∷ ms) ns place le =
    step (nat_lt place (first + m)) refl (λ ge. block_of_both (number + 1) (first + m) ms ns place ge) where
      step : (b : Bool) → nat_lt place (first + m) ≡ b
          → (first + m ≤ place → block_from (number + 1) (first + m) (ms ++ ns) place
          ≡ or_behind ns place (block_from (number + 1) (first + m) ms place))
          → cond b (record { number = number; first = first; end = first + m })
          (block_from (number + 1) (first + m) (ms ++ ns) place)
          ≡ or_behind ns place (cond b (record { number = number; first = first; end = first + m })
          (block_from (number + 1) (first + m) ms place))
      step true e more = rw e refl
      step false e more = more (not_below place (first + m) e)

pub first_case : (ms ns : List ℕ) (place : ℕ) (b : Block) → b ≡ block_from 0 0 ms place → nat_lt place b.end ≡ true
    → b ≡ block_from 0 0 (ms ++ ns) place
first_case ms ns place b e t =
    let here : or_behind ns place b ≡ b = (rw t refl) in
    sym here ∙ (ap (or_behind ns place) e ∙ sym (block_of_both 0 0 ms ns place (omega arith)))

pub rest_case : (ms ns : List ℕ) (place : ℕ) (b r : Block) → b ≡ block_from 0 0 ms place → nat_lt place b.end ≡ false
    → r ≡ block_from b.number b.first ns place → r ≡ block_from 0 0 (ms ++ ns) place
rest_case ms ns place b r e t f =
    let here : or_behind ns place b ≡ block_from b.number b.first ns place = (rw t refl) in
    f ∙ (sym here ∙ (ap (or_behind ns place) e ∙ sym (block_of_both 0 0 ms ns place (omega arith))))

-- ---- maps at rising places

-- a place below the least is that of no map
absent : (maps : List Map) (least places place : ℕ) → maps_rise least places maps ≡ true → place < least
    → map_in maps place ≡ None
absent [] least places place e lt = refl
absent (m ∷ maps) least places place e lt =
    let a = and_parts (nat_le least m.place && nat_lt m.place places) (maps_rise (m.place + 1) places maps) e in
    let b = and_parts (nat_le least m.place) (nat_lt m.place places) a.0 in
    let le : least ≤ m.place = leb-true least m.place b.0 in
    let other : (m.place == place) ≡ false = unlike m.place place (omega arith) in
    let rest : map_in maps place ≡ None = absent maps (m.place + 1) places place a.1 (omega arith) in
    rw (other, rest) refl where
      unlike : (x y : ℕ) → y < x → (x == y) ≡ false
      unlike x y lt = grind (arith, nat_tests)

pub found : (maps : List Map) (least places place at : ℕ) → maps_rise least places maps ≡ true
    → ((k : ℕ) (d : Map) → k < at → nat_lt (get_or maps k d).place place ≡ true)
    → ((k : ℕ) (d : Map) → at ≤ k → k < length maps → nat_lt (get_or maps k d).place place ≡ false)
    → map_in maps place ≡ found_at place (slice_get maps at)
found [] least places place at e front rest = refl
found (m ∷ maps) least places place zero e front rest = here (m.place == place) refl where
  le : place ≤ m.place
  le = not_below m.place place (rest 0 m (omega arith) (omega arith))

  here : (b : Bool) → (m.place == place) ≡ b → cond b (Some m.state) (map_in maps place) ≡ cond b (Some m.state) None
  here true f = refl
  here false f = absent maps (m.place + 1) places place
      (and_parts (nat_le least m.place && nat_lt m.place places) (maps_rise (m.place + 1) places maps) e).1
      (differs m.place place f le) where
        differs : (x y : ℕ) → (x == y) ≡ false → y ≤ x → y < x + 1
        differs x y f le = omega (arith, le)
found (m ∷ maps) least places place (suc at) e front rest =
    let other : (m.place == place) ≡ false = below m.place place (front 0 m (omega arith)) in
    let a = and_parts (nat_le least m.place && nat_lt m.place places) (maps_rise (m.place + 1) places maps) e in
    let more : map_in maps place ≡ found_at place (slice_get maps at) =
    found maps (m.place + 1) places place at a.1 (λ k d lt. front (suc k) d (omega arith))
    (λ k d ge lt. rest (suc k) d (omega arith) (omega arith)) in
    rw other more where
      below : (x y : ℕ) → nat_lt x y ≡ true → (x == y) ≡ false
      below x y lt = grind (arith, nat_tests)

-- maps that rise are parted by a place
rise_at : (maps : List Map) (least places k : ℕ) (d : Map) → maps_rise least places maps ≡ true → k < length maps
    → least ≤ (get_or maps k d).place
rise_at [] least places k d e lt = absurd (omega arith)
rise_at (m ∷ maps) least places zero d e lt =
    leb-true least m.place
    (and_parts (nat_le least m.place) (nat_lt m.place places)
    (and_parts (nat_le least m.place && nat_lt m.place places) (maps_rise (m.place + 1) places maps) e).0).0
rise_at (m ∷ maps) least places (suc k) d e lt =
    let a = and_parts (nat_le least m.place && nat_lt m.place places) (maps_rise (m.place + 1) places maps) e in
    let b : least ≤ m.place = leb-true least m.place (and_parts (nat_le least m.place) (nat_lt m.place places) a.0).0 in
    let c : m.place + 1 ≤ (get_or maps k d).place = rise_at maps (m.place + 1) places k d a.1 (omega arith) in
    omega arith

rising : (maps : List Map) (least places i j : ℕ) (d : Map) → maps_rise least places maps ≡ true → i ≤ j
    → j < length maps → (get_or maps i d).place ≤ (get_or maps j d).place
rising [] least places i j d e le lt = absurd (omega arith)
rising (m ∷ maps) least places zero zero d e le lt = omega arith
rising (m ∷ maps) least places zero (suc j) d e le lt =
    let a = and_parts (nat_le least m.place && nat_lt m.place places) (maps_rise (m.place + 1) places maps) e in
    let c : m.place + 1 ≤ (get_or maps j d).place = rise_at maps (m.place + 1) places j d a.1 (omega arith) in
    omega arith
rising (m ∷ maps) least places (suc i) zero d e le lt = absurd (omega arith)
rising (m ∷ maps) least places (suc i) (suc j) d e le lt =
    rising maps (m.place + 1) places i j d
    (and_parts (nat_le least m.place && nat_lt m.place places) (maps_rise (m.place + 1) places maps) e).1 (omega arith)
    (omega arith)

down : (x y place : ℕ) → x ≤ y → nat_lt y place ≡ true → nat_lt x place ≡ true
down x y place le e = grind (arith, nat_tests)

pub parted : (maps : List Map) (places place : ℕ) → maps_rise 0 places maps ≡ true → (i j : ℕ) (d : Map) → i ≤ j
    → j < length maps → nat_lt (get_or maps j d).place place ≡ true → nat_lt (get_or maps i d).place place ≡ true
parted maps places place e i j d le within passes =
    down (get_or maps i d).place (get_or maps j d).place place (rising maps 0 places i j d e le within) passes
