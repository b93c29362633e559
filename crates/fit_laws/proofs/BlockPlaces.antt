-- Where a block begins and ends, over lists of lengths.
use Rattle.std.proofs.Common.{◌≡◌, ◌≤◌, ◌<◌, ℕ, zero, suc, ◌+◌, ◌-◌, Bool, true, false, ◌&&◌, nat_lt, nat_le, cond}
use Rattle.std.proofs.Common.{List, [], ◌∷◌, ◌++◌, length, take, get_or, refl, arith}
use Rattle.std.proofs.lemmas.Bool.{and_parts, cond_both, leb-true, lt-ltb, le-ltb, ltb-true, ltb-false}
use Rattle.code_items.specs.Legal.{places_in_all, blocks_fill}
use Rattle.code_rules.specs.declared.blocks.Block.{Block}
use Rattle.code_rules.specs.Places.{block_from}

begins : (number first : ℕ) (ns : List ℕ) (place : ℕ) → first ≤ (block_from number first ns place).first
begins number first [] place = omega arith
begins number first (n ∷ ns) place =
    cond_both (nat_lt place (first + n)) (record { number = number; first = first; end = first + n })
    (block_from (number + 1) (first + n) ns place) (λ b. first ≤ b.first) (λ e. omega arith)
    (λ e. omega (arith, begins (number + 1) (first + n) ns place))

-- a place between a block's bounds is in that block
pub stays : (number first : ℕ) (ns : List ℕ) (place next : ℕ) → first ≤ next
    → (block_from number first ns place).first ≤ next → next < (block_from number first ns place).end
    → block_from number first ns next ≡ block_from number first ns place
stays number first [] place next le from to = absurd (omega arith)
stays number first (n ∷ ns) place next le from to =
    step (nat_lt place (first + n)) (stays (number + 1) (first + n) ns place next) from to where
      here : Block
      here = record { number = number; first = first; end = first + n }

      step : (b : Bool)
          → (first + n ≤ next → (block_from (number + 1) (first + n) ns place).first ≤ next
          → next < (block_from (number + 1) (first + n) ns place).end
          → block_from (number + 1) (first + n) ns next ≡ block_from (number + 1) (first + n) ns place)
          → (cond b here (block_from (number + 1) (first + n) ns place)).first ≤ next
          → next < (cond b here (block_from (number + 1) (first + n) ns place)).end
          → cond (nat_lt next (first + n)) here (block_from (number + 1) (first + n) ns next)
          ≡ cond b here (block_from (number + 1) (first + n) ns place)
      step true more from to = rw (lt-ltb next (first + n) to) refl
      step false more from to =
          let ge : first + n ≤ next = omega (arith, begins (number + 1) (first + n) ns place, from) in
          rw (le-ltb next (first + n) ge) (more ge from to)

-- a block of the first ones, by its number among them
pub record Found (number first : ℕ) (ms : List ℕ) (b : Block) (place : ℕ) : Type 0 where
  pub index : ℕ
  pub within : index < length ms
  pub numbered : b.number ≡ number + index
  pub begun : b.first ≡ first + places_in_all (take index ms)
  pub ended : b.end ≡ first + places_in_all (take index ms) + get_or ms index 0
  pub from : b.first ≤ place
  pub to : place < b.end

pub found : (number first : ℕ) (ms ns : List ℕ) (place : ℕ) → first ≤ place → place < first + places_in_all ms
    → Found number first ms (block_from number first (ms ++ ns) place) place
found number first [] ns place le lt = absurd (omega arith)
found number first (m ∷ ms) ns place le lt =
    cond_both (nat_lt place (first + m)) (record { number = number; first = first; end = first + m })
    (block_from (number + 1) (first + m) (ms ++ ns) place) (λ b. Found number first (m ∷ ms) b place)
    (λ e. record {
      index = 0;
      within = omega arith;
      numbered = omega arith;
      begun = omega arith;
      ended = omega arith;
      from = le;
      to = ltb-true place (first + m) e;
    })
    (λ e. behind (block_from (number + 1) (first + m) (ms ++ ns) place)
    (found (number + 1) (first + m) ms ns place (ltb-false place (first + m) e) (omega (arith, lt)))) where
      behind : (b : Block) → Found (number + 1) (first + m) ms b place → Found number first (m ∷ ms) b place
      behind b f = record {
        index = suc f.index;
        within = omega (arith, f.within);
        numbered = omega (arith, f.numbered);
        begun = omega (arith, f.begun);
        ended = omega (arith, f.ended);
        from = f.from;
        to = f.to;
      }

-- the block of an index, where it has an instruction
pub record Begun (number first : ℕ) (ms : List ℕ) (k : ℕ) (b : Block) : Type 0 where
  pub numbered : b.number ≡ number + k
  pub begun : b.first ≡ first + places_in_all (take k ms)
  pub ended : b.end ≡ first + places_in_all (take k ms) + get_or ms k 0

pub begun_at : (number first : ℕ) (ms ns : List ℕ) (k place : ℕ) → k < length ms → 1 ≤ get_or ms k 0
    → place ≡ first + places_in_all (take k ms) → Begun number first ms k (block_from number first (ms ++ ns) place)
begun_at number first [] ns k place lt some e = absurd (omega arith)
begun_at number first (m ∷ ms) ns zero place lt some e =
    rw (lt-ltb place (first + m) (omega (arith, some, e)))
    (record { numbered = omega arith; begun = omega arith; ended = omega arith })
begun_at number first (m ∷ ms) ns (suc k) place lt some e =
    rw (le-ltb place (first + m) (omega (arith, e)))
    (behind (block_from (number + 1) (first + m) (ms ++ ns) place)
    (begun_at (number + 1) (first + m) ms ns k place (omega (arith, lt)) some (omega (arith, e)))) where
      behind : (b : Block) → Begun (number + 1) (first + m) ms k b → Begun number first (m ∷ ms) (suc k) b
      behind b f = record {
        numbered = omega (arith, f.numbered);
        begun = omega (arith, f.begun);
        ended = omega (arith, f.ended);
      }

-- blocks that fill some places have an instruction each
pub some_each : (left : ℕ) (ms ns : List ℕ) (k : ℕ) → blocks_fill left (ms ++ ns) ≡ true → k < length ms
    → 1 ≤ get_or ms k 0
some_each left [] ns k e lt = absurd (omega arith)
some_each left (m ∷ ms) ns zero e lt =
    leb-true 1 m (and_parts (nat_le 1 m) (nat_le m left)
    (and_parts (nat_le 1 m && nat_le m left) (blocks_fill (left - m) (ms ++ ns)) e).0).0
some_each left (m ∷ ms) ns (suc k) e lt =
    some_each (left - m) ms ns k (and_parts (nat_le 1 m && nat_le m left) (blocks_fill (left - m) (ms ++ ns)) e).1
    (omega (arith, lt))

-- so many blocks and the next one have no more places than all
pub part : (ms : List ℕ) (k : ℕ) → k < length ms → places_in_all (take k ms) + get_or ms k 0 ≤ places_in_all ms
part [] k lt = absurd (omega arith)
part (m ∷ ms) zero lt = omega arith
part (m ∷ ms) (suc k) lt = omega (arith, part ms k (omega (arith, lt)))

pub filled_within : (left : ℕ) (ns : List ℕ) → blocks_fill left ns ≡ true → places_in_all ns ≤ left
filled_within left [] e = omega arith
filled_within left (n ∷ ns) e =
    let a = and_parts (nat_le 1 n && nat_le n left) (blocks_fill (left - n) ns) e in
    let b = and_parts (nat_le 1 n) (nat_le n left) a.0 in
    omega (arith, leb-true n left b.1, filled_within (left - n) ns a.1)

-- so many of the second ones behind all of the first
pub taken_both : (ms ns : List ℕ) (k m : ℕ) → m ≡ length ms + k
    → places_in_all (take m (ms ++ ns)) ≡ places_in_all ms + places_in_all (take k ns)
taken_both [] ns k m e =
    let f : m ≡ k = omega (arith, e) in
    rw f (omega arith)
taken_both (x ∷ ms) ns k zero e = absurd (omega (arith, e))
taken_both (x ∷ ms) ns k (suc m) e = omega (arith, taken_both ms ns k m (omega (arith, e)))
