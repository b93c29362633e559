-- The blocks of a legal code's procedures.
use Rattle.std.proofs.Common.{◌≡◌, ◌≤◌, ◌<◌, ℕ, zero, suc, ◌+◌, true, ◌&&◌, nat_le, List, [], ◌∷◌, ◌++◌, length, map}
use Rattle.std.proofs.Common.{take, get_or, Option, Some, None, refl, ap, ◌∙◌, subst, arith}
use Rattle.std.specs.Prelude.{slice_get}
use Rattle.std.specs.List.{list_all}
use Rattle.std.proofs.lemmas.Bool.{and_parts}
use Rattle.std.proofs.lemmas.List.{length-map, take-map}
use Rattle.std.proofs.lemmas.Option.{slice_get_within}
use Rattle.code_items.specs.declared.declared.Filter.{Filter}
use Rattle.code_items.specs.declared.code.Proc.{Proc}
use Rattle.code_items.specs.declared.code.Code.{Code}
use Rattle.code_items.specs.Declarations.{are_declared}
use Rattle.code_items.specs.Instrs.{is_instr}
use Rattle.code_items.specs.Legal.{places_in_all, places_of, blocks_of, blocks_fill, procedures_are_legal}
use Rattle.code_items.specs.Legal.{maps_are_legal, instructions_are_legal, is_code, IsCode}
use Rattle.code_rules.specs.declared.blocks.Block.{Block}
use Rattle.code_rules.specs.Places.{block_at}
use Rattle.run_laws.proofs.Tests.{is_there}
use Rattle.fit_laws.specs.Connects.{first_of, IsOfProcedures, InProcedure}
use Rattle.fit_laws.proofs.BlockPlaces.{stays, Found, found, Begun, begun_at, some_each, part}

abbrev pub lengths : List Proc → List ℕ
lengths procedures = map (λ p. p.length) procedures

abbrev pub filter_lengths : List Filter → List ℕ
filter_lengths filters = map (λ f. f.length) filters

pub filled : (code : Code) → IsCode code
    → blocks_fill (length code.instructions) (lengths code.procedures ++ filter_lengths code.declared.filters) ≡ true
unfolding is_code
filled code ok =
    let a =
    and_parts (are_declared code.declared && procedures_are_legal code && maps_are_legal code)
    (instructions_are_legal code) ok in
    (and_parts (nat_le 1 (length code.instructions) && nat_le (length code.instructions) 65535 && list_all
    (is_instr code.declared.version) code.instructions)
    (blocks_fill (length code.instructions) (blocks_of code.procedures code.declared.filters)) a.1).1

length_in : Option Proc → ℕ
length_in None = 0
length_in (Some p) = p.length

length_of : (ps : List Proc) (n : ℕ) → get_or (lengths ps) n 0 ≡ length_in (slice_get ps n)
unfolding length_in
length_of [] n = refl
length_of (p ∷ ps) zero = refl
length_of (p ∷ ps) (suc n) = length_of ps n

length_at : (ps : List Proc) (n : ℕ) (p : Proc) → slice_get ps n ≡ Some p → get_or (lengths ps) n 0 ≡ p.length
unfolding length_in
length_at ps n p e = length_of ps n ∙ ap length_in e

before : (ps : List Proc) (n : ℕ) → places_in_all (take n (lengths ps)) ≡ places_of (take n ps)
before ps n = ap places_in_all (take-map (λ (p : Proc). p.length) n ps)

-- ---- a place of a procedure

-- the same by the block's own number
record Known (ms : List ℕ) (b : Block) (place : ℕ) : Type 0 where
  pub within : b.number < length ms
  pub begun : b.first ≡ places_in_all (take b.number ms)
  pub ended : b.end ≡ places_in_all (take b.number ms) + get_or ms b.number 0
  pub from : b.first ≤ place
  pub to : place < b.end

known : (ms : List ℕ) (b : Block) (place : ℕ) → Found 0 0 ms b place → Known ms b place
known ms b place f =
    let e : f.index ≡ b.number = omega (arith, f.numbered) in
    record {
      within = omega (arith, f.within, e);
      begun = subst (λ k. b.first ≡ places_in_all (take k ms)) e (omega (arith, f.begun));
      ended = subst (λ k. b.end ≡ places_in_all (take k ms) + get_or ms k 0) e (omega (arith, f.ended));
      from = f.from;
      to = f.to;
    }

found_in : (code : Code) (place : ℕ) → IsOfProcedures code place
    → Known (lengths code.procedures) (block_at code place) place
unfolding block_at
found_in code place lt =
    known (lengths code.procedures) (block_at code place) place
    (found 0 0 (lengths code.procedures) (filter_lengths code.declared.filters) place (omega arith) (omega (arith, lt)))

stands_as : (code : Code) (place : ℕ) → Known (lengths code.procedures) (block_at code place) place → (p : Proc)
    → slice_get code.procedures (block_at code place).number ≡ Some p → InProcedure code place
stands_as code place k p e = record {
  procedure = p;
  is = e;
  first = k.begun ∙ before code.procedures (block_at code place).number;
  end =
      k.ended
      ∙ (rw (
        length_at code.procedures (block_at code place).number p e,
        before code.procedures
            (block_at code place).number,
      ) refl);
  from = k.from;
  to = k.to;
  last = omega (arith, k.ended, part (lengths code.procedures) (block_at code place).number k.within);
}

pub stands : (code : Code) (place : ℕ) → IsOfProcedures code place → InProcedure code place
stands code place lt =
    let k = found_in code place lt in
    let t = is_there code.procedures (block_at code place).number (rw length-map at k.within) in
    stands_as code place k t.0 t.1

pub number_within : (code : Code) (place : ℕ) → IsOfProcedures code place
    → (block_at code place).number < length code.procedures
number_within code place lt =
    slice_get_within code.procedures (block_at code place).number (stands code place lt).procedure
    (stands code place lt).is

-- a place between the bounds of a place's block is in that block
pub together : (code : Code) (place next : ℕ) → (block_at code place).first ≤ next → next < (block_at code place).end
    → block_at code next ≡ block_at code place
unfolding block_at
together code place next from to =
    stays 0 0 (lengths code.procedures ++ filter_lengths code.declared.filters) place next (omega arith) from to

-- ---- where a procedure begins

pub record First (code : Code) (n : ℕ) (p : Proc) : Type 0 where
  pub within : IsOfProcedures code (first_of code n)
  pub number : (block_at code (first_of code n)).number ≡ n
  pub first : (block_at code (first_of code n)).first ≡ first_of code n
  pub end : (block_at code (first_of code n)).end ≡ first_of code n + p.length

begun_in : (code : Code) (n : ℕ) → n < length (lengths code.procedures) → 1 ≤ get_or (lengths code.procedures) n 0
    → Begun 0 0 (lengths code.procedures) n (block_at code (first_of code n))
unfolding block_at
begun_in code n lt some =
    begun_at 0 0 (lengths code.procedures) (filter_lengths code.declared.filters) n (first_of code n) lt some
    (omega (arith, before code.procedures n))

pub first_is : (code : Code) → IsCode code → (n : ℕ) (p : Proc) → slice_get code.procedures n ≡ Some p → First code n p
first_is code ok n p e =
    let lt : n < length (lengths code.procedures) = rw length-map (slice_get_within code.procedures n p e) in
    let some =
    some_each (length code.instructions) (lengths code.procedures) (filter_lengths code.declared.filters) n
    (filled code ok) lt in
    let b = begun_in code n lt some in
    let l = length_at code.procedures n p e in
    let f = before code.procedures n in
    record {
      within = omega (arith, part (lengths code.procedures) n lt, some, f);
      number = omega (arith, b.numbered);
      first = omega (arith, b.begun, f);
      end = omega (arith, b.ended, f, l);
    }
