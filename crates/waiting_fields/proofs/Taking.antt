-- The lines that a READ takes, one behind the other.
use Rattle.std.proofs.Common.{◌≡◌, ◌+◌, ◌-◌, ◌<◌, ◌≤◌, ◌⊎◌, inl, inr, ⊎_elim, ℕ, true, false, List, [], ◌∷◌, ◌++◌}
use Rattle.std.proofs.Common.{length, sym, ap, subst, ◌∙◌, arith}
use Rattle.std.specs.Prelude.{slice_get, min}
use Rattle.std.specs.List.{All, Contains}
use Rattle.std.proofs.lemmas.Bool.{and_right, cases_lt}
use Rattle.std.proofs.lemmas.List.Elements.{Contains-push, Contains-append_left, Contains-push_cases}
use Rattle.std.proofs.lemmas.List.Quantifiers.{Any-push}
use Rattle.std.proofs.lemmas.Option.{slice_get_past}
use Rattle.code_items.specs.declared.instr.Instr.{Instr}
use Rattle.waiting_fields.specs.declared.reads.Read.{Read}
use Rattle.waiting_fields.specs.Reads.{takes_at, before, passes, is_source, is_input, IsReadOfCode, IsTaken}

-- nothing is taken behind the code
pub past : (code : List Instr) (place : ℕ) → length code ≤ place → takes_at code place ≡ false
past code place le =
    and_right (passes is_source (before code place)) (passes is_input (slice_get code place))
    (ap (passes is_input) (slice_get_past code place le))

pub within : (code : List Instr) (place : ℕ) → takes_at code place ≡ true → place < length code
within code place taken = ⊎_elim (λ lt. lt)
    (λ le. absurd (let no : true ≡ false = sym taken ∙ past code place le in cc)) (cases_lt place (length code))

-- the lines so far, and one more
pub one_more : (code : List Instr) (takes more : List ℕ) (next next' : ℕ) → more ≡ takes ++ next ∷ []
    → (next + 3 ≡ next') ⊎ (length code ≤ next + 3)
    → ((place : ℕ) → Contains takes place → takes_at code (place + 3) ≡ true
    → Contains takes (place + 3) ⊎ (place + 3 ≡ next))
    → (place : ℕ) → Contains more place → takes_at code (place + 3) ≡ true
    → Contains more (place + 3) ⊎ (place + 3 ≡ next')
one_more code takes more next next' is on so place there taken =
    subst (λ l. Contains l (place + 3) ⊎ (place + 3 ≡ next')) (sym is)
    (⊎_elim
    (λ c. ⊎_elim (λ d. inl (Contains-append_left takes (next ∷ []) (place + 3) d))
    (λ e. inl (subst (Contains (takes ++ next ∷ [])) (sym e) (Contains-push takes next)))
    (so place c taken))
    (λ e. ⊎_elim (λ n. inr (ap (λ p. p + 3) (sym e) ∙ n))
    (λ le. absurd (let lt = within code (place + 3) taken in omega (arith, lt, le, e))) on)
    (Contains-push_cases takes next place (subst (λ l. Contains l place) is there)))

-- where nothing is taken at the next place, no further line is
pub ended : (code : List Instr) (takes : List ℕ) (next : ℕ) → takes_at code next ≡ false
    → ((place : ℕ) → Contains takes place → takes_at code (place + 3) ≡ true
    → Contains takes (place + 3) ⊎ (place + 3 ≡ next))
    → (place : ℕ) → Contains takes place → takes_at code (place + 3) ≡ true → Contains takes (place + 3)
ended code takes next none so place there taken =
    ⊎_elim (λ c. c) (λ e. absurd (let is : true ≡ false = sym taken ∙ ap (takes_at code) e ∙ none in cc))
    (so place there taken)

-- how far it is to the next one: three places, or behind the code
pub goes_by : (count next next' : ℕ) → count < 18446744073709551616 → next' ≡ min (next + 3) 18446744073709551615
    → (next + 3 ≡ next') ⊎ (count ≤ next + 3)
goes_by count next next' fits e =
    ⊎_elim (λ lt. inl (omega (arith, lt, e))) (λ le. inr (omega (arith, le, fits)))
    (cases_lt (next + 3) 18446744073709551616)

-- the first one is among them, or nothing is yet
pub first_kept : (takes more : List ℕ) (next first : ℕ) → more ≡ takes ++ next ∷ []
    → Contains takes first ⊎ (next ≡ first) → (next' : ℕ) → Contains more first ⊎ (next' ≡ first)
first_kept takes more next first is so next' =
    subst (λ l. Contains l first ⊎ (next' ≡ first)) (sym is)
    (⊎_elim (λ c. inl (Contains-append_left takes (next ∷ []) first c))
    (λ e. inl (subst (Contains (takes ++ next ∷ [])) e (Contains-push takes next))) so)

pub first_there : (code : List Instr) (takes : List ℕ) (next first : ℕ) → takes_at code next ≡ false
    → Contains takes first ⊎ (next ≡ first) → takes_at code first ≡ true → Contains takes first
first_there code takes next first none so taken =
    ⊎_elim (λ c. c) (λ e. absurd (let is : true ≡ false = sym taken ∙ sym (ap (takes_at code) e) ∙ none in cc)) so

-- ---- the READs so far

-- a line that is taken three places behind one of a READ is one of this READ
taken_on : (code : List Instr) (reads : List Read) (place : ℕ) → All (IsReadOfCode code) reads → 3 ≤ place
    → IsTaken reads (place - 3) → takes_at code place ≡ true → IsTaken reads place
taken_on code reads place all le a taken =
    let read : IsReadOfCode code a.1 = subst (IsReadOfCode code) a.3 (all a.0 a.1 a.2) in
    let same : place - 3 + 3 ≡ place = omega (arith, le) in
    let on = read.goes_on (place - 3) a.4 (subst (λ p. takes_at code p ≡ true) (sym same) taken) in
    (a.0, a.1, a.2, a.3, subst (Contains a.1.takes.items) same on)

taken_still : (reads more : List Read) (place : ℕ) → IsTaken reads place → IsTaken (reads ++ more) place
taken_still reads more place a =
    let there = Contains-append_left reads more a.1 (a.0, a.2, a.3) in
    (there.0, a.1, there.1, there.2, a.4)

-- what is so before a place, and at it, is so before the next one
before_next : (code : List Instr) (reads : List Read) (place : ℕ)
    → ((q : ℕ) → q < place → takes_at code q ≡ true → IsTaken reads q)
    → (takes_at code place ≡ true → IsTaken reads place) → (q : ℕ) → q < place + 1 → takes_at code q ≡ true
    → IsTaken reads q
before_next code reads place so last q lt taken =
    ⊎_elim (λ less. so q less taken)
    (λ ge. let same : q ≡ place = omega (arith, lt, ge) in
    subst (IsTaken reads) (sym same) (last (subst (λ p. takes_at code p ≡ true) same taken))) (cases_lt q place)

-- no READ begins at the place
pub goes_past : (code : List Instr) (reads : List Read) (place : ℕ) → All (IsReadOfCode code) reads
    → (takes_at code place ≡ true → (3 ≤ place) × (takes_at code (place - 3) ≡ true))
    → ((q : ℕ) → q < place → takes_at code q ≡ true → IsTaken reads q)
    → (q : ℕ) → q < place + 1 → takes_at code q ≡ true → IsTaken reads q
goes_past code reads place all begins so =
    before_next code reads place so
    (λ taken. let b = begins taken in
    taken_on code reads place all b.0 (so (place - 3) (omega (arith, b.0)) b.1) taken)

-- one begins there
pub begins_there : (code : List Instr) (reads more : List Read) (read : Read) (place : ℕ) → more ≡ reads ++ read ∷ []
    → (takes_at code place ≡ true → Contains read.takes.items place)
    → ((q : ℕ) → q < place → takes_at code q ≡ true → IsTaken reads q)
    → (q : ℕ) → q < place + 1 → takes_at code q ≡ true → IsTaken more q
begins_there code reads more read place is first so =
    subst (λ l. (q : ℕ) → q < place + 1 → takes_at code q ≡ true → IsTaken l q) (sym is)
    (before_next code (reads ++ read ∷ []) place (λ q lt taken. taken_still reads (read ∷ []) q (so q lt taken))
    (λ taken. Any-push (λ r. Contains r.takes.items place) reads read (first taken)))

-- at the code's end
pub all_taken : (code : List Instr) (reads : List Read) (place : ℕ) → length code ≤ place
    → ((q : ℕ) → q < place → takes_at code q ≡ true → IsTaken reads q) → (q : ℕ) → takes_at code q ≡ true
    → IsTaken reads q
all_taken code reads place le so q taken = let lt = within code q taken in so q (omega (arith, lt, le)) taken
