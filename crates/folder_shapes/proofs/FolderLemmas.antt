-- Steps over files that stay the same.
use Rattle.std.proofs.Common.{◌<◌, ◌≤◌, ℕ, ◌+◌, List, [], ◌∷◌, Some, None, length, length-append, inl, inr, sym, subst}
use Rattle.std.proofs.Common.{map, drop, get_or, arith, Bor}
use Rattle.std.proofs.lemmas.List.{drop_more}
use Rattle.file_access.specs.Holding.{Holds, SameFiles}
use Rattle.folder_shapes.specs.declared.names.Sort.{Sort}
use Rattle.folder_shapes.specs.declared.names.Sort.TheVariants as sort
use Rattle.folder_shapes.specs.declared.note.Note.{Note}
use Rattle.folder_shapes.specs.declared.note.Note.TheVariants as note
use Rattle.folder_shapes.specs.declared.unfit.Unfit.{Unfit}
use Rattle.folder_shapes.specs.declared.unfit.Unfit.TheVariants.{Noted, Memory}
use Rattle.folder_shapes.specs.Names.{sort_of}
use Rattle.folder_shapes.specs.Reading.{IsReadAs, NotRead, NoTableFile, NoFileOfIndex, UnfitIs}
use Rattle.folder_shapes.specs.Told.{State, WhyNoTable, WhyNoIndex, TakesTable, TakesIndex, TableStep, IndexStep}
use Rattle.folder_shapes.specs.Told.{TakeTables, TakeIndexes, TakesProgram, ProgramStep, TakePrograms}

pub unfit_map : (P Q : Note → Type 0) (u : Unfit) → ((n : Note) → P n → Q n) → UnfitIs P u → UnfitIs Q u
unfit_map P Q (Noted n) f h = f n h
unfit_map P Q Memory f h = h

-- ---- what is read

read_same : (a b : Holds) (name bytes : List ℕ) → SameFiles a b → IsReadAs b name bytes → IsReadAs a name bytes
read_same a b name bytes s h = record { held = (s name (Some bytes)).1 h.held; short = h.short }

unread_same : (a b : Holds) (name : List ℕ) (n : Note) → SameFiles a b → NotRead b name n → NotRead a name n
unread_same a b name note.NoText s h = h
unread_same a b name note.SmallLetters s h = h
unread_same a b name note.NoName s h = h
unread_same a b name note.Gone s h = (s name None).1 h
unread_same a b name note.TooLong s h =
    record { bytes = h.bytes; held = (s name (Some h.bytes)).1 h.held; long = h.long }
unread_same a b name note.Unreadable s h = h
unread_same a b name (note.Version byte) s h = h
unread_same a b name (note.NoTable fault) s h = h
unread_same a b name note.TooMany s h = h
unread_same a b name (note.NoIndex fault) s h = h
unread_same a b name note.Numbers s h = h
unread_same a b name note.NoOwner s h = h
unread_same a b name note.ManyOwners s h = h
unread_same a b name note.Stale s h = h

no_table_same : (a b : Holds) (name : List ℕ) (n : Note) → SameFiles a b → NoTableFile b name n → NoTableFile a name n
no_table_same a b name n s (inl h) = inl (unread_same a b name n s h)
no_table_same a b name n s (inr (bytes, read, why)) = inr (bytes, read_same a b name bytes s read, why)

no_index_same : (a b : Holds) (name : List ℕ) (n : Note) → SameFiles a b → NoFileOfIndex b name n
    → NoFileOfIndex a name n
no_index_same a b name n s (inl h) = inl (unread_same a b name n s h)
no_index_same a b name n s (inr (bytes, read, why)) = inr (bytes, read_same a b name bytes s read, why)

-- ---- steps

why_table_same : (a b : Holds) (x : State) (name : List ℕ) (n : Note) → SameFiles a b → WhyNoTable b x name n
    → WhyNoTable a x name n
why_table_same a b x name n s (inl h) = inl (no_table_same a b name n s h)
why_table_same a b x name n s (inr (t, (bytes, read, is), may)) =
    inr (t, (bytes, read_same a b name bytes s read, is), may)

why_index_same : (a b : Holds) (x : State) (name : List ℕ) (n : Note) → SameFiles a b → WhyNoIndex b x name n
    → WhyNoIndex a x name n
why_index_same a b x name n s (inl h) = inl (no_index_same a b name n s h)
why_index_same a b x name n s (inr (form, pairs, (bytes, read, is), may)) =
    inr (form, pairs, (bytes, read_same a b name bytes s read, is), may)

takes_table_same : (a b : Holds) (n : ℕ) (name : List ℕ) (x y : State) → SameFiles a b → TakesTable b n name x y
    → TakesTable a n name x y
takes_table_same a b n name x y s (inl (shape, t, ((bytes, read, is), may), after)) =
    inl (shape, t, ((bytes, read_same a b name bytes s read, is), may), after)
takes_table_same a b n name x y s (inr (told, why, after)) = inr (told, why_table_same a b x name told s why, after)

takes_index_same : (a b : Holds) (n : ℕ) (name : List ℕ) (x y : State) → SameFiles a b → TakesIndex b n name x y
    → TakesIndex a n name x y
takes_index_same a b n name x y s (inl (index, stale, (form, pairs, (bytes, read, is), may, e), after)) =
    inl (index, stale, (form, pairs, (bytes, read_same a b name bytes s read, is), may, e), after)
takes_index_same a b n name x y s (inr (told, why, after)) = inr (told, why_index_same a b x name told s why, after)

pub table_step_same : (k : Sort) (a b : Holds) (n : ℕ) (name : List ℕ) (x y : State) → SameFiles a b
    → TableStep k b n name x y → TableStep k a n name x y
table_step_same sort.Table a b n name x y s h = takes_table_same a b n name x y s h
table_step_same sort.Index a b n name x y s h = h
table_step_same sort.Program a b n name x y s h = h
table_step_same sort.Other a b n name x y s h = h

pub index_step_same : (k : Sort) (a b : Holds) (n : ℕ) (name : List ℕ) (x y : State) → SameFiles a b
    → IndexStep k b n name x y → IndexStep k a n name x y
index_step_same sort.Table a b n name x y s h = h
index_step_same sort.Index a b n name x y s h = takes_index_same a b n name x y s h
index_step_same sort.Program a b n name x y s h = h
index_step_same sort.Other a b n name x y s h = h

takes_program_same : (a b : Holds) (n : ℕ) (name : List ℕ) (x y : State) → SameFiles a b → TakesProgram b n name x y
    → TakesProgram a n name x y
takes_program_same a b n name x y s (inl (bytes, read, after)) = inl (bytes, read_same a b name bytes s read, after)
takes_program_same a b n name x y s (inr (told, why, after)) = inr (told, unread_same a b name told s why, after)

program_step_same : (k : Sort) (a b : Holds) (n : ℕ) (name : List ℕ) (x y : State) → SameFiles a b
    → ProgramStep k b n name x y → ProgramStep k a n name x y
program_step_same sort.Table a b n name x y s h = h
program_step_same sort.Index a b n name x y s h = h
program_step_same sort.Program a b n name x y s h = takes_program_same a b n name x y s h
program_step_same sort.Other a b n name x y s h = h

-- ---- there are few tables

few_taken : (a : Holds) (n : ℕ) (name : List ℕ) (x y : State) → length x.found ≤ 32 → TakesTable a n name x y
    → length y.found ≤ 32
few_taken a n name x y few (inl (shape, t, (is, may), after)) =
    subst (λ (s : State). length s.found ≤ 32) (sym after) (omega (arith, length-append x.found (t ∷ []), may.room))
few_taken a n name x y few (inr (told, why, after)) = subst (λ (s : State). length s.found ≤ 32) (sym after) few

pub few_after : (k : Sort) (a : Holds) (n : ℕ) (name : List ℕ) (x y : State) → length x.found ≤ 32
    → TableStep k a n name x y → length y.found ≤ 32
few_after sort.Table a n name x y few h = few_taken a n name x y few h
few_after sort.Index a n name x y few h = subst (λ (s : State). length s.found ≤ 32) (sym h) few
few_after sort.Program a n name x y few h = subst (λ (s : State). length s.found ≤ 32) (sym h) few
few_after sort.Other a n name x y few h = subst (λ (s : State). length s.found ≤ 32) (sym h) few

index_kept : (a : Holds) (n : ℕ) (name : List ℕ) (x y : State) → length x.found ≤ 32 → TakesIndex a n name x y
    → length y.found ≤ 32
index_kept a n name x y few (inl (index, stale, is, after)) = subst (λ (s : State). length s.found ≤ 32) (sym after) few
index_kept a n name x y few (inr (told, why, after)) = subst (λ (s : State). length s.found ≤ 32) (sym after) few

pub few_kept : (k : Sort) (a : Holds) (n : ℕ) (name : List ℕ) (x y : State) → length x.found ≤ 32
    → IndexStep k a n name x y → length y.found ≤ 32
few_kept sort.Table a n name x y few h = subst (λ (s : State). length s.found ≤ 32) (sym h) few
few_kept sort.Index a n name x y few h = index_kept a n name x y few h
few_kept sort.Program a n name x y few h = subst (λ (s : State). length s.found ≤ 32) (sym h) few
few_kept sort.Other a n name x y few h = subst (λ (s : State). length s.found ≤ 32) (sym h) few

-- ---- loops over the names

abbrev pub texts : List (Bor (List ℕ)) → List (List ℕ)
texts names = map (λ name. name.now) names

pub goes_tables : (a b : Holds) (names : List (Bor (List ℕ))) (i : ℕ) (d : Bor (List ℕ)) (x y : State)
    (P : State → Type 0) → SameFiles a b → i < length names
    → TableStep (sort_of (get_or names i d).now) b i (get_or names i d).now x y
    → ((after : State) → TakeTables a i (texts (drop i names)) x after → P after)
    → (after : State) → TakeTables a (i + 1) (texts (drop (i + 1) names)) y after → P after
goes_tables a b names i d x y P same below step goes after h =
    let name = (get_or names i d).now in
    goes after (subst (λ (ns : List (Bor (List ℕ))). TakeTables a i (texts ns) x after)
    (sym (drop_more names i d below)) (y, table_step_same (sort_of name) a b i name x y same step, h))

pub goes_indexes : (a b : Holds) (names : List (Bor (List ℕ))) (i : ℕ) (d : Bor (List ℕ)) (x y : State)
    (P : State → Type 0) → SameFiles a b → i < length names
    → IndexStep (sort_of (get_or names i d).now) b i (get_or names i d).now x y
    → ((after : State) → TakeIndexes a i (texts (drop i names)) x after → P after)
    → (after : State) → TakeIndexes a (i + 1) (texts (drop (i + 1) names)) y after → P after
goes_indexes a b names i d x y P same below step goes after h =
    let name = (get_or names i d).now in
    goes after (subst (λ (ns : List (Bor (List ℕ))). TakeIndexes a i (texts ns) x after)
    (sym (drop_more names i d below)) (y, index_step_same (sort_of name) a b i name x y same step, h))

pub goes_programs : (a b : Holds) (names : List (Bor (List ℕ))) (i : ℕ) (d : Bor (List ℕ)) (x y : State)
    (P : State → Type 0) → SameFiles a b → i < length names
    → ProgramStep (sort_of (get_or names i d).now) b i (get_or names i d).now x y
    → ((after : State) → TakePrograms a i (texts (drop i names)) x after → P after)
    → (after : State) → TakePrograms a (i + 1) (texts (drop (i + 1) names)) y after → P after
goes_programs a b names i d x y P same below step goes after h =
    let name = (get_or names i d).now in
    goes after (subst (λ (ns : List (Bor (List ℕ))). TakePrograms a i (texts ns) x after)
    (sym (drop_more names i d below)) (y, program_step_same (sort_of name) a b i name x y same step, h))

pub programs_same : (a b : Holds) (n : ℕ) (names : List (List ℕ)) (x y : State) → SameFiles a b
    → TakePrograms b n names x y → TakePrograms a n names x y
programs_same a b n [] x y s h = h
programs_same a b n (name ∷ names) x y s (next, step, others) = (
  next,
  program_step_same (sort_of name) a b n name x next s step,
  programs_same a b (n + 1) names next y s others,
)
