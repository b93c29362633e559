-- What is declared of a folder is a legal shape.
use Rattle.std.proofs.Common.{◌≡◌, ℕ, ◌+◌, List, [], ◌∷◌, length, length-append, inl, inr, refl, sym, ap, subst, ◌∙◌}
use Rattle.std.proofs.Common.{arith}
use Rattle.std.specs.Prelude.{true}
use Rattle.file_access.specs.Holding.{Holds}
use Rattle.shape.specs.declared.whole.Shape.{Shape}
use Rattle.shape.specs.Whole.{is_shape}
use Rattle.folder_shapes.specs.declared.names.Sort.{Sort}
use Rattle.folder_shapes.specs.declared.names.Sort.TheVariants as sort
use Rattle.folder_shapes.specs.Folder.{TakesFolder}
use Rattle.folder_shapes.specs.Names.{sort_of}
use Rattle.folder_shapes.specs.Told.{State, TakesTable, TakesIndex, TableStep, IndexStep, TakeTables, TakeIndexes}
use Rattle.folder_shapes.specs.Told.{TakesDeclared, TakesProgram, ProgramStep, TakePrograms, nothing_taken}
use Rattle.shape_files.proofs.ShapeLemmas.{index_added, nothing_legal, table_added}

abbrev shape_in : State → Shape
shape_in x = record { tables = x.tables; indexes = x.indexes }

record IsSound (x : State) : Type 0 where
  legal : is_shape (shape_in x) ≡ true
  alike : length x.tables ≡ length x.found

along : (x y : State) → y ≡ x → IsSound x → IsSound y
along x y e h = subst IsSound (sym e) h

table_taken : (a : Holds) (n : ℕ) (name : List ℕ) (x y : State) → IsSound x → TakesTable a n name x y → IsSound y
table_taken a n name x y h (inl (shape, t, (is, may), after)) =
    subst IsSound (sym after) (record {
      legal = table_added (shape_in x) shape (omega (arith, h.alike, may.room)) may.next h.legal;
      alike = length-append x.tables (shape ∷ []) ∙ ap (λ n. n + 1) h.alike ∙ sym (length-append x.found (t ∷ []));
    })
table_taken a n name x y h (inr (told, why, after)) =
    subst IsSound (sym after) (record { legal = h.legal; alike = h.alike })

index_taken : (a : Holds) (n : ℕ) (name : List ℕ) (x y : State) → IsSound x → TakesIndex a n name x y → IsSound y
index_taken a n name x y h (inl (index, stale, (form, pairs, is, may, e), after)) =
    subst IsSound (sym after)
    (record { legal = index_added (shape_in x) index may.room may.next h.legal; alike = h.alike })
index_taken a n name x y h (inr (told, why, after)) =
    subst IsSound (sym after) (record { legal = h.legal; alike = h.alike })

table_stepped : (k : Sort) (a : Holds) (n : ℕ) (name : List ℕ) (x y : State) → IsSound x → TableStep k a n name x y
    → IsSound y
table_stepped sort.Table a n name x y h s = table_taken a n name x y h s
table_stepped sort.Index a n name x y h s = along x y s h
table_stepped sort.Program a n name x y h s = along x y s h
table_stepped sort.Other a n name x y h s = along x y s h

index_stepped : (k : Sort) (a : Holds) (n : ℕ) (name : List ℕ) (x y : State) → IsSound x → IndexStep k a n name x y
    → IsSound y
index_stepped sort.Table a n name x y h s = along x y s h
index_stepped sort.Index a n name x y h s = index_taken a n name x y h s
index_stepped sort.Program a n name x y h s = along x y s h
index_stepped sort.Other a n name x y h s = along x y s h

program_taken : (a : Holds) (n : ℕ) (name : List ℕ) (x y : State) → IsSound x → TakesProgram a n name x y → IsSound y
program_taken a n name x y h (inl (bytes, read, after)) =
    subst IsSound (sym after) (record { legal = h.legal; alike = h.alike })
program_taken a n name x y h (inr (told, why, after)) =
    subst IsSound (sym after) (record { legal = h.legal; alike = h.alike })

program_stepped : (k : Sort) (a : Holds) (n : ℕ) (name : List ℕ) (x y : State) → IsSound x → ProgramStep k a n name x y
    → IsSound y
program_stepped sort.Table a n name x y h s = along x y s h
program_stepped sort.Index a n name x y h s = along x y s h
program_stepped sort.Program a n name x y h s = program_taken a n name x y h s
program_stepped sort.Other a n name x y h s = along x y s h

tables_taken : (a : Holds) (n : ℕ) (names : List (List ℕ)) (x y : State) → IsSound x → TakeTables a n names x y
    → IsSound y
tables_taken a n [] x y h e = along x y (sym e) h
tables_taken a n (name ∷ names) x y h (next, step, others) =
    tables_taken a (n + 1) names next y (table_stepped (sort_of name) a n name x next h step) others

indexes_taken : (a : Holds) (n : ℕ) (names : List (List ℕ)) (x y : State) → IsSound x → TakeIndexes a n names x y
    → IsSound y
indexes_taken a n [] x y h e = along x y (sym e) h
indexes_taken a n (name ∷ names) x y h (next, step, others) =
    indexes_taken a (n + 1) names next y (index_stepped (sort_of name) a n name x next h step) others

programs_taken : (a : Holds) (n : ℕ) (names : List (List ℕ)) (x y : State) → IsSound x → TakePrograms a n names x y
    → IsSound y
programs_taken a n [] x y h e = along x y (sym e) h
programs_taken a n (name ∷ names) x y h (next, step, others) =
    programs_taken a (n + 1) names next y (program_stepped (sort_of name) a n name x next h step) others

declared_sound : (a : Holds) (names : List (List ℕ)) (y : State) → TakesDeclared a names y → IsSound y
declared_sound a names y (tables, first, then) =
    let start : IsSound nothing_taken = record { legal = nothing_legal; alike = refl } in
    indexes_taken a 0 names tables y (tables_taken a 0 names nothing_taken tables start first) then

pub legal_taken : (a : Holds) (names : List (List ℕ)) (y : State) → TakesFolder a names y
    → is_shape (record { tables = y.tables; indexes = y.indexes }) ≡ true
legal_taken a names y (declared, read, taken, programs, after) =
    let sound = programs_taken a 0 names declared read (declared_sound a names declared taken) programs in
    (subst IsSound (sym after) (record { legal = sound.legal; alike = sound.alike })).legal
