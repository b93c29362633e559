-- The indexes kept are those that lines of command files name.
use Rattle.std.proofs.Common.{◌≡◌, ℕ, ◌+◌, Bool, true, false, List, [], ◌∷◌, ◌++◌, Option, None, length, All, Contains}
use Rattle.std.proofs.Common.{if◌then◌else◌, inl, inr, refl, sym, ap, subst, ◌∙◌, append_assoc, length-append}
use Rattle.std.proofs.lemmas.List.Elements.{All-append, All-cons, All-contains_itself, All-head, All-nil, All-push}
use Rattle.std.proofs.lemmas.List.Elements.{All-tail, All-weaker}
use Rattle.file_access.specs.Holding.{Holds}
use Rattle.prg_parser.specs.Lines.{Joined, joined_lines}
use Rattle.folder_shapes.specs.declared.names.Sort.{Sort}
use Rattle.folder_shapes.specs.declared.names.Sort.TheVariants as sort
use Rattle.folder_shapes.specs.Folder.{IsNamed, TakesFolder}
use Rattle.folder_shapes.specs.Names.{sort_of}
use Rattle.folder_shapes.specs.Programs.{Makes, Named, Nothing, Opens, SaidOfIndexes, Used, is_left_out, named_by}
use Rattle.folder_shapes.specs.Programs.{named_by_line, named_from, names_of_file, opened_names, said_by_line, table_in}
use Rattle.folder_shapes.specs.Programs.{used_after, with_all_named, with_named}
use Rattle.folder_shapes.specs.Reading.{IsReadAs}
use Rattle.folder_shapes.specs.Told.{IndexStep, ProgramStep, State, TableStep, TakeIndexes, TakePrograms, TakeTables}
use Rattle.folder_shapes.specs.Told.{TakesProgram, nothing_taken}

-- ---- of one file

-- a line names it, among these lines of the file of that number
record ByLine (file : ℕ) (whole : List Joined) (m : Named) : Type 0 where
  here : m.file ≡ file
  line : Joined
  is_line : Contains whole line
  used : Option Used
  names_it : Contains (named_by_line file line used) m

opened_in : (file line : ℕ) (table : Option (List ℕ)) (names : List (List ℕ))
    → All (λ m. m.file ≡ file) (opened_names file line table names)
opened_in file line table [] = All-nil (λ m. m.file ≡ file)
opened_in file line table (name ∷ names) =
    All-cons (λ m. m.file ≡ file) _ (opened_names file line table names) refl (opened_in file line table names)

named_in_file : (file : ℕ) (line : Joined) (table : Option (List ℕ)) (says : SaidOfIndexes)
    → All (λ m. m.file ≡ file) (named_by file line table says)
named_in_file file line table Nothing = All-nil (λ m. m.file ≡ file)
named_in_file file line table (Makes index key) =
    All-cons (λ m. m.file ≡ file) _ [] refl (All-nil (λ m. m.file ≡ file))
named_in_file file line table (Opens names) = opened_in file line.first table names

of_line : (file : ℕ) (whole : List Joined) (line : Joined) (u : Option Used) → Contains whole line
    → All (ByLine file whole) (named_by_line file line u)
of_line file whole line u is k d below =
    record {
      here = named_in_file file line (table_in (used_after line.text u)) (said_by_line line.text) k d below;
      line = line;
      is_line = is;
      used = u;
      names_it = All-contains_itself (named_by_line file line u) k d below;
    }

of_lines : (file : ℕ) (whole : List Joined) (u : Option Used) (lines : List Joined) → All (Contains whole) lines
    → All (ByLine file whole) (named_from file u lines)
of_lines file whole u [] are = All-nil (ByLine file whole)
of_lines file whole u (line ∷ lines) are =
    All-append (ByLine file whole) (named_by_line file line u) (named_from file (used_after line.text u) lines)
    (of_line file whole line u (All-head (Contains whole) line lines are))
    (of_lines file whole (used_after line.text u) lines (All-tail (Contains whole) line lines are))

of_file : (file : ℕ) (bytes : List ℕ) → All (ByLine file (joined_lines bytes)) (names_of_file file bytes)
of_file file bytes =
    of_lines file (joined_lines bytes) None (joined_lines bytes) (All-contains_itself (joined_lines bytes))

-- ---- put together

kept_by : (P : Named → Type 0) (b : Bool) (m : Named) (ms : List Named) → P m → All P ms
    → All P (if b then ms else ms ++ m ∷ [])
kept_by P true m ms h all = all
kept_by P false m ms h all = All-push P ms m all h

all_kept : (P : Named → Type 0) (more ms : List Named) → All P more → All P ms → All P (with_all_named more ms)
all_kept P [] ms new all = all
all_kept P (m ∷ more) ms new all =
    all_kept P more (with_named m ms) (All-tail P m more new)
    (kept_by P (is_left_out m ms) m ms (All-head P m more new) all)

-- ---- of a folder

is_named : (a : Holds) (before after : List (List ℕ)) (name : List ℕ) (bytes : List ℕ) (n : ℕ) (m : Named)
    → sort_of name ≡ sort.Program → IsReadAs a name bytes → n ≡ length before → ByLine n (joined_lines bytes) m
    → IsNamed a (before ++ name ∷ after) m
is_named a before after name bytes n m s read place h = record {
  before = before;
  name = name;
  after = after;
  in_place = (refl, h.here ∙ place);
  is_program = s;
  bytes = bytes;
  read = read;
  line = h.line;
  is_line = h.is_line;
  used = h.used;
  names_it = subst (λ (k : ℕ). Contains (named_by_line k h.line h.used) m) (sym h.here) h.names_it;
}

program_named : (a : Holds) (before after : List (List ℕ)) (name : List ℕ) (n : ℕ) (x y : State)
    → sort_of name ≡ sort.Program → n ≡ length before → All (IsNamed a (before ++ name ∷ after)) x.mentions
    → TakesProgram a n name x y → All (IsNamed a (before ++ name ∷ after)) y.mentions
program_named a before after name n x y s place all (inl (bytes, read, e)) =
    let P = IsNamed a (before ++ name ∷ after) in
    subst (λ (z : State). All P z.mentions) (sym e)
    (all_kept P (names_of_file n bytes) x.mentions
    (All-weaker (ByLine n (joined_lines bytes)) P
    (λ m h. is_named a before after name bytes n m s read place h) (names_of_file n bytes) (of_file n bytes)) all)
program_named a before after name n x y s place all (inr (told, why, e)) =
    subst (λ (z : State). All (IsNamed a (before ++ name ∷ after)) z.mentions) (sym e) all

step_named : (k : Sort) (a : Holds) (before after : List (List ℕ)) (name : List ℕ) (n : ℕ) (x y : State)
    → sort_of name ≡ k → n ≡ length before → All (IsNamed a (before ++ name ∷ after)) x.mentions
    → ProgramStep k a n name x y → All (IsNamed a (before ++ name ∷ after)) y.mentions
step_named sort.Table a before after name n x y s place all h =
    subst (λ (z : State). All (IsNamed a (before ++ name ∷ after)) z.mentions) (sym h) all
step_named sort.Index a before after name n x y s place all h =
    subst (λ (z : State). All (IsNamed a (before ++ name ∷ after)) z.mentions) (sym h) all
step_named sort.Program a before after name n x y s place all h =
    program_named a before after name n x y s place all h
step_named sort.Other a before after name n x y s place all h =
    subst (λ (z : State). All (IsNamed a (before ++ name ∷ after)) z.mentions) (sym h) all

programs_named : (a : Holds) (before names : List (List ℕ)) (n : ℕ) (x y : State) → n ≡ length before
    → All (IsNamed a (before ++ names)) x.mentions → TakePrograms a n names x y
    → All (IsNamed a (before ++ names)) y.mentions
programs_named a before [] n x y place all e =
    subst (λ (z : State). All (IsNamed a (before ++ [])) z.mentions) e all
programs_named a before (name ∷ names) n x y place all (next, step, others) =
    let front = before ++ name ∷ [] in
    let same : front ++ names ≡ before ++ name ∷ names = append_assoc before (name ∷ []) names in
    let longer : n + 1 ≡ length front = ap (λ k. k + 1) place ∙ sym (length-append before (name ∷ [])) in
    let one = step_named (sort_of name) a before names name n x next refl place all step in
    subst (λ (ns : List (List ℕ)). All (IsNamed a ns) y.mentions) same
    (programs_named a front names (n + 1) next y longer
    (subst (λ (ns : List (List ℕ)). All (IsNamed a ns) next.mentions) (sym same) one) others)

-- ---- tables and indexes name nothing

table_keeps : (k : Sort) (a : Holds) (n : ℕ) (name : List ℕ) (x y : State) → TableStep k a n name x y
    → y.mentions ≡ x.mentions
table_keeps sort.Table a n name x y (inl (shape, t, is, e)) = ap (λ s. s.mentions) e
table_keeps sort.Table a n name x y (inr (told, why, e)) = ap (λ s. s.mentions) e
table_keeps sort.Index a n name x y e = ap (λ s. s.mentions) e
table_keeps sort.Program a n name x y e = ap (λ s. s.mentions) e
table_keeps sort.Other a n name x y e = ap (λ s. s.mentions) e

index_keeps : (k : Sort) (a : Holds) (n : ℕ) (name : List ℕ) (x y : State) → IndexStep k a n name x y
    → y.mentions ≡ x.mentions
index_keeps sort.Table a n name x y e = ap (λ s. s.mentions) e
index_keeps sort.Index a n name x y (inl (index, stale, is, e)) = ap (λ s. s.mentions) e
index_keeps sort.Index a n name x y (inr (told, why, e)) = ap (λ s. s.mentions) e
index_keeps sort.Program a n name x y e = ap (λ s. s.mentions) e
index_keeps sort.Other a n name x y e = ap (λ s. s.mentions) e

tables_keep : (a : Holds) (n : ℕ) (names : List (List ℕ)) (x y : State) → TakeTables a n names x y
    → y.mentions ≡ x.mentions
tables_keep a n [] x y e = ap (λ s. s.mentions) (sym e)
tables_keep a n (name ∷ names) x y (next, step, others) =
    tables_keep a (n + 1) names next y others ∙ table_keeps (sort_of name) a n name x next step

indexes_keep : (a : Holds) (n : ℕ) (names : List (List ℕ)) (x y : State) → TakeIndexes a n names x y
    → y.mentions ≡ x.mentions
indexes_keep a n [] x y e = ap (λ s. s.mentions) (sym e)
indexes_keep a n (name ∷ names) x y (next, step, others) =
    indexes_keep a (n + 1) names next y others ∙ index_keeps (sort_of name) a n name x next step

pub all_named : (a : Holds) (names : List (List ℕ)) (y : State) → TakesFolder a names y → All (IsNamed a names) y.mentions
all_named a names y (declared, read, (tables, first, second), programs, after) =
    let none : declared.mentions ≡ [] = indexes_keep a 0 names tables declared second
    ∙ tables_keep a 0 names nothing_taken tables first in
    let start : All (IsNamed a names) declared.mentions =
    subst (λ (ms : List Named). All (IsNamed a names) ms) (sym none) (All-nil (IsNamed a names)) in
    subst (λ (z : State). All (IsNamed a names) z.mentions) (sym after)
    (programs_named a [] names 0 declared read refl start programs)
