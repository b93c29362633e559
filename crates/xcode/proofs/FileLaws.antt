-- Laws of code files: what is read is legal, and its file is the bytes.
use Rattle.std.proofs.Common.{inl, inr, ◌≡◌, ℕ, suc, Bool, true, eqb, List, [], ◌∷◌, ◌++◌, length, Result, Ok, Err}
use Rattle.std.proofs.Common.{refl, ap, subst, ◌∙◌, arith}
use Rattle.std.specs.Prelude.{◌&&◌, ◌==◌, nat_le}
use Rattle.std.specs.List.{AllByRecursion, list_all}
use Rattle.std.proofs.lemmas.Bool.{eqb-true, le-leb, and_parts, and_from}
use Rattle.std.proofs.lemmas.List.{append-nil}
use Rattle.std.proofs.Math.Dec.{eqb-suc-zero}
use Rattle.shape.specs.declared.tables.TableShape.{TableShape}
use Rattle.shape.specs.declared.indexes.IndexShape.{IndexShape}
use Rattle.shape.specs.Tables.{is_next_table, tables_go_on}
use Rattle.shape.specs.Indexes.{is_next_index, indexes_go_on}
use Rattle.shape.specs.Lists.{is_list}
use Rattle.shape.specs.Whole.{is_shape}
use Rattle.code_items.specs.declared.declared.Declared.{Declared}
use Rattle.code_items.specs.declared.code.Proc.{Proc}
use Rattle.code_items.specs.declared.code.Code.{Code}
use Rattle.code_items.specs.Constants.{is_constant}
use Rattle.code_items.specs.Declarations.{is_filter, lists_are_legal, constants_are_legal, filters_are_legal}
use Rattle.code_items.specs.Declarations.{are_declared}
use Rattle.code_items.specs.Instrs.{is_instr}
use Rattle.code_items.specs.States.{is_state_of_start}
use Rattle.code_items.specs.Legal.{is_procedure, is_map, places_of, blocks_of, blocks_fill, maps_rise, begins_blank}
use Rattle.code_items.specs.Legal.{procedures_are_legal, maps_are_legal, instructions_are_legal, is_code}
use Rattle.code_parts.specs.Laws.{AreBytes}
use Rattle.xcode.specs.declared.fault.CodeFault.{CodeFault}
use Rattle.xcode.specs.declared.fault.CodeFault.TheVariants.{Shape, Extra}
use Rattle.xcode.specs.declared.header.Counts.{Counts}
use Rattle.xcode.specs.Decoding.{bind, checked, procedure_follows, is_laid, whole_at, code_at}
use Rattle.xcode.specs.CodeFile.{counts_of, code_text, CodeText}
use Rattle.xcode.specs.Laws.{Lasts, go_on}
use Rattle.xcode.proofs.PartLaws.{not_both, bind_fine, bind_bad, checked_fine, still}
use Rattle.xcode.proofs.WholeLaws.{WithinLimits}
use Rattle.xcode.proofs.CodeLaws.{ItemLaws, WholeRead, whole_spelled}

-- ---- the same tests in other words

pub tables_same : (earlier ts : List TableShape) → tables_go_on earlier ts ≡ go_on is_next_table earlier ts
tables_same earlier [] = refl
tables_same earlier (t ∷ ts) = ap (λ (b : Bool). is_next_table earlier t && b) (tables_same (earlier ++ t ∷ []) ts)

pub indexes_same : (tables : List TableShape) (earlier xs : List IndexShape)
    → indexes_go_on tables earlier xs ≡ go_on (is_next_index tables) earlier xs
indexes_same tables earlier [] = refl
indexes_same tables earlier (x ∷ xs) = ap (λ (b : Bool). is_next_index tables earlier x && b)
    (indexes_same tables (earlier ++ x ∷ []) xs)

pub each_same : {A : Type 0} (p : A → Bool) (earlier xs : List A)
    → list_all p xs ≡ go_on (λ (e : List A) (x : A). p x) earlier xs
each_same p earlier [] = refl
each_same p earlier (x ∷ xs) = ap (λ (b : Bool). p x && b) (each_same p (earlier ++ x ∷ []) xs)

pub further_same : (d : Declared) (q : Proc) (qs ps : List Proc)
    → list_all (is_procedure d) ps ≡ go_on (procedure_follows d) (q ∷ qs) ps
further_same d q qs [] = refl
further_same d q qs (p ∷ ps) = ap (λ (b : Bool). is_procedure d p && b) (further_same d q (qs ++ p ∷ []) ps)

all_pass : {A : Type 0} (p : A → Bool) (xs : List A) → AllByRecursion (λ (x : A). p x ≡ true) xs → list_all p xs ≡ true
all_pass p [] h = refl
all_pass p (x ∷ xs) h = and_from (p x) (list_all p xs) h.0 (all_pass p xs h.1)

procedures_pass : (d : Declared) (ps : List Proc) → nat_le 1 (length ps) ≡ true
    → go_on (procedure_follows d) [] ps ≡ true → (list_all (is_procedure d) ps ≡ true) × (begins_blank ps ≡ true)
procedures_pass d [] some h = absurd cc
procedures_pass d (p ∷ ps) some h =
    let a = and_parts (is_procedure d p && is_state_of_start p.entry) (go_on (procedure_follows d) (p ∷ []) ps) h in
    let b = and_parts (is_procedure d p) (is_state_of_start p.entry) a.0 in
    (and_from (is_procedure d p) (list_all (is_procedure d) ps) b.0 (further_same d p [] ps ∙ a.1), b.1)

-- the limits one by one
record Limits (c : Counts) : Type 0 where
  stack_bound : nat_le c.stack_bound 64 ≡ true
  slots : nat_le c.slots 256 ≡ true
  tables : nat_le c.tables 32 ≡ true
  indexes : nat_le c.indexes 64 ≡ true
  lists : nat_le c.lists 64 ≡ true
  constants : nat_le c.constants 4096 ≡ true
  filters : nat_le c.filters 64 ≡ true
  some_procedure : nat_le 1 c.procedures ≡ true
  procedures : nat_le c.procedures 256 ≡ true
  maps : nat_le c.maps 4096 ≡ true
  some_instruction : nat_le 1 c.instructions ≡ true

limits : (c : Counts) → WithinLimits c → Limits c
limits c h =
    let a10 = and_parts _ (nat_le 1 c.instructions) h in
    let a9 = and_parts _ (nat_le c.maps 4096) a10.0 in
    let a8 = and_parts _ (nat_le c.procedures 256) a9.0 in
    let a7 = and_parts _ (nat_le 1 c.procedures) a8.0 in
    let a6 = and_parts _ (nat_le c.filters 64) a7.0 in
    let a5 = and_parts _ (nat_le c.constants 4096) a6.0 in
    let a4 = and_parts _ (nat_le c.lists 64) a5.0 in
    let a3 = and_parts _ (nat_le c.indexes 64) a4.0 in
    let a2 = and_parts _ (nat_le c.tables 32) a3.0 in
    let a1 = and_parts (nat_le c.stack_bound 64) (nat_le c.slots 256) a2.0 in
    record {
      stack_bound = a1.0;
      slots = a1.1;
      tables = a2.1;
      indexes = a3.1;
      lists = a4.1;
      constants = a5.1;
      filters = a6.1;
      some_procedure = a7.1;
      procedures = a8.1;
      maps = a9.1;
      some_instruction = a10.1;
    }

-- ---- what is read is legal

laid_parts : (code : Code) → is_laid code ≡ true
    → (blocks_fill (length code.instructions) (blocks_of code.procedures code.declared.filters) ≡ true)
    × (maps_rise 0 (places_of code.procedures) code.maps ≡ true)
laid_parts code h =
    let a = and_parts _ (maps_rise 0 (places_of code.procedures) code.maps) h in
    let b = and_parts (nat_le (length code.procedures) 256)
    (blocks_fill (length code.instructions) (blocks_of code.procedures code.declared.filters)) a.0 in
    (b.1, a.1)

declared_legal : (code : Code) → WholeRead code → are_declared code.declared ≡ true
unfolding are_declared is_shape
declared_legal code r =
    let d = code.declared in
    let l = limits (counts_of code) r.header.1 in
    let (read_tables, (read_indexes, (read_lists, (read_constants, read_filters)))) = r.declared.1 in
    let tables = tables_same [] d.shape.tables ∙ read_tables.1 in
    let indexes = indexes_same d.shape.tables [] d.shape.indexes ∙ read_indexes.1 in
    let shape = and_from _ (indexes_go_on d.shape.tables [] d.shape.indexes)
    (and_from _ (tables_go_on [] d.shape.tables)
    (and_from (nat_le (length d.shape.tables) 32) (nat_le (length d.shape.indexes) 64) l.tables l.indexes) tables)
    indexes in
    let lists = and_from (nat_le (length d.lists) 64) (list_all (is_list d.shape.indexes) d.lists) l.lists
    (each_same (is_list d.shape.indexes) [] d.lists ∙ read_lists.1) in
    let constants = and_from (nat_le (length d.constants) 4096) (list_all is_constant d.constants) l.constants
    (all_pass is_constant d.constants read_constants.2) in
    let filters = and_from (nat_le (length d.filters) 64)
    (list_all (is_filter (length d.shape.tables) d.slots) d.filters) l.filters
    (each_same (is_filter (length d.shape.tables) d.slots) [] d.filters ∙ read_filters.1) in
    and_from _ (filters_are_legal d) (and_from _ (constants_are_legal d)
    (and_from _ (lists_are_legal d) (and_from _ (is_shape d.shape)
    (and_from (nat_le d.stack_bound 64) (nat_le d.slots 256) l.stack_bound l.slots) shape) lists) constants) filters

code_legal : (code : Code) → WholeRead code → is_laid code ≡ true → is_code code ≡ true
unfolding is_code
code_legal code r h =
    let d = code.declared in
    let l = limits (counts_of code) r.header.1 in
    let laid = laid_parts code h in
    let (read_procedures, (read_maps, read_instructions)) = r.body.1 in
    let p = procedures_pass d code.procedures l.some_procedure read_procedures.1 in
    let procedures = and_from _ (begins_blank code.procedures)
    (and_from (nat_le (length code.procedures) 256) (list_all (is_procedure d) code.procedures) l.procedures p.0)
    p.1 in
    let maps = and_from _ (maps_rise 0 (places_of code.procedures) code.maps)
    (and_from (nat_le (length code.maps) 4096) (list_all (is_map d) code.maps) l.maps
    (each_same (is_map d) [] code.maps ∙ read_maps.1)) laid.1 in
    let few : nat_le (length code.instructions) 65535 ≡ true =
    (let lt = r.header.0 in le-leb (length code.instructions) 65535 (omega (arith, lt))) in
    let instructions = and_from _ (blocks_fill (length code.instructions) (blocks_of code.procedures d.filters))
    (and_from _ (list_all (is_instr d.version) code.instructions)
    (and_from (nat_le 1 (length code.instructions)) (nat_le (length code.instructions) 65535) l.some_instruction few)
    (all_pass (is_instr d.version) code.instructions read_instructions.2)) laid.0 in
    and_from _ (instructions_are_legal code)
    (and_from _ (maps_are_legal code) (and_from (are_declared d) (procedures_are_legal code)
    (declared_legal code r) procedures) maps) instructions

-- ---- found

pub code_found : ItemLaws → (bytes : List ℕ) (code : Code) → AreBytes bytes → code_at bytes ≡ Ok code
    → CodeText bytes code
unfolding code_at
code_found laws bytes code fit e =
    let end = λ (y : Code × List ℕ). checked Extra (length y.1 == 0) y.0 in
    let a = bind_fine (whole_at bytes) (λ x. bind (checked Shape (is_laid x.0) x) end) code e in
    let b = bind_fine (checked Shape (is_laid a.0.0) a.0) end code a.2 in
    let laid = checked_fine Shape (is_laid a.0.0) a.0 b.0 b.1 in
    let last = checked_fine Extra (length b.0.1 == 0) b.0.0 code b.2 in
    let same : a.0.0 ≡ code = ap (λ (p : Code × List ℕ). p.0) laid.1 ∙ last.1 in
    let empty : a.0.1 ≡ [] = ap (λ (p : Code × List ℕ). p.1) laid.1 ∙ none b.0.1 last.0 in
    let is = (whole_spelled laws).takes bytes a.0.1 a.0.0 fit a.1 in
    let text : bytes ≡ code_text code = is.0 ∙ ap (λ (l : List ℕ). code_text a.0.0 ++ l) empty
    ∙ append-nil (code_text a.0.0) ∙ ap code_text same in
    record { legal = subst (λ (c : Code). is_code c ≡ true) same (code_legal a.0.0 is.1 laid.0); spelled = text }
  where
    none : (l : List ℕ) → eqb (length l) 0 ≡ true → l ≡ []
    none [] e = refl
    none (x ∷ xs) e = absurd (let n : suc (length xs) ≡ 0 = eqb-true (suc (length xs)) 0 e in omega arith)

-- ---- bytes behind others

-- a fault that is told of bytes that are there stays where bytes are appended
pub faults_stay : ItemLaws → (bytes more : List ℕ) (f : CodeFault) → Lasts f → code_at bytes ≡ Err f
    → code_at (bytes ++ more) ≡ Err f
unfolding code_at
faults_stay laws bytes more f lasts e =
    let end = λ (y : Code × List ℕ). checked Extra (length y.1 == 0) y.0 in
    elim (bind_bad (whole_at bytes) (λ x. bind (checked Shape (is_laid x.0) x) end) f e) [
      | inl h ↦ rw ((whole_spelled laws).fails bytes more f lasts h) refl
      | inr a ↦ rw ((whole_spelled laws).stays bytes more a.0.1 a.0.0 a.1)
          (elim (bind_bad (checked Shape (is_laid a.0.0) a.0) end f a.2) [
            | inl h ↦ ap (λ (r : Result (Code × List ℕ) CodeFault). bind r end)
                (still (is_laid a.0.0) Shape f a.0 (a.0.0, a.0.1 ++ more) h)
            | inr b ↦
                let c = checked_fine Shape (is_laid a.0.0) a.0 b.0 b.1 in
                let last : checked Extra (length a.0.1 == 0) a.0.0 ≡ Err f = ap end c.1 ∙ b.2 in
                rw c.0 (longer a.0.1 a.0.0 last)
          ])
    ]
  where
    longer : (rest : List ℕ) (code : Code) → checked Extra (length rest == 0) code ≡ Err f
        → checked Extra (length (rest ++ more) == 0) code ≡ Err f
    longer [] code h = absurd (not_both code f h)
    longer (x ∷ xs) code h = rw (eqb-suc-zero (length (xs ++ more))) (rw (eqb-suc-zero (length xs)) at h)
