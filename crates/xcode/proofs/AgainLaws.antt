-- A code's file is read as that code.
use Rattle.std.proofs.Common.{◌≡◌, ℕ, suc, ◌+◌, ◌^◌, ◌<◌, ◌≤◌, Bool, true, List, [], ◌∷◌, ◌++◌, length, map, Result, Ok}
use Rattle.std.proofs.Common.{Err, refl, sym, ap, ◌∙◌, arith}
use Rattle.std.specs.Prelude.{◌&&◌, ◌==◌, nat_le}
use Rattle.std.specs.List.{AllByRecursion, list_all}
use Rattle.std.proofs.lemmas.Bool.{eqb-true, leb-true, le-leb, and_parts, and_from}
use Rattle.std.proofs.lemmas.List.{append-nil}
use Rattle.std.proofs.Math.Dec.{eqb-suc-zero}
use Rattle.shape.specs.Tables.{tables_go_on}
use Rattle.shape.specs.Indexes.{indexes_go_on}
use Rattle.shape.specs.Lists.{is_list}
use Rattle.shape.specs.Whole.{is_shape}
use Rattle.code_items.specs.declared.declared.Declared.{Declared}
use Rattle.code_items.specs.declared.code.Proc.{Proc}
use Rattle.code_items.specs.declared.code.Code.{Code}
use Rattle.code_items.specs.Constants.{is_constant}
use Rattle.code_items.specs.Declarations.{is_filter, lists_are_legal, constants_are_legal, filters_are_legal}
use Rattle.code_items.specs.Declarations.{are_declared}
use Rattle.code_items.specs.Instrs.{is_instr}
use Rattle.code_items.specs.States.{is_state_of_start}
use Rattle.code_items.specs.Legal.{is_procedure, is_map, places_of, blocks_of, blocks_fill, maps_rise}
use Rattle.code_items.specs.Legal.{begins_blank, procedures_are_legal, maps_are_legal, instructions_are_legal, is_code}
use Rattle.xcode.specs.declared.fault.CodeFault.TheVariants.{Shape, Extra}
use Rattle.xcode.specs.Decoding.{bind, checked, procedure_follows, is_laid, whole_at, code_at}
use Rattle.xcode.specs.declared.fault.CodeFault.{CodeFault}
use Rattle.xcode.specs.CodeFile.{counts_of, code_text, CodeText}
use Rattle.xcode.specs.Laws.{Lasts, go_on}
use Rattle.xcode.proofs.PartLaws.{fine, fine_is, not_both, pair_is, bind_fine, checked_fine}
use Rattle.xcode.proofs.WholeLaws.{WithinLimits, CountsFit}
use Rattle.xcode.proofs.CodeLaws.{ItemLaws, WholeFits, whole_spelled}
use Rattle.xcode.proofs.FileLaws.{faults_stay, tables_same, indexes_same, each_same, further_same}
use Rattle.xcode.proofs.LegalLaws.{front_blocks, tables_fit, indexes_fit, lists_fit, filters_fit, procedures_fit}
use Rattle.xcode.proofs.LegalLaws.{maps_fit}

passes : {A : Type 0} (p : A → Bool) (xs : List A) → list_all p xs ≡ true → AllByRecursion (λ (x : A). p x ≡ true) xs
passes p [] h = tt
passes p (x ∷ xs) h = let a = and_parts (p x) (list_all p xs) h in (a.0, passes p xs a.1)

-- what a legal code's declarations keep
pub record Declares (d : Declared) : Type 0 where
  pub stack_bound : nat_le d.stack_bound 64 ≡ true
  pub slots : nat_le d.slots 256 ≡ true
  pub few_tables : nat_le (length d.shape.tables) 32 ≡ true
  pub few_indexes : nat_le (length d.shape.indexes) 64 ≡ true
  pub tables : tables_go_on [] d.shape.tables ≡ true
  pub indexes : indexes_go_on d.shape.tables [] d.shape.indexes ≡ true
  pub few_lists : nat_le (length d.lists) 64 ≡ true
  pub lists : list_all (is_list d.shape.indexes) d.lists ≡ true
  pub few_constants : nat_le (length d.constants) 4096 ≡ true
  pub constants : list_all is_constant d.constants ≡ true
  pub few_filters : nat_le (length d.filters) 64 ≡ true
  pub filters : list_all (is_filter (length d.shape.tables) d.slots) d.filters ≡ true

declares : (d : Declared) → are_declared d ≡ true → Declares d
unfolding are_declared is_shape
declares d h =
    let a = and_parts _ (filters_are_legal d) h in
    let b = and_parts _ (constants_are_legal d) a.0 in
    let c = and_parts _ (lists_are_legal d) b.0 in
    let e = and_parts _ (is_shape d.shape) c.0 in
    let f = and_parts (nat_le d.stack_bound 64) (nat_le d.slots 256) e.0 in
    let s = and_parts _ (indexes_go_on d.shape.tables [] d.shape.indexes) e.1 in
    let t = and_parts _ (tables_go_on [] d.shape.tables) s.0 in
    let u = and_parts (nat_le (length d.shape.tables) 32) (nat_le (length d.shape.indexes) 64) t.0 in
    let l = and_parts (nat_le (length d.lists) 64) (list_all (is_list d.shape.indexes) d.lists) c.1 in
    let k = and_parts (nat_le (length d.constants) 4096) (list_all is_constant d.constants) b.1 in
    let g = and_parts (nat_le (length d.filters) 64)
    (list_all (is_filter (length d.shape.tables) d.slots) d.filters) a.1 in
    record {
      stack_bound = f.0;
      slots = f.1;
      few_tables = u.0;
      few_indexes = u.1;
      tables = t.1;
      indexes = s.1;
      few_lists = l.0;
      lists = l.1;
      few_constants = k.0;
      constants = k.1;
      few_filters = g.0;
      filters = g.1;
    }

-- what a legal code keeps
pub record Keeps (code : Code) : Type 0 where
  pub declared : Declares code.declared
  pub few_procedures : nat_le (length code.procedures) 256 ≡ true
  pub procedures : list_all (is_procedure code.declared) code.procedures ≡ true
  pub blank : begins_blank code.procedures ≡ true
  pub few_maps : nat_le (length code.maps) 4096 ≡ true
  pub maps : list_all (is_map code.declared) code.maps ≡ true
  pub rising : maps_rise 0 (places_of code.procedures) code.maps ≡ true
  pub some_instruction : nat_le 1 (length code.instructions) ≡ true
  pub few_instructions : nat_le (length code.instructions) 65535 ≡ true
  pub instructions : list_all (is_instr code.declared.version) code.instructions ≡ true
  pub filled : blocks_fill (length code.instructions) (blocks_of code.procedures code.declared.filters) ≡ true

pub keeps : (code : Code) → is_code code ≡ true → Keeps code
unfolding is_code
keeps code h =
    let a = and_parts _ (instructions_are_legal code) h in
    let b = and_parts _ (maps_are_legal code) a.0 in
    let c = and_parts (are_declared code.declared) (procedures_are_legal code) b.0 in
    let p = and_parts _ (begins_blank code.procedures) c.1 in
    let q = and_parts (nat_le (length code.procedures) 256)
    (list_all (is_procedure code.declared) code.procedures) p.0 in
    let m = and_parts _ (maps_rise 0 (places_of code.procedures) code.maps) b.1 in
    let n = and_parts (nat_le (length code.maps) 4096) (list_all (is_map code.declared) code.maps) m.0 in
    let i = and_parts _ (blocks_fill (length code.instructions) (blocks_of code.procedures code.declared.filters))
    a.1 in
    let j = and_parts _ (list_all (is_instr code.declared.version) code.instructions) i.0 in
    let k = and_parts (nat_le 1 (length code.instructions)) (nat_le (length code.instructions) 65535) j.0 in
    record {
      declared = declares code.declared c.0;
      few_procedures = q.0;
      procedures = q.1;
      blank = p.1;
      few_maps = n.0;
      maps = n.1;
      rising = m.1;
      some_instruction = k.0;
      few_instructions = k.1;
      instructions = j.1;
      filled = i.1;
    }

some_procedure : (ps : List Proc) → begins_blank ps ≡ true → nat_le 1 (length ps) ≡ true
some_procedure [] h = absurd cc
some_procedure (p ∷ ps) h = le-leb 1 (suc (length ps)) (omega arith)

procedures_follow : (d : Declared) (ps : List Proc) → list_all (is_procedure d) ps ≡ true → begins_blank ps ≡ true
    → go_on (procedure_follows d) [] ps ≡ true
procedures_follow d [] h blank = refl
procedures_follow d (p ∷ ps) h blank =
    let a = and_parts (is_procedure d p) (list_all (is_procedure d) ps) h in
    and_from (is_procedure d p && is_state_of_start p.entry) (go_on (procedure_follows d) (p ∷ []) ps)
    (and_from (is_procedure d p) (is_state_of_start p.entry) a.0 blank) (sym (further_same d p [] ps) ∙ a.1)

within : (code : Code) → Keeps code → WithinLimits (counts_of code)
within code k =
    let d = k.declared in
    and_from _ (nat_le 1 (length code.instructions))
    (and_from _ (nat_le (length code.maps) 4096)
    (and_from _ (nat_le (length code.procedures) 256)
    (and_from _ (nat_le 1 (length code.procedures))
    (and_from _ (nat_le (length code.declared.filters) 64)
    (and_from _ (nat_le (length code.declared.constants) 4096)
    (and_from _ (nat_le (length code.declared.lists) 64)
    (and_from _ (nat_le (length code.declared.shape.indexes) 64)
    (and_from _ (nat_le (length code.declared.shape.tables) 32)
    (and_from (nat_le code.declared.stack_bound 64) (nat_le code.declared.slots 256)
    d.stack_bound d.slots) d.few_tables) d.few_indexes) d.few_lists) d.few_constants) d.few_filters)
    (some_procedure code.procedures k.blank)) k.few_procedures) k.few_maps) k.some_instruction

pub small : (n bound : ℕ) → bound ≤ 65535 → nat_le n bound ≡ true → n < 2 ^ 16
small n bound low h = let le = leb-true n bound h in omega (arith, le, low)

counts_fit : (code : Code) → Keeps code → CountsFit (counts_of code)
counts_fit code k =
    let d = k.declared in (
      small code.declared.stack_bound 64 (omega arith) d.stack_bound,
      (
        small code.declared.slots 256 (omega arith) d.slots,
        (
          small (length code.declared.shape.tables) 32 (omega arith) d.few_tables,
          (
            small (length code.declared.shape.indexes) 64 (omega arith) d.few_indexes,
            (
              small (length code.declared.lists) 64 (omega arith) d.few_lists,
              (
                small (length code.declared.constants) 4096 (omega arith) d.few_constants,
                (
                  small (length code.declared.filters) 64 (omega arith) d.few_filters,
                  (
                    small (length code.procedures) 256 (omega arith) k.few_procedures,
                    (
                      small (length code.maps) 4096 (omega arith) k.few_maps,
                      small (length code.instructions) 65535 (omega arith) k.few_instructions,
                    ),
                  ),
                ),
              ),
            ),
          ),
        ),
      ),
    )

whole_fits : (code : Code) → Keeps code → WholeFits code
whole_fits code k =
    let d = code.declared in
    let e = k.declared in
    let left = leb-true (length code.instructions) 65535 k.few_instructions in
    let few = leb-true (length d.shape.tables) 32 e.few_tables in
    let slots = leb-true d.slots 256 e.slots in
    let front = front_blocks 65535 (length code.instructions) (map (λ (p : Proc). p.length) code.procedures)
    (map (λ f. f.length) d.filters) left k.filled in
    let back = front_blocks 65535 front.behind (map (λ f. f.length) d.filters) []
    (behind_few 65535 (length code.instructions) front.behind (places_of code.procedures) front.sum left)
    (ap (blocks_fill front.behind) (append-nil (map (λ f. f.length) d.filters)) ∙ front.fills) in
    let places = places_few 65535 (length code.instructions) front.behind (places_of code.procedures) front.sum left in
    record {
      header = record { fit = counts_fit code k; within = within code k };
      declared = (
        refl,
        (
          (refl, sym (tables_same [] d.shape.tables) ∙ e.tables, tables_fit [] d.shape.tables e.tables),
          (
            (
              refl,
              sym (indexes_same d.shape.tables [] d.shape.indexes) ∙ e.indexes,
              indexes_fit d.shape.tables [] d.shape.indexes e.indexes,
            ),
            (
              (
                refl,
                sym (each_same (is_list d.shape.indexes) [] d.lists) ∙ e.lists,
                lists_fit d.shape.indexes d.lists e.lists,
              ),
              (
                (refl, always_go [] d.constants, passes is_constant d.constants e.constants),
                (
                  refl,
                  sym (each_same (is_filter (length d.shape.tables) d.slots) [] d.filters) ∙ e.filters,
                  filters_fit (length d.shape.tables) d.slots d.filters slots e.filters back.each,
                ),
              ),
            ),
          ),
        ),
      );
      body = (
        refl,
        (
          (
            refl,
            procedures_follow d code.procedures k.procedures k.blank,
            procedures_fit d code.procedures few k.procedures front.each,
          ),
          (
            (
              refl,
              sym (each_same (is_map d) [] code.maps) ∙ k.maps,
              maps_fit d 0 (places_of code.procedures) code.maps few places k.maps k.rising,
            ),
            (refl, always_go [] code.instructions, passes (is_instr d.version) code.instructions k.instructions),
          ),
        ),
      );
    }
  where
    behind_few : (bound left behind places_in_all : ℕ) → behind + places_in_all ≡ left → left ≤ bound → behind ≤ bound
    behind_few bound left behind places_in_all e h = omega arith

    places_few : (bound left behind places_in_all : ℕ) → behind + places_in_all ≡ left → left ≤ bound
        → places_in_all ≤ bound
    places_few bound left behind places_in_all e h = omega arith

    always_go : {A : Type 0} (earlier xs : List A) → go_on (λ (e : List A) (x : A). true) earlier xs ≡ true
    always_go earlier [] = refl
    always_go earlier (x ∷ xs) = always_go (earlier ++ x ∷ []) xs

pub code_again : ItemLaws → (code : Code) → is_code code ≡ true → code_at (code_text code) ≡ Ok code
unfolding code_at
code_again laws code h =
    let k = keeps code h in
    let read : whole_at (code_text code) ≡ Ok (code, []) = ap whole_at (sym (append-nil (code_text code)))
    ∙ (whole_spelled laws).again code [] (whole_fits code k) in
    let laid : is_laid code ≡ true = and_from _ (maps_rise 0 (places_of code.procedures) code.maps)
    (and_from (nat_le (length code.procedures) 256)
    (blocks_fill (length code.instructions) (blocks_of code.procedures code.declared.filters)) k.few_procedures
    k.filled) k.rising in
    rw (read, laid) refl

-- ---- one file each, bytes behind, and cut files

pub code_only : ItemLaws → (bytes : List ℕ) (code : Code) → CodeText bytes code → code_at bytes ≡ Ok code
code_only laws bytes code t = ap code_at t.spelled ∙ code_again laws code t.legal

pub one_code : (read : Result Code CodeFault) (a b : Code) → read ≡ Ok a → read ≡ Ok b → a ≡ b
one_code read a b s t = fine_is a b (sym s ∙ t)

whole_read : ItemLaws → (bytes more : List ℕ) (code : Code) → CodeText bytes code
    → whole_at (bytes ++ more) ≡ Ok (code, more)
whole_read laws bytes more code t = ap (λ (l : List ℕ). whole_at (l ++ more)) t.spelled
    ∙ (whole_spelled laws).again code more (whole_fits code (keeps code t.legal))

pub laid_of : (code : Code) → is_code code ≡ true → is_laid code ≡ true
laid_of code h =
    let k = keeps code h in
    and_from _ (maps_rise 0 (places_of code.procedures) code.maps)
    (and_from (nat_le (length code.procedures) 256)
    (blocks_fill (length code.instructions) (blocks_of code.procedures code.declared.filters)) k.few_procedures
    k.filled) k.rising

pub behind_extra : ItemLaws → (bytes more : List ℕ) (code : Code) → CodeText bytes code → 1 ≤ length more
    → code_at (bytes ++ more) ≡ Err Extra
unfolding code_at
behind_extra laws bytes more code t some =
    let read = whole_read laws bytes more code t in
    let laid = laid_of code t.legal in
    rw (read, laid) (not_empty more some)
  where
    not_empty : (l : List ℕ) → 1 ≤ length l → checked Extra (length l == 0) code ≡ Err Extra
    not_empty [] h = absurd (omega (arith, h))
    not_empty (x ∷ xs) h = rw (eqb-suc-zero (length xs)) refl

-- what decode read is what was read as a whole
read_whole : (bytes : List ℕ) (code : Code) → code_at bytes ≡ Ok code → whole_at bytes ≡ Ok (code, [])
unfolding code_at
read_whole bytes code e =
    let end = λ (y : Code × List ℕ). checked Extra (length y.1 == 0) y.0 in
    let a = bind_fine (whole_at bytes) (λ x. bind (checked Shape (is_laid x.0) x) end) code e in
    let b = bind_fine (checked Shape (is_laid a.0.0) a.0) end code a.2 in
    let laid = checked_fine Shape (is_laid a.0.0) a.0 b.0 b.1 in
    let last = checked_fine Extra (length b.0.1 == 0) b.0.0 code b.2 in
    a.1 ∙ ap (λ (p : Code × List ℕ). fine p) laid.1 ∙ ap (λ (c : Code). fine (c, b.0.1)) last.1
    ∙ ap (λ (l : List ℕ). fine (code, l)) (none b.0.1 last.0)
  where
    none : (l : List ℕ) → (length l == 0) ≡ true → l ≡ []
    none [] e = refl
    none (x ∷ xs) e = absurd (let n : suc (length xs) ≡ 0 = eqb-true (suc (length xs)) 0 e in omega arith)

-- a file that is cut has a fault of missing bytes
pub cut_short : ItemLaws → (front more : List ℕ) (code : Code) → CodeText (front ++ more) code → 1 ≤ length more
    → (f : CodeFault) × (code_at front ≡ Err f) × (Lasts f → ⊥)
cut_short laws front more code t some = told_of (code_at front) refl
  where
    told_of : (r : Result Code CodeFault) → code_at front ≡ r
        → (f : CodeFault) × (code_at front ≡ Err f) × (Lasts f → ⊥)
    told_of (Ok c) e =
        let longer = (whole_spelled laws).stays front more [] c (read_whole front c e) in
        let whole = whole_read laws (front ++ more) [] code t in
        let same = pair_is c code more [] (sym longer ∙ ap whole_at (sym (append-nil (front ++ more))) ∙ whole) in
        let len : length more ≡ 0 = ap (λ (l : List ℕ). length l) same.1 in
        absurd (omega (arith, len, some))
    told_of (Err f) e = (
      f,
      e,
      λ lasts. not_both code f
          (sym (code_only laws (front ++ more) code t) ∙ faults_stay laws front more f lasts e),
    )
