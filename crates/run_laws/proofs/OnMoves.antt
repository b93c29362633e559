-- What moves need is there where their tests come out well: among it, that the filter can be run.
use Rattle.std.proofs.Common.{◌≡◌, ℕ, zero, suc, ◌≤◌, true, false, [], ◌∷◌, length, Option, Some, None, refl, sym, ap}
use Rattle.std.proofs.Common.{subst, ◌∙◌, arith}
use Rattle.std.specs.Prelude.{not, ◌||◌, ◌==◌, map, slice_get, IfSome}
use Rattle.std.specs.List.{AllByRecursion}
use Rattle.std.proofs.lemmas.Bool.{eqb-false, eqb-true, not-false, and_parts}
use Rattle.std.proofs.lemmas.List.{length-map}
use Rattle.xvalue.specs.declared.kind.Kind.TheVariants.{Number as OfNumber, Text as OfText}
use Rattle.dbf_file.specs.Tables.{StructureState}
use Rattle.open_table.specs.Open.{OpenState}
use Rattle.open_table.specs.Tried.{TriedRow, tried}
use Rattle.work_area.specs.Making.{HaveAlikeFields}
use Rattle.code_items.specs.declared.code.Code.{Code}
use Rattle.code_items.specs.declared.declared.Filter.{Filter as FilterItem}
use Rattle.code_items.specs.declared.instr.Instr.TheVariants.{Moves}
use Rattle.code_items.specs.declared.instr.MoveInstr.{MoveInstr}
use Rattle.code_items.specs.declared.instr.MoveInstr.TheVariants.{Top, Bottom, Skip, Go, Seek}
use Rattle.code_items.specs.Declarations.{filter_of}
use Rattle.code_items.specs.Desks.{open_at}
use Rattle.code_items.specs.Facts.{Facts}
use Rattle.code_items.specs.Kinds.{clashes}
use Rattle.code_items.specs.States.{filters_table, is_filter_of}
use Rattle.code_rules.specs.Signature.{signature}
use Rattle.code_rules.specs.Rules.{filter_lacks, fails_if_open}
use Rattle.code_rules.specs.Wants.{fields_declared}
use Rattle.run_steps.specs.World.{World, state_of, desk_of, kind_held}
use Rattle.run_steps.specs.Effects.{filter_in, filter_here}
use Rattle.run_steps.specs.Filters.{viewer, instructions_of, block_sound, block_start, is_sound_filter, is_sound}
use Rattle.run_steps.specs.Filters.{BlockFits, RunsOnRows}
use Rattle.run_steps.specs.Faults.{IsClear}
use Rattle.run_steps.specs.Needs.{BlockNeeds, FilterNeeds, Walks, GivenNeeds, SeekNeeds, MoveNeeds}
use Rattle.run_steps.specs.Shapes.{StoreFits}
use Rattle.run_steps.proofs.Results.{ResultLaw}
use Rattle.run_laws.proofs.AlikeFields.{fields_alike}
use Rattle.run_laws.proofs.FilterBlocks.{BlockRuns, block_runs}
use Rattle.run_laws.proofs.Known.{Known, OpenThere}
use Rattle.run_laws.proofs.Tests.{Same, first_no, then_no, else_yes, not_zero, on_top, enough}
use Rattle.run_laws.proofs.OnAreas.{selected_there, is_here}

-- ---- a filter

-- a filter that can be asked has what its block needs, and its table is the one in use
filter_ready : Same → ResultLaw → (code : Code) (w : World) → Facts code → StoreFits code.declared w.env.store
    → (o : OpenThere code.declared w.env.store w.env.store.selected) → length w.values.slots ≡ code.declared.slots
    → (number : ℕ) → number ≡ o.use_of.filter → is_sound code (map kind_held w.values.slots) number ≡ true
    → FilterNeeds code w.values number × RunsOnRows code (viewer w.values w.env) number o.table.table.structure
filter_ready same law code w facts fits o n zero at e = (tt, tt)
filter_ready same law code w facts fits o n (suc number) at e =
    from (filter_of code.declared (suc number))
    (else_yes (suc number == 0)
    (is_sound_filter code (map kind_held w.values.slots) (suc number) (filter_of code.declared (suc number)))
    (not_zero number) e)
    (else_yes (suc number == 0) (is_filter_of code.declared o.use_of.table (suc number)) (not_zero number)
    (subst (λ (k : ℕ). (k == 0 || is_filter_of code.declared o.use_of.table k) ≡ true) (sym at) o.filter))
  where
    from : (x : Option FilterItem) → is_sound_filter code (map kind_held w.values.slots) (suc number) x ≡ true
        → filters_table o.use_of.table x ≡ true
        → AllByRecursion (BlockNeeds w.values) (instructions_of code (suc number) x)
        × ((r : TriedRow) → r.structure ≡ o.table.table.structure
        → BlockFits code (viewer w.values w.env) r (instructions_of code (suc number) x) [])
    from None h own = absurd (cc)
    from (Some f) h own =
        let structure = o.table.table.structure in
        let is = instructions_of code (suc number) (Some f) in
        let p = and_parts (not (filter_lacks (map kind_held w.values.slots) (Some f)))
        (block_sound code (block_start f.table (map kind_held w.values.slots)) is) h in
        let alike : HaveAlikeFields structure.fields
        (fields_declared (slice_get code.declared.shape.tables f.table)) =
        subst (λ (t : ℕ). HaveAlikeFields structure.fields
        (fields_declared (slice_get code.declared.shape.tables t))) (sym (eqb-true f.table o.use_of.table own))
        (fields_alike code.declared w.env.store w.env.store.selected fits o) in
        let runs : (r : TriedRow) → r.structure ≡ structure → BlockRuns code w.values w.env r is [] =
        λ r same_structure. block_runs same law code w.values w.env r f.table facts.stack_bound n
        (subst (λ (t : StructureState). HaveAlikeFields t.fields
        (fields_declared (slice_get code.declared.shape.tables f.table))) (sym same_structure) alike) is p.1 in (
          (runs (tried structure o.table.table.rows 1) refl).needs,
          λ r same_structure. (runs r same_structure).fits,
        )

-- ---- moves

-- a table is in use, and its filter can be run, where an instruction that may move the pointer has no fault
pub walks : Same → ResultLaw → (code : Code) (w : World) → Facts code → Known code.declared (state_of w)
    → StoreFits code.declared w.env.store → OpenThere code.declared w.env.store w.env.store.selected
    → fails_if_open (λ a. not (is_sound code (state_of w).slots a.filter))
    (open_at (desk_of w.env.store) w.env.store.selected) ≡ false
    → Walks code w.values w.env
walks same law code w facts k fits o e =
    let s = w.env.store in
    let sound : is_sound code (map kind_held w.values.slots) o.use_of.filter ≡ true =
    not-false (is_sound code (map kind_held w.values.slots) o.use_of.filter)
    (ap (fails_if_open (λ a. not (is_sound code (map kind_held w.values.slots) a.filter))) (sym o.known) ∙ e) in
    let number : filter_here s ≡ o.use_of.filter = ap filter_in o.held in
    let slots : length w.values.slots ≡ code.declared.slots =
    omega (arith, k.slots, length-map w.values.slots kind_held) in
    let ready = filter_ready same law code w facts fits o slots o.use_of.filter refl sound in (
      is_here code.declared s o,
      subst (FilterNeeds code w.values) (sym number) ready.0,
      subst (λ (x : Option OpenState). IfSome x
          (λ (p : OpenState). RunsOnRows code (viewer w.values w.env) (filter_here s) p.table.structure)) (sym o.there)
          (subst (λ (n : ℕ). RunsOnRows code (viewer w.values w.env) n o.table.table.structure) (sym number) ready.1),
    )

given_ready : Same → (code : Code) (w : World) (i : MoveInstr) → IsClear code w (Moves i) → GivenNeeds i w.values
given_ready same code w Top c = tt
given_ready same code w Bottom c = tt
given_ready same code w Skip c =
    on_top same (OfNumber ∷ []) w.values.stack (first_no (clashes (OfNumber ∷ []) (state_of w).stack) false c.kind)
    (omega (arith, enough w.values.stack 1 c.there))
given_ready same code w Go c =
    on_top same (OfNumber ∷ []) w.values.stack (first_no (clashes (OfNumber ∷ []) (state_of w).stack) false c.kind)
    (omega (arith, enough w.values.stack 1 c.there))
given_ready same code w Seek c =
    on_top same (OfText ∷ []) w.values.stack (first_no (clashes (OfText ∷ []) (state_of w).stack) false c.kind)
    (omega (arith, enough w.values.stack 1 c.there))

some_order : (n : ℕ) → n == 0 ≡ false → 1 ≤ n
some_order zero e = absurd (eqb-false 0 0 e refl)
some_order (suc n) e = omega arith

seek_ready : (code : Code) (w : World) (i : MoveInstr) → OpenThere code.declared w.env.store w.env.store.selected
    → IsClear code w (Moves i) → SeekNeeds i w.env.store
seek_ready code w Top o c = tt
seek_ready code w Bottom o c = tt
seek_ready code w Skip o c = tt
seek_ready code w Go o c = tt
seek_ready code w Seek o c =
    let ordered : o.table.order == 0 ≡ false = ap (fails_if_open (λ a. a.order == 0)) (sym o.known) ∙ c.order in
    subst (λ x. IfSome x (λ o. 1 ≤ o.order)) (sym o.there) (some_order o.table.order ordered)

moves_of : (i : MoveInstr) → (signature (Moves i)).moves ≡ true
moves_of Top = refl
moves_of Bottom = refl
moves_of Skip = refl
moves_of Go = refl
moves_of Seek = refl

pub move_ready : Same → ResultLaw → (code : Code) (w : World) → Facts code → Known code.declared (state_of w)
    → StoreFits code.declared w.env.store → (i : MoveInstr) → IsClear code w (Moves i) → MoveNeeds code i w.values w.env
move_ready same law code w facts k fits i c =
    let o = selected_there code w k fits c.area in
    let blind = fails_if_open (λ a. not (is_sound code (state_of w).slots a.filter))
    (open_at (desk_of w.env.store) w.env.store.selected) in (
      walks same law code w facts k fits o (then_no (signature (Moves i)).moves blind (moves_of i) c.filter),
      given_ready same code w i c,
      seek_ready code w i o c,
    )
