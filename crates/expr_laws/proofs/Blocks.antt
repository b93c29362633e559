-- A filter's block that is sound never fills its stack, and loads only slots that hold what is loaded.
use Rattle.std.proofs.Common.{◌≡◌, ◌<◌, ◌≤◌, ℕ, suc, ◌+◌, ◌-◌, true, false, not, List, [], ◌∷◌, ◌++◌}
use Rattle.std.proofs.Common.{length, map, drop, Option, Some, None, refl, sym, ap, ◌∙◌, subst, arith}
use Rattle.std.specs.Prelude.{slice_get, nat_lt, nat_le}
use Rattle.std.specs.List.{AllZip}
use Rattle.std.proofs.lemmas.Bool.{and_parts, not-true, ltb-false, leb-false}
use Rattle.std.proofs.lemmas.List.{length-drop}
use Rattle.xvalue.specs.declared.kind.Kind.{Kind}
use Rattle.xvalue.specs.declared.value.Value.{Value}
use Rattle.xvalue.specs.declared.value.Value.TheVariants as value
use Rattle.xvalue.specs.Functions.{applied}
use Rattle.xvalue.specs.Given.{by_kind}
use Rattle.xvalue.specs.Signature.{takes_of}
use Rattle.dbf_file.specs.Values.{kind_for}
use Rattle.open_table.specs.Tried.{TriedRow}
use Rattle.code_items.specs.declared.code.Code.{Code}
use Rattle.code_items.specs.declared.instr.Instr.{Instr}
use Rattle.code_items.specs.declared.instr.Instr.TheVariants.{Values, Flow, Screen, Areas, Moves, Records}
use Rattle.code_items.specs.declared.instr.ValueInstr.{ValueInstr}
use Rattle.code_items.specs.declared.instr.ValueInstr.TheVariants as value_instr
use Rattle.code_items.specs.declared.instr.RecordInstr.{RecordInstr}
use Rattle.code_items.specs.declared.instr.RecordInstr.TheVariants as record_instr
use Rattle.code_items.specs.declared.state.State.{State}
use Rattle.code_rules.specs.Wants.{gives, known, kind_of_field, fields_at}
use Rattle.code_rules.specs.Flow.{left_by, just_opened}
use Rattle.code_rules.specs.Places.{filter_desk}
use Rattle.code_rules.specs.Rules.{has_other, is_free, undeclared}
use Rattle.run_values.specs.Tagged.{arguments_on, HoldsKind}
use Rattle.run_steps.specs.World.{kind_held}
use Rattle.run_steps.specs.Filters.{Viewer, with_constant, with_held, row_field, asked_of, row_run, block_run}
use Rattle.run_steps.specs.Filters.{block_fails, block_sound, block_start}
use Rattle.run_values.proofs.BlockTops.{put_there}
use Rattle.run_laws.proofs.FilterBlocks.{IsSoundThere, sound_there}
use Rattle.run_laws.proofs.Tests.{Same, slot_holds, is_there}
use Rattle.prg_values.specs.declared.pieces.Piece.{Piece}
use Rattle.prg_values.specs.declared.pieces.Piece.TheVariants.{Constant, Does}
use Rattle.prg_values.specs.Written.{IsPiece}
use Rattle.expr_laws.proofs.Machines.{Run, through, Fit}

-- ---- the block's instructions on a stack without a bound

abbrev pub put_some : Option Value → List Value → List Value
put_some None st = st
put_some (Some c) st = c ∷ st

abbrev pub put_held : Option (Option Value) → List Value → List Value
put_held None st = st
put_held (Some x) st = put_some x st

abbrev pub value_puts : Code → Viewer → ValueInstr → List Value → List Value
value_puts code v (value_instr.Constant n) st = put_some (slice_get code.declared.constants n) st
value_puts code v (value_instr.Load k s) st = put_held (slice_get v.slots s) st
value_puts code v (value_instr.Function f) st =
    applied f v.settings (by_kind (arguments_on f st)) ∷ drop (length (takes_of f)) st
value_puts code v value_instr.Today st = value.Date v.today ∷ st
value_puts code v _ st = st

abbrev pub record_puts : RecordInstr → TriedRow → List Value → List Value
record_puts (record_instr.RowField f) r st = row_field f r ∷ st
record_puts (record_instr.Ask q) r st = asked_of q r ∷ st
record_puts _ r st = st

abbrev pub row_puts : Code → Viewer → TriedRow → Run
row_puts code v r (Values i) st = value_puts code v i st
row_puts code v r (Records i) st = record_puts i r st
row_puts code v r _ st = st

-- a slot that is loaded holds a value of the kind
abbrev pub value_fits : List (Option Value) → ValueInstr → Type 0
value_fits slots (value_instr.Load k s) = HoldsKind k (slice_get slots s)
value_fits slots _ = Unit {0}

abbrev pub slot_fits : List (Option Value) → Instr → Type 0
slot_fits slots (Values i) = value_fits slots i
slot_fits slots _ = Unit {0}

-- ---- one instruction

-- where the block is: these slots, this desk, and a stack of this height
record Stands (v : Viewer) (table : ℕ) (s : State) (st : List Value) : Type 0 where
  slots : s.slots ≡ map kind_held v.slots
  desk : s.desk ≡ filter_desk table
  height : length s.stack ≡ length st

-- the step does what it would without a bound, and what stands afterwards
record Stepped (code : Code) (v : Viewer) (r : TriedRow) (table : ℕ) (s : State) (i : Instr)
    (st : List Value) : Type 0 where
  same : row_run code v r i st ≡ row_puts code v r i st
  fits : slot_fits v.slots i
  after : Stands v table (left_by code i s) (row_puts code v r i st)

pushed_stands : (v : Viewer) (table : ℕ) (s : State) (st : List Value) (k : Kind) (c : Value) → Stands v table s st
    → Stands v table (record { desk = s.desk; slots = s.slots; stack = k ∷ s.stack }) (c ∷ st)
pushed_stands v table s st k c h = record { slots = h.slots; desk = h.desk; height = ap suc h.height }

-- there is room for one more
has_room : (code : Code) (s : State) (v : Viewer) (table taken : ℕ) (st : List Value) → code.declared.stack_bound ≤ 64
    → Stands v table s st → nat_lt code.declared.stack_bound (length s.stack - taken + 1) ≡ false
    → length (drop taken st) < 64
has_room code s v table taken st few h e =
    omega (
      arith,
      few,
      ltb-false code.declared.stack_bound (length s.stack - taken + 1) e,
      h.height,
      length-drop taken st,
    )

field_is_there : {A : Type 0} (xs : List A) (n : ℕ) → nat_le (length xs) n ≡ false → (x : A) × (slice_get xs n ≡ Some x)
field_is_there xs n e = is_there xs n (omega (arith, leb-false (length xs) n e))

constant_steps : (code : Code) (v : Viewer) (r : TriedRow) (table : ℕ) (s : State) (st : List Value) (x : Option Value)
    → length st < 64 → Stands v table s st
    → (with_constant x st ≡ put_some x st) × Stands v table
    (record { desk = s.desk; slots = s.slots; stack = known (Some (kind_held x)) ++ s.stack }) (put_some x st)
constant_steps code v r table s st None lt h = (refl, h)
constant_steps code v r table s st (Some c) lt h = (put_there c st lt, pushed_stands v table s st _ c h)

load_steps : (v : Viewer) (table : ℕ) (s : State) (st : List Value) (k : Kind) (x : Option (Option Value))
    → HoldsKind k x → length st < 64 → Stands v table s st
    → (with_held x st ≡ put_held x st) × Stands v table (record { desk = s.desk; slots = s.slots; stack = k ∷ s.stack })
    (put_held x st)
load_steps v table s st k None held lt h = absurd held
load_steps v table s st k (Some None) held lt h = absurd held
load_steps v table s st k (Some (Some c)) held lt h = (put_there c st lt, pushed_stands v table s st k c h)

value_steps : (code : Code) → Same → code.declared.stack_bound ≤ 64 → (v : Viewer) (r : TriedRow) (table : ℕ)
    (s : State) (i : ValueInstr) (st : List Value) → length v.slots ≡ code.declared.slots → Stands v table s st
    → IsSoundThere code s (Values i) → Stepped code v r table s (Values i) st
value_steps code same few v r table s (value_instr.Constant n) st l h e =
    let c = constant_steps code v r table s st (slice_get code.declared.constants n)
    (has_room code s v table 0 st few h e.within) h in
    record { same = c.0; fits = tt; after = c.1 }
value_steps code same few v r table s (value_instr.Load k n) st l h e =
    let slots = h.slots in
    let holds = slot_holds same k v.slots n (omega (arith, l, leb-false code.declared.slots n e.declared))
    (subst (λ x. has_other k (slice_get x n) ≡ false) slots e.other)
    (subst (λ x. is_free (slice_get x n) ≡ false) slots e.set) in
    let c = load_steps v table s st k (slice_get v.slots n) holds (has_room code s v table 0 st few h e.within) h in
    record { same = c.0; fits = holds; after = c.1 }
value_steps code same few v r table s (value_instr.Function f) st l h e =
    let n = length (takes_of f) in
    let c = applied f v.settings (by_kind (arguments_on f st)) in record {
      same = put_there c (drop n st) (has_room code s v table n st few h e.within);
      fits = tt;
      after = record {
        slots = h.slots;
        desk = h.desk;
        height = ap suc (length-drop n s.stack ∙ ap (λ (m : ℕ). m - n) h.height ∙ sym (length-drop n st));
      };
    }
value_steps code same few v r table s value_instr.Today st l h e =
    record {
      same = put_there (value.Date v.today) st (has_room code s v table 0 st few h e.within);
      fits = tt;
      after = pushed_stands v table s st _ (value.Date v.today) h;
    }
value_steps code same few v r table s (value_instr.Store k n) st l h e = absurd (let x = e.may in cc)
value_steps code same few v r table s (value_instr.Unset n) st l h e = absurd (let x = e.may in cc)
value_steps code same few v r table s (value_instr.Discard k) st l h e = absurd (let x = e.may in cc)
value_steps code same few v r table s (value_instr.Set x on) st l h e = absurd (let y = e.may in cc)

record_steps : (code : Code) → code.declared.stack_bound ≤ 64 → (v : Viewer) (r : TriedRow) (table : ℕ) (s : State)
    (i : RecordInstr) (st : List Value) → Stands v table s st → IsSoundThere code s (Records i)
    → Stepped code v r table s (Records i) st
record_steps code few v r table s (record_instr.RowField f) st h e =
    let there = field_is_there (fields_at code.declared (Some (just_opened table 0))) f
    (subst (λ d. undeclared code d (Records (record_instr.RowField f)) ≡ false) h.desk e.declared) in
    let kind : gives code.declared s.desk (Records (record_instr.RowField f)) ≡ Some (Some (kind_for there.0.letter)) =
    ap (λ d. gives code.declared d (Records (record_instr.RowField f))) h.desk
    ∙ ap (λ x. Some (kind_of_field x)) there.1 in
    record {
      same = put_there (row_field f r) st (has_room code s v table 0 st few h e.within);
      fits = tt;
      after = record {
        slots = h.slots;
        desk = h.desk;
        height = ap (λ x. length (known x ++ s.stack)) kind ∙ ap suc h.height;
      };
    }
record_steps code few v r table s (record_instr.Ask q) st h e =
    record {
      same = put_there (asked_of q r) st (has_room code s v table 0 st few h e.within);
      fits = tt;
      after = pushed_stands v table s st _ (asked_of q r) h;
    }
record_steps code few v r table s (record_instr.Field a f) st h e = absurd (let x = e.may in cc)
record_steps code few v r table s record_instr.Append st h e = absurd (let x = e.may in cc)
record_steps code few v r table s (record_instr.Replace f) st h e = absurd (let x = e.may in cc)
record_steps code few v r table s record_instr.Delete st h e = absurd (let x = e.may in cc)
record_steps code few v r table s record_instr.Recall st h e = absurd (let x = e.may in cc)
record_steps code few v r table s record_instr.Pack st h e = absurd (let x = e.may in cc)
record_steps code few v r table s record_instr.Zap st h e = absurd (let x = e.may in cc)
record_steps code few v r table s record_instr.Reindex st h e = absurd (let x = e.may in cc)
record_steps code few v r table s (record_instr.Index n) st h e = absurd (let x = e.may in cc)

instr_steps : (code : Code) → Same → code.declared.stack_bound ≤ 64 → (v : Viewer) (r : TriedRow) (table : ℕ)
    (s : State) (i : Instr) (st : List Value) → length v.slots ≡ code.declared.slots → Stands v table s st
    → IsSoundThere code s i → Stepped code v r table s i st
instr_steps code same few v r table s (Values i) st l h e = value_steps code same few v r table s i st l h e
instr_steps code same few v r table s (Records i) st l h e = record_steps code few v r table s i st h e
instr_steps code same few v r table s (Flow i) st l h e = absurd (let x = e.may in cc)
instr_steps code same few v r table s (Screen i) st l h e = absurd (let x = e.may in cc)
instr_steps code same few v r table s (Areas i) st l h e = absurd (let x = e.may in cc)
instr_steps code same few v r table s (Moves i) st l h e = absurd (let x = e.may in cc)

-- ---- the block

abbrev pub AllFit : (Instr → Type 0) → List Instr → Type 0
AllFit fit [] = Unit {0}
AllFit fit (i ∷ is) = fit i × AllFit fit is

-- the block does what it would without a bound
pub record Walked (code : Code) (v : Viewer) (r : TriedRow) (block : List Instr) (st : List Value) : Type 0 where
  pub same : block_run code v r block st ≡ through (row_puts code v r) block st
  pub fits : AllFit (slot_fits v.slots) block

walked_from : (code : Code) → Same → code.declared.stack_bound ≤ 64 → (v : Viewer) (r : TriedRow) (table : ℕ)
    → length v.slots ≡ code.declared.slots → (s : State) (block : List Instr) (st : List Value) → Stands v table s st
    → block_sound code s block ≡ true → Walked code v r block st
walked_from code same few v r table l s [] st h e = record { same = refl; fits = tt }
walked_from code same few v r table l s (i ∷ block) st h e =
    let p = and_parts (not (block_fails code s i)) (block_sound code (left_by code i s) block) e in
    let w = instr_steps code same few v r table s i st l h
    (sound_there code s i (not-true (block_fails code s i) p.0)) in
    let rest = walked_from code same few v r table l (left_by code i s) block (row_puts code v r i st) w.after p.1 in
    record { same = ap (block_run code v r block) w.same ∙ rest.same; fits = (w.fits, rest.fits) }

pub walked : (code : Code) → Same → code.declared.stack_bound ≤ 64 → (v : Viewer) (r : TriedRow) (table : ℕ)
    → length v.slots ≡ code.declared.slots → (block : List Instr)
    → block_sound code (block_start table (map kind_held v.slots)) block ≡ true → Walked code v r block []
walked code same few v r table l block e =
    walked_from code same few v r table l (block_start table (map kind_held v.slots)) block []
    (record { slots = refl; desk = refl; height = refl }) e

-- what fits the block fits its pieces
pub pieces_fit : (fit : Instr → Type 0) (constants : List Value) (ps : List Piece) (block : List Instr)
    → AllZip (IsPiece constants) ps block → AllFit fit block → Fit fit ps
pieces_fit fit constants [] block are fits = tt
pieces_fit fit constants (p ∷ ps) [] are fits = absurd are
pieces_fit fit constants (Constant c ∷ ps) (i ∷ block) are fits = pieces_fit fit constants ps block are.1 fits.1
pieces_fit fit constants (Does j ∷ ps) (i ∷ block) are fits =
    (subst fit are.0 fits.0, pieces_fit fit constants ps block are.1 fits.1)
