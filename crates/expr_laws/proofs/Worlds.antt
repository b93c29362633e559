-- A world that fits is a machine that sees what stands there.
use Rattle.std.proofs.Common.{◌≡◌, ◌==◌, List, [], ◌∷◌, ◌++◌, length, Some, None, refl, sym, ap, ◌∙◌, subst}
use Rattle.std.specs.List.{AllZip}
use Rattle.std.proofs.lemmas.List.{length-map}
use Rattle.std.proofs.lemmas.Bool.{and_parts, eqb-true}
use Rattle.xvalue.specs.declared.kind.Kind.{Kind}
use Rattle.xvalue.specs.declared.value.Value.{Value}
use Rattle.xvalue.specs.declared.value.Value.TheVariants as value
use Rattle.xvalue.specs.Kinds.{kind_of}
use Rattle.code_items.specs.declared.code.Code.{Code}
use Rattle.code_items.specs.declared.instr.Instr.{Instr}
use Rattle.code_items.specs.Desks.{areas_covered}
use Rattle.work_area.specs.Areas.{AreApart}
use Rattle.prg_expr.specs.Tree.{Tree}
use Rattle.prg_values.specs.Readings.{Scoped}
use Rattle.prg_code.specs.Numbers.{Grows}
use Rattle.prg_values.specs.declared.pieces.Piece.{Piece}
use Rattle.prg_values.specs.declared.pieces.Piece.TheVariants.{Constant, Does}
use Rattle.prg_values.specs.Written.{IsPiece, IsWrittenExpr, pieces_in}
use Rattle.prg_values.proofs.Emitting.{still_there}
use Rattle.run_steps.specs.World.{World, kind_held, desk_of, state_of}
use Rattle.run_steps.specs.Effects.{with_pushed}
use Rattle.run_steps.specs.Faults.{fault_of, IsClear}
use Rattle.run_steps.specs.Run.{after, spent}
use Rattle.run_steps.specs.Safe.{IsSafe}
use Rattle.run_steps.specs.Shapes.{HasShape}
use Rattle.run_steps.proofs.Results.{ResultLaw}
use Rattle.run_laws.proofs.Known.{known_of}
use Rattle.fit_laws.specs.Fits.{IsFitting}
use Rattle.expr_laws.specs.Meaning.{value_in}
use Rattle.expr_laws.specs.Seeing.{sight, StandsAt, HasWay, IsThere, with_value}
use Rattle.expr_laws.proofs.Machines.{Run, Machine, Goes, all_fit}
use Rattle.expr_laws.proofs.Names.{Sees, name_puts, alias_puts, question_puts}
use Rattle.expr_laws.proofs.Told.{kind_told}
use Rattle.expr_laws.proofs.Readers.{expression_reads}
use Rattle.expr_laws.proofs.Passes.{world_run, Passes, constant_passes, function_passes, today_passes}
use Rattle.expr_laws.proofs.Passing.{tree_passes}
use Rattle.expr_laws.proofs.Steps.{Going, moved, ran_through, safely, clearly}
use Rattle.expr_laws.proofs.Trees.{leads}

sees : (code : Code) (s : Scoped) (w : World) → HasShape code w → AreApart w.env.store.areas → StandsAt code s w
    → Sees code s w.values.slots w.env.store
sees code s w shape apart stands =
    let known = known_of code.declared (state_of w) shape.state in
    let d = and_parts (s.state.desk.selected == w.env.store.selected)
    (areas_covered s.state.desk.areas (desk_of w.env.store).areas) stands.desk in
    record {
      shape = stands.shape;
      outside = stands.outside;
      slots = stands.slots;
      count = sym (length-map w.values.slots kind_held) ∙ known.slots;
      desks = record { selected = eqb-true s.state.desk.selected w.env.store.selected d.0; areas = d.1 };
      all = known.areas;
      fits = shape.store;
      apart = apart;
      one = known.one;
    }

-- nothing more is asked of what is read
abbrev pub any : Instr → Type 0
any i = Unit {0}

pub world_machine : (code : Code) (s : Scoped) (w : World) → Sees code s w.values.slots w.env.store
    → Machine s (sight code.declared.shape s.names w) code.declared.constants any (world_run code w.values.slots w.env)
    (Passes code w.values.slots w.env)
world_machine code s w h = record {
  constant = λ n c st e. ap (λ x. (with_pushed x (record { slots = w.values.slots; stack = st })).stack) e;
  function = λ f st. refl;
  today = λ st. refl;
  named = λ n r e fit. name_puts code s w.values.slots w.env h n r e;
  qualified = λ a n r e fit. alias_puts code s w.values.slots w.env h a n r e;
  asked = λ q k e fit. question_puts code s w.values.slots w.env h q k e;
  constant_passes = λ n c st e. constant_passes code w.values.slots w.env n c st e
      (ap (λ x. (with_pushed x (record { slots = w.values.slots; stack = st })).stack) e);
  function_passes = function_passes code w.values.slots w.env;
  today_passes = λ st. today_passes code w.values.slots w.env (value.Date w.env.today) st refl;
}

-- the value is on top after a step an instruction
pub record LeftOnTop (code : Code) (s : Scoped) (w : World) (e : Tree) (kind : Kind) (block : List Instr) : Type 0 where
  pub world : after code w (length block)
      ≡ Some (with_value (length block) (value_in (sight code.declared.shape s.names w) e) w)
  pub cost : spent code w (length block) ≡ length block
  pub told : kind_of (value_in (sight code.declared.shape s.names w) e) ≡ kind

left_on_top : (code : Code) → ResultLaw → (s : Scoped) (w : World) (e : Tree) (kind : Kind) (block : List Instr)
    → Going code w block → Sees code s w.values.slots w.env.store → IsWrittenExpr s e kind code.declared.constants block
    → IsThere code w.place block → LeftOnTop code s w e kind block
left_on_top code law s w e kind block going seen written there =
    let m = world_machine code s w seen in
    let v = sight code.declared.shape s.names w in
    let run : Run = world_run code w.values.slots w.env in
    let ran = ran_through code w block going there
    (expression_reads s e code.declared.constants block written.pieces) in
    let goes : Goes code.declared.constants run (pieces_in s e) w.values.stack _ =
    record { block = block; are = written.pieces; leads = refl } in
    let fit = all_fit any (λ i. tt) (pieces_in s e) in
    let top = leads s v code.declared.constants any run
    (Passes code w.values.slots w.env) m law e kind w.values.stack _ written.kind_is fit goes in
    record {
      world = ran.at ∙ ap (λ (st : List Value). Some (moved (length block) st w)) top;
      cost = ran.cost;
      told = kind_told s v code.declared.constants any run
          (Passes code w.values.slots w.env) m law e kind written.kind_is fit;
    }

-- where nothing to which the run comes has a fault
pub left_safely : (code : Code) → ResultLaw → (s : Scoped) (w : World) (e : Tree) (kind : Kind) (block : List Instr)
    → IsSafe code w → IsFitting code w → StandsAt code s w → IsWrittenExpr s e kind code.declared.constants block
    → IsThere code w.place block → LeftOnTop code s w e kind block
left_safely code law s w e kind block safe fits stands written there =
    left_on_top code law s w e kind block (safely code w block there safe)
    (sees code s w fits.shape fits.apart stands) written there

-- ---- in any code

-- pieces stay what they are where constants come behind the others
pieces_kept : (earlier more : List Value) (ps : List Piece) (block : List Instr) → AllZip (IsPiece earlier) ps block
    → AllZip (IsPiece (earlier ++ more)) ps block
pieces_kept earlier more [] [] h = tt
pieces_kept earlier more [] (i ∷ block) h = absurd h
pieces_kept earlier more (p ∷ ps) [] h = absurd h
pieces_kept earlier more (Constant c ∷ ps) (i ∷ block) h =
    ((h.0.0, still_there earlier more h.0.0 c h.0.1, h.0.2), pieces_kept earlier more ps block h.1)
pieces_kept earlier more (Does j ∷ ps) (i ∷ block) h = (h.0, pieces_kept earlier more ps block h.1)

written_still : (s : Scoped) (e : Tree) (kind : Kind) (earlier later : List Value) (block : List Instr)
    → Grows earlier later → IsWrittenExpr s e kind earlier block → IsWrittenExpr s e kind later block
written_still s e kind earlier later block grown written = record {
  kind_is = written.kind_is;
  pieces = subst (λ (cs : List Value). AllZip (IsPiece cs) (pieces_in s e) block) (sym grown.1)
      (pieces_kept earlier grown.0 (pieces_in s e) block written.pieces);
}

pub left_anywhere : (code : Code) → ResultLaw → ((v : World) (i : Instr) → IsClear code v i → fault_of code v i ≡ None)
    → (s : Scoped) (w : World) (e : Tree) (kind : Kind) (constants : List Value) (block : List Instr)
    → HasWay code w block → StandsAt code s w → IsWrittenExpr s e kind constants block
    → Grows constants code.declared.constants → IsThere code w.place block → LeftOnTop code s w e kind block
left_anywhere code law faultless s w e kind constants block way stands written grown there =
    let still = written_still s e kind constants code.declared.constants block grown written in
    let seen = sees code s w way.shape way.apart stands in
    let test = Passes code w.values.slots w.env in
    let run : Run = world_run code w.values.slots w.env in
    let all = tree_passes s (sight code.declared.shape s.names w) code.declared.constants any (λ i. tt) run test
    (world_machine code s w seen) law e kind w.values.stack still.kind_is block still.pieces in
    left_on_top code law s w e kind block (clearly code w block faultless way all) seen still there
