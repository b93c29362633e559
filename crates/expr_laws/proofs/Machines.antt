-- What a machine does on a stack with the instructions of expressions; and pieces run one after the other.
use Rattle.std.proofs.Common.{◌≡◌, ℕ, List, [], ◌∷◌, ◌++◌, length, map, drop, Some, refl, ap, ◌∙◌}
use Rattle.std.specs.Prelude.{slice_get}
use Rattle.std.specs.List.{AllZip}
use Rattle.xvalue.specs.declared.kind.Kind.{Kind}
use Rattle.xvalue.specs.declared.fun.Fun.{Fun}
use Rattle.xvalue.specs.declared.value.Value.{Value}
use Rattle.xvalue.specs.declared.value.Value.TheVariants as value
use Rattle.xvalue.specs.Functions.{applied}
use Rattle.xvalue.specs.Given.{by_kind}
use Rattle.xvalue.specs.Kinds.{kind_of}
use Rattle.xvalue.specs.Signature.{takes_of}
use Rattle.code_items.specs.declared.instr.Question.{Question}
use Rattle.code_items.specs.declared.instr.ValueInstr.TheVariants as value_instr
use Rattle.code_items.specs.declared.instr.RecordInstr.TheVariants as record_instr
use Rattle.code_items.specs.declared.instr.Instr.{Instr}
use Rattle.code_items.specs.declared.instr.Instr.TheVariants.{Values, Records}
use Rattle.prg_values.specs.declared.scope.Reading.{Reading}
use Rattle.prg_values.specs.Readings.{Scoped, read_name, read_qualified}
use Rattle.prg_values.specs.declared.pieces.Piece.{Piece}
use Rattle.prg_values.specs.declared.pieces.Piece.TheVariants.{Constant, Does}
use Rattle.prg_values.specs.Written.{IsPiece, question_kind}
use Rattle.run_values.specs.Tagged.{arguments_on}
use Rattle.expr_laws.specs.Meaning.{Sight}

-- an instruction's effect on a stack, the top first
abbrev pub Run : Type 0
Run = Instr → List Value → List Value

-- values one after the other put on a stack
abbrev pub onto : {A : Type 0} → List A → List A → List A
onto [] st = st
onto (v ∷ vs) st = onto vs (v ∷ st)

-- a reading puts this value on top, and it has the reading's kind; the instruction passes its tests on every stack
pub record Puts (run : Run) (test : Instr → List Value → Type 0) (r : Reading) (v : Value) : Type 0 where
  pub kind : kind_of v ≡ r.kind
  pub put : (st : List Value) → run r.instr st ≡ v ∷ st
  pub passes : (st : List Value) → test r.instr st

-- a machine that sees this where an expression of this scope runs, with these constants; of what it reads more may be
-- asked;
-- and when each instruction passes its tests on a stack
pub record Machine (s : Scoped) (v : Sight) (constants : List Value) (fit : Instr → Type 0) (run : Run)
    (test : Instr → List Value → Type 0) : Type 0 where
  pub constant : (n : ℕ) (c : Value) (st : List Value) → slice_get constants n ≡ Some c
      → run (Values (value_instr.Constant n)) st ≡ c ∷ st
  pub function : (f : Fun) (st : List Value) → run (Values (value_instr.Function f)) st
      ≡ applied f v.settings (by_kind (arguments_on f st)) ∷ drop (length (takes_of f)) st
  pub today : (st : List Value) → run (Values value_instr.Today) st ≡ value.Date v.today ∷ st
  pub named : (n : List ℕ) (r : Reading) → read_name s n ≡ Some r → fit r.instr → Puts run test r (v.named n)
  pub qualified : (a n : List ℕ) (r : Reading) → read_qualified s a n ≡ Some r → fit r.instr
      → Puts run test r (v.qualified a n)
  pub asked : (q : Question) (k : Kind) → question_kind s q ≡ Some k → fit (Records (record_instr.Ask q))
      → Puts run test (record { instr = Records (record_instr.Ask q); kind = k }) (v.asked q)
  pub constant_passes : (n : ℕ) (c : Value) (st : List Value) → slice_get constants n ≡ Some c
      → test (Values (value_instr.Constant n)) st
  pub function_passes : (f : Fun) (vs st : List Value) → map kind_of vs ≡ takes_of f
      → test (Values (value_instr.Function f)) (onto vs st)
  pub today_passes : (st : List Value) → test (Values value_instr.Today) st

-- one instruction after the other
abbrev pub through : Run → List Instr → List Value → List Value
through run [] st = st
through run (i ∷ is) st = through run is (run i st)

-- instructions that are these pieces lead from a stack to another
pub record Goes (constants : List Value) (run : Run) (ps : List Piece) (a b : List Value) : Type 0 where
  pub block : List Instr
  pub are : AllZip (IsPiece constants) ps block
  pub leads : b ≡ through run block a

-- what is asked of the instructions among the pieces
abbrev pub Fit : (Instr → Type 0) → List Piece → Type 0
Fit fit [] = Unit {0}
Fit fit (Constant c ∷ ps) = Fit fit ps
Fit fit (Does i ∷ ps) = fit i × Fit fit ps

pub all_fit : (fit : Instr → Type 0) → ((i : Instr) → fit i) → (ps : List Piece) → Fit fit ps
all_fit fit each [] = tt
all_fit fit each (Constant c ∷ ps) = all_fit fit each ps
all_fit fit each (Does i ∷ ps) = (each i, all_fit fit each ps)

pub fit_parts : (fit : Instr → Type 0) (ps qs : List Piece) → Fit fit (ps ++ qs) → Fit fit ps × Fit fit qs
fit_parts fit [] qs h = (tt, h)
fit_parts fit (Constant c ∷ ps) qs h = fit_parts fit ps qs h
fit_parts fit (Does i ∷ ps) qs h =
    let p = fit_parts fit ps qs h.1 in
    ((h.0, p.0), p.1)

-- pieces behind pieces, in a block
pub record Between (constants : List Value) (run : Run) (ps qs : List Piece) (block : List Instr)
    (a b : List Value) : Type 0 where
  pub middle : List Value
  pub first : Goes constants run ps a middle
  pub last : Goes constants run qs middle b
  pub whole : block ≡ first.block ++ last.block

pub parts_of : (constants : List Value) (run : Run) (ps qs : List Piece) (block : List Instr) (a b : List Value)
    → AllZip (IsPiece constants) (ps ++ qs) block → b ≡ through run block a → Between constants run ps qs block a b
parts_of constants run [] qs block a b are leads =
    record {
      middle = a;
      first = record { block = []; are = tt; leads = refl };
      last = record { block = block; are = are; leads = leads };
      whole = refl;
    }
parts_of constants run (p ∷ ps) qs [] a b are leads = absurd are
parts_of constants run (p ∷ ps) qs (i ∷ is) a b are leads =
    let w = parts_of constants run ps qs is (run i a) b are.1 leads in
    record {
      middle = w.middle;
      first = record {
        block = i ∷ w.first.block;
        are = (are.0, w.first.are);
        leads = w.first.leads;
      };
      last = w.last;
      whole = ap (λ (xs : List Instr). i ∷ xs) w.whole;
    }

pub parted : (constants : List Value) (run : Run) (ps qs : List Piece) (a b : List Value)
    → (g : Goes constants run (ps ++ qs) a b) → Between constants run ps qs g.block a b
parted constants run ps qs a b g = parts_of constants run ps qs g.block a b g.are g.leads

-- no piece changes nothing
pub goes_nowhere : (constants : List Value) (run : Run) (a b : List Value) → Goes constants run [] a b → b ≡ a
goes_nowhere constants run a b g = still g.block g.are g.leads
  where
    still : (block : List Instr) → AllZip (IsPiece constants) [] block → b ≡ through run block a → b ≡ a
    still [] are leads = leads
    still (i ∷ is) are leads = absurd are

-- one instruction
pub goes_by : (constants : List Value) (run : Run) (j : Instr) (a b : List Value) → Goes constants run (Does j ∷ []) a b
    → b ≡ run j a
goes_by constants run j a b g = by g.block g.are g.leads
  where
    by : (block : List Instr) → AllZip (IsPiece constants) (Does j ∷ []) block → b ≡ through run block a → b ≡ run j a
    by [] are leads = absurd are
    by (i ∷ []) are leads = leads ∙ ap (λ (x : Instr). run x a) are.0
    by (i ∷ i2 ∷ is) are leads = absurd are.1

-- one constant
pub goes_constant : (s : Scoped) (v : Sight) (constants : List Value) (fit : Instr → Type 0) (run : Run)
    (test : Instr → List Value → Type 0) → Machine s v constants fit run test → (c : Value) (a b : List Value)
    → Goes constants run (Constant c ∷ []) a b → b ≡ c ∷ a
goes_constant s v constants fit run test m c a b g = by g.block g.are g.leads
  where
    by : (block : List Instr) → AllZip (IsPiece constants) (Constant c ∷ []) block → b ≡ through run block a → b ≡ c ∷ a
    by [] are leads = absurd are
    by (i ∷ []) are leads = leads ∙ ap (λ (x : Instr). run x a) are.0.2 ∙ m.constant are.0.0 c a are.0.1
    by (i ∷ i2 ∷ is) are leads = absurd are.1

pub onto_both : (vs ws st : List Value) → onto ws (onto vs st) ≡ onto (vs ++ ws) st
onto_both [] ws st = refl
onto_both (v ∷ vs) ws st = onto_both vs ws (v ∷ st)
