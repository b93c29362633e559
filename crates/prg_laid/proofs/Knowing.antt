-- What is known before each place, one place after another.
use Rattle.std.proofs.Common.{◌≡◌, ℕ, zero, suc, ◌+◌, List, [], ◌∷◌, ◌++◌, length, Some, sym, ap, ◌∙◌, subst, refl}
use Rattle.std.proofs.Common.{add-one, length-append}
use Rattle.std.specs.Prelude.{slice_get}
use Rattle.code_items.specs.declared.code.Code.{Code}
use Rattle.code_items.specs.declared.state.State.{State}
use Rattle.code_rules.specs.declared.blocks.Block.{Block}
use Rattle.code_rules.specs.Flow.{flow}
use Rattle.code_items.specs.declared.instr.Instr.{Instr}
use Rattle.xvalue.specs.declared.value.Value.{Value}
use Rattle.prg_code.specs.Bindings.{NamedVariables}
use Rattle.prg_parser.specs.Commands.{Cmds}
use Rattle.prg_commands.specs.Commands.{WholeLaid}
use Rattle.prg_laid.specs.Whole.{AreKnown, laying_of}
use Rattle.code_rules.specs.Places.{instr_at, block_at, or_state, map_at, start_of, state_entered, incoming_at}
use Rattle.code_rules.specs.Places.{state_at}

pub first_flow : (code : Code) → start_of code (block_at code 0).number ≡ incoming_at code 0
unfolding incoming_at
first_flow code = refl

pub state_is : (code : Code) (place : ℕ) → or_state (map_at code place) (incoming_at code place) ≡ state_at code place
unfolding state_at
state_is code place = refl

pub flows : (code : Code) (place : ℕ) (s : State) → s ≡ state_at code place
    → state_entered code (block_at code (place + 1)) (place + 1) (flow code (instr_at code place) s)
    ≡ incoming_at code (place + 1)
unfolding incoming_at state_at
flows code place s e =
    rw add-one (ap (λ x. state_entered code (block_at code (suc place)) (suc place) (flow code (instr_at code place) x))
    e)

only : {A : Type 0} (x y : A) → Some x ≡ Some y → y ≡ x
only x y e = cc

nothing_there : {A : Type 0} {P : Type 0} (i : ℕ) (s : A) → slice_get [] i ≡ Some s → P
nothing_there i s e = absurd (let k = e in cc)

-- one more behind a list whose items are what they should be
pub one_more : {A : Type 0} (P : ℕ → A → Type 0) (xs : List A) (x : A) (n : ℕ) → length xs ≡ n
    → ((i : ℕ) (s : A) → slice_get xs i ≡ Some s → P i s) → P n x → (i : ℕ) (s : A)
    → slice_get (xs ++ x ∷ []) i ≡ Some s → P i s
one_more P [] x n e h p zero s g = subst (P zero) (sym (only x s g)) (subst (λ k. P k x) (sym e) p)
one_more P [] x n e h p (suc i) s g = nothing_there i s g
one_more P (y ∷ ys) x n e h p zero s g = h zero s g
one_more P (y ∷ ys) x n e h p (suc i) s g =
    one_more (λ j. P (suc j)) ys x (length ys) refl (λ j. h (suc j)) (subst (λ k. P k x) (sym e) p) i s g

pub one_longer : {A : Type 0} (xs : List A) (x : A) (n : ℕ) → length xs ≡ n → length (xs ++ x ∷ []) ≡ n + 1
one_longer xs x n e = length-append xs (x ∷ []) ∙ ap (λ k. k + 1) e

pub none_known : (code : Code) → AreKnown code []
none_known code place s e = absurd (let k = e in cc)

-- the same code, known and numbered the same
pub whole_as : (code : Code) (names : NamedVariables) (is : List Instr) (vs : List Value) (known known' : List State)
    (filters filters' : List Block) (cs : Cmds) (n m : ℕ) → is ≡ code.instructions → vs ≡ code.declared.constants
    → known ≡ known' → filters ≡ filters' → n ≡ m
    → WholeLaid (record {
      text = record { instrs = is; constants = vs };
      declared = code.declared;
      names = names;
      known = known;
      filters = filters;
    }) 0 cs n → WholeLaid (laying_of code names known' filters') 0 cs m
whole_as code names is vs known known' filters filters' cs n m a b c d e h =
    subst (λ (k : ℕ). WholeLaid (laying_of code names known' filters') 0 cs k) e
    (subst (λ (fs : List Block). WholeLaid (laying_of code names known' fs) 0 cs n) d
    (subst (λ (ss : List State). WholeLaid (laying_of code names ss filters) 0 cs n) c
    (subst (λ (ws : List Value). WholeLaid
    (record {
      text = record { instrs = code.instructions; constants = ws };
      declared = code.declared;
      names = names;
      known = known;
      filters = filters;
    }) 0 cs n) b
    (subst (λ (js : List Instr). WholeLaid
    (record {
      text = record { instrs = js; constants = vs };
      declared = code.declared;
      names = names;
      known = known;
      filters = filters;
    }) 0 cs n) a h))))
