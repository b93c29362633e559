-- A chain of operators of one level, as a loop reads it.
use Rattle.std.proofs.Common.{◌≡◌, ℕ, zero, suc, ◌<◌, List, [], ◌∷◌, length, Some, None, Ok, refl, ap, ◌∙◌, arith}
use Rattle.prg_expr.specs.declared.tree.BinaryOperator.{BinaryOperator}
use Rattle.prg_expr.specs.declared.fault.FormFault.{FormFault}
use Rattle.prg_expr.specs.declared.fault.FormFault.TheVariants as form_fault
use Rattle.prg_expr.specs.Tree.{Tree, Binary}
use Rattle.prg_expr.specs.Word.{Word, words}
use Rattle.prg_expr.specs.declared.token.Token.{Token}
use Rattle.prg_expr.specs.Reading.{TreeReader, WordsFail, operator_at, turns, chain}

-- what was read so far goes on as the whole chain does
pub record SoFar (next : TreeReader) (level : ℕ) (tokens : List Word) (left : Tree) (rest : List Word) : Type 0 where
  pub bound : ℕ
  pub enough : length rest < bound
  pub reads : chain next level tokens ≡ turns bound next level left rest

module _ (next : TreeReader) (level : ℕ) (tokens : List Word) where
  pub starts : (left : Tree) (rest : List Word) → next tokens ≡ Ok (left, rest) → SoFar next level tokens left rest
  unfolding chain
  starts left rest h = record { bound = suc (length rest); enough = omega arith; reads = rw h refl }

  pub chain_fails : (e : FormFault) → WordsFail e (next tokens) → WordsFail e (chain next level tokens)
  unfolding chain
  chain_fails form_fault.Memory h = tt
  chain_fails (form_fault.Kind f) h = rw h refl

  ends_at : (bound : ℕ) (left : Tree) (rest : List Word) → length rest < bound → operator_at level rest ≡ None
      → turns bound next level left rest ≡ Ok (left, rest)
  unfolding turns
  ends_at zero left rest lt none = absurd (omega arith)
  ends_at (suc n) left rest lt none = rw none refl

  pub ends : (left : Tree) (rest : List Word) → SoFar next level tokens left rest → operator_at level rest ≡ None
      → chain next level tokens ≡ Ok (left, rest)
  ends left rest so none = so.reads ∙ ends_at so.bound left rest so.enough none

  steps_at : (bound : ℕ) (left right : Tree) (rest after others : List Word) (o : BinaryOperator) → length rest < bound
      → operator_at level rest ≡ Some (o, after) → next after ≡ Ok (right, others)
      → (n : ℕ) × (bound ≡ suc n) × (turns bound next level left rest ≡ turns n next level (Binary o left right) others)
  unfolding turns
  steps_at zero left right rest after others o lt some h = absurd (omega arith)
  steps_at (suc n) left right rest after others o lt some h = (n, refl, rw (some, h) refl)

  pub steps : (left right : Tree) (rest after others : List Word) (o : BinaryOperator)
      → SoFar next level tokens left rest → operator_at level rest ≡ Some (o, after) → next after ≡ Ok (right, others)
      → length others < length rest → SoFar next level tokens (Binary o left right) others
  steps left right rest after others o so some h lt =
      let s = steps_at so.bound left right rest after others o so.enough some h in
      record { bound = s.0; enough = omega (arith, s.1, so.enough); reads = so.reads ∙ s.2 }

  fails_at : (e : FormFault) (bound : ℕ) (left : Tree) (rest after : List Word) (o : BinaryOperator)
      → length rest < bound → operator_at level rest ≡ Some (o, after) → WordsFail e (next after)
      → WordsFail e (turns bound next level left rest)
  unfolding turns
  fails_at e zero left rest after o lt some h = absurd (omega arith)
  fails_at form_fault.Memory (suc n) left rest after o lt some h = tt
  fails_at (form_fault.Kind f) (suc n) left rest after o lt some h = rw (some, h) refl

  pub fails : (e : FormFault) (left : Tree) (rest after : List Word) (o : BinaryOperator)
      → SoFar next level tokens left rest → operator_at level rest ≡ Some (o, after) → WordsFail e (next after)
      → WordsFail e (chain next level tokens)
  fails e left rest after o so some h = rw so.reads (fails_at e so.bound left rest after o so.enough some h)

pub words_length : (ts : List Token) → length (words ts) ≡ length ts
words_length [] = refl
words_length (t ∷ ts) = ap suc (words_length ts)
