-- The grammar of expressions on words, by levels from the tightest: 0 an operand, 1 signs, 2 a product, 3 a sum,
-- 4 a comparison, 5 a negation, 6 a conjunction, 7 a disjunction.
use Rattle.std.specs.Prelude.{◌≡◌, ◌≢◌, ◌<◌, ℕ, suc, List, [], ◌∷◌, ◌++◌, take, Bool, true, Option, Some, None}
use Rattle.fixed_num.specs.Number.{Number as Decimal}
use Rattle.prg_expr.specs.declared.tree.BinaryOperator.{BinaryOperator}
use Rattle.prg_expr.specs.declared.tree.BinaryOperator.TheVariants.{Or, And, Equal, NotEqual, Less, Greater, AtMost}
use Rattle.prg_expr.specs.declared.tree.BinaryOperator.TheVariants.{AtLeast}
use Rattle.prg_expr.specs.declared.tree.BinaryOperator.TheVariants.{Contains, Plus, Minus, Times, Over}
use Rattle.prg_expr.specs.declared.tree.Prefix.{Prefix}
use Rattle.prg_expr.specs.declared.tree.Prefix.TheVariants as prefix
use Rattle.prg_expr.specs.declared.function.Function.{Function}
use Rattle.prg_expr.specs.Functions.{function_named, takes_so_many}
use Rattle.prg_expr.specs.Tree.{Tree, Trees, count}
use Rattle.prg_expr.specs.Tree as tree
use Rattle.prg_expr.specs.Word.{Word}
use Rattle.prg_expr.specs.Word as word

-- the level of an operator
abbrev pub looseness : BinaryOperator → ℕ
looseness Times = 2
looseness Over = 2
looseness Plus = 3
looseness Minus = 3
looseness Equal = 4
looseness NotEqual = 4
looseness Less = 4
looseness Greater = 4
looseness AtMost = 4
looseness AtLeast = 4
looseness Contains = 4
looseness And = 6
looseness Or = 7

-- what a word is before its one operand
abbrev pub prefix_of : Word → Option Prefix
prefix_of word.Not = Some prefix.Not
prefix_of (word.Sign Minus) = Some prefix.Negative
prefix_of (word.Sign Plus) = Some prefix.Positive
prefix_of w = None

-- the level of what stands before its one operand
abbrev pub prefix_level : Prefix → ℕ
prefix_level prefix.Negative = 1
prefix_level prefix.Positive = 1
prefix_level prefix.Not = 5

-- `Stands depth level e ws`: the words ws spell e where that level stands, with at most depth parentheses
-- within each other.
mutual
  pub data Stands : ℕ → ℕ → Tree → List Word → Type 0 where
    number : {d : ℕ} {n : Decimal} → Stands d 0 (tree.Number n) (word.Number n ∷ [])
    text : {d : ℕ} {s : List ℕ} → Stands d 0 (tree.Text s) (word.Text s ∷ [])
    logical : {d : ℕ} {b : Bool} → Stands d 0 (tree.Logical b) (word.Logical b ∷ [])
    -- of a name the tree holds ten letters
    name : {d : ℕ} {s : List ℕ} → Stands d 0 (tree.Name (take 10 s)) (word.Name s ∷ [])
    -- an alias and a name
    qualified : {d : ℕ} {a s : List ℕ}
        → Stands d 0 (tree.Qualified (take 10 a) (take 10 s)) (word.Name a ∷ word.Arrow ∷ word.Name s ∷ [])
    parentheses : {d : ℕ} {e : Tree} {ws : List Word} → Stands d 7 e ws
        → Stands (suc d) 0 (tree.Parentheses e) (word.Open ∷ (ws ++ word.Close ∷ []))
    -- what stands at a level stands at the next looser one
    looser : {d l : ℕ} {e : Tree} {ws : List Word} → Stands d l e ws → Stands d (suc l) e ws
    -- operators of one level group from the left; of comparisons there is one
    grouped : {d l : ℕ} {o : BinaryOperator} {a b : Tree} {aw bw : List Word} → looseness o ≡ suc l → suc l ≢ 4
        → Stands d (suc l) a aw → Stands d l b bw → Stands d (suc l) (tree.Binary o a b) (aw ++ word.Sign o ∷ bw)
    compared : {d : ℕ} {o : BinaryOperator} {a b : Tree} {aw bw : List Word} → looseness o ≡ 4
        → Stands d 3 a aw → Stands d 3 b bw → Stands d 4 (tree.Binary o a b) (aw ++ word.Sign o ∷ bw)
    -- a sign or a negation, before an operand that may have one too
    prefixed : {d l : ℕ} {w : Word} {p : Prefix} {e : Tree} {ws : List Word} → prefix_of w ≡ Some p → prefix_level p ≡ l
        → Stands d l e ws → Stands d l (tree.Prefixed p e) (w ∷ ws)
    -- a function and as many arguments as it takes
    called : {d : ℕ} {s : List ℕ} {f : Function} {es : Trees} {ws : List Word} → function_named s ≡ Some f
        → takes_so_many f (count es) ≡ true
        → Arguments d es ws → Stands (suc d) 0 (tree.Call f es) (word.Name s ∷ word.Open ∷ (ws ++ word.Close ∷ []))
    called_bare : {d : ℕ} {s : List ℕ} {f : Function} → function_named s ≡ Some f → takes_so_many f 0 ≡ true
        → Stands (suc d) 0 (tree.Call f tree.None) (word.Name s ∷ word.Open ∷ word.Close ∷ [])

  -- one expression or more, with commas between
  pub data Arguments : ℕ → Trees → List Word → Type 0 where
    last : {d : ℕ} {e : Tree} {ws : List Word} → Stands d 7 e ws → Arguments d (tree.More e tree.None) ws
    more : {d : ℕ} {e : Tree} {es : Trees} {aw bw : List Word} → Stands d 7 e aw → Arguments d es bw
        → Arguments d (tree.More e es) (aw ++ word.Comma ∷ bw)

-- how many parentheses may be open at a place
abbrev pub max_depth : ℕ
max_depth = 32

-- the words spell the tree, all of the words
abbrev pub Spells : Tree → List Word → Type 0
Spells e ws = Stands max_depth 7 e ws

-- what may follow an expression that is read to its end
abbrev pub Free : ℕ → List Word → Type 0
Free l (word.Sign o ∷ ws) = l < looseness o
Free l (word.Open ∷ ws) = ⊥
Free l (word.Arrow ∷ ws) = ⊥
Free l _ = Unit {0}
