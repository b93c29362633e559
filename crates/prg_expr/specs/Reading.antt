-- Reading words from left to right.
use Rattle.std.specs.Prelude.{◌≡◌, ℕ, zero, suc, List, [], ◌∷◌, length, take, Option, Some, None, Bool, true, false}
use Rattle.std.specs.Prelude.{Result, Ok, Err, ◌==◌, if◌then◌else◌}
use Rattle.prg_expr.specs.declared.fault.ParseFaultKind.{ParseFaultKind}
use Rattle.prg_expr.specs.declared.fault.ParseFaultKind.TheVariants as fault
use Rattle.prg_expr.specs.declared.fault.FormFault.{FormFault}
use Rattle.prg_expr.specs.declared.fault.FormFault.TheVariants as form_fault
use Rattle.prg_expr.specs.declared.function.Function.{Function}
use Rattle.prg_expr.specs.declared.tree.BinaryOperator.{BinaryOperator}
use Rattle.prg_expr.specs.declared.tree.Prefix.{Prefix}
use Rattle.prg_expr.specs.Functions.{function_named, takes_so_many}
use Rattle.prg_expr.specs.Tree.{Tree, Trees, count}
use Rattle.prg_expr.specs.Tree as tree
use Rattle.prg_expr.specs.Word.{Word}
use Rattle.prg_expr.specs.Word as word
use Rattle.prg_expr.specs.Grammar.{looseness, prefix_of, prefix_level, max_depth}

infixl 10 ◌>>=◌
abbrev pub ◌>>=◌ : {A B : Type 0} → Result A ParseFaultKind → (A → Result B ParseFaultKind) → Result B ParseFaultKind
(Ok x) >>= f = f x
(Err e) >>= f = Err e

abbrev pub WordsFail : {Y : Type 0} → FormFault → Result Y ParseFaultKind → Type 0
WordsFail form_fault.Memory read = Unit {0}
WordsFail (form_fault.Kind f) read = read ≡ Err f

-- what a function returned, seen by view, is what reading gives, unless memory ran out
abbrev pub WordsGive : {X Y : Type 0} → (X → Y) → Result X FormFault → Result Y ParseFaultKind → Type 0
WordsGive view (Ok x) read = read ≡ Ok (view x)
WordsGive view (Err e) read = WordsFail e read

-- a tree and the words after it
abbrev pub TreeRead : Type 0
TreeRead = Result (Tree × List Word) ParseFaultKind

abbrev pub TreeReader : Type 0
TreeReader = List Word → TreeRead

-- the fault of words that don't go on as they have to: they aren't looked at from a macro on
unfoldable pub wrong_word : List Word → ParseFaultKind
wrong_word (word.Outside word.Macro ∷ ws) = fault.Macro
wrong_word _ = fault.Expression

unfoldable pub operator_at : ℕ → List Word → Option (BinaryOperator × List Word)
operator_at l (word.Sign o ∷ ws) = if looseness o == l then Some (o, ws) else None
operator_at l _ = None

-- what is made of something that is there
abbrev pub if_some : {A B : Type 0} → Option A → B → (A → B) → B
if_some None b f = b
if_some (Some a) b f = f a

-- further operators of the level, each with its right operand; the number bounds how many
unfoldable pub turns : ℕ → TreeReader → ℕ → Tree → TreeReader
turns zero next l left ws = Err fault.Expression
turns (suc n) next l left ws =
    if_some (operator_at l ws) (Ok (left, ws)) (λ o. next o.1 >>= λ x. turns n next l (tree.Binary o.0 left x.0) x.1)

unfoldable pub chain : TreeReader → ℕ → TreeReader
chain next l ws = next ws >>= λ x. turns (suc (length x.1)) next l x.0 x.1

unfoldable pub comparison_read : TreeReader → TreeReader
comparison_read next ws =
    next ws >>= λ x. if_some (operator_at 4 x.1) (Ok x) (λ o. next o.1 >>= λ y. Ok (tree.Binary o.0 x.0 y.0, y.1))

-- what the word is before an operand of the level
unfoldable pub prefix_at : ℕ → Word → Option Prefix
prefix_at l w = if_some (prefix_of w) None (λ p. if prefix_level p == l then Some p else None)

unfoldable pub prefixes : TreeReader → ℕ → TreeReader
prefixes next l [] = next []
prefixes next l (w ∷ ws) =
    if_some (prefix_at l w) (next (w ∷ ws)) (λ p. prefixes next l ws >>= λ x. Ok (tree.Prefixed p x.0, x.1))

-- behind an expression in parentheses
unfoldable pub parenthesis_closed : Tree → TreeReader
parenthesis_closed e (word.Close ∷ ws) = Ok (tree.Parentheses e, ws)
parenthesis_closed e ws = Err (wrong_word ws)

-- arguments and the words after the parenthesis that ends them
abbrev pub Listing : Type 0
Listing = Result (Trees × List Word) ParseFaultKind

-- whether a comma follows, or else the parenthesis
unfoldable pub separator : List Word → Result (Bool × List Word) ParseFaultKind
separator (word.Comma ∷ ws) = Ok (true, ws)
separator (word.Close ∷ ws) = Ok (false, ws)
separator ws = Err (wrong_word ws)

abbrev pub after_argument : (List Word → Listing) → Tree → Bool × List Word → Listing
after_argument again e s = if s.0 then (again s.1 >>= λ y. Ok (tree.More e y.0, y.1))
    else Ok (tree.More e tree.None, s.1)

unfoldable pub arguments : ℕ → TreeReader → List Word → Listing
arguments zero inside ws = Err fault.Expression
arguments (suc n) inside ws = inside ws >>= λ x. separator x.1 >>= λ s. after_argument (arguments n inside) x.0 s

-- a call whose arguments are read
unfoldable pub call_read : Function → Trees → TreeReader
call_read f es ws = if takes_so_many f (count es) then Ok (tree.Call f es, ws) else Err fault.Expression

-- behind a function's parenthesis, where so many may still be opened at it
unfoldable pub called_at : ℕ → TreeReader → Function → TreeReader
called_at zero inside f ws = Err fault.TooDeep
called_at (suc d) inside f (word.Close ∷ ws) = call_read f tree.None ws
called_at (suc d) inside f ws = arguments (suc (length ws)) inside ws >>= λ x. call_read f x.0 x.1

-- behind an arrow; of a name the tree holds ten letters
unfoldable pub qualified_at : List ℕ → TreeReader
qualified_at a (word.Name s ∷ ws) = Ok (tree.Qualified (take 10 a) (take 10 s), ws)
qualified_at a ws = Err (wrong_word ws)

-- behind a name
unfoldable pub named : ℕ → TreeReader → List ℕ → TreeReader
named d inside s (word.Open ∷ ws) = if_some (function_named s) (Err fault.Expression) (λ f. called_at d inside f ws)
named d inside s (word.Arrow ∷ ws) = qualified_at s ws
named d inside s ws = Ok (tree.Name (take 10 s), ws)

unfoldable pub operand : ℕ → TreeReader → TreeReader
operand d inside (word.Number n ∷ ws) = Ok (tree.Number n, ws)
operand d inside (word.Text s ∷ ws) = Ok (tree.Text s, ws)
operand d inside (word.Logical b ∷ ws) = Ok (tree.Logical b, ws)
operand d inside (word.Name s ∷ ws) = named d inside s ws
operand d inside (word.Open ∷ ws) = inside ws >>= λ x. parenthesis_closed x.0 x.1
operand d inside ws = Err (wrong_word ws)

unfoldable pub stage : ℕ → TreeReader → TreeReader
stage l next = if l == 4 then comparison_read next
    else (if l == 5 then prefixes next 5 else (if l == 1 then prefixes next 1 else chain next l))

unfoldable pub reader : ℕ → TreeReader → ℕ → TreeReader
reader d inside zero = operand d inside
reader d inside (suc l) = stage (suc l) (reader d inside l)

-- what stands inside of parentheses, of which so many may be opened within each other
unfoldable pub inside : ℕ → TreeReader
inside zero ws = Err fault.TooDeep
inside (suc d) ws = reader d (inside d) 7 ws

-- the expression at the front, with at most so many parentheses within each other
abbrev pub level_at : ℕ → ℕ → TreeReader
level_at d l = reader d (inside d) l

-- what reading from left to right finds at the front of words: the tree and the words behind it, or which fault
abbrev pub front : List Word → TreeRead
front = level_at max_depth 7

abbrev pub whole_tree : Tree → List Word → Result Tree ParseFaultKind
whole_tree e [] = Ok e
whole_tree e (w ∷ ws) = Err (wrong_word (w ∷ ws))

abbrev pub all_read : Tree × List Word → Result Tree ParseFaultKind
all_read x = whole_tree x.0 x.1

unfoldable pub parse : List Word → Result Tree ParseFaultKind
parse ws = level_at max_depth 7 ws >>= all_read
