-- What reading does at words that the grammar has.
use Rattle.std.proofs.Common.{◌≡◌, ◌≢◌, ℕ, suc, ◌≤◌, ◌⊎◌, inl, inr, List, [], ◌∷◌, ◌++◌, length, take, true, false}
use Rattle.std.proofs.Common.{Option, Some, None, Ok, refl, sym, ap, ◌∙◌, subst, arith, eq-eqb, eqb}
use Rattle.std.specs.Prelude.{◌==◌, if◌then◌else◌}
use Rattle.std.proofs.lemmas.Bool.{ne_eqb}
use Rattle.std.proofs.lemmas.Bool.Decides.{eqb_tells}
use Rattle.prg_expr.specs.declared.function.Function.{Function}
use Rattle.prg_expr.specs.declared.tree.BinaryOperator.{BinaryOperator}
use Rattle.prg_expr.specs.declared.tree.BinaryOperator.TheVariants.{Or, And, Equal, NotEqual, Less, Greater, AtMost}
use Rattle.prg_expr.specs.declared.tree.BinaryOperator.TheVariants.{AtLeast, Contains, Plus, Minus, Times, Over}
use Rattle.prg_expr.specs.declared.tree.Prefix.{Prefix}
use Rattle.prg_expr.specs.declared.tree.Prefix.TheVariants as prefix
use Rattle.prg_expr.specs.Tree.{Tree, Trees}
use Rattle.prg_expr.specs.Tree as tree
use Rattle.prg_expr.specs.Word.{Word}
use Rattle.prg_expr.specs.Word as word
use Rattle.prg_expr.specs.Grammar.{looseness, prefix_of, prefix_level, Free, Stands, number, text, logical, name}
use Rattle.prg_expr.specs.Grammar.{qualified, parentheses, looser, grouped, compared, prefixed, called, called_bare}
use Rattle.prg_expr.specs.Grammar.{Arguments, last, more}
use Rattle.prg_expr.specs.Reading.{TreeReader, ◌>>=◌, if_some, operator_at, prefix_at, prefixes, arguments, call_read}
use Rattle.prg_expr.specs.Reading.{called_at, named}

pub free_less : (l m : ℕ) (ws : List Word) → l ≤ m → Free m ws → Free l ws
free_less l m (word.Sign o ∷ ws) le f = omega arith
free_less l m (word.Open ∷ ws) le f = f
free_less l m (word.Arrow ∷ ws) le f = f
free_less l m [] le f = tt
free_less l m (word.Number n ∷ ws) le f = tt
free_less l m (word.Text t ∷ ws) le f = tt
free_less l m (word.Logical b ∷ ws) le f = tt
free_less l m (word.Name t ∷ ws) le f = tt
free_less l m (word.Not ∷ ws) le f = tt
free_less l m (word.Close ∷ ws) le f = tt
free_less l m (word.Comma ∷ ws) le f = tt
free_less l m (word.Outside mk ∷ ws) le f = tt

pub no_operator : (l : ℕ) (ws : List Word) → Free l ws → operator_at l ws ≡ None
unfolding operator_at
no_operator l (word.Sign o ∷ ws) f = let ne : eqb (looseness o) l ≡ false = ne_eqb (looseness o) l (λ e. omega arith) in
    rw ne refl
no_operator l [] f = refl
no_operator l (word.Number n ∷ ws) f = refl
no_operator l (word.Text t ∷ ws) f = refl
no_operator l (word.Logical b ∷ ws) f = refl
no_operator l (word.Name t ∷ ws) f = refl
no_operator l (word.Not ∷ ws) f = refl
no_operator l (word.Arrow ∷ ws) f = refl
no_operator l (word.Open ∷ ws) f = refl
no_operator l (word.Close ∷ ws) f = refl
no_operator l (word.Comma ∷ ws) f = refl
no_operator l (word.Outside mk ∷ ws) f = refl

pub an_operator : (l : ℕ) (o : BinaryOperator) (ws : List Word) → looseness o ≡ l
    → operator_at l (word.Sign o ∷ ws) ≡ Some (o, ws)
unfolding operator_at
an_operator l o ws e = let yes : eqb (looseness o) l ≡ true = eq-eqb (looseness o) l e in rw yes refl

-- what stands before one operand at the front, if anything does, is of this level or a tighter one
abbrev pub Below : ℕ → Option Prefix → Type 0
Below l None = Unit {0}
Below l (Some p) = prefix_level p ≤ l

abbrev pub Plain : ℕ → List Word → Type 0
Plain l [] = ⊥
Plain l (w ∷ ws) = Below l (prefix_of w)

below_up : (l m : ℕ) (o : Option Prefix) → l ≤ m → Below l o → Below m o
below_up l m None le b = tt
below_up l m (Some p) le b = let c : prefix_level p ≤ l = b in omega arith

below_is : (l : ℕ) (o : Option Prefix) (p : Prefix) → o ≡ Some p → prefix_level p ≡ l → Below l o
below_is l o p i v = let g : prefix_level p ≤ l = omega (arith, v) in subst (λ (o : Option Prefix). Below l o) (sym i) g

plain_up : (l m : ℕ) (ws : List Word) → l ≤ m → Plain l ws → Plain m ws
plain_up l m [] le p = p
plain_up l m (w ∷ ws) le p = below_up l m (prefix_of w) le p

pub plain_append : (l : ℕ) (aw bw : List Word) → Plain l aw → Plain l (aw ++ bw)
plain_append l [] bw p = absurd p
plain_append l (w ∷ ws) bw p = p

pub plain : {d l : ℕ} {e : Tree} {ws : List Word} → Stands d l e ws → Plain l ws
plain number = tt
plain text = tt
plain logical = tt
plain name = tt
plain qualified = tt
plain (called i v a) = tt
plain (called_bare i v) = tt
plain (parentheses s) = tt
plain (looser {d} {l} {e} {ws} s) = plain_up l (suc l) ws (omega arith) (plain s)
plain (grouped p q s r) = plain_append _ _ _ (plain s)
plain (compared {d} {o} {a} {b} {aw} {bw} p s r) = plain_append 4 aw _ (plain_up 3 4 aw (omega arith) (plain s))
plain (prefixed {d} {l} {w} {p} {e} {ws} i v s) = below_is l (prefix_of w) p i v

abbrev pub picked : ℕ → Option Prefix → Option Prefix
picked l o = if_some o None (λ p. if prefix_level p == l then Some p else None)

none_of : (l : ℕ) (o : Option Prefix) → Below l o → picked (suc l) o ≡ None
none_of l None b = refl
none_of l (Some p) b = let c : prefix_level p ≤ l = b in
    let ne : eqb (prefix_level p) (suc l) ≡ false = ne_eqb (prefix_level p) (suc l) (λ e. omega arith) in rw ne refl

none_at : (l : ℕ) (w : Word) → Below l (prefix_of w) → prefix_at (suc l) w ≡ None
unfolding prefix_at
none_at l w b = none_of l (prefix_of w) b

some_of : (l : ℕ) (p : Prefix) → prefix_level p ≡ l → picked l (Some p) ≡ Some p
some_of l p v = let yes : eqb (prefix_level p) l ≡ true = eq-eqb (prefix_level p) l v in rw yes refl

pub some_at : (l : ℕ) (w : Word) (p : Prefix) → prefix_of w ≡ Some p → prefix_level p ≡ l → prefix_at l w ≡ Some p
unfolding prefix_at
some_at l w p i v = ap (picked l) i ∙ some_of l p v

tells_of : (l : ℕ) (o : Option Prefix) → (picked l o ≡ None)
    ⊎ ((p : Prefix) × (picked l o ≡ Some p) × (o ≡ Some p) × (prefix_level p ≡ l))
tells_of l None = inl refl
tells_of l (Some p) = elim (eqb_tells (prefix_level p) l) [
  | inl y ↦ inr (p, some_of l p y.1, refl, y.1)
  | inr n ↦ (let ne : eqb (prefix_level p) l ≡ false = n.0 in inl (rw ne refl))
]

pub prefix_tells : (l : ℕ) (w : Word) → (prefix_at l w ≡ None)
    ⊎ ((p : Prefix) × (prefix_at l w ≡ Some p) × (prefix_of w ≡ Some p) × (prefix_level p ≡ l))
unfolding prefix_at
prefix_tells l w = tells_of l (prefix_of w)

pub prefix_levels : (p : Prefix) → (prefix_level p ≡ 1) ⊎ (prefix_level p ≡ 5)
prefix_levels prefix.Not = inr refl
prefix_levels prefix.Negative = inl refl
prefix_levels prefix.Positive = inl refl

pub prefixes_plain : (next : TreeReader) (l : ℕ) (ws : List Word) → Plain l ws → prefixes next (suc l) ws ≡ next ws
unfolding prefixes
prefixes_plain next l [] p = absurd p
prefixes_plain next l (w ∷ ws) p = let n = none_at l w p in rw n refl

pub never_one : (o : BinaryOperator) → looseness o ≢ 1
never_one Or e = omega arith
never_one And e = omega arith
never_one Equal e = omega arith
never_one NotEqual e = omega arith
never_one Less e = omega arith
never_one Greater e = omega arith
never_one AtMost e = omega arith
never_one AtLeast e = omega arith
never_one Contains e = omega arith
never_one Plus e = omega arith
never_one Minus e = omega arith
never_one Times e = omega arith
never_one Over e = omega arith

pub never_five : (o : BinaryOperator) → looseness o ≢ 5
never_five Or e = omega arith
never_five And e = omega arith
never_five Equal e = omega arith
never_five NotEqual e = omega arith
never_five Less e = omega arith
never_five Greater e = omega arith
never_five AtMost e = omega arith
never_five AtLeast e = omega arith
never_five Contains e = omega arith
never_five Plus e = omega arith
never_five Minus e = omega arith
never_five Times e = omega arith
never_five Over e = omega arith

-- what follows isn't the end of parentheses
abbrev pub Unclosed : List Word → Type 0
Unclosed [] = ⊥
Unclosed (word.Close ∷ ws) = ⊥
Unclosed _ = Unit {0}

pub unclosed_append : (aw bw : List Word) → Unclosed aw → Unclosed (aw ++ bw)
unclosed_append [] bw p = absurd p
unclosed_append (word.Close ∷ ws) bw p = absurd p
unclosed_append (word.Number n ∷ ws) bw p = tt
unclosed_append (word.Text t ∷ ws) bw p = tt
unclosed_append (word.Logical b ∷ ws) bw p = tt
unclosed_append (word.Name t ∷ ws) bw p = tt
unclosed_append (word.Not ∷ ws) bw p = tt
unclosed_append (word.Sign o ∷ ws) bw p = tt
unclosed_append (word.Arrow ∷ ws) bw p = tt
unclosed_append (word.Open ∷ ws) bw p = tt
unclosed_append (word.Comma ∷ ws) bw p = tt
unclosed_append (word.Outside mk ∷ ws) bw p = tt

prefix_unclosed : (w : Word) (p : Prefix) (ws : List Word) → prefix_of w ≡ Some p → Unclosed (w ∷ ws)
prefix_unclosed word.Close p vs i = absurd cc
prefix_unclosed (word.Number n) p vs i = tt
prefix_unclosed (word.Text t) p vs i = tt
prefix_unclosed (word.Logical b) p vs i = tt
prefix_unclosed (word.Name t) p vs i = tt
prefix_unclosed (word.Not) p vs i = tt
prefix_unclosed (word.Sign o) p vs i = tt
prefix_unclosed (word.Arrow) p vs i = tt
prefix_unclosed (word.Open) p vs i = tt
prefix_unclosed (word.Comma) p vs i = tt
prefix_unclosed (word.Outside mk) p vs i = tt

pub unclosed : {d l : ℕ} {e : Tree} {ws : List Word} → Stands d l e ws → Unclosed ws
unclosed number = tt
unclosed text = tt
unclosed logical = tt
unclosed name = tt
unclosed qualified = tt
unclosed (called i v a) = tt
unclosed (called_bare i v) = tt
unclosed (parentheses s) = tt
unclosed (looser s) = unclosed s
unclosed (grouped p q s r) = unclosed_append _ _ (unclosed s)
unclosed (compared p s r) = unclosed_append _ _ (unclosed s)
unclosed (prefixed {d} {l} {w} {p} {e} {ws} i v s) = prefix_unclosed w p ws i

pub unclosed_all : {d : ℕ} {es : Trees} {ws : List Word} → Arguments d es ws → Unclosed ws
unclosed_all (last s) = unclosed s
unclosed_all (more s a) = unclosed_append _ _ (unclosed s)

pub called_unclosed : (d : ℕ) (r : TreeReader) (f : Function) (ws : List Word) → Unclosed ws
    → called_at (suc d) r f ws ≡ (arguments (suc (length ws)) r ws >>= λ x. call_read f x.0 x.1)
unfolding called_at
called_unclosed d r f [] p = absurd p
called_unclosed d r f (word.Close ∷ ws) p = absurd p
called_unclosed d r f (word.Number n ∷ ws) p = refl
called_unclosed d r f (word.Text t ∷ ws) p = refl
called_unclosed d r f (word.Logical b ∷ ws) p = refl
called_unclosed d r f (word.Name t ∷ ws) p = refl
called_unclosed d r f (word.Not ∷ ws) p = refl
called_unclosed d r f (word.Sign o ∷ ws) p = refl
called_unclosed d r f (word.Arrow ∷ ws) p = refl
called_unclosed d r f (word.Open ∷ ws) p = refl
called_unclosed d r f (word.Comma ∷ ws) p = refl
called_unclosed d r f (word.Outside mk ∷ ws) p = refl

pub named_free : (d : ℕ) (r : TreeReader) (s : List ℕ) (l : ℕ) (ws : List Word) → Free l ws
    → named d r s ws ≡ Ok (tree.Name (take 10 s), ws)
unfolding named
named_free d r s l (word.Open ∷ ws) f = absurd f
named_free d r s l (word.Arrow ∷ ws) f = absurd f
named_free d r s l [] f = refl
named_free d r s l (word.Number n ∷ ws) f = refl
named_free d r s l (word.Text t ∷ ws) f = refl
named_free d r s l (word.Logical b ∷ ws) f = refl
named_free d r s l (word.Name t ∷ ws) f = refl
named_free d r s l (word.Not ∷ ws) f = refl
named_free d r s l (word.Sign o ∷ ws) f = refl
named_free d r s l (word.Close ∷ ws) f = refl
named_free d r s l (word.Comma ∷ ws) f = refl
named_free d r s l (word.Outside mk ∷ ws) f = refl
