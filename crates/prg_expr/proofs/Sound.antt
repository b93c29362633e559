-- What reading finds, the grammar has.
use Rattle.std.proofs.Common.{◌≡◌, ◌≢◌, ℕ, zero, suc, ◌<◌, ◌⊎◌, inl, inr, List, [], ◌∷◌, ◌++◌, length, take, Bool, true}
use Rattle.std.proofs.Common.{false, Option, Some, None, Result, Ok, Err, refl, sym, ap, ◌∙◌, subst, arith}
use Rattle.std.proofs.Common.{append_assoc, length-append, eqb}
use Rattle.std.proofs.lemmas.List.{append-nil}
use Rattle.std.proofs.lemmas.Bool.Decides.{eqb_tells}
use Rattle.std.proofs.lemmas.Bool.{ne_eqb}
use Rattle.prg_expr.specs.declared.fault.ParseFaultKind.{ParseFaultKind}
use Rattle.prg_expr.specs.declared.fault.ParseFaultKind.TheVariants as fault
use Rattle.prg_expr.specs.declared.function.Function.{Function}
use Rattle.prg_expr.specs.declared.tree.BinaryOperator.{BinaryOperator}
use Rattle.prg_expr.specs.Functions.{function_named, takes_so_many}
use Rattle.prg_expr.specs.Tree.{Tree, Trees, count}
use Rattle.prg_expr.specs.Tree as tree
use Rattle.prg_expr.specs.Word.{Word}
use Rattle.prg_expr.specs.Word as word
use Rattle.prg_expr.specs.Grammar.{looseness, Stands, number, text, logical, name, qualified, parentheses, looser}
use Rattle.prg_expr.specs.Grammar.{grouped, compared, prefixed, called, called_bare, Arguments, last, more, max_depth}
use Rattle.prg_expr.specs.Grammar.{Spells}
use Rattle.prg_expr.specs.Reading.{TreeRead, TreeReader, ◌>>=◌, if_some, operator_at, turns, chain, comparison_read}
use Rattle.prg_expr.specs.Reading.{prefixes, parenthesis_closed, separator, after_argument, arguments, call_read}
use Rattle.prg_expr.specs.Reading.{called_at, qualified_at, named, operand, stage, reader, inside, level_at, whole_tree}
use Rattle.prg_expr.specs.Reading.{all_read, parse}
use Rattle.prg_expr.proofs.Grammar.{prefix_tells}

pub bind_ok : {A B : Type 0} → (r : Result A ParseFaultKind) (f : A → Result B ParseFaultKind) (y : B)
    → (r >>= f) ≡ Ok y → (x : A) × (r ≡ Ok x) × (f x ≡ Ok y)
bind_ok (Ok x) f y h = (x, refl, h)
bind_ok (Err e) f y h = absurd cc

-- the words begin with a spelling of the tree, and the rest follows
pub record Takes (d l : ℕ) (ws : List Word) (x : Tree × List Word) : Type 0 where
  pub front : List Word
  pub stands : Stands d l x.0 front
  pub is : ws ≡ front ++ x.1

pub record IsSound (d l : ℕ) (r : TreeReader) : Type 0 where
  pub at : (ws : List Word) (x : Tree × List Word) → r ws ≡ Ok x → Takes d l ws x

-- something is taken
pub record Shorter (r : TreeReader) : Type 0 where
  pub at : (ws : List Word) (x : Tree × List Word) → r ws ≡ Ok x → length x.1 < length ws

pub some_words : {d l : ℕ} {e : Tree} {ws : List Word} → Stands d l e ws → 0 < length ws
some_words number = omega arith
some_words text = omega arith
some_words logical = omega arith
some_words name = omega arith
some_words qualified = omega arith
some_words (called i v a) = omega arith
some_words (called_bare i v) = omega arith
some_words (parentheses s) = omega arith
some_words (looser s) = some_words s
some_words (grouped {aw} {bw} p q s r) = omega (arith, some_words s, length-append {A = Word})
some_words (compared p s r) = omega (arith, some_words s, length-append {A = Word})
some_words (prefixed i v s) = omega arith

takes_shorter : {d l : ℕ} {ws : List Word} {x : Tree × List Word} → Takes d l ws x → length x.1 < length ws
takes_shorter {d} {l} {ws} {x} t = rw t.is (omega (arith, some_words t.stands, length-append t.front x.1))

pub shorter : {d l : ℕ} {r : TreeReader} → IsSound d l r → Shorter r
shorter s = record { at = λ ws x h. takes_shorter (s.at ws x h) }

up : {d l : ℕ} {ws : List Word} {x : Tree × List Word} → Takes d l ws x → Takes d (suc l) ws x
up t = record { front = t.front; stands = looser t.stands; is = t.is }

regroup : (whole_tree seen ws : List Word) (w : Word) (after front rest : List Word) → whole_tree ≡ seen ++ ws
    → ws ≡ w ∷ after → after ≡ front ++ rest → whole_tree ≡ (seen ++ w ∷ front) ++ rest
regroup whole_tree seen ws w after front rest p q r = rw (p, q, r) (simp append_assoc)

closed : (ws front r rest : List Word) → ws ≡ front ++ r → r ≡ word.Close ∷ rest
    → word.Open ∷ ws ≡ (word.Open ∷ (front ++ word.Close ∷ [])) ++ rest
closed ws front r rest p q = rw (p, q) (simp append_assoc)

-- the operator at the front
pub record HasOperator (l : ℕ) (ws : List Word) (o : BinaryOperator) (rest : List Word) : Type 0 where
  pub read : operator_at l ws ≡ Some (o, rest)
  pub level : looseness o ≡ l
  pub is : ws ≡ word.Sign o ∷ rest

pub operator_tells : (l : ℕ) (ws : List Word)
    → (operator_at l ws ≡ None) ⊎ ((o : BinaryOperator) × (rest : List Word) × HasOperator l ws o rest)
unfolding operator_at
operator_tells l (word.Sign o ∷ ws) =
    elim (eqb_tells (looseness o) l) [
      | inl p ↦
          (let y : eqb (looseness o) l ≡ true = p.0 in
          inr (o, ws, record { read = rw y refl; level = p.1; is = refl }))
      | inr p ↦
          (let n : eqb (looseness o) l ≡ false = p.0 in inl (rw n refl))
    ]
operator_tells l [] = inl refl
operator_tells l (word.Number n ∷ ws) = inl refl
operator_tells l (word.Text t ∷ ws) = inl refl
operator_tells l (word.Logical b ∷ ws) = inl refl
operator_tells l (word.Name t ∷ ws) = inl refl
operator_tells l (word.Not ∷ ws) = inl refl
operator_tells l (word.Arrow ∷ ws) = inl refl
operator_tells l (word.Open ∷ ws) = inl refl
operator_tells l (word.Close ∷ ws) = inl refl
operator_tells l (word.Comma ∷ ws) = inl refl
operator_tells l (word.Outside mk ∷ ws) = inl refl

abbrev ok : Tree × List Word → TreeRead
ok x = Ok x

-- a tree that is read whole
taken : {d l : ℕ} (e : Tree) (front rest ws : List Word) (x : Tree × List Word) → Stands d l e front
    → ws ≡ front ++ rest → ok (e, rest) ≡ Ok x → Takes d l ws x
taken {d} {l} e front rest ws x s h eq =
    let p : (e, rest) ≡ x = cc in
    subst (λ x. Takes d l ws x) p (record { front = front; stands = s; is = h })

module _ (d l : ℕ) (next : TreeReader) (sound : IsSound d l next) where
  turns_sound : suc l ≢ 4 → (n : ℕ) (left : Tree) (seen ws whole_tree : List Word) (x : Tree × List Word)
      → Stands d (suc l) left seen → whole_tree ≡ seen ++ ws → turns n next (suc l) left ws ≡ Ok x
      → Takes d (suc l) whole_tree x
  unfolding turns
  turns_sound ne zero left seen ws whole_tree x s w h = absurd cc
  turns_sound ne (suc n) left seen ws whole_tree x s w h = elim (operator_tells (suc l) ws) [
    | inl none ↦ taken left seen ws whole_tree x s w (sym (rw none refl) ∙ h)
    | inr p ↦ (let op = p.2 in let b = bind_ok (next p.1) (λ y. turns n next (suc l) (tree.Binary p.0 left y.0) y.1) x
        (sym (rw op.read refl) ∙ h) in
        let t = sound.at p.1 b.0 b.1 in
        turns_sound ne n (tree.Binary p.0 left b.0.0) (seen ++ word.Sign p.0 ∷ t.front) b.0.1 whole_tree x
        (grouped op.level ne s t.stands) (regroup whole_tree seen ws (word.Sign p.0) p.1 t.front b.0.1 w op.is t.is)
        b.2)
  ]

  chain_sound : suc l ≢ 4 → IsSound d (suc l) (chain next (suc l))
  unfolding chain
  chain_sound ne = record {
    at = λ ws x h. let b = bind_ok (next ws) (λ y. turns (suc (length y.1)) next (suc l) y.0 y.1) x h in
        let t = sound.at ws b.0 b.1 in
        turns_sound ne (suc (length b.0.1)) b.0.0 t.front b.0.1 ws x (looser t.stands) t.is b.2;
  }

module _ (d : ℕ) (next : TreeReader) where
  comparison_sound : IsSound d 3 next → IsSound d 4 (comparison_read next)
  unfolding comparison_read
  comparison_sound sound = record {
    at = λ ws x h. let b = bind_ok (next ws)
        (λ x. if_some (operator_at 4 x.1) (Ok x) (λ o. next o.1 >>= λ y. Ok (tree.Binary o.0 x.0 y.0, y.1))) x h in
        let t = sound.at ws b.0 b.1 in
        elim (operator_tells 4 b.0.1) [
          | inl none ↦ taken b.0.0 t.front b.0.1 ws x (looser t.stands) t.is (sym (rw none refl) ∙ b.2)
          | inr p ↦ (let op = p.2 in let c = bind_ok (next p.1) (λ y. Ok (tree.Binary p.0 b.0.0 y.0, y.1)) x
              (sym (rw op.read refl) ∙ b.2) in
              let u = sound.at p.1 c.0 c.1 in
              taken (tree.Binary p.0 b.0.0 c.0.0) (t.front ++ word.Sign p.0 ∷ u.front) c.0.1 ws x
              (compared op.level t.stands u.stands)
              (regroup ws t.front b.0.1 (word.Sign p.0) p.1 u.front c.0.1 t.is op.is u.is) c.2)
        ];
  }

  prefixes_take : (l : ℕ) → IsSound d l next → (ws : List Word) (x : Tree × List Word) → prefixes next (suc l) ws ≡ Ok x
      → Takes d (suc l) ws x
  unfolding prefixes
  prefixes_take l sound [] x h = up (sound.at [] x h)
  prefixes_take l sound (w ∷ ws) x h = elim (prefix_tells (suc l) w) [
    | inl none ↦ up (sound.at (w ∷ ws) x (sym (rw none refl) ∙ h))
    | inr p ↦ (let b = bind_ok (prefixes next (suc l) ws) (λ y. Ok (tree.Prefixed p.0 y.0, y.1)) x
        (sym (rw p.1 refl) ∙ h) in
        let t = prefixes_take l sound ws b.0 b.1 in
        taken (tree.Prefixed p.0 b.0.0) (w ∷ t.front) b.0.1 (w ∷ ws) x (prefixed p.2 p.3 t.stands)
        (ap (λ ws. w ∷ ws) t.is) b.2)
  ]

close_ok : (e : Tree) (ws : List Word) (x : Tree × List Word) → parenthesis_closed e ws ≡ Ok x
    → (rest : List Word) × (ws ≡ word.Close ∷ rest) × (ok (tree.Parentheses e, rest) ≡ Ok x)
unfolding parenthesis_closed
close_ok e (word.Close ∷ ws) x h = (ws, refl, h)
close_ok e [] x h = absurd cc
close_ok e (word.Number n ∷ ws) x h = absurd cc
close_ok e (word.Text t ∷ ws) x h = absurd cc
close_ok e (word.Logical b ∷ ws) x h = absurd cc
close_ok e (word.Name t ∷ ws) x h = absurd cc
close_ok e (word.Not ∷ ws) x h = absurd cc
close_ok e (word.Sign o ∷ ws) x h = absurd cc
close_ok e (word.Arrow ∷ ws) x h = absurd cc
close_ok e (word.Open ∷ ws) x h = absurd cc
close_ok e (word.Comma ∷ ws) x h = absurd cc
close_ok e (word.Outside mk ∷ ws) x h = absurd cc

-- what is read inside of parentheses stands there
pub record IsInside (d : ℕ) (r : TreeReader) : Type 0 where
  pub at : (ws : List Word) (x : Tree × List Word) → r ws ≡ Ok x → (k : ℕ) × (d ≡ suc k) × Takes k 7 ws x

in_parentheses : (d : ℕ) (r : TreeReader) → IsInside d r → (ws : List Word) (y x : Tree × List Word) → r ws ≡ Ok y
    → parenthesis_closed y.0 y.1 ≡ Ok x → Takes d 0 (word.Open ∷ ws) x
in_parentheses d r ins ws y x h g =
    let i = ins.at ws y h in
    let t = i.2 in
    let c = close_ok y.0 y.1 x g in
    let s : Stands d 0 (tree.Parentheses y.0) (word.Open ∷ (t.front ++ word.Close ∷ [])) =
    rw i.1 (parentheses t.stands) in
    taken (tree.Parentheses y.0) (word.Open ∷ (t.front ++ word.Close ∷ [])) c.0 (word.Open ∷ ws) x s
    (closed ws t.front y.1 c.0 t.is c.1) c.2

abbrev flag : Bool → List Word → Bool × List Word
flag b ws = (b, ws)

abbrev ok_flag : Bool × List Word → Result (Bool × List Word) ParseFaultKind
ok_flag x = Ok x

flag_same : (x y : Bool × List Word) → ok_flag x ≡ Ok y → x ≡ y
flag_same x y h = cc

abbrev all_ok' : Trees × List Word → Result (Trees × List Word) ParseFaultKind
all_ok' x = Ok x

all_same : (x y : Trees × List Word) → all_ok' x ≡ Ok y → x ≡ y
all_same x y h = cc

regroup_all : (ws front r after second rest : List Word) → ws ≡ front ++ r → r ≡ word.Comma ∷ after
    → after ≡ second ++ word.Close ∷ rest → ws ≡ (front ++ word.Comma ∷ second) ++ word.Close ∷ rest
regroup_all ws front r after second rest p q s = rw (p, q, s) (simp append_assoc)

-- what separator has found
separator_tells : (ws : List Word) (s : Bool × List Word) → separator ws ≡ Ok s
    → ((rest : List Word) × (ws ≡ word.Comma ∷ rest) × (flag true rest ≡ s))
    ⊎ ((rest : List Word) × (ws ≡ word.Close ∷ rest) × (flag false rest ≡ s))
unfolding separator
separator_tells (word.Comma ∷ ws) s h = inl (ws, refl, flag_same _ _ h)
separator_tells (word.Close ∷ ws) s h = inr (ws, refl, flag_same _ _ h)
separator_tells [] s h = absurd cc
separator_tells (word.Number n ∷ ws) s h = absurd cc
separator_tells (word.Text t ∷ ws) s h = absurd cc
separator_tells (word.Logical b ∷ ws) s h = absurd cc
separator_tells (word.Name t ∷ ws) s h = absurd cc
separator_tells (word.Not ∷ ws) s h = absurd cc
separator_tells (word.Sign o ∷ ws) s h = absurd cc
separator_tells (word.Arrow ∷ ws) s h = absurd cc
separator_tells (word.Open ∷ ws) s h = absurd cc
separator_tells (word.Outside mk ∷ ws) s h = absurd cc

-- the words begin with arguments and the parenthesis after them
pub record TakesAll (d : ℕ) (ws : List Word) (x : Trees × List Word) : Type 0 where
  pub depth : ℕ
  pub deeper : d ≡ suc depth
  pub front : List Word
  pub stands : Arguments depth x.0 front
  pub is : ws ≡ front ++ word.Close ∷ x.1

taken_all : {d k : ℕ} (es : Trees) (front rest ws : List Word) (x : Trees × List Word) → d ≡ suc k
    → Arguments k es front → ws ≡ front ++ word.Close ∷ rest → all_ok' (es, rest) ≡ Ok x → TakesAll d ws x
taken_all {d} {k} es front rest ws x e s i h =
    subst (λ x. TakesAll d ws x) (all_same (es, rest) x h)
    (record { depth = k; deeper = e; front = front; stands = s; is = i })

arguments_on : (n d : ℕ) (r : TreeReader)
    → ((ws : List Word) (x : Trees × List Word) → arguments n r ws ≡ Ok x → TakesAll d ws x)
    → (ws : List Word) (y : Tree × List Word) (s : Bool × List Word) (x : Trees × List Word)
    → (k : ℕ) → d ≡ suc k → Takes k 7 ws y → separator y.1 ≡ Ok s → after_argument (arguments n r) y.0 s ≡ Ok x
    → TakesAll d ws x
arguments_on n d r again ws y s x k e t h g = elim (separator_tells y.1 s h) [
  | inl p ↦ (let g' : after_argument (arguments n r) y.0 (flag true p.0) ≡ Ok x = ap
      (after_argument (arguments n r) y.0) p.2 ∙ g in
      let b = bind_ok (arguments n r p.0) (λ z. Ok (tree.More y.0 z.0, z.1)) x g' in
      let u = again p.0 b.0 b.1 in
      let same : u.depth ≡ k = omega (arith, u.deeper) in
      taken_all (tree.More y.0 b.0.0) (t.front ++ word.Comma ∷ u.front) b.0.1 ws x e
      (more t.stands (subst (λ k. Arguments k b.0.0 u.front) same u.stands))
      (regroup_all ws t.front y.1 p.0 u.front b.0.1 t.is p.1 u.is) b.2)
  | inr p ↦ (let g' : after_argument (arguments n r) y.0 (flag false p.0) ≡ Ok x = ap
      (after_argument (arguments n r) y.0) p.2 ∙ g in
      taken_all (tree.More y.0 tree.None) t.front p.0 ws x e (last t.stands) (t.is ∙ ap (λ w. t.front ++ w) p.1) g')
]

arguments_take : (n d : ℕ) (r : TreeReader) → IsInside d r → (ws : List Word) (x : Trees × List Word)
    → arguments n r ws ≡ Ok x → TakesAll d ws x
unfolding arguments
arguments_take zero d r ins ws x h = absurd cc
arguments_take (suc n) d r ins ws x h =
    let b = bind_ok (r ws) (λ y. separator y.1 >>= λ s. after_argument (arguments n r) y.0 s) x h in
    let c = bind_ok (separator b.0.1) (λ s. after_argument (arguments n r) b.0.0 s) x b.2 in
    let i = ins.at ws b.0 b.1 in
    arguments_on n d r (arguments_take n d r ins) ws b.0 c.0 x i.0 i.1 i.2 c.1 c.2

pub bool_tells : (b : Bool) → (b ≡ true) ⊎ (b ≡ false)
bool_tells true = inl refl
bool_tells false = inr refl

pub option_tells : {A : Type 0} → (o : Option A) → (o ≡ None) ⊎ ((x : A) × (o ≡ Some x))
option_tells None = inl refl
option_tells (Some x) = inr (x, refl)

-- a call that is read has as many arguments as its function takes
call_ok : (f : Function) (es : Trees) (ws : List Word) (x : Tree × List Word) → call_read f es ws ≡ Ok x
    → (takes_so_many f (count es) ≡ true) × (ok (tree.Call f es, ws) ≡ Ok x)
unfolding call_read
call_ok f es ws x h = elim (bool_tells (takes_so_many f (count es))) [
  | inl y ↦ (y, sym (rw y refl) ∙ h)
  | inr n ↦ (let g : call_read f es ws ≡ Err fault.Expression = rw n refl in absurd (let k = sym g ∙ h in cc))
]

call_takes : (d : ℕ) (r : TreeReader) → IsInside d r → (s : List ℕ) (f : Function) → function_named s ≡ Some f
    → (ws : List Word) (x : Tree × List Word) → (arguments (suc (length ws)) r ws >>= λ x. call_read f x.0 x.1) ≡ Ok x
    → Takes d 0 (word.Name s ∷ word.Open ∷ ws) x
call_takes d r ins s f i ws x h =
    let b = bind_ok (arguments (suc (length ws)) r ws) (λ x. call_read f x.0 x.1) x h in
    let t = arguments_take (suc (length ws)) d r ins ws b.0 b.1 in
    let c = call_ok f b.0.0 b.0.1 x b.2 in
    let st : Stands d 0 (tree.Call f b.0.0) (word.Name s ∷ word.Open ∷ (t.front ++ word.Close ∷ [])) =
    subst (λ d. Stands d 0 (tree.Call f b.0.0) (word.Name s ∷ word.Open ∷ (t.front ++ word.Close ∷ [])))
    (sym t.deeper) (called i c.0 t.stands) in
    taken (tree.Call f b.0.0) (word.Name s ∷ word.Open ∷ (t.front ++ word.Close ∷ [])) b.0.1
    (word.Name s ∷ word.Open ∷ ws) x st
    (ap (λ ws. word.Name s ∷ word.Open ∷ ws) (t.is ∙ sym (append_assoc t.front (word.Close ∷ []) b.0.1))) c.1

bare_takes : (d : ℕ) (s : List ℕ) (f : Function) → function_named s ≡ Some f → (ws : List Word) (x : Tree × List Word)
    → call_read f tree.None ws ≡ Ok x → Takes (suc d) 0 (word.Name s ∷ word.Open ∷ word.Close ∷ ws) x
bare_takes d s f i ws x h = let c = call_ok f tree.None ws x h in
    taken (tree.Call f tree.None) (word.Name s ∷ word.Open ∷ word.Close ∷ []) ws
    (word.Name s ∷ word.Open ∷ word.Close ∷ ws) x (called_bare i c.0) refl c.1

called_takes : (d : ℕ) (r : TreeReader) → IsInside d r → (s : List ℕ) (f : Function) → function_named s ≡ Some f
    → (ws : List Word) (x : Tree × List Word) → called_at d r f ws ≡ Ok x → Takes d 0 (word.Name s ∷ word.Open ∷ ws) x
unfolding called_at
called_takes zero r ins s f i ws x h = absurd cc
called_takes (suc d) r ins s f i (word.Close ∷ ws) x h = bare_takes d s f i ws x h
called_takes (suc d) r ins s f i [] x h = call_takes (suc d) r ins s f i [] x h
called_takes (suc d) r ins s f i (word.Number n ∷ ws) x h = call_takes (suc d) r ins s f i (word.Number n ∷ ws) x h
called_takes (suc d) r ins s f i (word.Text t ∷ ws) x h = call_takes (suc d) r ins s f i (word.Text t ∷ ws) x h
called_takes (suc d) r ins s f i (word.Logical b ∷ ws) x h = call_takes (suc d) r ins s f i (word.Logical b ∷ ws) x h
called_takes (suc d) r ins s f i (word.Name t ∷ ws) x h = call_takes (suc d) r ins s f i (word.Name t ∷ ws) x h
called_takes (suc d) r ins s f i (word.Not ∷ ws) x h = call_takes (suc d) r ins s f i (word.Not ∷ ws) x h
called_takes (suc d) r ins s f i (word.Sign o ∷ ws) x h = call_takes (suc d) r ins s f i (word.Sign o ∷ ws) x h
called_takes (suc d) r ins s f i (word.Arrow ∷ ws) x h = call_takes (suc d) r ins s f i (word.Arrow ∷ ws) x h
called_takes (suc d) r ins s f i (word.Open ∷ ws) x h = call_takes (suc d) r ins s f i (word.Open ∷ ws) x h
called_takes (suc d) r ins s f i (word.Comma ∷ ws) x h = call_takes (suc d) r ins s f i (word.Comma ∷ ws) x h
called_takes (suc d) r ins s f i (word.Outside mk ∷ ws) x h = call_takes (suc d) r ins s f i (word.Outside mk ∷ ws) x h

qualified_takes : (d : ℕ) (a : List ℕ) (ws : List Word) (x : Tree × List Word) → qualified_at a ws ≡ Ok x
    → Takes d 0 (word.Name a ∷ word.Arrow ∷ ws) x
unfolding qualified_at
qualified_takes d a (word.Name t ∷ ws) x h =
    taken (tree.Qualified (take 10 a) (take 10 t)) (word.Name a ∷ word.Arrow ∷ word.Name t ∷ []) ws _ x qualified refl h
qualified_takes d a [] x h = absurd cc
qualified_takes d a (word.Number n ∷ ws) x h = absurd cc
qualified_takes d a (word.Text t ∷ ws) x h = absurd cc
qualified_takes d a (word.Logical b ∷ ws) x h = absurd cc
qualified_takes d a (word.Not ∷ ws) x h = absurd cc
qualified_takes d a (word.Sign o ∷ ws) x h = absurd cc
qualified_takes d a (word.Arrow ∷ ws) x h = absurd cc
qualified_takes d a (word.Open ∷ ws) x h = absurd cc
qualified_takes d a (word.Close ∷ ws) x h = absurd cc
qualified_takes d a (word.Comma ∷ ws) x h = absurd cc
qualified_takes d a (word.Outside mk ∷ ws) x h = absurd cc

named_takes : (d : ℕ) (r : TreeReader) → IsInside d r → (s : List ℕ) (ws : List Word) (x : Tree × List Word)
    → named d r s ws ≡ Ok x → Takes d 0 (word.Name s ∷ ws) x
unfolding named
named_takes d r ins s (word.Open ∷ ws) x h = elim (option_tells (function_named s)) [
  | inl none ↦ absurd (let g : named d r s (word.Open ∷ ws) ≡ Err fault.Expression = rw none refl in
      let k = sym g ∙ h in cc)
  | inr f ↦ called_takes d r ins s f.0 f.1 ws x (sym (rw f.1 refl) ∙ h)
]
named_takes d r ins s (word.Arrow ∷ ws) x h = qualified_takes d s ws x h
named_takes d r ins s [] x h = taken (tree.Name (take 10 s)) (word.Name s ∷ []) [] _ x name refl h
named_takes d r ins s (word.Number n ∷ ws) x h =
    taken (tree.Name (take 10 s)) (word.Name s ∷ []) (word.Number n ∷ ws) _ x name refl h
named_takes d r ins s (word.Text t ∷ ws) x h =
    taken (tree.Name (take 10 s)) (word.Name s ∷ []) (word.Text t ∷ ws) _ x name refl h
named_takes d r ins s (word.Logical b ∷ ws) x h =
    taken (tree.Name (take 10 s)) (word.Name s ∷ []) (word.Logical b ∷ ws) _ x name refl h
named_takes d r ins s (word.Name t ∷ ws) x h =
    taken (tree.Name (take 10 s)) (word.Name s ∷ []) (word.Name t ∷ ws) _ x name refl h
named_takes d r ins s (word.Not ∷ ws) x h =
    taken (tree.Name (take 10 s)) (word.Name s ∷ []) (word.Not ∷ ws) _ x name refl h
named_takes d r ins s (word.Sign o ∷ ws) x h =
    taken (tree.Name (take 10 s)) (word.Name s ∷ []) (word.Sign o ∷ ws) _ x name refl h
named_takes d r ins s (word.Close ∷ ws) x h =
    taken (tree.Name (take 10 s)) (word.Name s ∷ []) (word.Close ∷ ws) _ x name refl h
named_takes d r ins s (word.Comma ∷ ws) x h =
    taken (tree.Name (take 10 s)) (word.Name s ∷ []) (word.Comma ∷ ws) _ x name refl h
named_takes d r ins s (word.Outside mk ∷ ws) x h =
    taken (tree.Name (take 10 s)) (word.Name s ∷ []) (word.Outside mk ∷ ws) _ x name refl h

operand_takes : (d : ℕ) (r : TreeReader) → IsInside d r → (ws : List Word) (x : Tree × List Word)
    → operand d r ws ≡ Ok x → Takes d 0 ws x
unfolding operand
operand_takes d r ins (word.Logical b ∷ ws) x h = taken (tree.Logical b) (word.Logical b ∷ []) ws _ x logical refl h
operand_takes d r ins (word.Number n ∷ ws) x h = taken (tree.Number n) (word.Number n ∷ []) ws _ x number refl h
operand_takes d r ins (word.Text s ∷ ws) x h = taken (tree.Text s) (word.Text s ∷ []) ws _ x text refl h
operand_takes d r ins (word.Name s ∷ ws) x h = named_takes d r ins s ws x h
operand_takes d r ins (word.Open ∷ ws) x h = let b = bind_ok (r ws) (λ x. parenthesis_closed x.0 x.1) x h in
    in_parentheses d r ins ws b.0 x b.1 b.2
operand_takes d r ins [] x h = absurd cc
operand_takes d r ins (word.Not ∷ ws) x h = absurd cc
operand_takes d r ins (word.Sign o ∷ ws) x h = absurd cc
operand_takes d r ins (word.Arrow ∷ ws) x h = absurd cc
operand_takes d r ins (word.Close ∷ ws) x h = absurd cc
operand_takes d r ins (word.Comma ∷ ws) x h = absurd cc
operand_takes d r ins (word.Outside mk ∷ ws) x h = absurd cc

pub stage_chain : (l : ℕ) (next : TreeReader) → l ≢ 1 → l ≢ 4 → l ≢ 5 → stage l next ≡ chain next l
unfolding stage
stage_chain l next c a b =
    let x : eqb l 4 ≡ false = ne_eqb l 4 a in
    let y : eqb l 5 ≡ false = ne_eqb l 5 b in
    let z : eqb l 1 ≡ false = ne_eqb l 1 c in
    rw (x, y, z) refl

module _ (d : ℕ) (next : TreeReader) where
  stage_sound : (l : ℕ) → IsSound d l next → IsSound d (suc l) (stage (suc l) next)
  unfolding stage
  stage_sound zero s = record { at = prefixes_take d next 0 s }
  stage_sound (suc zero) s = chain_sound d 1 next s (λ e. omega arith)
  stage_sound (suc (suc zero)) s = chain_sound d 2 next s (λ e. omega arith)
  stage_sound (suc (suc (suc zero))) s = comparison_sound d next s
  stage_sound (suc (suc (suc (suc zero)))) s = record { at = prefixes_take d next 4 s }
  stage_sound (suc (suc (suc (suc (suc l))))) s =
      let one : suc (suc (suc (suc (suc (suc l))))) ≢ 1 = λ e. omega arith in
      let four : suc (suc (suc (suc (suc (suc l))))) ≢ 4 = λ e. omega arith in
      let five : suc (suc (suc (suc (suc (suc l))))) ≢ 5 = λ e. omega arith in
      subst (IsSound d (suc (suc (suc (suc (suc (suc l))))))) (sym (stage_chain _ next one four five))
      (chain_sound d _ next s four)

reader_from : (d : ℕ) (r : TreeReader) → IsInside d r → (l : ℕ) → IsSound d l (reader d r l)
unfolding reader
reader_from d r ins zero = record { at = operand_takes d r ins }
reader_from d r ins (suc l) = stage_sound d (reader d r l) l (reader_from d r ins l)

inside_sound : (d : ℕ) → IsInside d (inside d)
unfolding inside
inside_sound zero = record { at = λ ws x h. absurd cc }
inside_sound (suc d) = record { at = λ ws x h. (d, refl, (reader_from d (inside d) (inside_sound d) 7).at ws x h) }

pub reader_sound : (d l : ℕ) → IsSound d l (level_at d l)
reader_sound d l = reader_from d (inside d) (inside_sound d) l

all_ok : (e : Tree) (rest : List Word) (e' : Tree) → whole_tree e rest ≡ Ok e' → (e ≡ e') × (rest ≡ [])
all_ok e [] e' h = (cc, refl)
all_ok e (w ∷ ws) e' h = absurd cc

spelled : (ws front rest : List Word) (e e' : Tree) → Spells e front → ws ≡ front ++ rest → (e ≡ e') × (rest ≡ [])
    → Spells e' ws
spelled ws front rest e e' s w a =
    let same : ws ≡ front = w ∙ ap (λ rest. front ++ rest) a.1 ∙ append-nil front in
    subst (λ e. Spells e ws) a.0 (subst (λ ws. Spells e ws) (sym same) s)

pub parse_sound : (ws : List Word) (e : Tree) → parse ws ≡ Ok e → Spells e ws
unfolding parse
parse_sound ws e h =
    let b = bind_ok (level_at max_depth 7 ws) all_read e h in
    let t = (reader_sound max_depth 7).at ws b.0 b.1 in
    spelled ws t.front b.0.1 b.0.0 e t.stands t.is (all_ok b.0.0 b.0.1 e b.2)
