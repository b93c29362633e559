-- What the grammar has, reading finds.
use Rattle.std.proofs.Common.{◌≡◌, ◌≢◌, ℕ, zero, suc, ◌<◌, ◌⊎◌, inl, inr, List, [], ◌∷◌, ◌++◌, length, take, true, Some}
use Rattle.std.proofs.Common.{Ok, Err, refl, sym, ap, ◌∙◌, subst, arith, append_assoc, length-append}
use Rattle.std.proofs.lemmas.List.{append-nil}
use Rattle.prg_expr.specs.declared.fault.ParseFaultKind.{ParseFaultKind}
use Rattle.prg_expr.specs.declared.function.Function.{Function}
use Rattle.prg_expr.specs.declared.tree.BinaryOperator.{BinaryOperator}
use Rattle.prg_expr.specs.declared.tree.Prefix.{Prefix}
use Rattle.prg_expr.specs.Functions.{function_named, takes_so_many}
use Rattle.prg_expr.specs.Tree.{Tree, Trees, count}
use Rattle.prg_expr.specs.Tree as tree
use Rattle.prg_expr.specs.Word.{Word}
use Rattle.prg_expr.specs.Word as word
use Rattle.prg_expr.specs.Grammar.{looseness, prefix_of, prefix_level, Free, Stands, number, text, logical, name}
use Rattle.prg_expr.specs.Grammar.{qualified, parentheses, looser, grouped, compared, prefixed, called, called_bare}
use Rattle.prg_expr.specs.Grammar.{Arguments, last, more, max_depth, Spells}
use Rattle.prg_expr.specs.Reading.{TreeRead, TreeReader, turns, chain, comparison_read, prefix_at, prefixes}
use Rattle.prg_expr.specs.Reading.{parenthesis_closed, separator, arguments, call_read, called_at, qualified_at, named}
use Rattle.prg_expr.specs.Reading.{operand, stage, reader, inside, level_at, parse}
use Rattle.prg_expr.proofs.Grammar.{free_less, no_operator, an_operator, Plain, plain_append, prefixes_plain, plain}
use Rattle.prg_expr.proofs.Grammar.{some_at, prefix_levels, never_one, never_five, Unclosed, unclosed_append}
use Rattle.prg_expr.proofs.Grammar.{unclosed_all, called_unclosed, named_free}
use Rattle.prg_expr.proofs.Sound.{Shorter, shorter, operator_tells, reader_sound, stage_chain}

result_tells : (r : TreeRead) → ((x : Tree × List Word) × (r ≡ Ok x)) ⊎ ((f : ParseFaultKind) × (r ≡ Err f))
result_tells (Ok x) = inl (x, refl)
result_tells (Err f) = inr (f, refl)

-- the bound doesn't matter, once it is enough
turns_same : (next : TreeReader) (l : ℕ) → Shorter next → (n m : ℕ) (left : Tree) (ws : List Word) → length ws < n
    → length ws < m → turns n next l left ws ≡ turns m next l left ws
unfolding turns
turns_same next l sh zero m left ws p q = absurd (omega arith)
turns_same next l sh (suc n) zero left ws p q = absurd (omega arith)
turns_same next l sh (suc n) (suc m) left ws p q = elim (operator_tells l ws) [
  | inl none ↦ rw none refl
  | inr o ↦ (let op = o.2 in let len = ap length op.is in elim (result_tells (next o.1)) [
    | inl r ↦ (let lt = sh.at o.1 r.0 r.1 in
        rw (op.read, r.1) (turns_same next l sh n m (tree.Binary o.0 left r.0.0) r.0.1 (omega arith) (omega arith)))
    | inr r ↦ rw (op.read, r.1) refl
  ])
]

module _ (next : TreeReader) (e : Tree) (ws rest : List Word) (h : next (ws ++ rest) ≡ Ok (e, rest)) where
  chain_loops : (l : ℕ) → chain next l (ws ++ rest) ≡ turns (suc (length rest)) next l e rest
  unfolding chain
  chain_loops l = rw h refl

  chain_climbs : (l : ℕ) → Free l rest → chain next l (ws ++ rest) ≡ Ok (e, rest)
  unfolding turns
  chain_climbs l f = let n = no_operator l rest f in chain_loops l ∙ rw n refl

  comparison_climbs : Free 4 rest → comparison_read next (ws ++ rest) ≡ Ok (e, rest)
  unfolding comparison_read
  comparison_climbs f = let n = no_operator 4 rest f in rw (h, n) refl

  climbs : (l : ℕ) → Plain l (ws ++ rest) → Free (suc l) rest → stage (suc l) next (ws ++ rest) ≡ Ok (e, rest)
  unfolding stage
  climbs zero p f = prefixes_plain next 0 (ws ++ rest) p ∙ h
  climbs (suc zero) p f = chain_climbs 2 f
  climbs (suc (suc zero)) p f = chain_climbs 3 f
  climbs (suc (suc (suc zero))) p f = comparison_climbs f
  climbs (suc (suc (suc (suc zero)))) p f = prefixes_plain next 4 (ws ++ rest) p ∙ h
  climbs (suc (suc (suc (suc (suc l))))) p f =
      let one : suc (suc (suc (suc (suc (suc l))))) ≢ 1 = λ e. omega arith in
      let four : suc (suc (suc (suc (suc (suc l))))) ≢ 4 = λ e. omega arith in
      let five : suc (suc (suc (suc (suc (suc l))))) ≢ 5 = λ e. omega arith in
      ap (λ (r : TreeReader). r (ws ++ rest)) (stage_chain _ next one four five) ∙ chain_climbs _ f

-- a further operand of the same level
module _ (next : TreeReader) (l : ℕ) (o : BinaryOperator) (a b : Tree) (aw bw rest : List Word)
    (level : looseness o ≡ l) (sh : Shorter next)
    (left : chain next l (aw ++ (word.Sign o ∷ (bw ++ rest))) ≡ turns
    (suc (length (word.Sign o ∷ (bw ++ rest)))) next l a (word.Sign o ∷ (bw ++ rest)))
    (right : next (bw ++ rest) ≡ Ok (b, rest)) where
  one_more : chain next l ((aw ++ word.Sign o ∷ bw) ++ rest) ≡ turns (suc (length rest)) next l (tree.Binary o a b) rest
  unfolding turns
  one_more =
      let at = an_operator l o (bw ++ rest) level in
      let step : turns (suc (length (word.Sign o ∷ (bw ++ rest)))) next l a (word.Sign o ∷ (bw ++ rest)) ≡ turns
      (length (word.Sign o ∷ (bw ++ rest))) next l (tree.Binary o a b) rest = rw (at, right) refl in
      let same = turns_same next l sh (length (word.Sign o ∷ (bw ++ rest))) (suc (length rest)) (tree.Binary o a b) rest
      (omega (arith, length-append bw rest)) (omega arith) in
      ap (chain next l) (append_assoc aw (word.Sign o ∷ bw) rest) ∙ left ∙ step ∙ same

ends : (next : TreeReader) (l : ℕ) (e : Tree) (rest : List Word) → Free l rest
    → turns (suc (length rest)) next l e rest ≡ Ok (e, rest)
unfolding turns
ends next l e rest f = let n = no_operator l rest f in rw n refl

pub reader_shorter : (d l : ℕ) → Shorter (level_at d l)
reader_shorter d l = shorter (reader_sound d l)

-- a level whose operators group
pub reader_chain : (d l : ℕ) → suc l ≢ 1 → suc l ≢ 4 → suc l ≢ 5 → (ws : List Word)
    → level_at d (suc l) ws ≡ chain (level_at d l) (suc l) ws
unfolding reader
reader_chain d l n m k ws = ap (λ (r : TreeReader). r ws) (stage_chain (suc l) (level_at d l) n m k)

pub not_one : (o : BinaryOperator) (l : ℕ) → looseness o ≡ l → l ≢ 1
not_one o l h e = never_one o (h ∙ e)

pub not_five : (o : BinaryOperator) (l : ℕ) → looseness o ≡ l → l ≢ 5
not_five o l h e = never_five o (h ∙ e)

pub fourth : (d : ℕ) → level_at d 4 ≡ comparison_read (level_at d 3)
unfolding reader stage
fourth d = refl

pub first : (d : ℕ) → level_at d 1 ≡ prefixes (level_at d 0) 1
unfolding reader stage
first d = refl

pub fifth : (d : ℕ) → level_at d 5 ≡ prefixes (level_at d 4) 5
unfolding reader stage
fifth d = refl

compares : (next : TreeReader) (o : BinaryOperator) (a b : Tree) (aw bw rest : List Word) → looseness o ≡ 4
    → next (aw ++ (word.Sign o ∷ (bw ++ rest))) ≡ Ok (a, word.Sign o ∷ (bw ++ rest)) → next (bw ++ rest) ≡ Ok (b, rest)
    → comparison_read next ((aw ++ word.Sign o ∷ bw) ++ rest) ≡ Ok (tree.Binary o a b, rest)
unfolding comparison_read
compares next o a b aw bw rest level left right =
    let at = an_operator 4 o (bw ++ rest) level in
    ap (comparison_read next) (append_assoc aw (word.Sign o ∷ bw) rest) ∙ rw (left, at, right) refl

compares_at : (d : ℕ) (o : BinaryOperator) (a b : Tree) (aw bw rest : List Word) → looseness o ≡ 4
    → level_at d 3 (aw ++ (word.Sign o ∷ (bw ++ rest))) ≡ Ok (a, word.Sign o ∷ (bw ++ rest))
    → level_at d 3 (bw ++ rest) ≡ Ok (b, rest)
    → level_at d 4 ((aw ++ word.Sign o ∷ bw) ++ rest) ≡ Ok (tree.Binary o a b, rest)
compares_at d o a b aw bw rest level left right = ap (λ (r : TreeReader). r ((aw ++ word.Sign o ∷ bw) ++ rest))
    (fourth d) ∙ compares (level_at d 3) o a b aw bw rest level left right

pub closes : (d : ℕ) (e : Tree) (ws rest : List Word)
    → level_at d 7 (ws ++ (word.Close ∷ rest)) ≡ Ok (e, word.Close ∷ rest)
    → level_at (suc d) 0 ((word.Open ∷ (ws ++ word.Close ∷ [])) ++ rest) ≡ Ok (tree.Parentheses e, rest)
unfolding reader operand inside parenthesis_closed
closes d e ws rest h = ap (λ ws. operand (suc d) (inside (suc d)) (word.Open ∷ ws))
    (append_assoc ws (word.Close ∷ []) rest) ∙ rw h refl

prefixes_on : (next : TreeReader) (l : ℕ) (w : Word) (p : Prefix) (e : Tree) (ws rest : List Word)
    → prefix_at l w ≡ Some p → prefixes next l (ws ++ rest) ≡ Ok (e, rest)
    → prefixes next l (w ∷ (ws ++ rest)) ≡ Ok (tree.Prefixed p e, rest)
unfolding prefixes
prefixes_on next l w p e ws rest i h = rw (i, h) refl

-- what a sign or a negation does at its level
abbrev Goes : ℕ → Word → Prefix → Tree → List Word → List Word → ℕ → Type 0
Goes d w p e ws rest l = prefix_at l w ≡ Some p → level_at d l (ws ++ rest) ≡ Ok (e, rest)
    → level_at d l (w ∷ (ws ++ rest)) ≡ Ok (tree.Prefixed p e, rest)

goes_first : (d : ℕ) (w : Word) (p : Prefix) (e : Tree) (ws rest : List Word) → Goes d w p e ws rest 1
goes_first d w p e ws rest i h = ap (λ (r : TreeReader). r (w ∷ (ws ++ rest))) (first d)
    ∙ prefixes_on (level_at d 0) 1 w p e ws rest i (sym (ap (λ (r : TreeReader). r (ws ++ rest)) (first d)) ∙ h)

goes_fifth : (d : ℕ) (w : Word) (p : Prefix) (e : Tree) (ws rest : List Word) → Goes d w p e ws rest 5
goes_fifth d w p e ws rest i h = ap (λ (r : TreeReader). r (w ∷ (ws ++ rest))) (fifth d)
    ∙ prefixes_on (level_at d 4) 5 w p e ws rest i (sym (ap (λ (r : TreeReader). r (ws ++ rest)) (fifth d)) ∙ h)

goes : (d l : ℕ) (w : Word) (p : Prefix) (e : Tree) (ws rest : List Word) → prefix_of w ≡ Some p → prefix_level p ≡ l
    → level_at d l (ws ++ rest) ≡ Ok (e, rest) → level_at d l (w ∷ (ws ++ rest)) ≡ Ok (tree.Prefixed p e, rest)
goes d l w p e ws rest i v h = elim (prefix_levels p) [
  | inl one ↦ subst (Goes d w p e ws rest) (sym one ∙ v) (goes_first d w p e ws rest) (some_at l w p i v) h
  | inr five ↦ subst (Goes d w p e ws rest) (sym five ∙ v) (goes_fifth d w p e ws rest) (some_at l w p i v) h
]

call_on : (f : Function) (es : Trees) (rest : List Word) → takes_so_many f (count es) ≡ true
    → call_read f es rest ≡ Ok (tree.Call f es, rest)
unfolding call_read
call_on f es rest t = rw t refl

bare : (d : ℕ) (r : TreeReader) (f : Function) (rest : List Word)
    → called_at (suc d) r f (word.Close ∷ rest) ≡ call_read f tree.None rest
unfolding called_at
bare d r f rest = refl

opens : (d : ℕ) (r : TreeReader) (s : List ℕ) (f : Function) (ws : List Word) → function_named s ≡ Some f
    → named d r s (word.Open ∷ ws) ≡ called_at d r f ws
unfolding named
opens d r s f ws i = rw i refl

pub bare_calls : (d : ℕ) (s : List ℕ) (f : Function) (rest : List Word) → function_named s ≡ Some f
    → takes_so_many f 0 ≡ true → named (suc d) (inside (suc d)) s (word.Open ∷ word.Close ∷ rest) ≡ Ok
    (tree.Call f tree.None, rest)
bare_calls d s f rest i t = opens (suc d) (inside (suc d)) s f (word.Close ∷ rest) i ∙ bare d (inside (suc d)) f rest
    ∙ call_on f tree.None rest t

pub joins : (d : ℕ) (r : TreeReader) (a s : List ℕ) (rest : List Word)
    → named d r a (word.Arrow ∷ word.Name s ∷ rest) ≡ Ok (tree.Qualified (take 10 a) (take 10 s), rest)
unfolding named qualified_at
joins d r a s rest = refl

calls_on : (d : ℕ) (r : TreeReader) (f : Function) (es : Trees) (ws rest : List Word) → Unclosed ws
    → takes_so_many f (count es) ≡ true → arguments (suc (length ws)) r ws ≡ Ok (es, rest)
    → called_at (suc d) r f ws ≡ Ok (tree.Call f es, rest)
calls_on d r f es ws rest u t h = let c = call_on f es rest t in called_unclosed d r f ws u ∙ rw h c

pub calls : (d : ℕ) (s : List ℕ) (f : Function) (es : Trees) (ws rest : List Word) → function_named s ≡ Some f
    → takes_so_many f (count es) ≡ true → Unclosed ws
    → arguments (suc (length (ws ++ word.Close ∷ rest))) (inside (suc d)) (ws ++ word.Close ∷ rest) ≡ Ok (es, rest)
    → named (suc d) (inside (suc d)) s ((word.Open ∷ (ws ++ word.Close ∷ [])) ++ rest) ≡ Ok (tree.Call f es, rest)
calls d s f es ws rest i t u h =
    ap (λ w. named (suc d) (inside (suc d)) s (word.Open ∷ w)) (append_assoc ws (word.Close ∷ []) rest)
    ∙ opens (suc d) (inside (suc d)) s f (ws ++ word.Close ∷ rest) i
    ∙ calls_on d (inside (suc d)) f es (ws ++ word.Close ∷ rest) rest (unclosed_append ws (word.Close ∷ rest) u) t h

last_on : (d : ℕ) (e : Tree) (ws rest : List Word) (n : ℕ) → length ws < n
    → level_at d 7 (ws ++ word.Close ∷ rest) ≡ Ok (e, word.Close ∷ rest)
    → arguments n (inside (suc d)) (ws ++ word.Close ∷ rest) ≡ Ok (tree.More e tree.None, rest)
unfolding arguments inside separator
last_on d e ws rest zero lt h = absurd (omega arith)
last_on d e ws rest (suc n) lt h = rw h refl

more_on : (d : ℕ) (e : Tree) (es : Trees) (aw bw rest : List Word) (n : ℕ) → length (aw ++ word.Comma ∷ bw) < n
    → level_at d 7 (aw ++ (word.Comma ∷ (bw ++ word.Close ∷ rest))) ≡ Ok (e, word.Comma ∷ (bw ++ word.Close ∷ rest))
    → ((m : ℕ) → length bw < m → arguments m (inside (suc d)) (bw ++ word.Close ∷ rest) ≡ Ok (es, rest))
    → arguments n (inside (suc d)) ((aw ++ word.Comma ∷ bw) ++ word.Close ∷ rest) ≡ Ok (tree.More e es, rest)
unfolding arguments inside separator
more_on d e es aw bw rest zero lt h go = absurd (omega arith)
more_on d e es aw bw rest (suc n) lt h go =
    let g = go n (omega (arith, length-append aw (word.Comma ∷ bw))) in
    ap (λ w. arguments (suc n) (inside (suc d)) w) (append_assoc aw (word.Comma ∷ bw) (word.Close ∷ rest))
    ∙ rw (h, g) refl

mutual
  unfolding reader operand

  pub complete : {d l : ℕ} {e : Tree} {ws : List Word} → Stands d l e ws → (rest : List Word) → Free l rest
      → level_at d l (ws ++ rest) ≡ Ok (e, rest)
  complete number rest f = refl
  complete text rest f = refl
  complete logical rest f = refl
  complete (name {d} {s}) rest f = named_free d (inside d) s 0 rest f
  complete (qualified {d} {a} {s}) rest f = joins d (inside d) a s rest
  complete (called_bare {d} {s} {f = g} i t) rest f = bare_calls d s g rest i t
  complete (called {d} {s} {f = g} {es} {ws} i t a) rest f = calls d s g es ws rest i t (unclosed_all a)
      (lists a rest _ (omega (arith, length-append ws (word.Close ∷ rest))))
  complete (parentheses {d} {e} {ws} s) rest f = closes d e ws rest (complete s (word.Close ∷ rest) tt)
  complete (looser {d} {l} {e} {ws} s) rest f =
      climbs (level_at d l) e ws rest (complete s rest (free_less l (suc l) rest (omega arith) f)) l
      (plain_append l ws rest (plain s)) f
  complete (grouped {d} {l} {o} {a} {b} {aw} {bw} p ne s r) rest f =
      reader_chain d l (not_one o (suc l) p) ne (not_five o (suc l) p) _
      ∙ one_more (level_at d l) (suc l) o a b aw bw rest p (reader_shorter d l)
      (loops s l refl (not_one o (suc l) p) ne (not_five o (suc l) p) (word.Sign o ∷ (bw ++ rest)) (omega arith))
      (complete r rest (free_less l (suc l) rest (omega arith) f))
      ∙ ends (level_at d l) (suc l) (tree.Binary o a b) rest f
  complete (compared {d} {o} {a} {b} {aw} {bw} p s r) rest f =
      compares_at d o a b aw bw rest p (complete s (word.Sign o ∷ (bw ++ rest)) (omega arith))
      (complete r rest (free_less 3 4 rest (omega arith) f))
  complete (prefixed {d} {l} {w} {p} {e} {ws} i v s) rest f = goes d l w p e ws rest i v (complete s rest f)

  -- at a level whose operators group, reading has come to its loop
  pub loops : {d l : ℕ} {e : Tree} {ws : List Word} → Stands d l e ws → (k : ℕ) → l ≡ suc k → suc k ≢ 1 → suc k ≢ 4
      → suc k ≢ 5 → (rest : List Word) → Free k rest
      → chain (level_at d k) (suc k) (ws ++ rest) ≡ turns (suc (length rest)) (level_at d k) (suc k) e rest
  loops number k i o n m rest f = absurd (omega arith)
  loops text k i o n m rest f = absurd (omega arith)
  loops logical k i o n m rest f = absurd (omega arith)
  loops name k i o n m rest f = absurd (omega arith)
  loops qualified k i o n m rest f = absurd (omega arith)
  loops (called_bare j t) k i o n m rest f = absurd (omega arith)
  loops (called j t a) k i o n m rest f = absurd (omega arith)
  loops (parentheses s) k i o n m rest f = absurd (omega arith)
  loops (looser {d} {l} {e} {ws} s) k i o n m rest f =
      let j : l ≡ k = omega arith in
      chain_loops (level_at d k) e ws rest
      (subst (λ k. Free k rest → level_at d k (ws ++ rest) ≡ Ok (e, rest)) j (complete s rest) f) (suc k)
  loops (grouped {d} {l} {o = op} {a} {b} {aw} {bw} p ne s r) k i o n m rest f =
      let j : l ≡ k = omega arith in
      one_more (level_at d k) (suc k) op a b aw bw rest (p ∙ i) (reader_shorter d k)
      (loops s k i o n m (word.Sign op ∷ (bw ++ rest)) (omega arith))
      (subst (λ k. Free k rest → level_at d k (bw ++ rest) ≡ Ok (b, rest)) j (complete r rest) f)
  loops (compared p s r) k i o n m rest f = absurd (n (sym i))
  loops (prefixed {d} {l} {w} {p} {e} {ws} g v s) k i o n m rest f =
      elim (prefix_levels p) [
        | inl one ↦ absurd (o (sym i ∙ sym v ∙ one))
        | inr five ↦ absurd
            (m (sym i ∙ sym v ∙ five))
      ]

  pub lists : {d : ℕ} {es : Trees} {ws : List Word} → Arguments d es ws → (rest : List Word) (n : ℕ) → length ws < n
      → arguments n (inside (suc d)) (ws ++ word.Close ∷ rest) ≡ Ok (es, rest)
  lists (last {d} {e} {ws} s) rest n lt = last_on d e ws rest n lt (complete s (word.Close ∷ rest) tt)
  lists (more {d} {e} {es} {aw} {bw} s a) rest n lt =
      more_on d e es aw bw rest n lt (complete s (word.Comma ∷ (bw ++ word.Close ∷ rest)) tt) (lists a rest)

pub parse_complete : (ws : List Word) (e : Tree) → Spells e ws → parse ws ≡ Ok e
unfolding parse
parse_complete ws e s =
    let h = complete s [] tt in
    let g : level_at max_depth 7 ws ≡ Ok (e, []) = rw append-nil at h in
    rw g refl
