-- Reading goes as far as an expression can.
use Rattle.std.proofs.Common.{◌≡◌, ℕ, zero, suc, ◌≤◌, inl, inr, List, ◌∷◌, ◌++◌, length, take, Some, Result, Ok, Err}
use Rattle.std.proofs.Common.{refl, sym, ap, ◌∙◌, subst, arith, append_assoc, length-append}
use Rattle.std.specs.Prelude.{IfOk}
use Rattle.prg_expr.specs.declared.fault.FormFault.{FormFault}
use Rattle.prg_expr.specs.declared.tree.BinaryOperator.{BinaryOperator}
use Rattle.prg_expr.specs.declared.tree.Prefix.{Prefix}
use Rattle.prg_expr.specs.Tree.{Tree}
use Rattle.prg_expr.specs.Tree as tree
use Rattle.prg_expr.specs.Word.{Word}
use Rattle.prg_expr.specs.Word as word
use Rattle.prg_expr.specs.Grammar.{looseness, prefix_of, prefix_level, Stands, number, text, logical, name, qualified}
use Rattle.prg_expr.specs.Grammar.{parentheses, looser, grouped, compared, prefixed, called, called_bare, max_depth}
use Rattle.prg_expr.specs.Reading.{TreeRead, TreeReader, WordsGive, ◌>>=◌, if_some, operator_at, turns, chain}
use Rattle.prg_expr.specs.Reading.{comparison_read, prefix_at, prefixes, named, operand, reader, inside, level_at}
use Rattle.prg_expr.specs.Spelling.{NoneLonger}
use Rattle.prg_expr.proofs.Grammar.{an_operator, Plain, unclosed_all, plain, plain_append, prefixes_plain, some_at}
use Rattle.prg_expr.proofs.Grammar.{prefix_levels}
use Rattle.prg_expr.proofs.Sound.{Shorter, bind_ok, operator_tells}
use Rattle.prg_expr.proofs.Complete.{complete, loops, lists, joins, bare_calls, calls, closes, reader_shorter}
use Rattle.prg_expr.proofs.Complete.{reader_chain, not_one, not_five, first, fourth, fifth}

abbrev ok : Tree × List Word → TreeRead
ok x = Ok x

same_rest : (x y : Tree × List Word) → ok x ≡ Ok y → length y.1 ≤ length x.1
same_rest x y h = let e : x ≡ y = cc in subst (λ (z : Tree × List Word). length z.1 ≤ length x.1) e (omega arith)

-- at least so much of the words is read
record AtLeast (read : TreeRead) (tail : List Word) : Type 0 where
  at : (x : Tree × List Word) → read ≡ Ok x → length x.1 ≤ length tail

exactly : (read : TreeRead) (e : Tree) (tail : List Word) → read ≡ Ok (e, tail) → AtLeast read tail
exactly read e tail h = record { at = λ x g. same_rest (e, tail) x (sym h ∙ g) }

turns_shrink : (next : TreeReader) (l : ℕ) → Shorter next
    → (n : ℕ) (left : Tree) (ws : List Word) (x : Tree × List Word) → turns n next l left ws ≡ Ok x
    → length x.1 ≤ length ws
unfolding turns
turns_shrink next l sh zero left ws x h = absurd cc
turns_shrink next l sh (suc n) left ws x h = elim (operator_tells l ws) [
  | inl none ↦ same_rest (left, ws) x (sym (rw none refl) ∙ h)
  | inr p ↦ (let op = p.2 in let b = bind_ok (next p.1) (λ y. turns n next l (tree.Binary p.0 left y.0) y.1) x
      (sym (rw op.read refl) ∙ h) in
      let lt = sh.at p.1 b.0 b.1 in
      let go = turns_shrink next l sh n (tree.Binary p.0 left b.0.0) b.0.1 x b.2 in
      omega (arith, lt, go, ap length op.is))
]

module _ (next : TreeReader) (sh : Shorter next) (ws tail : List Word) (below : AtLeast (next ws) tail) where
  chain_goes : (l : ℕ) → AtLeast (chain next l ws) tail
  unfolding chain
  chain_goes l = record {
    at = λ x h. let b = bind_ok (next ws) (λ y. turns (suc (length y.1)) next l y.0 y.1) x h in
        let some = below.at b.0 b.1 in
        let go = turns_shrink next l sh (suc (length b.0.1)) b.0.0 b.0.1 x b.2 in
        omega (arith, some, go);
  }

  comparison_goes : AtLeast (comparison_read next ws) tail
  unfolding comparison_read
  comparison_goes = record {
    at = λ x h. let b = bind_ok (next ws)
        (λ x. if_some (operator_at 4 x.1) (Ok x) (λ o. next o.1 >>= λ y. Ok (tree.Binary o.0 x.0 y.0, y.1))) x h in
        let some = below.at b.0 b.1 in
        elim (operator_tells 4 b.0.1) [
          | inl none ↦ (let go = same_rest b.0 x (sym (rw none refl) ∙ b.2) in omega (arith, some, go))
          | inr p ↦ (let op = p.2 in let c = bind_ok (next p.1) (λ y. Ok (tree.Binary p.0 b.0.0 y.0, y.1)) x
              (sym (rw op.read refl) ∙ b.2) in
              let lt = sh.at p.1 c.0 c.1 in
              let go = same_rest (tree.Binary p.0 b.0.0 c.0.0, c.0.1) x c.2 in
              omega (arith, some, lt, go, ap length op.is))
        ];
  }

abbrev Goes : ℕ → ℕ → List Word → List Word → Type 0
Goes d l ws tail = AtLeast (level_at d l ws) tail

as_read : (r s : TreeRead) (tail : List Word) → r ≡ s → AtLeast s tail → AtLeast r tail
as_read r s tail e g = subst (λ (r : TreeRead). AtLeast r tail) (sym e) g

by_reader : (r s : TreeReader) (ws tail : List Word) → r ≡ s → AtLeast (s ws) tail → AtLeast (r ws) tail
by_reader r s ws tail e g = as_read (r ws) (s ws) tail (ap (λ (r : TreeReader). r ws) e) g

-- what stands at a level, at the next looser one
climbs : (d l : ℕ) (ws tail : List Word) → Plain l (ws ++ tail) → Goes d l (ws ++ tail) tail
    → Goes d (suc l) (ws ++ tail) tail
climbs d zero ws tail p g = by_reader (level_at d 1) (prefixes (level_at d 0) 1) (ws ++ tail) tail (first d)
    (as_read _ _ tail (prefixes_plain (level_at d 0) 0 (ws ++ tail) p) g)
climbs d (suc zero) ws tail p g = as_read _ _ tail
    (reader_chain d 1 (λ e. omega arith) (λ e. omega arith) (λ e. omega arith) (ws ++ tail))
    (chain_goes (level_at d 1) (reader_shorter d 1) (ws ++ tail) tail g 2)
climbs d (suc (suc zero)) ws tail p g =
    as_read _ _ tail (reader_chain d 2 (λ e. omega arith) (λ e. omega arith) (λ e. omega arith) (ws ++ tail))
    (chain_goes (level_at d 2) (reader_shorter d 2) (ws ++ tail) tail g 3)
climbs d (suc (suc (suc zero))) ws tail p g =
    by_reader (level_at d 4) (comparison_read (level_at d 3)) (ws ++ tail) tail (fourth d)
    (comparison_goes (level_at d 3) (reader_shorter d 3) (ws ++ tail) tail g)
climbs d (suc (suc (suc (suc zero)))) ws tail p g =
    by_reader (level_at d 5) (prefixes (level_at d 4) 5) (ws ++ tail) tail (fifth d)
    (as_read _ _ tail (prefixes_plain (level_at d 4) 4 (ws ++ tail) p) g)
climbs d (suc (suc (suc (suc (suc l))))) ws tail p g =
    as_read _ _ tail (reader_chain d (suc (suc (suc (suc (suc l))))) (λ e. omega arith) (λ e. omega arith)
    (λ e. omega arith) (ws ++ tail)) (chain_goes (level_at d (suc (suc (suc (suc (suc l))))))
    (reader_shorter d (suc (suc (suc (suc (suc l)))))) (ws ++ tail) tail g (suc (suc (suc (suc (suc (suc l)))))))

-- a further operand of the same level
one_more : (next : TreeReader) (l : ℕ) (o : BinaryOperator) (a : Tree) (aw bw tail : List Word) → looseness o ≡ l
    → Shorter next
    → chain next l (aw ++ (word.Sign o ∷ (bw ++ tail))) ≡ turns (suc (length (word.Sign o ∷ (bw ++ tail)))) next l a
    (word.Sign o ∷ (bw ++ tail)) → AtLeast (next (bw ++ tail)) tail
    → AtLeast (chain next l ((aw ++ word.Sign o ∷ bw) ++ tail)) tail
unfolding turns
one_more next l o a aw bw tail level sh left right =
    let at = an_operator l o (bw ++ tail) level in
    let n = length (word.Sign o ∷ (bw ++ tail)) in
    let step : turns (suc n) next l a (word.Sign o ∷ (bw ++ tail))
    ≡ (next (bw ++ tail) >>= λ y. turns n next l (tree.Binary o a y.0) y.1) = rw at refl in
    as_read _ _ tail (ap (chain next l) (append_assoc aw (word.Sign o ∷ bw) tail) ∙ left ∙ step) (record {
      at = λ x h. let b = bind_ok (next (bw ++ tail)) (λ y. turns n next l (tree.Binary o a y.0) y.1) x h in
          let some = right.at b.0 b.1 in
          let go = turns_shrink next l sh n (tree.Binary o a b.0.0) b.0.1 x b.2 in
          omega (arith, some, go);
    })

compares : (next : TreeReader) (o : BinaryOperator) (a : Tree) (aw bw tail : List Word) → looseness o ≡ 4
    → next (aw ++ (word.Sign o ∷ (bw ++ tail))) ≡ Ok (a, word.Sign o ∷ (bw ++ tail)) → AtLeast (next (bw ++ tail)) tail
    → AtLeast (comparison_read next ((aw ++ word.Sign o ∷ bw) ++ tail)) tail
unfolding comparison_read
compares next o a aw bw tail level left right =
    let at = an_operator 4 o (bw ++ tail) level in
    let step : comparison_read next (aw ++ (word.Sign o ∷ (bw ++ tail)))
    ≡ (next (bw ++ tail) >>= λ y. Ok (tree.Binary o a y.0, y.1)) = rw (left, at) refl in
    as_read _ _ tail (ap (comparison_read next) (append_assoc aw (word.Sign o ∷ bw) tail) ∙ step) (record {
      at = λ x h. let b = bind_ok (next (bw ++ tail)) (λ y. Ok (tree.Binary o a y.0, y.1)) x h in
          let some = right.at b.0 b.1 in
          let go = same_rest (tree.Binary o a b.0.0, b.0.1) x b.2 in
          omega (arith, some, go);
    })

prefixes_go : (next : TreeReader) (l : ℕ) (w : Word) (p : Prefix) (ws tail : List Word) → prefix_at l w ≡ Some p
    → AtLeast (prefixes next l ws) tail → AtLeast (prefixes next l (w ∷ ws)) tail
unfolding prefixes
prefixes_go next l w p ws tail i g =
    let step : prefixes next l (w ∷ ws) ≡ (prefixes next l ws >>= λ x. Ok (tree.Prefixed p x.0, x.1)) = rw i refl in
    as_read _ _ tail step (record {
      at = λ x h. let b = bind_ok (prefixes next l ws) (λ x. Ok (tree.Prefixed p x.0, x.1)) x h in
          let some = g.at b.0 b.1 in
          let go = same_rest (tree.Prefixed p b.0.0, b.0.1) x b.2 in
          omega (arith, some, go);
    })

abbrev On : ℕ → Word → Prefix → List Word → List Word → ℕ → Type 0
On d w p ws tail l = prefix_at l w ≡ Some p → Goes d l ws tail → Goes d l (w ∷ ws) tail

on_first : (d : ℕ) (w : Word) (p : Prefix) (ws tail : List Word) → On d w p ws tail 1
on_first d w p ws tail i g = by_reader (level_at d 1) (prefixes (level_at d 0) 1) (w ∷ ws) tail (first d)
    (prefixes_go (level_at d 0) 1 w p ws tail i
    (by_reader (prefixes (level_at d 0) 1) (level_at d 1) ws tail (sym (first d)) g))

on_fifth : (d : ℕ) (w : Word) (p : Prefix) (ws tail : List Word) → On d w p ws tail 5
on_fifth d w p ws tail i g = by_reader (level_at d 5) (prefixes (level_at d 4) 5) (w ∷ ws) tail (fifth d)
    (prefixes_go (level_at d 4) 5 w p ws tail i
    (by_reader (prefixes (level_at d 4) 5) (level_at d 5) ws tail (sym (fifth d)) g))

on_level : (d l : ℕ) (w : Word) (p : Prefix) (ws tail : List Word) → prefix_of w ≡ Some p → prefix_level p ≡ l
    → Goes d l ws tail → Goes d l (w ∷ ws) tail
on_level d l w p ws tail i v g = elim (prefix_levels p) [
  | inl one ↦ subst (On d w p ws tail) (sym one ∙ v) (on_first d w p ws tail) (some_at l w p i v) g
  | inr five ↦ subst (On d w p ws tail) (sym five ∙ v) (on_fifth d w p ws tail) (some_at l w p i v) g
]

one_word : (d : ℕ) (w : Word) (tail : List Word) → Goes d 0 (w ∷ tail) tail
one_word d w tail = record { at = λ x h. let lt = (reader_shorter d 0).at (w ∷ tail) x h in omega (arith, lt) }

named_at : (d : ℕ) (s : List ℕ) (ws : List Word) → level_at d 0 (word.Name s ∷ ws) ≡ named d (inside d) s ws
unfolding reader operand
named_at d s ws = refl

goes : {d l : ℕ} {e : Tree} {ws : List Word} → Stands d l e ws → (tail : List Word) → Goes d l (ws ++ tail) tail
goes (number {d} {n}) tail = one_word d (word.Number n) tail
goes (text {d} {s}) tail = one_word d (word.Text s) tail
goes (logical {d} {b}) tail = one_word d (word.Logical b) tail
goes (name {d} {s}) tail = one_word d (word.Name s) tail
goes (qualified {d} {a} {s}) tail = exactly _ (tree.Qualified (take 10 a) (take 10 s)) tail
    (named_at d a _ ∙ joins d (inside d) a s tail)
goes (called_bare {d} {s} {f = g} i t) tail = exactly _ (tree.Call g tree.None) tail
    (named_at (suc d) s _ ∙ bare_calls d s g tail i t)
goes (called {d} {s} {f = g} {es} {ws} i t a) tail =
    exactly _ (tree.Call g es) tail (named_at (suc d) s _ ∙ calls d s g es ws tail i t (unclosed_all a)
    (lists a tail _ (omega (arith, length-append ws (word.Close ∷ tail)))))
goes (parentheses {d} {e} {ws} s) tail =
    exactly _ (tree.Parentheses e) tail (closes d e ws tail (complete s (word.Close ∷ tail) tt))
goes (looser {d} {l} {e} {ws} s) tail = climbs d l ws tail (plain_append l ws tail (plain s)) (goes s tail)
goes (grouped {d} {l} {o} {a} {b} {aw} {bw} p ne s r) tail =
    as_read _ _ tail (reader_chain d l (not_one o (suc l) p) ne (not_five o (suc l) p)
    ((aw ++ word.Sign o ∷ bw) ++ tail)) (one_more (level_at d l) (suc l) o a aw bw tail p (reader_shorter d l)
    (loops s l refl (not_one o (suc l) p) ne (not_five o (suc l) p) (word.Sign o ∷ (bw ++ tail)) (omega arith))
    (goes r tail))
goes (compared {d} {o} {a} {b} {aw} {bw} p s r) tail =
    by_reader (level_at d 4) (comparison_read (level_at d 3)) ((aw ++ word.Sign o ∷ bw) ++ tail) tail (fourth d)
    (compares (level_at d 3) o a aw bw tail p (complete s (word.Sign o ∷ (bw ++ tail)) (omega arith)) (goes r tail))
goes (prefixed {d} {l} {w} {p} {e} {ws} i v s) tail = on_level d l w p (ws ++ tail) tail i v (goes s tail)

none_longer : (ws : List Word) (x : Tree × List Word) → level_at max_depth 7 ws ≡ Ok x → NoneLonger ws x.1
none_longer ws x h = λ e front others s i. (goes s others).at x (ap (level_at max_depth 7) (sym i) ∙ h)

pub longest : {X : Type 0} (view : X → Tree × List Word) (ws : List Word) (r : Result X FormFault)
    → WordsGive view r (level_at max_depth 7 ws) → IfOk r (λ x. NoneLonger ws (view x).1)
longest view ws (Ok x) g = none_longer ws (view x) g
longest view ws (Err e) g = tt
