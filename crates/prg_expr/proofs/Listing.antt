-- Arguments, as a loop reads them.
use Rattle.std.proofs.Common.{◌≡◌, ℕ, zero, suc, ◌<◌, List, [], ◌∷◌, ◌++◌, length, Bool, true, false, Ok, Err, refl}
use Rattle.std.proofs.Common.{sym, ap, ◌∙◌, arith}
use Rattle.prg_expr.specs.declared.fault.FormFault.{FormFault}
use Rattle.prg_expr.specs.declared.fault.FormFault.TheVariants as form_fault
use Rattle.prg_expr.specs.declared.tree.Expr.{Expr}
use Rattle.prg_expr.specs.Tree.{Tree, Trees, None, More, tree_of, trees_of}
use Rattle.prg_expr.specs.Word.{Word}
use Rattle.prg_expr.specs.Reading.{TreeReader, Listing, WordsFail, ◌>>=◌, separator, after_argument, arguments}

abbrev pub join : Trees → Trees → Trees
join None u = u
join (More t ts) u = More t (join ts u)

join_assoc : (a b c : Trees) → join (join a b) c ≡ join a (join b c)
join_assoc None b c = refl
join_assoc (More t a) b c = ap (More t) (join_assoc a b c)

pub trees_push : (es : List Expr) (e : Expr) → trees_of (es ++ e ∷ []) ≡ join (trees_of es) (More (tree_of e) None)
trees_push [] e = refl
trees_push (x ∷ es) e = ap (More (tree_of x)) (trees_push es e)

abbrev pub with_front : Trees → Listing → Listing
with_front ts a = a >>= λ x. Ok (join ts x.0, x.1)

front_none : (a : Listing) → with_front None a ≡ a
front_none (Ok x) = refl
front_none (Err f) = refl

front_more : (ts : Trees) (e : Tree) (a : Listing)
    → with_front ts (a >>= λ y. Ok (More e y.0, y.1)) ≡ with_front (join ts (More e None)) a
front_more ts e (Ok x) = ap (λ (t : Trees). Ok (t, x.1)) (sym (join_assoc ts (More e None) x.0))
front_more ts e (Err f) = refl

-- what is read so far, where more is to come or not
abbrev pub SoFar : TreeReader → Listing → Bool → Trees → List Word → Type 0
SoFar r total true found rest = (n : ℕ) × (length rest < n) × (with_front found (arguments n r rest) ≡ total)
SoFar r total false found rest = total ≡ Ok (found, rest)

pub starts : (r : TreeReader) (ws : List Word) → SoFar r (arguments (suc (length ws)) r ws) true None ws
starts r ws = (suc (length ws), omega arith, front_none (arguments (suc (length ws)) r ws))

module _ (r : TreeReader) (total : Listing) (found : Trees) (rest : List Word) where
  step_at : (n : ℕ) (e : Tree) (after others : List Word) (b : Bool) → length rest < n → r rest ≡ Ok (e, after)
      → separator after ≡ Ok (b, others)
      → (m : ℕ) × (n ≡ suc m) × (arguments n r rest ≡ after_argument (arguments m r) e (b, others))
  unfolding arguments
  step_at zero e after others b lt h g = absurd (omega arith)
  step_at (suc m) e after others b lt h g = (m, refl, rw (h, g) refl)

  pub steps : (e : Tree) (after others : List Word) (b : Bool) → SoFar r total true found rest → r rest ≡ Ok (e, after)
      → separator after ≡ Ok (b, others) → length others < length rest
      → SoFar r total b (join found (More e None)) others
  steps e after others true so h g lt = let s = step_at so.0 e after others true so.1 h g in (
    s.0,
    omega (arith, so.1, s.1),
    sym (front_more found e (arguments s.0 r others))
        ∙ sym (ap (with_front found) s.2) ∙ so.2,
  )
  steps e after others false so h g lt = let s = step_at so.0 e after others false so.1 h g in
      sym so.2 ∙ ap (with_front found) s.2

  fails_as : (a b : Listing) (f : FormFault) → a ≡ b → WordsFail f a → WordsFail f b
  fails_as a b form_fault.Memory p h = tt
  fails_as a b (form_fault.Kind f) p h = sym p ∙ h

  fails_at : (n : ℕ) (f : FormFault) → length rest < n → WordsFail f (r rest)
      → WordsFail f (with_front found (arguments n r rest))
  unfolding arguments
  fails_at zero f lt h = absurd (omega arith)
  fails_at (suc m) form_fault.Memory lt h = tt
  fails_at (suc m) (form_fault.Kind f) lt h = rw h refl

  pub fails : (f : FormFault) → SoFar r total true found rest → WordsFail f (r rest) → WordsFail f total
  fails f so h = fails_as _ _ f so.2 (fails_at so.0 f so.1 h)

  unparted_at : (n : ℕ) (f : FormFault) (e : Tree) (after : List Word) → length rest < n → r rest ≡ Ok (e, after)
      → WordsFail f (separator after) → WordsFail f (with_front found (arguments n r rest))
  unfolding arguments
  unparted_at zero f e after lt h g = absurd (omega arith)
  unparted_at (suc m) form_fault.Memory e after lt h g = tt
  unparted_at (suc m) (form_fault.Kind f) e after lt h g = rw (h, g) refl

  pub unparted : (f : FormFault) (e : Tree) (after : List Word) → SoFar r total true found rest → r rest ≡ Ok (e, after)
      → WordsFail f (separator after) → WordsFail f total
  unparted f e after so h g = fails_as _ _ f so.2 (unparted_at so.0 f e after so.1 h g)
