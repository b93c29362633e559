-- Pieces behind pieces.
use Rattle.std.proofs.Common.{◌≡◌, ℕ, zero, suc, Bool, List, [], ◌∷◌, ◌++◌, Option, Some, slice_get, ◌+◌, ◌<◌, length}
use Rattle.std.proofs.Common.{take, get_or, sym, ap, ◌∙◌, subst}
use Rattle.std.specs.List.{AllZip}
use Rattle.std.proofs.lemmas.List.{append_assoc, append-nil, take_more}
use Rattle.xvalue.specs.declared.value.Value.{Value}
use Rattle.code_items.specs.declared.instr.Instr.{Instr}
use Rattle.prg_code.specs.Numbers.{Grows}
use Rattle.prg_expr.specs.Tree.{tree_of, trees_of}
use Rattle.prg_expr.specs.declared.tree.Expr.{Expr}
use Rattle.prg_values.specs.declared.operators.OperatorMeaning.{OperatorMeaning}
use Rattle.prg_values.specs.Readings.{Scoped}
use Rattle.prg_values.specs.Written.{Piece, Constant, Does, IsPiece, pieces_in, all_pieces, operation_pieces}
use Rattle.prg_values.specs.Written.{operator_pieces, swapped_if}

-- a constant keeps its number
pub still_there : (earlier more : List Value) (n : ℕ) (v : Value) → slice_get earlier n ≡ Some v
    → slice_get (earlier ++ more) n ≡ Some v
still_there [] more n v e = absurd (let k = e in cc)
still_there (x ∷ xs) more zero v e = e
still_there (x ∷ xs) more (suc n) v e = still_there xs more n v e

piece_kept : (earlier more : List Value) (p : Piece) (i : Instr) → IsPiece earlier p i → IsPiece (earlier ++ more) p i
piece_kept earlier more (Constant v) i h = (h.0, still_there earlier more h.0 v h.1, h.2)
piece_kept earlier more (Does j) i h = h

both_kept : (earlier more : List Value) (ps : List Piece) (is : List Instr) (p : Piece) (i : Instr)
    → AllZip (IsPiece earlier) ps is → IsPiece (earlier ++ more) p i
    → AllZip (IsPiece (earlier ++ more)) (ps ++ p ∷ []) (is ++ i ∷ [])
both_kept earlier more [] [] p i h last = (last, tt)
both_kept earlier more [] (j ∷ is) p i h last = absurd h
both_kept earlier more (q ∷ ps) [] p i h last = absurd h
both_kept earlier more (q ∷ ps) (j ∷ is) p i h last =
    (piece_kept earlier more q j h.0, both_kept earlier more ps is p i h.1 last)

-- what was numbered, and one piece more
pub one_more : (earlier later : List Value) (ps : List Piece) (is : List Instr) (p : Piece) (i : Instr)
    (qs : List Piece) (js : List Instr) → qs ≡ ps ++ p ∷ [] → js ≡ is ++ i ∷ [] → Grows earlier later
    → AllZip (IsPiece earlier) ps is → IsPiece later p i
    → AllZip (IsPiece later) qs js
one_more earlier later ps is p i qs js e f grown h last =
    subst (λ (xs : List Piece). AllZip (IsPiece later) xs js) (sym e)
    (subst (λ (ys : List Instr). AllZip (IsPiece later) (ps ++ p ∷ []) ys) (sym f)
    (subst (λ (cs : List Value). AllZip (IsPiece cs) (ps ++ p ∷ []) (is ++ i ∷ [])) (sym grown.1)
    (both_kept earlier grown.0 ps is p i h (subst (λ (cs : List Value). IsPiece cs p i) grown.1 last))))

-- some pieces, and others behind them
pub then : (ps qs old between new : List Piece) → between ≡ old ++ ps → new ≡ between ++ qs → new ≡ old ++ (ps ++ qs)
then ps qs old between new a b = b ∙ ap (λ (xs : List Piece). xs ++ qs) a ∙ append_assoc old ps qs

-- two operands and the function, in either order
pub both_put : (o : Option OperatorMeaning) (op : OperatorMeaning) (swapped : Bool) (a b old between new : List Piece)
    → o ≡ Some op → op.swapped ≡ swapped → between ≡ old ++ swapped_if swapped a b
    → new ≡ between ++ operation_pieces op → new ≡ old ++ operator_pieces o a b
both_put o op swapped a b old between new is order first last =
    subst (λ x. new ≡ old ++ operator_pieces x a b) (sym is)
    (subst (λ y. new ≡ old ++ (swapped_if y a b ++ operation_pieces op)) (sym order)
    (then (swapped_if swapped a b) (operation_pieces op) old between new first last))

-- what is written for one more expression
pieces_behind : (s : Scoped) (es : List Expr) (e : Expr)
    → all_pieces s (trees_of (es ++ e ∷ [])) ≡ all_pieces s (trees_of es) ++ pieces_in s (tree_of e)
pieces_behind s [] e = append-nil (pieces_in s (tree_of e))
pieces_behind s (x ∷ es) e = ap (λ (ps : List Piece). pieces_in s (tree_of x) ++ ps) (pieces_behind s es e)
    ∙ sym (append_assoc (pieces_in s (tree_of x)) (all_pieces s (trees_of es)) (pieces_in s (tree_of e)))

pub take_next : {A : Type 0} (es : List A) (i : ℕ) (e : A) → i < length es → e ≡ get_or es i e
    → take (i + 1) es ≡ take i es ++ e ∷ []
take_next es i e low there = take_more es i e low ∙ ap (λ y. take i es ++ y ∷ []) (sym there)

-- one more expression
pub next_put : (s : Scoped) (es : List Expr) (i : ℕ) (e : Expr) (old between new : List Piece) → i < length es
    → e ≡ get_or es i e → between ≡ old ++ all_pieces s (trees_of (take i es))
    → new ≡ between ++ pieces_in s (tree_of e) → new ≡ old ++ all_pieces s (trees_of (take (i + 1) es))
next_put s es i e old between new low there first last =
    subst (λ (ps : List Piece). new ≡ old ++ ps)
    (sym (ap (λ (xs : List Expr). all_pieces s (trees_of xs)) (take_next es i e low there)
    ∙ pieces_behind s (take i es) e))
    (then (all_pieces s (trees_of (take i es))) (pieces_in s (tree_of e)) old between new first last)
