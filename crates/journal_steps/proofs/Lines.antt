-- Lines and the bytes that hold them.
use Rattle.std.proofs.Common.{◌≡◌, ◌≢◌, ℕ, Bool, true, false, cond, eqb, List, [], ◌∷◌, ◌++◌, refl, sym, ap, ◌∙◌}
use Rattle.std.proofs.Common.{append_assoc}
use Rattle.std.specs.List.{AllByRecursion}
use Rattle.std.proofs.lemmas.Bool.{eqb-false, ne_eqb}
use Rattle.std.proofs.lemmas.List.{append-nil}
use Rattle.journal_steps.specs.Folder.{unlines, lines_after_front, whole_lines}
use Rattle.journal_steps.specs.Promise.{IsClean}

-- more bytes leave the lines as they are, and put others behind them
abbrev IsLonger : List (List ℕ) → List (List ℕ) → Type 0
IsLonger after before = (rest : List (List ℕ)) × (after ≡ before ++ rest)

both_longer : (c : Bool) (a b x y : List (List ℕ)) → IsLonger a x → IsLonger b y → IsLonger (cond c a b) (cond c x y)
both_longer true a b x y p q = p
both_longer false a b x y p q = q

pub longer : (front j x : List ℕ) → (rest : List (List ℕ))
    × (lines_after_front front (j ++ x) ≡ lines_after_front front j ++ rest)
longer front [] x = (lines_after_front front x, refl)
longer front (b ∷ bs) x =
    let p = longer [] bs x in
    both_longer (eqb b 10) (front ∷ lines_after_front [] (bs ++ x)) (lines_after_front (front ++ b ∷ []) (bs ++ x))
    (front ∷ lines_after_front [] bs) (lines_after_front (front ++ b ∷ []) bs)
    (p.0, ap (λ (ls : List (List ℕ)). front ∷ ls) p.1) (longer (front ++ b ∷ []) bs x)

-- a line without LF, and LF behind it, are one line
pub one_line : (front line rest : List ℕ) → IsClean line
    → lines_after_front front (line ++ 10 ∷ rest) ≡ (front ++ line) ∷ lines_after_front [] rest
one_line front [] rest clean = ap (λ (l : List ℕ). l ∷ lines_after_front [] rest) (sym (append-nil front))
one_line front (b ∷ bs) rest (ne, clean) =
    ap (λ (c : Bool). cond c (front ∷ lines_after_front [] (bs ++ 10 ∷ rest))
    (lines_after_front (front ++ b ∷ []) (bs ++ 10 ∷ rest)))
    (ne_eqb b 10 ne)
    ∙ one_line (front ++ b ∷ []) bs rest clean
    ∙ ap (λ (l : List ℕ). l ∷ lines_after_front [] rest) (append_assoc front (b ∷ []) bs)

pub whole_again : (lines : List (List ℕ)) → AllByRecursion IsClean lines → whole_lines (unlines lines) ≡ lines
whole_again [] clean = refl
whole_again (l ∷ ls) (here, clean) =
    one_line [] l (unlines ls) here ∙ ap (λ (x : List (List ℕ)). l ∷ x) (whole_again ls clean)

pub unlines_behind : (a b : List (List ℕ)) → unlines (a ++ b) ≡ unlines a ++ unlines b
unlines_behind [] b = refl
unlines_behind (l ∷ ls) b =
    ap (λ (x : List ℕ). l ++ 10 ∷ x) (unlines_behind ls b) ∙ sym (append_assoc l (10 ∷ unlines ls) (unlines b))

-- ---- lines that are read have no LF

clean_behind : (front : List ℕ) (b : ℕ) → IsClean front → b ≢ 10 → IsClean (front ++ b ∷ [])
clean_behind [] b clean ne = (ne, tt)
clean_behind (a ∷ rest) b (here, clean) ne = (here, clean_behind rest b clean ne)

parted : (c : Bool) (b : ℕ) (then_so else_so : List (List ℕ)) → eqb b 10 ≡ c → AllByRecursion IsClean then_so
    → (b ≢ 10 → AllByRecursion IsClean else_so) → AllByRecursion IsClean (cond c then_so else_so)
parted true b t f e p q = p
parted false b t f e p q = q (eqb-false b 10 e)

pub read_clean : (front bytes : List ℕ) → IsClean front → AllByRecursion IsClean (lines_after_front front bytes)
read_clean front [] clean = tt
read_clean front (b ∷ bs) clean =
    parted (eqb b 10) b (front ∷ lines_after_front [] bs) (lines_after_front (front ++ b ∷ []) bs) refl
    (clean, read_clean [] bs tt) (λ ne. read_clean (front ++ b ∷ []) bs (clean_behind front b clean ne))

pub clean_append : (a b : List (List ℕ)) → AllByRecursion IsClean a → AllByRecursion IsClean b
    → AllByRecursion IsClean (a ++ b)
clean_append [] b p q = q
clean_append (l ∷ ls) b (here, p) q = (here, clean_append ls b p q)
