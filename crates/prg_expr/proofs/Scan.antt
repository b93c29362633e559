-- Scanning, as a loop does it.
use Rattle.std.proofs.Common.{◌≡◌, ℕ, zero, suc, ◌≤◌, List, [], ◌∷◌, ◌++◌, length, map, true, false, Option, None, refl}
use Rattle.std.proofs.Common.{sym, ap, ◌∙◌, arith, append_assoc}
use Rattle.std.proofs.lemmas.List.{append-nil, map_push}
use Rattle.prg_expr.specs.declared.fault.ParseFaultKind.{ParseFaultKind}
use Rattle.prg_expr.specs.declared.token.Line.{Line}
use Rattle.prg_expr.specs.Faults.{least, least_of}
use Rattle.prg_expr.specs.Word.{Word, words}
use Rattle.prg_expr.specs.Lexicon.{is_blank_or_tab, is_comment, Spot, spot, spot_word, spot_fault}
use Rattle.prg_expr.specs.Scanning.{FoundWord, found, with_word, word_at, spots_at, scan, HoldsWords}
use Rattle.prg_expr.proofs.Takes.{word_shorter}
use Rattle.prg_expr.proofs.Lines.{nothing_on, blank_on, comment_on, word_on}

pub record SoFar (text : List ℕ) (ws : List Word) (told : Option ParseFaultKind) (rest : List ℕ) : Type 0 where
  pub front : List Spot
  pub bound : ℕ
  pub enough : length rest ≤ bound
  pub tokens : ws ≡ map spot_word front
  pub faults : told ≡ least_of None (map spot_fault front)
  pub reads : front ++ spots_at bound rest ≡ scan text

pub starts : (text : List ℕ) → SoFar text [] None text
unfolding scan
starts text = record {
  front = [];
  bound = length text;
  enough = omega arith;
  tokens = refl;
  faults = refl;
  reads = refl;
}

least_push : (t : Option ParseFaultKind) (fs : List (Option ParseFaultKind)) (f : Option ParseFaultKind)
    → least_of t (fs ++ f ∷ []) ≡ least (least_of t fs) f
least_push t [] f = refl
least_push t (g ∷ fs) f = least_push (least t g) fs f

some_bound : (b : ℕ) (rest : List ℕ) (n : ℕ) → length (b ∷ rest) ≤ n → (m : ℕ) × (n ≡ suc m)
some_bound b rest zero le = absurd (omega arith)
some_bound b rest (suc m) le = (m, refl)

module _ (text : List ℕ) (ws : List Word) (told : Option ParseFaultKind) where
  pub skips : (b : ℕ) (rest : List ℕ) → SoFar text ws told (b ∷ rest) → is_blank_or_tab b ≡ true
      → SoFar text ws told rest
  skips b rest so h =
      let n = some_bound b rest so.bound so.enough in
      record {
        front = so.front;
        bound = n.0;
        enough = omega (arith, so.enough, n.1);
        tokens = so.tokens;
        faults = so.faults;
        reads = ap (λ (s : List Spot). so.front ++ s) (sym (blank_on n.0 b rest h))
            ∙ ap (λ k. so.front ++ spots_at k (b ∷ rest)) (sym n.1) ∙ so.reads;
      }

  pub takes : (b : ℕ) (rest : List ℕ) (w : Word) (f : Option ParseFaultKind) (after : List ℕ)
      → SoFar text ws told (b ∷ rest) → is_blank_or_tab b ≡ false → is_comment b rest ≡ false
      → found w f after ≡ word_at b rest → SoFar text (ws ++ w ∷ []) (least told f) after
  takes b rest w f after so h c r =
      let n = some_bound b rest so.bound so.enough in
      let lt = word_shorter b rest h c in
      let len : length after ≡ length (word_at b rest).2 = ap (λ (x : FoundWord). length x.2) r in
      record {
        front = so.front ++ spot w f ∷ [];
        bound = n.0;
        enough = omega (arith, so.enough, n.1, lt, len);
        tokens = ap (λ (l : List Word). l ++ w ∷ []) so.tokens ∙ sym (map_push spot_word so.front (spot w f));
        faults = ap (λ (t : Option ParseFaultKind). least t f) so.faults
            ∙ sym (least_push None (map spot_fault so.front) f)
            ∙ ap (least_of None) (sym (map_push spot_fault so.front (spot w f)));
        reads = append_assoc so.front (spot w f ∷ []) (spots_at n.0 after)
            ∙ ap (λ (x : FoundWord). so.front ++ with_word (spots_at n.0) x) r ∙ ap (λ (s : List Spot). so.front ++ s)
            (sym (word_on n.0 b rest h c)) ∙ ap (λ k. so.front ++ spots_at k (b ∷ rest)) (sym n.1) ∙ so.reads;
      }

  at_end : (rest : List ℕ) → (so : SoFar text ws told rest) → spots_at so.bound rest ≡ [] → so.front ≡ scan text
  at_end rest so e = sym (append-nil so.front) ∙ ap (λ (s : List Spot). so.front ++ s) (sym e) ∙ so.reads

holds : (line : Line) (spots front : List Spot) → words line.words.items ≡ map spot_word front
    → line.fault ≡ least_of None (map spot_fault front) → front ≡ spots → HoldsWords spots line
holds line spots front t f e = record {
  tokens = t ∙ ap (map spot_word) e;
  told = f ∙ ap (λ (s : List Spot). least_of None (map spot_fault s)) e;
}

pub ends : (text : List ℕ) (line : Line) → SoFar text (words line.words.items) line.fault []
    → HoldsWords (scan text) line
ends text line so = holds line (scan text) so.front so.tokens so.faults (at_end text _ _ [] so (nothing_on so.bound))

pub stops : (text : List ℕ) (line : Line) (b : ℕ) (rest : List ℕ)
    → SoFar text (words line.words.items) line.fault (b ∷ rest) → is_blank_or_tab b ≡ false → is_comment b rest ≡ true
    → HoldsWords (scan text) line
stops text line b rest so h c =
    let n = some_bound b rest so.bound so.enough in
    holds line (scan text) so.front so.tokens so.faults
    (at_end text _ _ (b ∷ rest) so (ap (λ k. spots_at k (b ∷ rest)) n.1 ∙ comment_on n.0 b rest h c))

pub no_length : (xs : List ℕ) → length xs ≡ 0 → xs ≡ []
no_length [] h = refl
no_length (x ∷ xs) h = absurd (omega arith)
