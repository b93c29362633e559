-- Reading a text finds exactly what it spells.
use Rattle.std.proofs.Common.{◌≡◌, ℕ, ◌≤◌, inl, inr, List, [], ◌∷◌, length, map, false, Option, Some, None, Result, Ok}
use Rattle.std.proofs.Common.{Err, refl, sym, ap, ◌∙◌, subst, arith}
use Rattle.std.specs.Prelude.{IfErr, IfOk, nat_lt, nat_le}
use Rattle.std.proofs.lemmas.List.{length-map}
use Rattle.std.proofs.lemmas.Bool.{le-ltb, ltb-false}
use Rattle.prg_expr.specs.declared.fault.ParseFaultKind.{ParseFaultKind}
use Rattle.prg_expr.specs.declared.fault.ParseFaultKind.TheVariants as fault
use Rattle.prg_expr.specs.declared.fault.ParseFault.{ParseFault}
use Rattle.prg_expr.specs.declared.fault.ParseRefusal.{ParseRefusal}
use Rattle.prg_expr.specs.declared.fault.ParseRefusal.TheVariants as refusal
use Rattle.prg_expr.specs.declared.tree.Expr.{Expr}
use Rattle.prg_expr.specs.Faults.{rank, least, least_of, length_fault, OnFault, Tells}
use Rattle.prg_expr.specs.Tree.{Tree, tree_of}
use Rattle.prg_expr.specs.Word.{Word}
use Rattle.prg_expr.specs.Lexicon.{Spot, spot, spot_word, spot_fault, clean, IsLine}
use Rattle.prg_expr.specs.Reading.{parse}
use Rattle.prg_expr.specs.Scanning.{scan}
use Rattle.prg_expr.specs.Spelling.{Spells, refuse, told_of, tree_of_words, text_fault, read, in_first_line, fault_told}
use Rattle.prg_expr.specs.Spelling.{Answered, Answers}
use Rattle.prg_expr.proofs.Sound.{bool_tells, parse_sound}
use Rattle.prg_expr.proofs.Complete.{parse_complete}
use Rattle.prg_expr.proofs.Lines.{scan_sound, scan_complete, few_spots}

-- nothing is told only where there is nothing
least_none : (t f : Option ParseFaultKind) → least t f ≡ None → (t ≡ None) × (f ≡ None)
least_none None f h = (refl, h)
least_none (Some a) None h = absurd cc
least_none (Some a) (Some b) h = elim (bool_tells (nat_le (rank a) (rank b))) [
  | inl y ↦ absurd (let g : least (Some a) (Some b) ≡ Some a = rw y refl in let k = sym g ∙ h in cc)
  | inr n ↦ absurd (let g : least (Some a) (Some b) ≡ Some b = rw n refl in let k = sym g ∙ h in cc)
]

abbrev AllNone : List Spot → Type 0
AllNone [] = Unit {0}
AllNone (x ∷ xs) = (x.1 ≡ None) × AllNone xs

all_none : (t : Option ParseFaultKind) (spots : List Spot) → least_of t (map spot_fault spots) ≡ None
    → (t ≡ None) × AllNone spots
all_none t [] h = (h, tt)
all_none t (x ∷ xs) h = let a = all_none (least t x.1) xs h in let b = least_none t x.1 a.0 in (b.0, (b.1, a.1))

cleaned : (spots : List Spot) → AllNone spots → spots ≡ map clean (map spot_word spots)
cleaned [] a = refl
cleaned (x ∷ xs) a = ap (λ (f : Option ParseFaultKind). spot x.0 f ∷ xs) a.0 ∙ ap (λ (s : List Spot). clean x.0 ∷ s)
    (cleaned xs a.1)

words_clean : (ws : List Word) → map spot_word (map clean ws) ≡ ws
words_clean [] = refl
words_clean (w ∷ ws) = ap (λ (l : List Word). w ∷ l) (words_clean ws)

faults_clean : (ws : List Word) → least_of None (map spot_fault (map clean ws)) ≡ None
faults_clean [] = refl
faults_clean (w ∷ ws) = faults_clean ws

-- a tree is told only where it was read and there is no other fault
told_ok : (f : Option ParseFaultKind) (r : Result Tree ParseFaultKind) (e : Tree) → told_of f r ≡ Ok e
    → (f ≡ None) × (r ≡ Ok e)
told_ok None (Ok x) e h = (refl, h)
told_ok (Some g) (Ok x) e h = absurd cc
told_ok f (Err g) e h = absurd (refused_err (least f (Some g)) g e h)
  where
    refused_err : (o : Option ParseFaultKind) (g : ParseFaultKind) (e : Tree) → refuse o (Err g) ≡ Ok e → ⊥
    refused_err None g e h = absurd cc
    refused_err (Some k) g e h = absurd cc

short : (bytes : ℕ) → length_fault bytes ≡ None → bytes ≤ 1024
short bytes h = elim (bool_tells (nat_lt 1024 bytes)) [
  | inl y ↦ absurd (let g : length_fault bytes ≡ Some fault.TooLong = rw y refl in let k = sym g ∙ h in cc)
  | inr n ↦ ltb-false 1024 bytes n
]

form_ok : (ws : List Word) (e : Tree) → tree_of_words ws ≡ Ok e → parse ws ≡ Ok e
form_ok ws e h = elim (bool_tells (nat_lt 4096 (length ws))) [
  | inl y ↦ absurd (let g : tree_of_words ws ≡ Err fault.TooLong = rw y refl in let k = sym g ∙ h in cc)
  | inr n ↦ (let g : tree_of_words ws ≡ parse ws = rw n refl in sym g ∙ h)
]

read_sound : (text : List ℕ) (e : Tree) → read text ≡ Ok e → Spells e text
unfolding read
read_sound text e h =
    let t = told_ok (text_fault text) (tree_of_words (map spot_word (scan text))) e h in
    let f = least_none (least_of None (map spot_fault (scan text))) (length_fault (length text)) t.0 in
    let a = all_none None (scan text) f.0 in
    let line = subst (λ (s : List Spot). IsLine s text) (cleaned (scan text) a.1) (scan_sound text) in (
      map spot_word (scan text),
      short (length text) f.1,
      line,
      parse_sound (map spot_word (scan text)) e
          (form_ok (map spot_word (scan text)) e t.1),
    )

short_on : (bytes : ℕ) → bytes ≤ 1024 → length_fault bytes ≡ None
short_on bytes le = let n : nat_lt 1024 bytes ≡ false = le-ltb 1024 bytes le in rw n refl

form_on : (ws : List Word) (e : Tree) → length ws ≤ 1024 → parse ws ≡ Ok e → tree_of_words ws ≡ Ok e
form_on ws e le p = let n : nat_lt 4096 (length ws) ≡ false = le-ltb 4096 (length ws) (omega (arith, le)) in rw n p

-- clean words are as many as are found, no more than the bytes
few_words : (text : List ℕ) (ws : List Word) → scan text ≡ map clean ws → length text ≤ 1024 → length ws ≤ 1024
few_words text ws a le =
    let m = few_spots text in
    let e : length ws ≡ length (scan text) = sym (length-map ws clean) ∙ ap length (sym a) in
    omega (arith, m, e, le)

pub read_complete : (text : List ℕ) (e : Tree) → Spells e text → read text ≡ Ok e
unfolding read
read_complete text e s =
    let a = scan_complete (map clean s.0) text s.2 in
    let w : map spot_word (scan text) ≡ s.0 = ap (map spot_word) a ∙ words_clean s.0 in
    let f : least_of None (map spot_fault (scan text)) ≡ None =
    ap (λ (l : List Spot). least_of None (map spot_fault l)) a ∙ faults_clean s.0 in
    let p = form_on s.0 e (few_words text s.0 a s.1) (parse_complete s.0 e s.3) in
    let form = tree_of_words (map spot_word (scan text)) in
    ap (λ (o : Option ParseFaultKind). told_of (least o (length_fault (length text))) form) f
    ∙ ap (λ (o : Option ParseFaultKind). told_of o form) (short_on (length text) s.1)
    ∙ ap (λ (ws : List Word). told_of None (tree_of_words ws)) w
    ∙ ap (told_of None) p

-- where a tree was read no fault is told
unfaulted : (r : Result Tree ParseFaultKind) (e : Tree) (f : ParseFault) → r ≡ Ok e → in_first_line r ≡ Some f → ⊥
unfaulted r e f h t = let g : in_first_line r ≡ None = ap in_first_line h in let k = sym g ∙ t in absurd cc

pub spelled : (text : List ℕ) (r : Result Expr ParseRefusal) → Answers r (read text)
    → IfOk r (λ e. Spells (tree_of e) text)
spelled text (Ok e) g = read_sound text (tree_of e) g
spelled text (Err e) g = tt

pub only : (text : List ℕ) (r : Result Expr ParseRefusal) → Answers r (read text) → (e : Tree) → Spells e text
    → Answered e r
only text (Ok x) g e s = (let h = sym g ∙ read_complete text e s in cc)
only text (Err refusal.Memory) g e s = tt
only text (Err (refusal.Fault f)) g e s = unfaulted (read text) e f (read_complete text e s) g

pub refused : (text : List ℕ) (r : Result Expr ParseRefusal) → Answers r (read text)
    → IfErr r (λ e. OnFault e ((e : Tree) → Spells e text → ⊥))
refused text (Ok x) g = tt
refused text (Err refusal.Memory) g = tt
refused text (Err (refusal.Fault f)) g = λ e s. unfaulted (read text) e f (read_complete text e s) g

pub told : (text : List ℕ) (r : Result Expr ParseRefusal) → Answers r (read text) → IfErr r (Tells (fault_told text))
told text (Ok x) g = tt
told text (Err e) g = g

pub one_tree : (text : List ℕ) (a b : Tree) → Spells a text → Spells b text → a ≡ b
one_tree text a b s t = let h = sym (read_complete text a s) ∙ read_complete text b t in cc
