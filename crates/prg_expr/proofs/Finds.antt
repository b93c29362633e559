-- What reading finds where a word stands.
use Rattle.std.proofs.Common.{◌≡◌, ℕ, zero, suc, ◌<◌, ◌≤◌, inl, inr, List, [], ◌∷◌, ◌++◌, length, take, drop, map}
use Rattle.std.proofs.Common.{false, not, Option, Some, None, refl, sym, ap, ◌∙◌, subst, arith, eq-eqb, eqb, cond}
use Rattle.std.specs.Prelude.{◌==◌, ◌+◌}
use Rattle.std.specs.Char.{is_ascii_digit, is_ascii_alphabetic, to_ascii_lowercase, to_ascii_uppercase}
use Rattle.std.specs.List.{prefix_len}
use Rattle.fixed_num.specs.Reading.{parsed}
use Rattle.std.proofs.Math.Seq.{take-append_seam, drop-append_seam}
use Rattle.std.proofs.lemmas.List.{append-nil}
use Rattle.std.proofs.lemmas.Bool.Decides.{nat_tests}
use Rattle.std.proofs.lemmas.Bool.{ne_eqb}
use Rattle.prg_expr.specs.declared.fault.ParseFaultKind.TheVariants as fault
use Rattle.prg_expr.specs.Word.{Word, Number, Text, Name, Outside, Point, Macro, Faulty}
use Rattle.prg_expr.specs.Lexicon.{goes_on_name, is_blank_or_tab, is_quote, digit_first, decimals, singles, single_in}
use Rattle.prg_expr.specs.Lexicon.{pairs, pair_in, pointed, IsOneOf, NoneInFront, EachPasses, FirstFails, Alone, over}
use Rattle.prg_expr.specs.Lexicon.{number_fault}
use Rattle.prg_expr.specs.Scanning.{found, clean_at, number_len, number_scanned, name_scanned, text_end, text_scanned}
use Rattle.prg_expr.specs.Scanning.{pick, single_at, symbol_at, word_at}
use Rattle.prg_expr.specs.Reading.{if_some}
use Rattle.prg_expr.proofs.Bytes.{prefix_is, cond_false, Entry, entry, after_finds, differs, Apart, differs_listed}
use Rattle.prg_expr.proofs.Bytes.{after_differs}

-- numbers
take_over : (xs ys : List ℕ) (m n : ℕ) → n ≡ length xs + m → take n (xs ++ ys) ≡ xs ++ take m ys
take_over [] ys m n e = let f : n ≡ m = omega (arith, e) in ap (λ k. take k ys) f
take_over (x ∷ xs) ys m zero e = absurd (omega (arith, e))
take_over (x ∷ xs) ys m (suc n) e = ap (λ (l : List ℕ). x ∷ l) (take_over xs ys m n (omega (arith, e)))

drop_over : (xs ys : List ℕ) (m n : ℕ) → n ≡ length xs + m → drop n (xs ++ ys) ≡ drop m ys
drop_over [] ys m n e = let f : n ≡ m = omega (arith, e) in ap (λ k. drop k ys) f
drop_over (x ∷ xs) ys m zero e = absurd (omega (arith, e))
drop_over (x ∷ xs) ys m (suc n) e = drop_over xs ys m n (omega (arith, e))

number_is : (n k len : ℕ) (bytes digits behind front rest : List ℕ) → prefix_len is_ascii_digit bytes ≡ n
    → drop n bytes ≡ behind → decimals behind ≡ k → number_len n k ≡ len → take len bytes ≡ front
    → drop len bytes ≡ rest
    → number_scanned bytes ≡ found (Number (parsed front)) (number_fault n k) rest
unfolding number_scanned
number_is n k len bytes digits behind front rest p d q l t r = rw (p, d, q, l, t, r) refl

len_some : (n k : ℕ) → 0 < k → number_len n k ≡ n + (1 + k)
len_some n k p = let no : eqb k 0 ≡ false = ne_eqb k 0 (λ e. omega arith) in rw no refl

point_decimals : (behind rest : List ℕ) → EachPasses is_ascii_digit behind → FirstFails is_ascii_digit rest
    → decimals (46 ∷ (behind ++ rest)) ≡ length behind
unfolding decimals
point_decimals behind rest e s = prefix_is is_ascii_digit behind rest e s

pub whole_read : (digits rest : List ℕ) → EachPasses is_ascii_digit digits → FirstFails is_ascii_digit rest
    → decimals rest ≡ 0 → number_scanned (digits ++ rest) ≡ found (Number (parsed digits))
    (number_fault (length digits) 0) rest
whole_read digits rest e s z =
    number_is (length digits) 0 (length digits) (digits ++ rest) digits rest digits rest
    (prefix_is is_ascii_digit digits rest e s) (drop-append_seam digits rest) z refl (take-append_seam digits rest)
    (drop-append_seam digits rest)

pub decimal_read : (digits behind rest : List ℕ) → EachPasses is_ascii_digit digits → 0 < length behind
    → EachPasses is_ascii_digit behind → FirstFails is_ascii_digit rest
    → number_scanned (digits ++ (46 ∷ (behind ++ rest))) ≡ found (Number (parsed (digits ++ 46 ∷ behind)))
    (number_fault (length digits) (length behind)) rest
decimal_read digits behind rest e p f s =
    let n = length digits in
    let k = length behind in
    let bytes = digits ++ (46 ∷ (behind ++ rest)) in
    number_is n k (n + (1 + k)) bytes digits (46 ∷ (behind ++ rest)) (digits ++ 46 ∷ behind) rest
    (prefix_is is_ascii_digit digits (46 ∷ (behind ++ rest)) e refl)
    (drop-append_seam digits (46 ∷ (behind ++ rest)))
    (point_decimals behind rest f s) (len_some n k p)
    (take_over digits (46 ∷ (behind ++ rest)) (1 + k) (n + (1 + k)) refl
    ∙ ap (λ (l : List ℕ). digits ++ l) (take_over (46 ∷ []) (behind ++ rest) k (1 + k) (omega arith)
    ∙ ap (λ (l : List ℕ). 46 ∷ l) (take-append_seam behind rest)))
    (drop_over digits (46 ∷ (behind ++ rest)) (1 + k) (n + (1 + k)) refl ∙ drop_over (46 ∷ []) (behind ++ rest) k
    (1 + k) (omega arith) ∙ drop-append_seam behind rest)

-- names
name_is : (n : ℕ) (bytes front rest : List ℕ) → prefix_len goes_on_name bytes ≡ n → take n bytes ≡ front
    → drop n bytes ≡ rest → name_scanned bytes ≡ found (Name (map to_ascii_uppercase front)) (over 10 n) rest
unfolding name_scanned
name_is n bytes front rest p t d = rw (p, t, d) refl

pub name_read : (letters rest : List ℕ) → EachPasses goes_on_name letters → FirstFails goes_on_name rest
    → name_scanned (letters ++ rest) ≡ found (Name (map to_ascii_uppercase letters)) (over 10 (length letters)) rest
name_read letters rest e s = name_is (length letters) (letters ++ rest) letters rest
    (prefix_is goes_on_name letters rest e s) (take-append_seam letters rest) (drop-append_seam letters rest)

-- texts
text_is : (n c : ℕ) (bytes s rest : List ℕ) → prefix_len (λ b. not (b == c)) bytes ≡ n → take n bytes ≡ s
    → drop n bytes ≡ rest → text_scanned c bytes ≡ text_end s rest
unfolding text_scanned
text_is n c bytes s rest p t d = rw (p, t, d) refl

pub text_read : (c : ℕ) (s rest : List ℕ) → EachPasses (λ b. not (b == c)) s
    → text_scanned c (s ++ (c ∷ rest)) ≡ found (Text (take 254 s)) (over 254 (length s)) rest
text_read c s rest e =
    let test = λ (b : ℕ). not (b == c) in
    let stop : FirstFails test (c ∷ rest) = ap not (eq-eqb c c refl) in
    text_is (length s) c (s ++ (c ∷ rest)) s (c ∷ rest) (prefix_is test s (c ∷ rest) e stop)
    (take-append_seam s (c ∷ rest)) (drop-append_seam s (c ∷ rest))

unended_at : (c : ℕ) (s : List ℕ) → EachPasses (λ b. not (b == c)) s
    → text_scanned c (s ++ []) ≡ found (Text (take 254 s)) (Some fault.Text) []
unended_at c s e = let test = λ (b : ℕ). not (b == c) in
    text_is (length s) c (s ++ []) s [] (prefix_is test s [] e tt) (take-append_seam s []) (drop-append_seam s [])

pub unended_read : (c : ℕ) (s : List ℕ) → EachPasses (λ b. not (b == c)) s
    → text_scanned c s ≡ found (Text (take 254 s)) (Some fault.Text) []
unended_read c s e = ap (text_scanned c) (sym (append-nil s)) ∙ unended_at c s e

-- words behind a point
pub pick_finds : (table : List Entry) (letters rest : List ℕ) (t : Word) → Apart table
    → IsOneOf (entry (map to_ascii_lowercase letters) t) table → pick table (letters ++ rest) ≡ clean_at t rest
pick_finds [] letters rest t a i = absurd i
pick_finds (x ∷ xs) letters rest t a (inl i) =
    let h : pick (entry (map to_ascii_lowercase letters) t ∷ xs) (letters ++ rest) ≡ clean_at t rest =
    rw (after_finds letters rest) refl in
    subst (λ (x : Entry). pick (x ∷ xs) (letters ++ rest) ≡ clean_at t rest) i h
pick_finds (x ∷ xs) letters rest t a (inr i) =
    let n = after_differs x.0 letters rest (differs_listed x.0 (map to_ascii_lowercase letters) t xs a.0 i) in
    rw n (pick_finds xs letters rest t a.1 i)

pub pointed_apart : Apart pointed
unfolding differs
pointed_apart = (
  (refl, (refl, (refl, (refl, (refl, (refl, tt)))))),
  (
    (refl, (refl, (refl, (refl, (refl, tt))))),
    ((refl, (refl, (refl, (refl, tt)))), ((refl, (refl, (refl, tt))), ((refl, (refl, tt)), ((refl, tt), (tt, tt))))),
  ),
)

pub pick_none : (table : List Entry) (bytes : List ℕ) → NoneInFront table bytes
    → pick table bytes ≡ clean_at (Outside Point) bytes
pick_none [] bytes n = refl
pick_none (x ∷ xs) bytes n = let none = n.0 in rw none (pick_none xs bytes n.1)

-- the first byte is a small letter or what comes behind these
abbrev High : List ℕ → Type 0
High [] = ⊥
High (c ∷ cs) = 97 ≤ c

abbrev AllHigh : List Entry → Type 0
AllHigh [] = Unit {0}
AllHigh (x ∷ xs) = High x.0 × AllHigh xs

listed_high : (v : List ℕ) (t : Word) (table : List Entry) → AllHigh table → IsOneOf (entry v t) table → High v
listed_high v t [] a i = absurd i
listed_high v t (x ∷ xs) a (inl i) = subst (λ (x : Entry). High x.0) (sym i) a.0
listed_high v t (x ∷ xs) a (inr i) = listed_high v t xs a.1 i

pointed_high : AllHigh pointed
pointed_high = (
  omega arith,
  (
    omega arith,
    (omega arith, (omega arith, (omega arith, (omega arith, (omega arith, tt))))),
  ),
)

no_digit : (b : ℕ) → 97 ≤ to_ascii_lowercase b → is_ascii_digit b ≡ false
no_digit b h = grind (arith, nat_tests)

high_digit : (letters rest : List ℕ) → High (map to_ascii_lowercase letters) → digit_first (letters ++ rest) ≡ false
high_digit [] rest h = absurd h
high_digit (b ∷ letters) rest h = no_digit b h

pub pointed_digit : (letters rest : List ℕ) (t : Word) → IsOneOf (entry (map to_ascii_lowercase letters) t) pointed
    → digit_first (letters ++ rest) ≡ false
pointed_digit letters rest t i = high_digit letters rest
    (listed_high (map to_ascii_lowercase letters) t pointed pointed_high i)

-- symbols
pub single_read : (b : ℕ) (w : Word) (rest : List ℕ) → single_in singles b ≡ Some w → single_at b rest ≡ clean_at w rest
unfolding single_at
single_read b w rest h = ap (λ (o : Option Word). if_some o
    (cond (b == 38) (found (Outside Macro) (Some fault.Macro) rest)
    (found (Outside Faulty) (Some fault.Character) rest)) (λ w. clean_at w rest)) h

pub other_read : (b : ℕ) (rest : List ℕ) → single_in singles b ≡ None → (b == 38) ≡ false
    → single_at b rest ≡ found (Outside Faulty) (Some fault.Character) rest
unfolding single_at
other_read b rest h n = ap (λ (o : Option Word). if_some o
    (cond (b == 38) (found (Outside Macro) (Some fault.Macro) rest)
    (found (Outside Faulty) (Some fault.Character) rest)) (λ w. clean_at w rest)) h ∙ cond_false (b == 38) _ _ n

pub symbol_alone : (b : ℕ) (rest : List ℕ) → Alone b rest → symbol_at b rest ≡ single_at b rest
unfolding symbol_at
symbol_alone b [] a = refl
symbol_alone b (c ∷ rest) a = ap (λ (o : Option Word). if_some o (single_at b (c ∷ rest)) (λ w. clean_at w rest)) a

pub symbol_pair : (b c : ℕ) (w : Word) (rest : List ℕ) → pair_in pairs b c ≡ Some w
    → symbol_at b (c ∷ rest) ≡ clean_at w rest
unfolding symbol_at
symbol_pair b c w rest a = ap (λ (o : Option Word). if_some o (single_at b (c ∷ rest)) (λ w. clean_at w rest)) a

macro_alone : (rest : List ℕ) → Alone 38 rest
macro_alone [] = tt
macro_alone (c ∷ rest) = refl

pub macro_read : (rest : List ℕ) → symbol_at 38 rest ≡ found (Outside Macro) (Some fault.Macro) rest
unfolding single_at
macro_read rest = symbol_alone 38 rest (macro_alone rest)

-- a byte that begins a symbol or nothing
pub record Other (b : ℕ) : Type 0 where
  pub no_blank : is_blank_or_tab b ≡ false
  pub no_digit : is_ascii_digit b ≡ false
  pub no_letter : is_ascii_alphabetic b ≡ false
  pub no_point : (b == 46) ≡ false
  pub no_quote : is_quote b ≡ false
  pub no_macro : (b == 38) ≡ false

pub other_word : (b : ℕ) (rest : List ℕ) → is_ascii_digit b ≡ false → is_ascii_alphabetic b ≡ false → (b == 46) ≡ false
    → is_quote b ≡ false → word_at b rest ≡ symbol_at b rest
unfolding word_at
other_word b rest d l p q = cond_false (is_ascii_digit b) _ _ d ∙ cond_false (is_ascii_alphabetic b) _ _ l
    ∙ cond_false (b == 46) _ _ p ∙ cond_false (is_quote b) _ _ q
