-- A line has the words that scanning finds.
use Rattle.std.proofs.Common.{◌≡◌, ℕ, zero, suc, ◌≤◌, ◌<◌, inl, inr, List, [], ◌∷◌, ◌++◌, length, Bool, cond}
use Rattle.std.proofs.Common.{true, false, map}
use Rattle.std.proofs.Common.{Option, Some, None, refl, sym, ap, ◌∙◌, subst, arith, append_assoc, length-append}
use Rattle.std.specs.Prelude.{◌==◌, ◌&&◌}
use Rattle.std.specs.Char.{is_ascii_digit, is_ascii_alphabetic}
use Rattle.std.proofs.lemmas.List.{append-nil}
use Rattle.std.proofs.lemmas.Bool.Decides.{eqb_tells, nat_tests}
use Rattle.std.proofs.Common.{Result, Ok, Err}
use Rattle.std.specs.declared.alloc.AllocError.{AllocError}
use Rattle.std.specs.Prelude.{IfOk}
use Rattle.std.proofs.lemmas.Bool.{and_parts, and_left}
use Rattle.prg_expr.specs.declared.token.Line.{Line}
use Rattle.prg_expr.specs.Scanning.{IsScanned, IsWordsOf}
use Rattle.prg_expr.specs.declared.fault.ParseFaultKind.{ParseFaultKind}
use Rattle.prg_expr.specs.Word.{Word}
use Rattle.prg_expr.specs.Lexicon.{is_blank_or_tab, is_quote, is_comment, digit_first, closing, singles, single_in}
use Rattle.prg_expr.specs.Lexicon.{pairs, pair_in, pointed, EachPasses, FirstFails, IsWord, whole, decimal, name, text}
use Rattle.prg_expr.specs.Lexicon.{unended, behind_point, lone_point, pair, single, macro, strange, Spot, spot, IsLine}
use Rattle.prg_expr.specs.Lexicon.{nothing, comment, blank, word}
use Rattle.prg_expr.specs.Scanning.{found, number_scanned, name_scanned, text_scanned, pick, symbol_at, word_at}
use Rattle.prg_expr.specs.Scanning.{with_word, spots_at, scan}
use Rattle.prg_expr.proofs.Sound.{bool_tells}
use Rattle.prg_expr.proofs.Bytes.{cond_true, cond_false}
use Rattle.prg_expr.proofs.Finds.{whole_read, decimal_read, name_read, text_read, unended_read, pick_finds}
use Rattle.prg_expr.proofs.Finds.{pointed_apart, pointed_digit, pick_none, single_read, other_read, symbol_alone}
use Rattle.prg_expr.proofs.Finds.{symbol_pair, macro_read, Other, other_word}
use Rattle.prg_expr.proofs.Takes.{letter_is_name, takes_word, word_shorter}

digit_blank : (b : ℕ) → is_ascii_digit b ≡ true → is_blank_or_tab b ≡ false
digit_blank b h = grind (arith, nat_tests)

letter_blank : (b : ℕ) → is_ascii_alphabetic b ≡ true → is_blank_or_tab b ≡ false
letter_blank b h = grind (arith, nat_tests)

letter_digit : (b : ℕ) → is_ascii_alphabetic b ≡ true → is_ascii_digit b ≡ false
letter_digit b h = grind (arith, nat_tests)

digit_macro : (b : ℕ) → is_ascii_digit b ≡ true → (b == 38) ≡ false
digit_macro b h = grind (arith, nat_tests)

letter_macro : (b : ℕ) → is_ascii_alphabetic b ≡ true → (b == 38) ≡ false
letter_macro b h = grind (arith, nat_tests)

record Plain (b : ℕ) : Type 0 where
  no_blank : is_blank_or_tab b ≡ false
  no_digit : is_ascii_digit b ≡ false
  no_letter : is_ascii_alphabetic b ≡ false
  no_point : (b == 46) ≡ false
  no_macro : (b == 38) ≡ false

quote_plain : (b : ℕ) → is_quote b ≡ true → Plain b
quote_plain b h = record {
  no_blank = grind (arith, nat_tests);
  no_digit = grind (arith, nat_tests);
  no_letter = grind (arith, nat_tests);
  no_point = grind (arith, nat_tests);
  no_macro = grind (arith, nat_tests);
}

no_comment : (b : ℕ) (bytes : List ℕ) → (b == 38) ≡ false → is_comment b bytes ≡ false
no_comment b [] h = refl
no_comment b (c ∷ bytes) h = rw h refl

-- the first byte of a word is no blank and begins no comment, and what is read there is the word
record Begins (w : Word) (f : Option ParseFaultKind) (front rest : List ℕ) : Type 0 where
  first : ℕ
  others : List ℕ
  is : front ≡ first ∷ others
  not_blank : is_blank_or_tab first ≡ false
  not_comment : is_comment first (others ++ rest) ≡ false
  read : word_at first (others ++ rest) ≡ found w f rest

-- what holds of the first byte of each entry
abbrev EachSingle : (ℕ → Type 0) → List (ℕ × Word) → Type 0
EachSingle P [] = Unit {0}
EachSingle P (x ∷ xs) = P x.0 × EachSingle P xs

looked_up : (P : ℕ → Type 0) (table : List (ℕ × Word)) (b : ℕ) (w : Word) → EachSingle P table
    → single_in table b ≡ Some w → P b
looked_up P [] b w e h = absurd cc
looked_up P (x ∷ xs) b w e h = elim (eqb_tells b x.0) [
  | inl p ↦ subst P (sym p.1) e.0
  | inr p ↦ looked_up P xs b w e.1 (sym (cond_false (b == x.0) (Some x.1) (single_in xs b) p.0) ∙ h)
]

abbrev EachPair : (ℕ → Type 0) → List (ℕ × ℕ × Word) → Type 0
EachPair P [] = Unit {0}
EachPair P (x ∷ xs) = P x.0 × EachPair P xs

paired_up : (P : ℕ → Type 0) (table : List (ℕ × ℕ × Word)) (b c : ℕ) (w : Word) → EachPair P table
    → pair_in table b c ≡ Some w → P b
paired_up P [] b c w e h = absurd cc
paired_up P (x ∷ xs) b c w e h = elim (eqb_tells b x.0) [
  | inl p ↦ subst P (sym p.1) e.0
  | inr p ↦ paired_up P xs b c w e.1
      (sym (cond_false (b == x.0 && c == x.1) (Some x.2) (pair_in xs b c) (and_left (b == x.0) (c == x.1) p.0)) ∙ h)
]

abbrev is_other : ℕ → Bool
is_other b = cond (is_blank_or_tab b) false (cond (is_ascii_digit b) false (cond (is_ascii_alphabetic b) false
    (cond (b == 46) false (cond (is_quote b) false (cond (b == 38) false true)))))

unless : (a b : Bool) → cond a false b ≡ true → (a ≡ false) × (b ≡ true)
unless true b h = absurd cc
unless false b h = (refl, h)

other : (b : ℕ) → is_other b ≡ true → Other b
other b h =
    let blank = unless (is_blank_or_tab b) _ h in
    let digit = unless (is_ascii_digit b) _ blank.1 in
    let letter = unless (is_ascii_alphabetic b) _ digit.1 in
    let point = unless (b == 46) _ letter.1 in
    let quote = unless (is_quote b) _ point.1 in
    record {
      no_blank = blank.0;
      no_digit = digit.0;
      no_letter = letter.0;
      no_point = point.0;
      no_quote = quote.0;
      no_macro = (unless (b == 38) true quote.1).0;
    }

abbrev all_other : List ℕ → Bool
all_other [] = true
all_other (b ∷ bs) = is_other b && all_other bs

singles_other : (table : List (ℕ × Word)) → all_other (map (λ x. x.0) table) ≡ true → EachSingle Other table
singles_other [] h = tt
singles_other (x ∷ xs) h =
    let p = and_parts (is_other x.0) (all_other (map (λ y. y.0) xs)) h in (other x.0 p.0, singles_other xs p.1)

pairs_other : (table : List (ℕ × ℕ × Word)) → all_other (map (λ x. x.0) table) ≡ true → EachPair Other table
pairs_other [] h = tt
pairs_other (x ∷ xs) h =
    let p = and_parts (is_other x.0) (all_other (map (λ y. y.0) xs)) h in (other x.0 p.0, pairs_other xs p.1)

symbol_begins : (b : ℕ) (others rest : List ℕ) (w : Word) (f : Option ParseFaultKind) → Other b
    → symbol_at b (others ++ rest) ≡ found w f rest → Begins w f (b ∷ others) rest
symbol_begins b others rest w f o h = record {
  first = b;
  others = others;
  is = refl;
  not_blank = o.no_blank;
  not_comment = no_comment b (others ++ rest) o.no_macro;
  read = other_word b (others ++ rest) o.no_digit o.no_letter o.no_point o.no_quote ∙ h;
}

macro_comment : (rest : List ℕ) → FirstFails (λ c. c == 38) rest → is_comment 38 rest ≡ false
macro_comment [] s = refl
macro_comment (c ∷ rest) s = s

digit_word : (b : ℕ) (bytes : List ℕ) → is_ascii_digit b ≡ true → word_at b bytes ≡ number_scanned (b ∷ bytes)
unfolding word_at
digit_word b bytes d = cond_true (is_ascii_digit b) _ _ d

letter_word : (b : ℕ) (bytes : List ℕ) → is_ascii_alphabetic b ≡ true → word_at b bytes ≡ name_scanned (b ∷ bytes)
unfolding word_at
letter_word b bytes l = cond_false (is_ascii_digit b) _ _ (letter_digit b l) ∙ cond_true (is_ascii_alphabetic b) _ _ l

quote_word : (b : ℕ) (bytes : List ℕ) → is_quote b ≡ true → word_at b bytes ≡ text_scanned (closing b) bytes
unfolding word_at
quote_word b bytes q = let p = quote_plain b q in
    cond_false (is_ascii_digit b) _ _ p.no_digit ∙ cond_false (is_ascii_alphabetic b) _ _ p.no_letter
    ∙ cond_false (b == 46) _ _ p.no_point ∙ cond_true (is_quote b) _ _ q

point_digit : (bytes : List ℕ) → digit_first bytes ≡ true → word_at 46 bytes ≡ number_scanned (46 ∷ bytes)
unfolding word_at
point_digit bytes d = cond_true (digit_first bytes) _ _ d

point_word : (bytes : List ℕ) → digit_first bytes ≡ false → word_at 46 bytes ≡ pick pointed bytes
unfolding word_at
point_word bytes d = cond_false (digit_first bytes) _ _ d

macro_word : (bytes : List ℕ) → word_at 38 bytes ≡ symbol_at 38 bytes
unfolding word_at
macro_word bytes = refl

quote_begins : (b : ℕ) (s rest : List ℕ) (w : Word) (f : Option ParseFaultKind) → is_quote b ≡ true
    → text_scanned (closing b) (s ++ rest) ≡ found w f rest → Begins w f (b ∷ s) rest
quote_begins b s rest w f q h = let p = quote_plain b q in record {
  first = b;
  others = s;
  is = refl;
  not_blank = p.no_blank;
  not_comment = no_comment b (s ++ rest) p.no_macro;
  read = quote_word b (s ++ rest) q ∙ h;
}

digit_begins : (b : ℕ) (ds rest : List ℕ) (w : Word) (f : Option ParseFaultKind) → is_ascii_digit b ≡ true
    → number_scanned (b ∷ (ds ++ rest)) ≡ found w f rest → Begins w f (b ∷ ds) rest
digit_begins b ds rest w f d h = record {
  first = b;
  others = ds;
  is = refl;
  not_blank = digit_blank b d;
  not_comment = no_comment b (ds ++ rest) (digit_macro b d);
  read = digit_word b (ds ++ rest) d ∙ h;
}

point_begins : (behind rest : List ℕ) (w : Word) (f : Option ParseFaultKind)
    → word_at 46 (behind ++ rest) ≡ found w f rest → Begins w f (46 ∷ behind) rest
point_begins behind rest w f h = record {
  first = 46;
  others = behind;
  is = refl;
  not_blank = refl;
  not_comment = no_comment 46 (behind ++ rest) refl;
  read = h;
}

some_digit : (behind rest : List ℕ) → 0 < length behind → EachPasses is_ascii_digit behind
    → digit_first (behind ++ rest) ≡ true
some_digit [] rest p e = absurd (omega (arith, p))
some_digit (b ∷ behind) rest p e = e.0

begins : {w : Word} {f : Option ParseFaultKind} {front rest : List ℕ} → IsWord w f front rest → Begins w f front rest
begins (whole {digits = []} p e s z) = absurd (omega (arith, p))
begins (whole {digits = b ∷ ds} {rest} p e s z) = digit_begins b ds rest _ _ e.0 (whole_read (b ∷ ds) rest e s z)
begins (decimal [] behind {rest} e p f s) =
    point_begins behind rest _ _ (point_digit (behind ++ rest) (some_digit behind rest p f)
    ∙ decimal_read [] behind rest e p f s)
begins (decimal (b ∷ ds) behind {rest} e p f s) =
    digit_begins b (ds ++ 46 ∷ behind) rest _ _ e.0
    (ap (λ (l : List ℕ). number_scanned (b ∷ l)) (append_assoc ds (46 ∷ behind) rest)
    ∙ decimal_read (b ∷ ds) behind rest e p f s)
begins (name {b} {others} {rest} p e s) = record {
  first = b;
  others = others;
  is = refl;
  not_blank = letter_blank b p;
  not_comment = no_comment b (others ++ rest) (letter_macro b p);
  read = letter_word b (others ++ rest) p ∙ name_read (b ∷ others) rest (letter_is_name b p, e) s;
}
begins (text {b} s {rest} q e) = quote_begins b (s ++ closing b ∷ []) rest _ _ q
    (ap (text_scanned (closing b)) (append_assoc s (closing b ∷ []) rest) ∙ text_read (closing b) s rest e)
begins (unended {b} {s} q e) = quote_begins b s [] _ _ q
    (ap (text_scanned (closing b)) (append-nil s) ∙ unended_read (closing b) s e)
begins (behind_point {w} {letters} {rest} i) =
    point_begins letters rest w None (point_word (letters ++ rest) (pointed_digit letters rest w i)
    ∙ pick_finds pointed letters rest w pointed_apart i)
begins (lone_point {rest} d n) = point_begins [] rest _ None (point_word rest d ∙ pick_none pointed rest n)
begins (pair {b} {c} {w} {rest} h) = symbol_begins b (c ∷ []) rest w None
    (paired_up Other pairs b c w (pairs_other pairs refl) h)
    (symbol_pair b c w rest h)
begins (single {b} {w} {rest} h a) = symbol_begins b [] rest w None
    (looked_up Other singles b w (singles_other singles refl) h)
    (symbol_alone b rest a ∙ single_read b w rest h)
begins (macro {rest} s) = record {
  first = 38;
  others = [];
  is = refl;
  not_blank = refl;
  not_comment = macro_comment rest s;
  read = macro_word rest ∙ macro_read rest;
}
begins (strange {b} {rest} s a) =
    symbol_begins b [] rest _ _ (record {
      no_blank = s.no_blank;
      no_digit = s.no_digit;
      no_letter = s.no_letter;
      no_point = s.no_point;
      no_quote = s.no_quote;
      no_macro = s.no_macro;
    })
    (symbol_alone b rest a ∙ other_read b rest s.no_symbol s.no_macro)

-- steps of scanning
pub nothing_on : (n : ℕ) → spots_at n [] ≡ []
unfolding spots_at
nothing_on zero = refl
nothing_on (suc n) = refl

pub blank_on : (n b : ℕ) (bytes : List ℕ) → is_blank_or_tab b ≡ true → spots_at (suc n) (b ∷ bytes) ≡ spots_at n bytes
unfolding spots_at
blank_on n b bytes h = cond_true (is_blank_or_tab b) _ _ h

pub comment_on : (n b : ℕ) (bytes : List ℕ) → is_blank_or_tab b ≡ false → is_comment b bytes ≡ true
    → spots_at (suc n) (b ∷ bytes) ≡ []
unfolding spots_at
comment_on n b bytes h c = cond_false (is_blank_or_tab b) _ _ h ∙ cond_true (is_comment b bytes) _ _ c

pub word_on : (n b : ℕ) (bytes : List ℕ) → is_blank_or_tab b ≡ false → is_comment b bytes ≡ false
    → spots_at (suc n) (b ∷ bytes) ≡ with_word (spots_at n) (word_at b bytes)
unfolding spots_at
word_on n b bytes h c = cond_false (is_blank_or_tab b) _ _ h ∙ cond_false (is_comment b bytes) _ _ c

-- sound
comment_is : (b : ℕ) (bytes : List ℕ) → is_comment b bytes ≡ true → (rest : List ℕ) × (b ∷ bytes ≡ 38 ∷ 38 ∷ rest)
comment_is b [] h = absurd cc
comment_is b (c ∷ rest) h =
    let t = and_parts (b == 38) (c == 38) h in
    elim (eqb_tells b 38) [
      | inl p ↦ elim (eqb_tells c 38) [
        | inl q ↦ (rest, let i = p.1 in let j = q.1 in cc)
        | inr q ↦ absurd
            (let f = sym t.1 ∙ q.0 in cc)
      ]
      | inr p ↦ absurd (let f = sym t.0 ∙ p.0 in cc)
    ]

spots_sound : (n : ℕ) (bytes : List ℕ) → length bytes ≤ n → IsLine (spots_at n bytes) bytes
spots_sound n [] le = subst (λ (s : List Spot). IsLine s []) (sym (nothing_on n)) nothing
spots_sound zero (b ∷ bytes) le = absurd (omega arith)
spots_sound (suc n) (b ∷ bytes) le = elim (bool_tells (is_blank_or_tab b)) [
  | inl y ↦ subst (λ (s : List Spot). IsLine s (b ∷ bytes)) (sym (blank_on n b bytes y))
      (blank y (spots_sound n bytes (omega arith)))
  | inr y ↦ elim (bool_tells (is_comment b bytes)) [
    | inl c ↦ (let k = comment_is b bytes c in
        subst (λ (s : List Spot). IsLine s (b ∷ bytes)) (sym (comment_on n b bytes y c))
        (subst (λ (l : List ℕ). IsLine [] l) (sym k.1) comment))
    | inr c ↦ (let t = takes_word b bytes y c in
        let x = word_at b bytes in
        let le' : length x.2 ≤ n = omega (arith, word_shorter b bytes y c) in
        subst (λ (s : List Spot). IsLine s (b ∷ bytes)) (sym (word_on n b bytes y c))
        (subst (λ (l : List ℕ). IsLine (with_word (spots_at n) x) l) (sym t.is)
        (word t.spelled (spots_sound n x.2 le'))))
  ]
]

pub scan_sound : (bytes : List ℕ) → IsLine (scan bytes) bytes
unfolding scan
scan_sound bytes = spots_sound (length bytes) bytes (omega arith)

-- complete
blank_by : (n b : ℕ) (bytes : List ℕ) (spots : List Spot) → is_blank_or_tab b ≡ true → length (b ∷ bytes) ≤ n
    → ((m : ℕ) → length bytes ≤ m → spots_at m bytes ≡ spots) → spots_at n (b ∷ bytes) ≡ spots
blank_by zero b bytes spots h le go = absurd (omega arith)
blank_by (suc n) b bytes spots h le go = blank_on n b bytes h ∙ go n (omega arith)

comment_by : (n : ℕ) (bytes : List ℕ) → length (38 ∷ 38 ∷ bytes) ≤ n → spots_at n (38 ∷ 38 ∷ bytes) ≡ []
comment_by zero bytes le = absurd (omega arith)
comment_by (suc n) bytes le = comment_on n 38 (38 ∷ bytes) refl refl

word_from : (n : ℕ) (w : Word) (f : Option ParseFaultKind) (spots : List Spot) (b : ℕ) (others rest : List ℕ)
    → is_blank_or_tab b ≡ false → is_comment b (others ++ rest) ≡ false → word_at b (others ++ rest) ≡ found w f rest
    → length (b ∷ (others ++ rest)) ≤ n → ((m : ℕ) → length rest ≤ m → spots_at m rest ≡ spots)
    → spots_at n (b ∷ (others ++ rest)) ≡ spot w f ∷ spots
word_from zero w f spots b others rest h c r le go = absurd (omega arith)
word_from (suc n) w f spots b others rest h c r le go =
    word_on n b (others ++ rest) h c ∙ ap (with_word (spots_at n)) r
    ∙ ap (λ (s : List Spot). spot w f ∷ s) (go n (omega (arith, length-append others rest)))

word_by : (n : ℕ) (w : Word) (f : Option ParseFaultKind) (spots : List Spot) (front rest : List ℕ)
    → Begins w f front rest → length (front ++ rest) ≤ n → ((m : ℕ) → length rest ≤ m → spots_at m rest ≡ spots)
    → spots_at n (front ++ rest) ≡ spot w f ∷ spots
word_by n w f spots front rest g le go =
    subst (λ front. spots_at n (front ++ rest) ≡ spot w f ∷ spots) (sym g.is)
    (word_from n w f spots g.first g.others rest g.not_blank g.not_comment g.read
    (let len = ap (λ (front : List ℕ). length (front ++ rest)) g.is in omega (arith, len, le)) go)

pub spots_complete : {spots : List Spot} {bytes : List ℕ} → IsLine spots bytes → (n : ℕ) → length bytes ≤ n
    → spots_at n bytes ≡ spots
spots_complete nothing n le = nothing_on n
spots_complete (comment {bytes}) n le = comment_by n bytes le
spots_complete (blank {b} {spots} {bytes} h t) n le = blank_by n b bytes spots h le (spots_complete t)
spots_complete (word {w} {f} {spots} {bytes} {rest} s t) n le =
    word_by n w f spots bytes rest (begins s) le (spots_complete t)

pub scan_complete : (spots : List Spot) (bytes : List ℕ) → IsLine spots bytes → scan bytes ≡ spots
unfolding scan
scan_complete spots bytes t = spots_complete t (length bytes) (omega arith)

pub one_line : (line : List ℕ) (a b : List Spot) → IsLine a line → IsLine b line → a ≡ b
one_line line a b s t = sym (scan_complete a line s) ∙ scan_complete b line t

pub of_scan : (bytes : List ℕ) (r : Result Line AllocError) → IfOk r (IsScanned bytes) → IfOk r (IsWordsOf bytes)
of_scan bytes (Ok line) h = (scan bytes, scan_sound bytes, h)
of_scan bytes (Err e) h = tt

-- the words found are no more than the bytes
few_spots_at : (n : ℕ) (bytes : List ℕ) → length (spots_at n bytes) ≤ n
unfolding spots_at
few_spots_at zero [] = omega arith
few_spots_at (suc n) [] = omega arith
few_spots_at zero (b ∷ bytes) = omega arith
few_spots_at (suc n) (b ∷ bytes) = elim (bool_tells (is_blank_or_tab b)) [
  | inl y ↦ (let e : spots_at (suc n) (b ∷ bytes) ≡ spots_at n bytes = rw y refl in let m = few_spots_at n bytes in
      rw e (omega (arith, m)))
  | inr k ↦ elim (bool_tells (is_comment b bytes)) [
    | inl y ↦ (let e : spots_at (suc n) (b ∷ bytes) ≡ [] = rw (k, y) refl in rw e (omega arith))
    | inr j ↦ (let e : spots_at (suc n) (b ∷ bytes) ≡ with_word (spots_at n) (word_at b bytes) = rw (k, j) refl in
        let m = few_spots_at n (word_at b bytes).2 in rw e (omega (arith, m)))
  ]
]

pub few_spots : (bytes : List ℕ) → length (scan bytes) ≤ length bytes
unfolding scan
few_spots bytes = few_spots_at (length bytes) bytes
