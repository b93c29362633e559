-- Reading finds words that stand there.
use Rattle.std.proofs.Common.{◌≡◌, ℕ, suc, ◌<◌, ◌≤◌, ◌⊎◌, inl, inr, List, [], ◌∷◌, ◌++◌, length, take, drop, map, Bool}
use Rattle.std.proofs.Common.{true, false, not, Option, Some, None, refl, sym, ap, ◌∙◌, subst, arith, append_assoc}
use Rattle.std.proofs.Common.{length-append, cond}
use Rattle.std.specs.Prelude.{◌==◌, ◌||◌}
use Rattle.std.specs.Char.{is_ascii_digit, is_ascii_alphabetic, to_ascii_lowercase}
use Rattle.std.specs.List.{prefix_len}
use Rattle.std.specs.Int.{is_in_range}
use Rattle.std.proofs.lemmas.List.{take-append-drop, append-nil}
use Rattle.std.proofs.lemmas.List.Folds.{length-prefix_len}
use Rattle.std.proofs.lemmas.Bool.Decides.{eqb_tells}
use Rattle.prg_expr.specs.declared.fault.ParseFaultKind.{ParseFaultKind}
use Rattle.prg_expr.specs.declared.fault.ParseFaultKind.TheVariants as fault
use Rattle.prg_expr.specs.Word.{Word, Number, Text, Name, Outside, Point, Macro, Faulty}
use Rattle.prg_expr.specs.Lexicon.{goes_on_name, is_blank_or_tab, is_quote, is_comment, digit_first, decimals, closing}
use Rattle.prg_expr.specs.Lexicon.{singles, single_in, pairs, pair_in, pointed, after_word, IsOneOf, NoneInFront}
use Rattle.prg_expr.specs.Lexicon.{EachPasses, FirstFails, Alone, Strange, IsWord, whole, decimal, name, text, unended}
use Rattle.prg_expr.specs.Lexicon.{behind_point, lone_point, pair, single, macro, strange}
use Rattle.prg_expr.specs.Scanning.{FoundWord, found, clean_at, number_scanned, name_scanned, text_scanned, pick}
use Rattle.prg_expr.specs.Scanning.{symbol_at, word_at}
use Rattle.prg_expr.proofs.Sound.{bool_tells, option_tells}
use Rattle.prg_expr.proofs.Bytes.{one_more, front_each, back_stops, cond_true, cond_false, after_is, Entry, entry}
use Rattle.prg_expr.proofs.Bytes.{pair_is}
use Rattle.prg_expr.proofs.Finds.{whole_read, decimal_read, name_read, text_read, unended_read, pick_none, single_read}
use Rattle.prg_expr.proofs.Finds.{other_read, symbol_alone, symbol_pair, macro_read}

-- the bytes begin with a word, and the rest follows
pub record Takes (bytes : List ℕ) (x : FoundWord) : Type 0 where
  pub front : List ℕ
  pub spelled : IsWord x.0 x.1 front x.2
  pub is : bytes ≡ front ++ x.2

taken : (bytes front rest : List ℕ) (w : Word) (f : Option ParseFaultKind) (x : FoundWord) → IsWord w f front rest
    → bytes ≡ front ++ rest → x ≡ found w f rest → Takes bytes x
taken bytes front rest w f x s i e = subst (λ (x : FoundWord). Takes bytes x) (sym e)
    (record { front = front; spelled = s; is = i })

-- the digits behind a point, if there are any
decimals_tell : (bytes : List ℕ) → (decimals bytes ≡ 0)
    ⊎ ((ds : List ℕ) × (bytes ≡ 46 ∷ ds) × (0 < prefix_len is_ascii_digit ds))
unfolding decimals
decimals_tell [] = inl refl
decimals_tell (b ∷ ds) = elim (eqb_tells b 46) [
  | inl y ↦ elim (eqb_tells (prefix_len is_ascii_digit ds) 0) [
    | inl z ↦ inl (cond_true (b == 46) _ _ y.0 ∙ z.1)
    | inr z ↦ inr (ds, ap (λ c. c ∷ ds) y.1, (let n = z.1 in omega (arith, n)))
  ]
  | inr n ↦ inl (cond_false (b == 46) _ _ n.0)
]

-- a number with a point in front of these
decimal_takes : (bytes digits ds : List ℕ) → EachPasses is_ascii_digit digits → 0 < prefix_len is_ascii_digit ds
    → bytes ≡ digits ++ (46 ∷ ds) → Takes bytes (number_scanned bytes)
decimal_takes bytes digits ds e p i =
    let k = prefix_len is_ascii_digit ds in
    let behind = take k ds in
    let rest = drop k ds in
    let len : length behind ≡ k = length-prefix_len is_ascii_digit ds in
    let some : 0 < length behind = omega (arith, len, p) in
    let parts : bytes ≡ digits ++ (46 ∷ (behind ++ rest)) =
    i ∙ ap (λ (l : List ℕ). digits ++ (46 ∷ l)) (sym (take-append-drop k ds)) in
    let each = front_each is_ascii_digit ds in
    let stops = back_stops is_ascii_digit ds in
    taken bytes (digits ++ 46 ∷ behind) rest (Number _) _ (number_scanned bytes)
    (decimal digits behind e some each stops) (parts ∙ sym (append_assoc digits (46 ∷ behind) rest))
    (ap number_scanned parts ∙ decimal_read digits behind rest e some each stops)

number_takes : (b : ℕ) (bytes : List ℕ) → is_ascii_digit b ≡ true → Takes (b ∷ bytes) (number_scanned (b ∷ bytes))
number_takes b bytes d =
    let all = b ∷ bytes in
    let n = prefix_len is_ascii_digit all in
    let digits = take n all in
    let rest = drop n all in
    let len : length digits ≡ n = length-prefix_len is_ascii_digit all in
    let some : n ≡ suc (prefix_len is_ascii_digit bytes) = one_more is_ascii_digit b bytes d in
    let parts : all ≡ digits ++ rest = sym (take-append-drop n all) in
    let each = front_each is_ascii_digit all in
    let stops = back_stops is_ascii_digit all in
    elim (decimals_tell rest) [
      | inl z ↦ taken all digits rest (Number _) _ (number_scanned all)
          (whole (omega (arith, len, some)) each stops z) parts
          (ap number_scanned parts ∙ whole_read digits rest each stops z)
      | inr p ↦ decimal_takes all digits p.0 each p.2 (parts ∙ ap (λ (l : List ℕ). digits ++ l) p.1)
    ]

digit_some : (bytes : List ℕ) → digit_first bytes ≡ true → 0 < prefix_len is_ascii_digit bytes
digit_some [] h = absurd cc
digit_some (b ∷ bytes) h = omega (arith, one_more is_ascii_digit b bytes h)

or_or : (a b c d : Bool) → (b || c) ≡ true → (((a || b) || c) || d) ≡ true
or_or true b c d h = refl
or_or false true c d h = refl
or_or false false true d h = refl
or_or false false false d h = absurd cc

-- a letter may stand in a name
pub letter_is_name : (b : ℕ) → is_ascii_alphabetic b ≡ true → goes_on_name b ≡ true
letter_is_name b h = or_or (is_in_range 48 57 b) (is_in_range 65 90 b) (is_in_range 97 122 b) (b == 95) h

name_takes : (b : ℕ) (bytes : List ℕ) → is_ascii_alphabetic b ≡ true → Takes (b ∷ bytes) (name_scanned (b ∷ bytes))
name_takes b bytes d =
    let m = prefix_len goes_on_name bytes in
    let others = take m bytes in
    let rest = drop m bytes in
    let parts : b ∷ bytes ≡ (b ∷ others) ++ rest = ap (λ (l : List ℕ). b ∷ l) (sym (take-append-drop m bytes)) in
    let each = front_each goes_on_name bytes in
    let stops = back_stops goes_on_name bytes in
    taken (b ∷ bytes) (b ∷ others) rest (Name _) _ (name_scanned (b ∷ bytes)) (name d each stops) parts
    (ap name_scanned parts ∙ name_read (b ∷ others) rest (letter_is_name b d, each) stops)

text_on : (b : ℕ) (bytes s r : List ℕ) → is_quote b ≡ true → EachPasses (λ c. not (c == closing b)) s
    → FirstFails (λ c. not (c == closing b)) r → bytes ≡ s ++ r → Takes (b ∷ bytes) (text_scanned (closing b) bytes)
text_on b bytes s [] q e st i =
    let whole_text : bytes ≡ s = i ∙ append-nil s in
    taken (b ∷ bytes) (b ∷ s) [] (Text _) _ (text_scanned (closing b) bytes) (unended q e)
    (ap (λ (l : List ℕ). b ∷ l) i) (ap (text_scanned (closing b)) whole_text ∙ unended_read (closing b) s e)
text_on b bytes s (c ∷ rest) q e st i =
    let same : c ≡ closing b = elim (eqb_tells c (closing b)) [
      | inl p ↦ p.1
      | inr p ↦ absurd
          (let f : true ≡ false = sym (ap not p.0) ∙ st in cc)
    ] in
    let parts : bytes ≡ s ++ (closing b ∷ rest) = i ∙ ap (λ c. s ++ c ∷ rest) same in
    let j : b ∷ bytes ≡ (b ∷ (s ++ closing b ∷ [])) ++ rest =
    ap (λ (l : List ℕ). b ∷ l) (parts ∙ sym (append_assoc s (closing b ∷ []) rest)) in
    taken (b ∷ bytes) (b ∷ (s ++ closing b ∷ [])) rest (Text _) _ (text_scanned (closing b) bytes) (text s q e) j
    (ap (text_scanned (closing b)) parts ∙ text_read (closing b) s rest e)

text_takes : (b : ℕ) (bytes : List ℕ) → is_quote b ≡ true → Takes (b ∷ bytes) (text_scanned (closing b) bytes)
text_takes b bytes q =
    let p = λ (c : ℕ). not (c == closing b) in
    let n = prefix_len p bytes in
    text_on b bytes (take n bytes) (drop n bytes) q (front_each p bytes) (back_stops p bytes)
    (sym (take-append-drop n bytes))

-- a word of the table is in front, or none
pub record Picked (table : List Entry) (bytes : List ℕ) : Type 0 where
  pub letters : List ℕ
  pub rest : List ℕ
  pub w : Word
  pub listed : IsOneOf (entry (map to_ascii_lowercase letters) w) table
  pub is : bytes ≡ letters ++ rest
  pub read : pick table bytes ≡ clean_at w rest

pick_first : (l : List ℕ) (t : Word) (table : List Entry) (bytes rest : List ℕ) → after_word l bytes ≡ Some rest
    → pick (entry l t ∷ table) bytes ≡ clean_at t rest
pick_first l t table bytes rest h = rw h refl

pick_later : (l : List ℕ) (t : Word) (table : List Entry) (bytes : List ℕ) → after_word l bytes ≡ None
    → pick (entry l t ∷ table) bytes ≡ pick table bytes
pick_later l t table bytes h = rw h refl

pick_tells : (table : List Entry) (bytes : List ℕ) → Picked table bytes ⊎ NoneInFront table bytes
pick_tells [] bytes = inr tt
pick_tells (x ∷ xs) bytes = elim (option_tells (after_word x.0 bytes)) [
  | inl none ↦ elim (pick_tells xs bytes) [
    | inl p ↦ inl (record {
      letters = p.letters;
      rest = p.rest;
      w = p.w;
      listed = inr p.listed;
      is = p.is;
      read = pick_later x.0 x.1 xs bytes none ∙ p.read;
    })
    | inr p ↦ inr (none, p)
  ]
  | inr s ↦ (let a = after_is x.0 bytes s.0 s.1 in
      inl (record {
        letters = a.0;
        rest = s.0;
        w = x.1;
        listed = inl (pair_is _ _ _ _ a.1 refl);
        is = a.2;
        read = pick_first x.0 x.1 xs bytes s.0 s.1;
      }))
]

pointed_takes : (bytes : List ℕ) → digit_first bytes ≡ false → Takes (46 ∷ bytes) (pick pointed bytes)
pointed_takes bytes d = elim (pick_tells pointed bytes) [
  | inl p ↦ taken (46 ∷ bytes) (46 ∷ p.letters) p.rest p.w None (pick pointed bytes) (behind_point p.listed)
      (ap (λ (l : List ℕ). 46 ∷ l) p.is) p.read
  | inr n ↦ taken (46 ∷ bytes) (46 ∷ []) bytes (Outside Point) None (pick pointed bytes) (lone_point d n) refl
      (pick_none pointed bytes n)
]

point_takes : (bytes : List ℕ) → Takes (46 ∷ bytes)
    (cond (digit_first bytes) (number_scanned (46 ∷ bytes)) (pick pointed bytes))
point_takes bytes = elim (bool_tells (digit_first bytes)) [
  | inl y ↦ subst (λ (x : FoundWord). Takes (46 ∷ bytes) x) (sym (cond_true (digit_first bytes) _ _ y))
      (decimal_takes (46 ∷ bytes) [] bytes tt (digit_some bytes y) refl)
  | inr n ↦ subst (λ (x : FoundWord). Takes (46 ∷ bytes) x) (sym (cond_false (digit_first bytes) _ _ n))
      (pointed_takes bytes n)
]

macro_stops : (rest : List ℕ) → is_comment 38 rest ≡ false → FirstFails (λ c. c == 38) rest
macro_stops [] h = tt
macro_stops (c ∷ rest) h = h

macro_takes : (b : ℕ) (rest : List ℕ) → b ≡ 38 → is_comment b rest ≡ false → Takes (b ∷ rest) (symbol_at b rest)
macro_takes b rest e h =
    let P : ℕ → Type 0 = λ b. is_comment b rest ≡ false → Takes (b ∷ rest) (symbol_at b rest) in
    subst P (sym e) (λ g. taken (38 ∷ rest) (38 ∷ []) rest (Outside Macro) (Some fault.Macro) (symbol_at 38 rest)
    (macro (macro_stops rest g)) refl (macro_read rest)) h

module _ (b : ℕ) (no_blank : is_blank_or_tab b ≡ false) (no_digit : is_ascii_digit b ≡ false)
    (no_letter : is_ascii_alphabetic b ≡ false) (no_quote : is_quote b ≡ false) (no_point : (b == 46) ≡ false) where
  alone_takes : (rest : List ℕ) → is_comment b rest ≡ false → Alone b rest → Takes (b ∷ rest) (symbol_at b rest)
  alone_takes rest c a = elim (option_tells (single_in singles b)) [
    | inl none ↦ elim (eqb_tells b 38) [
      | inl y ↦ macro_takes b rest y.1 c
      | inr n ↦ (let st : Strange b = record {
        no_blank = no_blank;
        no_digit = no_digit;
        no_letter = no_letter;
        no_quote = no_quote;
        no_point = no_point;
        no_macro = n.0;
        no_symbol = none;
      } in
          taken (b ∷ rest) (b ∷ []) rest (Outside Faulty) (Some fault.Character) (symbol_at b rest) (strange st a) refl
          (symbol_alone b rest a ∙ other_read b rest none n.0))
    ]
    | inr w ↦ taken (b ∷ rest) (b ∷ []) rest w.0 None (symbol_at b rest) (single w.1 a) refl
        (symbol_alone b rest a ∙ single_read b w.0 rest w.1)
  ]

  symbol_takes : (rest : List ℕ) → is_comment b rest ≡ false → Takes (b ∷ rest) (symbol_at b rest)
  symbol_takes [] c = alone_takes [] c tt
  symbol_takes (d ∷ rest) c = elim (option_tells (pair_in pairs b d)) [
    | inl none ↦ alone_takes (d ∷ rest) c none
    | inr w ↦ taken (b ∷ d ∷ rest) (b ∷ d ∷ []) rest w.0 None (symbol_at b (d ∷ rest)) (pair w.1) refl
        (symbol_pair b d w.0 rest w.1)
  ]

module _ (b : ℕ) (bytes : List ℕ) where
  as_read : {x y : FoundWord} → x ≡ y → Takes (b ∷ bytes) y → Takes (b ∷ bytes) x
  as_read e t = subst (λ (x : FoundWord). Takes (b ∷ bytes) x) (sym e) t

  point_at : (b == 46) ≡ true → b ≡ 46 → Takes (b ∷ bytes)
      (cond (digit_first bytes) (number_scanned (b ∷ bytes)) (pick pointed bytes))
  point_at y e = let P : ℕ → Type 0 = λ b. Takes (b ∷ bytes)
      (cond (digit_first bytes) (number_scanned (b ∷ bytes)) (pick pointed bytes)) in
      subst P (sym e) (point_takes bytes)

  pub takes_word : is_blank_or_tab b ≡ false → is_comment b bytes ≡ false → Takes (b ∷ bytes) (word_at b bytes)
  unfolding word_at
  takes_word blank comment = elim (bool_tells (is_ascii_digit b)) [
    | inl d ↦ as_read (cond_true (is_ascii_digit b) _ _ d) (number_takes b bytes d)
    | inr d ↦ as_read (cond_false (is_ascii_digit b) _ _ d) (elim (bool_tells (is_ascii_alphabetic b)) [
      | inl l ↦ as_read (cond_true (is_ascii_alphabetic b) _ _ l) (name_takes b bytes l)
      | inr l ↦ as_read (cond_false (is_ascii_alphabetic b) _ _ l) (elim (eqb_tells b 46) [
        | inl p ↦ as_read (cond_true (b == 46) _ _ p.0) (point_at p.0 p.1)
        | inr p ↦ as_read (cond_false (b == 46) _ _ p.0) (elim (bool_tells (is_quote b)) [
          | inl q ↦ as_read (cond_true (is_quote b) _ _ q) (text_takes b bytes q)
          | inr q ↦ as_read (cond_false (is_quote b) _ _ q) (symbol_takes b blank d l q p.0 bytes comment)
        ])
      ])
    ])
  ]

some_bytes : {w : Word} {f : Option ParseFaultKind} {front rest : List ℕ} → IsWord w f front rest → 0 < length front
some_bytes (whole p e s z) = p
some_bytes (decimal digits behind e p f s) = omega (arith, length-append digits (46 ∷ behind))
some_bytes (name p e s) = omega arith
some_bytes (text s q e) = omega arith
some_bytes (unended q e) = omega arith
some_bytes (behind_point i) = omega arith
some_bytes (lone_point d n) = omega arith
some_bytes (pair h) = omega arith
some_bytes (single h a) = omega arith
some_bytes (macro s) = omega arith
some_bytes (strange s a) = omega arith

pub word_shorter : (b : ℕ) (bytes : List ℕ) → is_blank_or_tab b ≡ false → is_comment b bytes ≡ false
    → length (word_at b bytes).2 ≤ length bytes
word_shorter b bytes p q =
    let t = takes_word b bytes p q in
    omega (arith, some_bytes t.spelled, ap length t.is, length-append t.front (word_at b bytes).2)
