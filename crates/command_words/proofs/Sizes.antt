-- Words that say the size of a window, and where they are cut.
use Rattle.std.proofs.Common.{◌≡◌, ◌≢◌, ◌<◌, ◌==◌, ℕ, zero, suc, Bool, true, false, List, [], ◌∷◌, Option, None, Some}
use Rattle.std.proofs.Common.{cond, length, get_or, drop, refl, rules, arith, Bor}
use Rattle.std.specs.Str.Parse.{AllDigits, without_leading_plus}
use Rattle.std.proofs.lemmas.Bool.{eqb-true}
use Rattle.std.proofs.lemmas.Str.Parse.{digit_at}
use Rattle.std.proofs.lemmas.Str.Pattern.{IsSplitOnceResult, split_after, split_parts}
use Rattle.command_words.specs.declared.operate_words.WindowWords.{WindowWords}
use Rattle.command_words.specs.Windows.{IsNumber, IsSize}

-- a number's text has no x
no_digit : (ds : List ℕ) → AllDigits 10 ds → (i : ℕ) → i < length ds → get_or ds i 0 ≢ 120
no_digit ds all i inside e = let range = digit_at ds i all inside in omega arith

behind_sign : (c : ℕ) (cs : List ℕ) (b : Bool) → (c == 43) ≡ b → AllDigits 10 (drop (cond b 1 0) (c ∷ cs)) → (i : ℕ)
    → i < suc (length cs) → get_or (c ∷ cs) i 0 ≢ 120
behind_sign c cs true sign all zero inside e = let plus : c ≡ 43 = eqb-true c 43 sign in omega arith
behind_sign c cs true sign all (suc i) inside e = no_digit cs all i (omega arith) e
behind_sign c cs false sign all i inside e = no_digit (c ∷ cs) all i inside e

no_x : (text : List ℕ) → AllDigits 10 (without_leading_plus text) → (i : ℕ) → i < length text → get_or text i 0 ≢ 120
no_x [] all i inside e = absurd (omega arith)
no_x (c ∷ cs) all i inside e = behind_sign c cs (c == 43) refl all i inside e

pub uncut : (word : List ℕ) → IsSplitOnceResult 120 word None → (size : WindowWords) → IsSize word size → ⊥
uncut word h size s = split_after 120 word s.rows s.columns None h (omega arith) s.parts (no_x s.rows s.high.digits.1)

pub cut : (word : List ℕ) (x : Bor (List ℕ) × Bor (List ℕ)) → IsSplitOnceResult 120 word (Some x) → (size : WindowWords)
    → IsSize word size → IsNumber x.0.now size.rows × IsNumber x.1.now size.columns
cut word x h size s =
    let parts = split_after 120 word s.rows s.columns (Some x) h (omega arith) s.parts (no_x s.rows s.high.digits.1) in
    (rw parts.0 s.high, rw parts.1 s.wide)

pub joined : (word : List ℕ) (x : Bor (List ℕ) × Bor (List ℕ)) → IsSplitOnceResult 120 word (Some x)
    → (size : WindowWords) → IsNumber x.0.now size.rows → IsNumber x.1.now size.columns → IsSize word size
joined word x h size high wide = record {
  rows = x.0.now;
  columns = x.1.now;
  parts = (split_parts 120 word (Some x) h (omega arith)).0;
  high = high;
  wide = wide;
}

pub same_size : (a b : ℕ) (size : WindowWords) → a ≡ size.rows → b ≡ size.columns
    → ◌≡◌ {A = Option WindowWords} (Some (record { rows = a; columns = b })) (Some size)
same_size a b size high wide = search (rules, high, wide)

pub size_parts : (a b : ℕ) (size : WindowWords)
    → ◌≡◌ {A = Option WindowWords} (Some (record { rows = a; columns = b })) (Some size)
    → (a ≡ size.rows) × (b ≡ size.columns)
size_parts a b size e = search (rules, e)

pub one_number : (r : Option ℕ) (a b : ℕ) → r ≡ Some a → r ≡ Some b → a ≡ b
one_number r a b e f = search (rules, e, f)
