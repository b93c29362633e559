-- One or more with commas between, as a loop reads them.
use Rattle.std.proofs.Common.{◌≡◌, ℕ, zero, suc, ◌<◌, ◌≤◌, List, [], ◌∷◌, ◌++◌, length, take, drop, ◌-◌, map, true}
use Rattle.std.proofs.Common.{false, Ok, refl, sym, ap, ◌∙◌, arith}
use Rattle.std.proofs.lemmas.List.{drop-map, take_all, length-drop, map-append}
use Rattle.prg_expr.specs.declared.token.Token.{Token}
use Rattle.prg_expr.specs.Reading.{WordsFail, front}
use Rattle.prg_expr.specs.Tree.{Tree}
use Rattle.prg_expr.specs.Word.{Word, words, word_of}
use Rattle.prg_expr.specs.declared.fault.FormFault.{FormFault}
use Rattle.prg_expr.specs.declared.fault.FormFault.TheVariants.{Kind, Memory}
use Rattle.prg_expr.proofs.Turns.{words_length}
use Rattle.prg_line.specs.Forms.{At, FormReader, at, comma, more, expression}

-- what was found so far goes on as from the start
pub record SoFar {A : Type 0} (one : FormReader A) (first : List A) (start : At) (found : List A) (a : At) : Type 0
  where
    pub bound : ℕ
    pub enough : length a.words < bound
    pub reads : more one (suc (length start.words)) first start ≡ more one bound found a

pub starts : {A : Type 0} (one : FormReader A) (first : List A) (start : At) → SoFar one first start first start
starts one first start = record { bound = suc (length start.words); enough = omega arith; reads = refl }

ends_at : {A : Type 0} (one : FormReader A) (bound : ℕ) (found : List A) (a b : At) → length a.words < bound
    → comma a ≡ (false, b) → more one bound found a ≡ Ok (found, b)
unfolding more
ends_at one zero found a b lt c = absurd (omega arith)
ends_at one (suc n) found a b lt c = rw c refl

pub ends : {A : Type 0} (one : FormReader A) (first : List A) (start : At) (found : List A) (a b : At)
    → SoFar one first start found a → comma a ≡ (false, b)
    → more one (suc (length start.words)) first start ≡ Ok (found, b)
ends one first start found a b so c = so.reads ∙ ends_at one so.bound found a b so.enough c

steps_at : {A : Type 0} (one : FormReader A) (bound : ℕ) (found : List A) (a b d : At) (x : A) → length a.words < bound
    → comma a ≡ (true, b) → one b ≡ Ok (x, d)
    → (n : ℕ) × (bound ≡ suc n) × (more one bound found a ≡ more one n (found ++ x ∷ []) d)
unfolding more
steps_at one zero found a b d x lt c h = absurd (omega arith)
steps_at one (suc n) found a b d x lt c h = (n, refl, rw (c, h) refl)

pub steps : {A : Type 0} (one : FormReader A) (first : List A) (start : At) (found : List A) (a b d : At) (x : A)
    → SoFar one first start found a → comma a ≡ (true, b) → one b ≡ Ok (x, d)
    → length b.words ≤ length a.words → length d.words < length b.words → SoFar one first start (found ++ x ∷ []) d
steps one first start found a b d x so c h le lt =
    let s = steps_at one so.bound found a b d x so.enough c h in
    record { bound = s.0; enough = omega (arith, s.1, so.enough, le, lt); reads = so.reads ∙ s.2 }

fails_at : {A : Type 0} (one : FormReader A) (e : FormFault) (bound : ℕ) (found : List A) (a b : At)
    → length a.words < bound → comma a ≡ (true, b) → WordsFail e (one b) → WordsFail e (more one bound found a)
unfolding more
fails_at one e zero found a b lt c h = absurd (omega arith)
fails_at one Memory (suc n) found a b lt c h = tt
fails_at one (Kind k) (suc n) found a b lt c h = rw (c, h) refl

pub fails : {A : Type 0} (one : FormReader A) (first : List A) (start : At) (e : FormFault) (found : List A) (a b : At)
    → SoFar one first start found a → comma a ≡ (true, b)
    → WordsFail e (one b) → WordsFail e (more one (suc (length start.words)) first start)
fails one first start e found a b so c h = rw so.reads (fails_at one e so.bound found a b so.enough c h)

-- an expression is read
pub read_on : (a : At) (e : Tree) (rest others : List Word) → front a.words ≡ Ok (e, rest) → rest ≡ others
    → expression a ≡ Ok (e, at others true)
unfolding expression
read_on a e rest others h same = rw (h, same) refl

pub words_behind : (k : ℕ) (ts : List Token) → drop k (words ts) ≡ words (take (length ts - k) (drop k ts))
words_behind k ts =
    drop-map word_of k ts ∙ ap words (sym (take_all (length ts - k) (drop k ts) (omega (arith, length-drop k ts))))

pub no_longer : (xs ys : List Token) → length xs ≤ length ys → length (words xs) ≤ length (words ys)
no_longer xs ys h = omega (arith, words_length xs, words_length ys, h)

pub shorter : (xs ys : List Token) → length xs < length ys → length (words xs) < length (words ys)
shorter xs ys h = omega (arith, words_length xs, words_length ys, h)

-- a list that was pushed to, seen by a function
pub seen_pushed : {X Y : Type 0} (view : X → Y) (xs ys : List X) (x : X) → ys ≡ xs ++ x ∷ []
    → map view xs ++ view x ∷ [] ≡ map view ys
seen_pushed view xs ys x e = sym (map-append view xs (x ∷ [])) ∙ ap (map view) (sym e)
