-- What reading from left to right finds is what the grammar allows.
use Rattle.std.proofs.Common.{◌≡◌, ℕ, List, [], ◌∷◌, ◌++◌, Bool, true, false, Result, Ok, Err, refl, sym, ap, ◌∙◌}
use Rattle.std.proofs.Common.{subst, append_assoc, inl, inr}
use Rattle.std.specs.Prelude.{if◌then◌else◌}
use Rattle.prg_expr.specs.Functions.{is_cut}
use Rattle.prg_expr.specs.Word.{Word}
use Rattle.prg_expr.specs.Word as word
use Rattle.prg_expr.specs.declared.fault.ParseFaultKind.{ParseFaultKind}
use Rattle.prg_line.specs.Forms.{At, at, FormReader, WordTaken, on_taken, takes, takes_in, is_word_in, clause}
use Rattle.prg_line.specs.Forms.{unexpected}
use Rattle.prg_expr.specs.Reading.{◌>>=◌}
use Rattle.prg_line.specs.Commands.{Phrase, Is, Then, Key, MarkThen, Either, But, Where}

-- words in front of a rest that are as they have to be
pub record Front (P : List Word → Type 0) (ws rest : List Word) : Type 0 where
  pub front : List Word
  pub holds : P front
  pub splits : ws ≡ front ++ rest

-- what a reader answers is said by the words that it read
pub record Sound {A : Type 0} (r : FormReader A) (P : Phrase A) : Type 0 where
  pub reads : (a : At) (x : A) (b : At) → r a ≡ Ok (x, b) → Front (P x) a.words b.words

-- what is read without reading on
abbrev pub ok : {A : Type 0} → A → FormReader A
ok x a = Ok (x, a)

abbrev pub fine : {A : Type 0} → A → Result A ParseFaultKind
fine x = Ok x

abbrev pub failed : {A : Type 0} → ParseFaultKind → Result A ParseFaultKind
failed e = Err e

abbrev pub taken : Bool → At → WordTaken
taken x a = (x, a)

pub not_ok : {B : Type 0} (e : ParseFaultKind) (y : B) → failed e ≡ fine y → ⊥
not_ok e y h = cc

pub bind_ok : {A B : Type 0} (m : Result A ParseFaultKind) (f : A → Result B ParseFaultKind) (y : B) → (m >>= f) ≡ Ok y
    → (x : A) × (m ≡ Ok x) × (f x ≡ Ok y)
bind_ok (Ok x) f y h = (x, refl, h)
bind_ok (Err e) f y h = absurd (not_ok e y h)

pub ok_same : {A : Type 0} (x y : A) → fine x ≡ fine y → x ≡ y
ok_same x y h = cc

-- the parts of what was read
pub same_said : {A : Type 0} (x y : A) (a b : At) → ok x a ≡ Ok (y, b) → x ≡ y
same_said x y a b h = ap (λ p. p.0) (ok_same (x, a) (y, b) h)

pub same_place : {A : Type 0} (x y : A) (a b : At) → ok x a ≡ Ok (y, b) → a ≡ b
same_place x y a b h = ap (λ p. p.1) (ok_same (x, a) (y, b) h)

pub apart : (false ≡ true) → ⊥
apart h = cc

pub not-taken : (a b : At) → taken false a ≡ taken true b → ⊥
not-taken a b h = apart (ap (λ (t : WordTaken). t.0) h)

pub not-left : (a b : At) → taken true a ≡ taken false b → ⊥
not-left a b h = apart (sym (ap (λ (t : WordTaken). t.0) h))

pub same-taken : (x : Bool) (a b : At) → taken x a ≡ taken x b → a ≡ b
same-taken x a b h = ap (λ (t : WordTaken). t.1) h

pub same_words : (a b : At) → a ≡ b → a.words ≡ b.words
same_words a b e = ap (λ (p : At). p.words) e

pub is_sound : {A : Type 0} (x : A) → Sound (ok x) (Is x)
is_sound x = record {
  reads =
      λ a y b h. record {
        front = [];
        holds = (sym (same_said x y a b h), refl);
        splits = same_words a b (same_place x y a b h);
      };
}

then_front : {A B : Type 0} (r : FormReader A) (f : A → FormReader B) (P : Phrase A) (Q : A → Phrase B) → Sound r P
    → ((x : A) → Sound (f x) (Q x)) → (a : At) (y : B) (d : At)
    → (r a >>= λ x. f x.0 x.1) ≡ Ok (y, d) → Front (Then P Q y) a.words d.words
then_front r f P Q first second a y d h =
    let b = bind_ok (r a) (λ x. f x.0 x.1) (y, d) h in
    let p = first.reads a b.0.0 b.0.1 b.1 in
    let q = (second b.0.0).reads b.0.1 y d b.2 in
    record {
      front = p.front ++ q.front;
      holds = (b.0.0, p.front, q.front, p.holds, q.holds, refl);
      splits = p.splits ∙ ap (λ (l : List Word). p.front ++ l) q.splits ∙ sym (append_assoc p.front q.front d.words);
    }

pub then_sound : {A B : Type 0} {r : FormReader A} {f : A → FormReader B} {P : Phrase A} {Q : A → Phrase B} → Sound r P
    → ((x : A) → Sound (f x) (Q x)) → Sound (λ a. r a >>= λ x. f x.0 x.1) (Then P Q)
then_sound {r} {f} {P} {Q} first second = record { reads = then_front r f P Q first second }

-- a step that reads one word
mark_front : {B : Type 0} (w : Word) (step : At → Result At ParseFaultKind) (r : FormReader B) (P : Phrase B)
    → ((a b : At) → step a ≡ Ok b → a.words ≡ w ∷ b.words) → Sound r P → (a : At) (y : B) (d : At)
    → (step a >>= r) ≡ Ok (y, d) → Front (MarkThen w P y) a.words d.words
mark_front w step r P one behind a y d h =
    let b = bind_ok (step a) r (y, d) h in
    let q = behind.reads b.0 y d b.2 in
    record {
      front = w ∷ q.front;
      holds = (q.front, q.holds, refl);
      splits = one a b.0 b.1 ∙ ap (λ (l : List Word). w ∷ l) q.splits;
    }

-- the word that was taken
pub record Took (whole : List ℕ) (ws rest : List Word) : Type 0 where
  pub letters : List ℕ
  pub is_it : is_cut letters whole ≡ true
  pub splits : ws ≡ word.Name letters ∷ rest

took-name : (whole s : List ℕ) (a b : At) (ws : List Word) (x : Bool) → is_cut s whole ≡ x
    → (if x then taken true (at ws false) else taken false a) ≡ taken true b → Took whole (word.Name s ∷ ws) b.words
took-name whole s a b ws true e h =
    record {
      letters = s;
      is_it = e;
      splits = ap (λ (l : List Word). word.Name s ∷ l) (same_words (at ws false) b (same-taken true (at ws false) b h));
    }
took-name whole s a b ws false e h = absurd (not-taken a b h)

took-in : (whole : List ℕ) (a b : At) (ws : List Word) → takes_in whole a ws ≡ taken true b → Took whole ws b.words
unfolding takes_in
took-in whole a b [] h = absurd (not-taken a b h)
took-in whole a b (word.Name s ∷ ws) h = took-name whole s a b ws (is_cut s whole) refl h
took-in whole a b (word.Number n ∷ ws) h = absurd (not-taken a b h)
took-in whole a b (word.Text t ∷ ws) h = absurd (not-taken a b h)
took-in whole a b (word.Logical l ∷ ws) h = absurd (not-taken a b h)
took-in whole a b (word.Not ∷ ws) h = absurd (not-taken a b h)
took-in whole a b (word.Sign o ∷ ws) h = absurd (not-taken a b h)
took-in whole a b (word.Arrow ∷ ws) h = absurd (not-taken a b h)
took-in whole a b (word.Open ∷ ws) h = absurd (not-taken a b h)
took-in whole a b (word.Close ∷ ws) h = absurd (not-taken a b h)
took-in whole a b (word.Comma ∷ ws) h = absurd (not-taken a b h)
took-in whole a b (word.Outside m ∷ ws) h = absurd (not-taken a b h)

-- where a word wasn't taken, reading stands where it stood
stood-name : (s whole : List ℕ) (a b : At) (ws : List Word) (x : Bool)
    → (if x then taken true (at ws false) else taken false a) ≡ taken false b → a ≡ b
stood-name s whole a b ws true h = absurd (not-left (at ws false) b h)
stood-name s whole a b ws false h = same-taken false a b h

stood-in : (whole : List ℕ) (a b : At) (ws : List Word) → takes_in whole a ws ≡ taken false b → a ≡ b
unfolding takes_in
stood-in whole a b [] h = same-taken false a b h
stood-in whole a b (word.Name s ∷ ws) h = stood-name s whole a b ws (is_cut s whole) h
stood-in whole a b (word.Number n ∷ ws) h = same-taken false a b h
stood-in whole a b (word.Text t ∷ ws) h = same-taken false a b h
stood-in whole a b (word.Logical l ∷ ws) h = same-taken false a b h
stood-in whole a b (word.Not ∷ ws) h = same-taken false a b h
stood-in whole a b (word.Sign o ∷ ws) h = same-taken false a b h
stood-in whole a b (word.Arrow ∷ ws) h = same-taken false a b h
stood-in whole a b (word.Open ∷ ws) h = same-taken false a b h
stood-in whole a b (word.Close ∷ ws) h = same-taken false a b h
stood-in whole a b (word.Comma ∷ ws) h = same-taken false a b h
stood-in whole a b (word.Outside m ∷ ws) h = same-taken false a b h

key_front : {B : Type 0} (whole : List ℕ) (P : Phrase B) (y : B) (ws mid rest : List Word) → Took whole ws mid
    → Front (P y) mid rest → Front (Key whole P y) ws rest
key_front whole P y ws mid rest t q =
    record {
      front = word.Name t.letters ∷ q.front;
      holds = (t.letters, q.front, t.is_it, q.holds, refl);
      splits = t.splits ∙ ap (λ (l : List Word). word.Name t.letters ∷ l) q.splits;
    }

either_left : {B : Type 0} (P Q : Phrase B) (y : B) (ws rest : List Word) → Front (P y) ws rest
    → Front (Either P Q y) ws rest
either_left P Q y ws rest f = record { front = f.front; holds = inl f.holds; splits = f.splits }

either_right : {B : Type 0} (P Q : Phrase B) (y : B) (ws rest : List Word) → Front (Q y) ws rest
    → Front (Either P Q y) ws rest
either_right P Q y ws rest f = record { front = f.front; holds = inr f.holds; splits = f.splits }

if_front : {B : Type 0} (r s : FormReader B) (P Q : Phrase B) → Sound r P → Sound s Q
    → (x : Bool) (a : At) (y : B) (d : At) → (if x then r a else s a) ≡ Ok (y, d) → Front (Either P Q y) a.words d.words
if_front r s P Q first second true a y d e = either_left P Q y a.words d.words (first.reads a y d e)
if_front r s P Q first second false a y d e = either_right P Q y a.words d.words (second.reads a y d e)

pub if_sound : {B : Type 0} (test : At → Bool) {r s : FormReader B} {P Q : Phrase B} → Sound r P → Sound s Q
    → Sound (λ a. if test a then r a else s a) (Either P Q)
if_sound test {r} {s} {P} {Q} first second = record {
  reads = λ a y d h. if_front r s P Q first second (test a) a y d h;
}

-- a phrase that doesn't begin with a word

not_in_front : (whole : List ℕ) (front rest : List Word) → is_word_in whole (front ++ rest) ≡ false
    → is_word_in whole front ≡ false
not_in_front whole [] rest h = refl
not_in_front whole (w ∷ ws) rest h = h

pub but_front : {B : Type 0} (whole : List ℕ) (P : Phrase B) (y : B) (ws rest : List Word) → is_word_in whole ws ≡ false
    → Front (P y) ws rest → Front (But whole P y) ws rest
but_front whole P y ws rest n p =
    record {
      front = p.front;
      holds = (not_in_front whole p.front rest (ap (is_word_in whole) (sym p.splits) ∙ n), p.holds);
      splits = p.splits;
    }

absent_name : (s whole : List ℕ) (a b : At) (ws : List Word) (x : Bool)
    → (if x then taken true (at ws false) else taken false a) ≡ taken false b → x ≡ false
absent_name s whole a b ws true h = absurd (not-left (at ws false) b h)
absent_name s whole a b ws false h = refl

absent_in : (whole : List ℕ) (a b : At) (ws : List Word) → takes_in whole a ws ≡ taken false b
    → is_word_in whole ws ≡ false
unfolding takes_in
absent_in whole a b [] h = refl
absent_in whole a b (word.Name s ∷ ws) h = absent_name s whole a b ws (is_cut s whole) h
absent_in whole a b (word.Number n ∷ ws) h = refl
absent_in whole a b (word.Text t ∷ ws) h = refl
absent_in whole a b (word.Logical l ∷ ws) h = refl
absent_in whole a b (word.Not ∷ ws) h = refl
absent_in whole a b (word.Sign o ∷ ws) h = refl
absent_in whole a b (word.Arrow ∷ ws) h = refl
absent_in whole a b (word.Open ∷ ws) h = refl
absent_in whole a b (word.Close ∷ ws) h = refl
absent_in whole a b (word.Comma ∷ ws) h = refl
absent_in whole a b (word.Outside m ∷ ws) h = refl

taken_front : {B : Type 0} (whole : List ℕ) (r s : FormReader B) (P Q : Phrase B) → Sound r P → Sound s Q
    → (x : Bool) (a b : At) (y : B) (d : At)
    → takes whole a ≡ taken x b → on_taken (taken x b) r s ≡ Ok (y, d) → Front (Where whole P Q y) a.words d.words
taken_front whole r s P Q first second true a b y d t e =
    either_left (Key whole P) (But whole Q) y a.words d.words
    (key_front whole P y a.words b.words d.words (took-in whole a b a.words t) (first.reads b y d e))
taken_front whole r s P Q first second false a b y d t e =
    either_right (Key whole P) (But whole Q) y a.words d.words
    (but_front whole Q y a.words d.words (absent_in whole a b a.words t)
    (subst (λ (ws : List Word). Front (Q y) ws d.words) (sym (same_words a b (stood-in whole a b a.words t)))
    (second.reads b y d e)))

pub taken_sound : {B : Type 0} (whole : List ℕ) {r s : FormReader B} {P Q : Phrase B} → Sound r P → Sound s Q
    → Sound (λ a. on_taken (takes whole a) r s) (Where whole P Q)
taken_sound whole {r} {s} {P} {Q} first second = record {
  reads = λ a y d h. taken_front whole r s P Q first second (takes whole a).0 a (takes whole a).1 y d refl h;
}

-- a word that must stand in front

clause_took : (whole : List ℕ) (x : Bool) (a b d : At) → takes whole a ≡ taken x b
    → on_taken (taken x b) (λ p. fine p) (λ p. Err (unexpected p)) ≡ Ok d → Took whole a.words d.words
clause_took whole true a b d t e =
    subst (λ (p : At). Took whole a.words p.words) (ok_same b d e) (took-in whole a b a.words t)
clause_took whole false a b d t e = absurd (not_ok (unexpected b) d e)

clause_in : (whole : List ℕ) (a d : At) → clause whole a ≡ Ok d → Took whole a.words d.words
unfolding clause
clause_in whole a d h = clause_took whole (takes whole a).0 a (takes whole a).1 d refl h

clause_front : {B : Type 0} (whole : List ℕ) (r : FormReader B) (P : Phrase B) → Sound r P → (a : At) (y : B) (d : At)
    → (clause whole a >>= r) ≡ Ok (y, d) → Front (Key whole P y) a.words d.words
clause_front whole r P behind a y d h =
    let b = bind_ok (clause whole a) r (y, d) h in
    key_front whole P y a.words b.0.words d.words (clause_in whole a b.0 b.1) (behind.reads b.0 y d b.2)

pub clause_sound : {B : Type 0} (whole : List ℕ) {r : FormReader B} {P : Phrase B} → Sound r P
    → Sound (λ a. clause whole a >>= r) (Key whole P)
clause_sound whole {r} {P} behind = record { reads = clause_front whole r P behind }

pub mark_sound : {B : Type 0} (w : Word) (step : At → Result At ParseFaultKind)
    → ((a b : At) → step a ≡ Ok b → a.words ≡ w ∷ b.words) → {r : FormReader B} {P : Phrase B} → Sound r P
    → Sound (λ a. step a >>= r) (MarkThen w P)
mark_sound w step one {r} {P} behind = record { reads = mark_front w step r P one behind }

-- a reader that refuses all
pub fails_sound : {B : Type 0} (k : ParseFaultKind) (P : Phrase B) → Sound (λ a. failed k) P
fails_sound k P = record { reads = λ a y d h. absurd (not_ok k (y, d) h) }
