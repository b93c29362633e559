-- What the grammar allows is found by reading from left to right.
use Rattle.std.proofs.Common.{◌≡◌, ℕ, List, [], ◌∷◌, ◌++◌, Bool, true, false, Result, Ok, refl, sym, ap, ◌∙◌}
use Rattle.std.proofs.Common.{append_assoc, inl, inr}
use Rattle.std.specs.Prelude.{if◌then◌else◌}
use Rattle.std.proofs.lemmas.List.{append-nil}
use Rattle.prg_expr.specs.Functions.{is_cut}
use Rattle.prg_expr.specs.Word.{Word}
use Rattle.prg_expr.specs.Word as word
use Rattle.prg_expr.specs.declared.fault.ParseFaultKind.{ParseFaultKind}
use Rattle.prg_expr.specs.declared.fault.ParseFaultKind.TheVariants as kind
use Rattle.prg_line.specs.Forms.{At, at, FormReader, WordTaken, on_taken, takes, takes_in, is_at, is_at_end, is_nil}
use Rattle.prg_line.specs.Forms.{is_word_in, clause, unexpected}
use Rattle.prg_expr.specs.Reading.{◌>>=◌}
use Rattle.prg_line.specs.Commands.{Phrase, Is, Then, Key, MarkThen, Either, But, Where}
use Rattle.prg_line.proofs.Sound.{ok, fine, failed, taken}

-- what was said is found, and these words are left
pub record Reaches {A : Type 0} (r : FormReader A) (a : At) (x : A) (rest : List Word) : Type 0 where
  pub place : At
  pub reads : r a ≡ Ok (x, place)
  pub left : place.words ≡ rest

-- what a phrase's words say is found, where what follows them may follow
pub record Full {A : Type 0} (r : FormReader A) (P : Phrase A) (F : List Word → Type 0) : Type 0 where
  pub finds : (a : At) (x : A) (front rest : List Word) → P x front → a.words ≡ front ++ rest → F rest
      → Reaches r a x rest

-- nothing follows
abbrev pub Ended : List Word → Type 0
Ended rest = rest ≡ []

pub bind_to : {A B : Type 0} (m : Result A ParseFaultKind) (f : A → Result B ParseFaultKind) (x : A) (y : B)
    → m ≡ fine x → f x ≡ fine y → (m >>= f) ≡ fine y
bind_to m f x y e h = ap (λ (n : Result _ ParseFaultKind). n >>= f) e ∙ h

pub is_full : {A : Type 0} (x : A) {F : List Word → Type 0} → Full (ok x) (Is x) F
is_full x = record {
  finds =
      λ a y front rest p e f.
      record { place = a; reads = ap (λ z. fine (z, a)) (sym p.0); left = e ∙ ap (λ (l : List Word). l ++ rest) p.1 };
}

then_finds : {A B : Type 0} (r : FormReader A) (f : A → FormReader B) (P : Phrase A) (Q : A → Phrase B)
    (F G : List Word → Type 0) → Full r P F → ((x : A) → Full (f x) (Q x) G)
    → ((x : A) (y : B) (front rest : List Word) → Q x y front → G rest → F (front ++ rest))
    → (a : At) (y : B) (whole rest : List Word) → Then P Q y whole → a.words ≡ whole ++ rest → G rest
    → Reaches (λ a. r a >>= λ x. f x.0 x.1) a y rest
then_finds r f P Q F G first second begins a y whole rest (x, front, other, p, q, e) w g =
    let s =
    first.finds a x front (other ++ rest) p
    (w ∙ ap (λ (l : List Word). l ++ rest) e ∙ append_assoc front other rest) (begins x y other rest q g) in
    let t = (second x).finds s.place y other rest q s.left g in
    record {
      place = t.place;
      reads = bind_to (r a) (λ z. f z.0 z.1) (x, s.place) (y, t.place) s.reads t.reads;
      left = t.left;
    }

pub then_full : {A B : Type 0} {r : FormReader A} {f : A → FormReader B} {P : Phrase A} {Q : A → Phrase B}
    {F G : List Word → Type 0} → Full r P F → ((x : A) → Full (f x) (Q x) G)
    → ((x : A) (y : B) (front rest : List Word) → Q x y front → G rest → F (front ++ rest))
    → Full (λ a. r a >>= λ x. f x.0 x.1) (Then P Q) G
then_full {r} {f} {P} {Q} {F} {G} first second begins = record { finds = then_finds r f P Q F G first second begins }

-- words of the command

takes_name : (whole s : List ℕ) (a : At) (ws : List Word) → is_cut s whole ≡ true
    → takes_in whole a (word.Name s ∷ ws) ≡ taken true (at ws false)
unfolding takes_in
takes_name whole s a ws h = rw h refl

takes_there : (whole s : List ℕ) (a : At) (ws : List Word) → a.words ≡ word.Name s ∷ ws → is_cut s whole ≡ true
    → takes whole a ≡ taken true (at ws false)
takes_there whole s a ws e h = ap (λ (l : List Word). takes_in whole a l) e ∙ takes_name whole s a ws h

absent_name : (whole s : List ℕ) (a : At) (ws : List Word) → is_cut s whole ≡ false
    → takes_in whole a (word.Name s ∷ ws) ≡ taken false a
unfolding takes_in
absent_name whole s a ws h = rw h refl

absent_in : (whole : List ℕ) (a : At) (ws : List Word) → is_word_in whole ws ≡ false
    → takes_in whole a ws ≡ taken false a
unfolding takes_in
absent_in whole a [] h = refl
absent_in whole a (word.Name s ∷ ws) h = absent_name whole s a ws h
absent_in whole a (word.Number n ∷ ws) h = refl
absent_in whole a (word.Text t ∷ ws) h = refl
absent_in whole a (word.Logical l ∷ ws) h = refl
absent_in whole a (word.Not ∷ ws) h = refl
absent_in whole a (word.Sign o ∷ ws) h = refl
absent_in whole a (word.Arrow ∷ ws) h = refl
absent_in whole a (word.Open ∷ ws) h = refl
absent_in whole a (word.Close ∷ ws) h = refl
absent_in whole a (word.Comma ∷ ws) h = refl
absent_in whole a (word.Outside m ∷ ws) h = refl

clause_there : (whole s : List ℕ) (a : At) (ws : List Word) → a.words ≡ word.Name s ∷ ws → is_cut s whole ≡ true
    → clause whole a ≡ fine (at ws false)
unfolding clause
clause_there whole s a ws e h =
    ap (λ (t : WordTaken). on_taken t (λ b. fine b) (λ b. failed (unexpected b))) (takes_there whole s a ws e h)

key_finds : {B : Type 0} (whole : List ℕ) (r : FormReader B) (P : Phrase B) (G : List Word → Type 0) → Full r P G
    → (a : At) (y : B) (front rest : List Word) → Key whole P y front → a.words ≡ front ++ rest → G rest
    → Reaches (λ a. clause whole a >>= r) a y rest
key_finds whole r P G behind a y front rest (s, others, h, p, e) w g =
    let there = w ∙ ap (λ (l : List Word). l ++ rest) e in
    let t = behind.finds (at (others ++ rest) false) y others rest p refl g in
    record {
      place = t.place;
      reads =
          bind_to (clause whole a) r (at (others ++ rest) false) (y, t.place)
          (clause_there whole s a (others ++ rest) there h) t.reads;
      left = t.left;
    }

pub key_full : {B : Type 0} (whole : List ℕ) {r : FormReader B} {P : Phrase B} {G : List Word → Type 0} → Full r P G
    → Full (λ a. clause whole a >>= r) (Key whole P) G
key_full whole {r} {P} {G} behind = record { finds = key_finds whole r P G behind }

pub taken_to : {B : Type 0} (r s : FormReader B) (t u : WordTaken) (x : Result (B × At) ParseFaultKind) → t ≡ u
    → on_taken u r s ≡ x → on_taken t r s ≡ x
taken_to r s t u x e h = ap (λ (v : WordTaken). on_taken v r s) e ∙ h

where_finds : {B : Type 0} (whole : List ℕ) (r s : FormReader B) (P Q : Phrase B) → Full r P Ended → Full s Q Ended
    → (a : At) (y : B) (front rest : List Word) → Where whole P Q y front → a.words ≡ front ++ rest → rest ≡ []
    → Reaches (λ a. on_taken (takes whole a) r s) a y rest
where_finds whole r s P Q first second a y front rest (inl (n, others, h, p, e)) w g =
    let there = w ∙ ap (λ (l : List Word). l ++ rest) e in
    let t = first.finds (at (others ++ rest) false) y others rest p refl g in
    record {
      place = t.place;
      reads =
          taken_to r s (takes whole a) (taken true (at (others ++ rest) false)) (fine (y, t.place))
          (takes_there whole n a (others ++ rest) there h) t.reads;
      left = t.left;
    }
where_finds whole r s P Q first second a y front rest (inr (h, q)) w g =
    let t = second.finds a y front rest q w g in
    let none : is_word_in whole a.words ≡ false =
    ap (is_word_in whole) (w ∙ ap (λ (l : List Word). front ++ l) g ∙ append-nil front) ∙ h in
    record {
      place = t.place;
      reads = taken_to r s (takes whole a) (taken false a) (fine (y, t.place)) (absent_in whole a a.words none) t.reads;
      left = t.left;
    }

pub where_full : {B : Type 0} (whole : List ℕ) {r s : FormReader B} {P Q : Phrase B} → Full r P Ended → Full s Q Ended
    → Full (λ a. on_taken (takes whole a) r s) (Where whole P Q) Ended
where_full whole {r} {s} {P} {Q} first second = record { finds = where_finds whole r s P Q first second }

-- the line's end

pub test_to : {B : Type 0} (x y : Bool) (r s t : Result (B × At) ParseFaultKind) → x ≡ y → (if y then r else s) ≡ t
    → (if x then r else s) ≡ t
test_to x y r s t e h = ap (λ (z : Bool). if z then r else s) e ∙ h

-- a phrase of one word at least
pub record Filled {B : Type 0} (P : Phrase B) : Type 0 where
  pub filled : (y : B) → P y [] → ⊥

end_finds : {B : Type 0} (x : B) (s : FormReader B) (Q : Phrase B) → Filled Q → Full s Q Ended
    → (a : At) (y : B) (front rest : List Word) → Either (Is x) Q y front → a.words ≡ front ++ rest → rest ≡ []
    → Reaches (λ a. if is_at_end a then ok x a else s a) a y rest
end_finds x s Q some second a y front rest (inl (e, n)) w g =
    record {
      place = a;
      reads =
          test_to (is_at_end a) true (ok x a) (s a) (fine (y, a))
          (ap is_nil (w ∙ ap (λ (l : List Word). l ++ rest) n ∙ g)) (ap (λ z. fine (z, a)) (sym e));
      left = w ∙ ap (λ (l : List Word). l ++ rest) n;
    }
end_finds x s Q some second a y [] rest (inr q) w g = absurd (some.filled y q)
end_finds x s Q some second a y (v ∷ front) rest (inr q) w g =
    let t = second.finds a y (v ∷ front) rest q w g in
    record {
      place = t.place;
      reads = test_to (is_at_end a) false (ok x a) (s a) (fine (y, t.place)) (ap is_nil w) t.reads;
      left = t.left;
    }

pub end_full : {B : Type 0} (x : B) {s : FormReader B} {Q : Phrase B} → Filled Q → Full s Q Ended
    → Full (λ a. if is_at_end a then ok x a else s a) (Either (Is x) Q) Ended
end_full x {s} {Q} some second = record { finds = end_finds x s Q some second }

refused_finds : {B : Type 0} (whole : List ℕ) (r : FormReader B) (P : Phrase B) → Full r P Ended
    → (a : At) (y : B) (front rest : List Word) → But whole P y front → a.words ≡ front ++ rest → rest ≡ []
    → Reaches (λ a. if is_at whole a then failed kind.Word else r a) a y rest
refused_finds whole r P first a y front rest (h, p) w g =
    let t = first.finds a y front rest p w g in
    let none : is_at whole a ≡ false =
    ap (is_word_in whole) (w ∙ ap (λ (l : List Word). front ++ l) g ∙ append-nil front) ∙ h in
    record {
      place = t.place;
      reads = test_to (is_at whole a) false (failed kind.Word) (r a) (fine (y, t.place)) none t.reads;
      left = t.left;
    }

pub refused_full : {B : Type 0} (whole : List ℕ) {r : FormReader B} {P : Phrase B} → Full r P Ended
    → Full (λ a. if is_at whole a then failed kind.Word else r a) (But whole P) Ended
refused_full whole {r} {P} first = record { finds = refused_finds whole r P first }

-- what may follow an expression, and what may follow a list: a clause word or the line's end, and more

abbrev pub Anything : List Word → Type 0
Anything rest = Unit {0}

pub mark_finds : {B : Type 0} (w : Word) (step : At → Result At ParseFaultKind) (r : FormReader B) (P : Phrase B)
    (G : List Word → Type 0) → ((a : At) (ws : List Word) → a.words ≡ w ∷ ws → (b : At) × (step a ≡ fine b)
    × (b.words ≡ ws))
    → Full r P G → (a : At) (y : B) (front rest : List Word) → MarkThen w P y front → a.words ≡ front ++ rest → G rest
    → Reaches (λ a. step a >>= r) a y rest
mark_finds w step r P G one behind a y front rest (others, p, e) v g =
    let s = one a (others ++ rest) (v ∙ ap (λ (l : List Word). l ++ rest) e) in
    let t = behind.finds s.0 y others rest p s.2 g in
    record { place = t.place; reads = bind_to (step a) r s.0 (y, t.place) s.1 t.reads; left = t.left }
