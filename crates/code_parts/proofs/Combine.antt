-- Laws of readers made of readers.
use Rattle.std.proofs.Common.{◌≡◌, ℕ, ◌+◌, ◌<◌, List, [], ◌∷◌, ◌++◌, length, get_or, Option, Some, None, Ok, Err, refl}
use Rattle.std.proofs.Common.{sym, ap, ◌∙◌, append_assoc}
use Rattle.std.proofs.lemmas.List.{get_or-append-add}
use Rattle.code_parts.specs.declared.flaw.Flaw.{Flaw}
use Rattle.code_parts.specs.Reading.{Front, Reader, ◌>>=◌, read_behind, give, byte_at, Judged, judge, both_judged, sure}
use Rattle.code_parts.specs.Reading.{pair_read_at, made_at, by_byte}
use Rattle.code_parts.specs.Laws.{AreBytes, IsSteady, ReadsTexts}

-- ---- steady readers

-- the step that did not miss bytes
pub behind_some : {A B : Type 0} (front : Front A) (next : A → Reader B) (y : B × List ℕ)
    → read_behind front next ≡ Some y → (x : A × List ℕ) × (front ≡ Some x) × (next x.0 x.1 ≡ Some y)
behind_some (Some x) next y e = (x, refl, e)
behind_some None next y e = absurd cc

pub steady_then : {A B : Type 0} {r : Reader A} {next : A → Reader B} → IsSteady r → ((a : A) → IsSteady (next a))
    → IsSteady (r >>= next)
steady_then {A} {B} {r} {next} first second = record {
  stays = λ bytes more rest y e.
      let a = behind_some (r bytes) next (y, rest) e in
      let here : r (bytes ++ more) ≡ Some (a.0.0, a.0.1 ++ more) = first.stays bytes more a.0.1 a.0.0 a.1 in
      let there = (second a.0.0).stays a.0.1 more rest y a.2 in
      ap (λ (front : Front A). read_behind front next) here ∙ there;
}

abbrev pub some : {A : Type 0} → A → Option A
some x = Some x

pub some_is : {A : Type 0} (x y : A) → some x ≡ some y → x ≡ y
some_is x y e = cc

abbrev pub done : {A : Type 0} → A → Judged A
done x = Ok x

pub ok_is : {A : Type 0} (x y : A) → done x ≡ done y → x ≡ y
ok_is x y e = cc

-- what giving gave
pub given : {A : Type 0} (a x : A) (bytes rest : List ℕ) → give a bytes ≡ Some (x, rest) → (a ≡ x) × (bytes ≡ rest)
given {A} a x bytes rest e =
    let same : (a, bytes) ≡ (x, rest) = some_is (a, bytes) (x, rest) e in
    (ap (λ (p : A × List ℕ). p.0) same, ap (λ (p : A × List ℕ). p.1) same)

pub steady_give : {A : Type 0} (a : A) → IsSteady (give a)
steady_give {A} a = record {
  stays = λ bytes more rest x e. let same = given a x bytes rest e in rw (same.0, same.1) refl;
}

-- ---- bytes left over

pub are_left : (bytes text rest : List ℕ) → bytes ≡ text ++ rest → AreBytes bytes → AreBytes rest
are_left bytes text rest e fit i =
    let there : get_or bytes (length text + i) 0 ≡ get_or rest i 0 =
    ap (λ (l : List ℕ). get_or l (length text + i) 0) e ∙ get_or-append-add text rest i 0 in
    rw there at (fit (length text + i))

-- ---- one thing behind another

both_ok : {A B : Type 0} (first : Judged A) (second : Judged B) (x : A × B) → both_judged first second ≡ Ok x
    → (first ≡ Ok x.0) × (second ≡ Ok x.1)
both_ok {A} {B} (Ok a) (Ok b) x e = let same : (a, b) ≡ x =
    ok_is (a, b) x e in (ap (λ (p : A × B). done p.0) same, ap (λ (p : A × B). done p.1) same)
both_ok (Ok a) (Err f) x e = absurd cc
both_ok (Err f) second x e = absurd cc

pub pair_spells : {A B : Type 0} {r : Reader (Judged A)} {s : Reader (Judged B)} {t : A → List ℕ} {u : B → List ℕ}
    {P G : A → Type 0} {Q H : B → Type 0} → ReadsTexts r t P G → ReadsTexts s u Q H
    → ReadsTexts (pair_read_at r s) (λ p. t p.0 ++ u p.1) (λ p. P p.0 × Q p.1) (λ p. G p.0 × H p.1)
pair_spells {A} {B} {r} {s} {t} {u} {P} {G} {Q} {H} first second = record {
  again = λ p rest h. ap (pair_read_at r s) (append_assoc (t p.0) (u p.1) rest)
      ∙ rw (first.again p.0 (u p.1 ++ rest) h.0, second.again p.1 rest h.1) refl;
  takes = λ bytes rest p fit e.
      let a = behind_some (r bytes) (λ x. s >>= λ y. give (both_judged x y)) (Ok p, rest) e in
      let b = behind_some (s a.0.1) (λ y. give (both_judged a.0.0 y)) (Ok p, rest) a.2 in
      let end = given (both_judged a.0.0 b.0.0) (Ok p) b.0.1 rest b.2 in
      let made = both_ok a.0.0 b.0.0 p end.0 in
      let one : r bytes ≡ Some (Ok p.0, a.0.1) = a.1 ∙ ap (λ (v : Judged A). Some (v, a.0.1)) made.0 in
      let two : s a.0.1 ≡ Some (Ok p.1, rest) =
      b.1 ∙ ap (λ (v : Judged B). Some (v, b.0.1)) made.1 ∙ ap (λ (l : List ℕ). Some (Ok p.1, l)) end.1 in
      let front = first.takes bytes a.0.1 p.0 fit one in
      let back = second.takes a.0.1 rest p.1 (are_left bytes (t p.0) a.0.1 front.0 fit) two in
      (front.0 ∙ ap (λ (l : List ℕ). t p.0 ++ l) back.0 ∙ sym (append_assoc (t p.0) (u p.1) rest), (front.1, back.1));
  steady = steady_then first.steady (λ x. steady_then second.steady (λ y. steady_give (both_judged x y)));
}

-- ---- what is made of a thing

judge_ok : {A B : Type 0} (first : Judged A) (make : A → Judged B) (y : B) → judge first make ≡ Ok y
    → (x : A) × (first ≡ Ok x) × (make x ≡ Ok y)
judge_ok (Ok x) make y e = (x, refl, e)
judge_ok (Err f) make y e = absurd cc

pub made_spells : {A B : Type 0} {r : Reader (Judged A)} {t : A → List ℕ} {P G : A → Type 0} → ReadsTexts r t P G
    → (make : A → Judged B) (u : B → List ℕ) (Q H : B → Type 0)
    → ((x : A) (y : B) → G x → make x ≡ Ok y → (t x ≡ u y) × H y)
    → ((y : B) → Q y → (x : A) × P x × (make x ≡ Ok y) × (u y ≡ t x))
    → ReadsTexts (made_at r make) u Q H
made_spells {A} {B} {r} {t} {P} {G} law make u Q H back forth = record {
  again = λ y rest h.
      let x = forth y h in
      ap (λ (l : List ℕ). made_at r make (l ++ rest)) x.3 ∙ rw (law.again x.0 rest x.1, x.2) refl;
  takes = λ bytes rest y fit e.
      let a = behind_some (r bytes) (λ x. give (judge x make)) (Ok y, rest) e in
      let end = given (judge a.0.0 make) (Ok y) a.0.1 rest a.2 in
      let x = judge_ok a.0.0 make y end.0 in
      let one : r bytes ≡ Some (Ok x.0, rest) =
      a.1 ∙ ap (λ (v : Judged A). Some (v, a.0.1)) x.1 ∙ ap (λ (l : List ℕ). Some (Ok x.0, l)) end.1 in
      let front = law.takes bytes rest x.0 fit one in
      let is = back x.0 y front.1 x.2 in
      (front.0 ∙ ap (λ (l : List ℕ). l ++ rest) is.0, is.1);
  steady = steady_then law.steady (λ x. steady_give (judge x make));
}

pub flawed_spells : {X : Type 0} (f : Flaw) (t : X → List ℕ) (P G : X → Type 0) → ((x : X) → P x → ⊥)
    → ReadsTexts (give (Err f)) t P G
flawed_spells {X} f t P G none = record {
  again = λ x rest h. absurd (none x h);
  takes = λ bytes rest x fit e. absurd (never x bytes rest e);
  steady = steady_give (Err f);
}
  where
    never : (x : X) (bytes rest : List ℕ) → give {A = Judged X} (Err f) bytes ≡ Some (Ok x, rest) → ⊥
    never x bytes rest e = let same : Err f ≡ done x = (given (Err f) (done x) bytes rest e).0 in cc

-- ---- a byte that says what follows

pub byte_takes : (bytes : List ℕ) (x : ℕ × List ℕ) → byte_at bytes ≡ Some x → bytes ≡ x.0 ∷ x.1
byte_takes [] x e = absurd cc
byte_takes (b ∷ bytes) x e = let same : (b, bytes) ≡ x =
    some_is (b, bytes) x e in ap (λ (p : ℕ × List ℕ). p.0 ∷ p.1) same

pub steady_byte : IsSteady byte_at
steady_byte = record { stays = λ bytes more rest x e. step bytes more rest x (byte_takes bytes (x, rest) e) }
  where
    step : (bytes more rest : List ℕ) (x : ℕ) → bytes ≡ x ∷ rest → byte_at (bytes ++ more) ≡ Some (x, rest ++ more)
    step bytes more rest x e = rw e refl

pub byte_spells : ReadsTexts (sure byte_at) (λ b. b ∷ []) (λ b. Unit {0}) (λ b. b < 256)
byte_spells = record {
  again = λ b rest h. refl;
  takes = λ bytes rest b fit e.
      let a = behind_some (byte_at bytes) (λ x. give (Ok x)) (Ok b, rest) e in
      let end = given (done a.0.0) (done b) a.0.1 rest a.2 in
      let is = byte_takes bytes a.0 a.1 in
      let first : a.0.0 ≡ b = ok_is a.0.0 b end.0 in
      let whole : bytes ≡ b ∷ rest = is ∙ ap (λ (n : ℕ). n ∷ a.0.1) first ∙ ap (λ (l : List ℕ). b ∷ l) end.1 in
      (whole, rw (ap (λ (l : List ℕ). get_or l 0 0) whole) at (fit 0));
  steady = steady_then steady_byte (λ x. steady_give (Ok x));
}

pub choice_spells : {X : Type 0} (choose : ℕ → Reader (Judged X)) (tag : X → ℕ) (t : X → List ℕ) (P G : X → Type 0)
    → ((b : ℕ) → ReadsTexts (choose b) t (λ x. P x × (tag x ≡ b)) (λ x. G x × (tag x ≡ b)))
    → ReadsTexts (by_byte choose) (λ x. tag x ∷ t x) P G
choice_spells {X} choose tag t P G each = record {
  again = λ x rest h. (each (tag x)).again x rest (h, refl);
  takes = λ bytes rest x fit e.
      let a = behind_some (byte_at bytes) choose (Ok x, rest) e in
      let is = byte_takes bytes a.0 a.1 in
      let back = (each a.0.0).takes a.0.1 rest x (are_left bytes (a.0.0 ∷ []) a.0.1 is fit) a.2 in
      (is ∙ ap (λ (n : ℕ). n ∷ a.0.1) (sym back.1.1) ∙ ap (λ (l : List ℕ). tag x ∷ l) back.0, back.1.0);
  steady = steady_then steady_byte (λ b. (each b).steady);
}
