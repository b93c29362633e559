-- Laws of parts made of parts.
use Rattle.std.proofs.Common.{◌⊎◌, inl, inr, ◌≡◌, ℕ, zero, suc, Bool, true, false, List, [], ◌∷◌, ◌++◌, length, Some}
use Rattle.std.proofs.Common.{None, Result, Ok, Err, refl, sym, ap, subst, ◌∙◌, append_assoc}
use Rattle.std.specs.List.{flat_map, AllByRecursion}
use Rattle.std.proofs.lemmas.List.{append-nil}
use Rattle.std.proofs.lemmas.Bool.{and_parts, and_from}
use Rattle.code_parts.specs.declared.flaw.Flaw.{Flaw}
use Rattle.code_parts.specs.Reading.{Front, Reader, Judged}
use Rattle.code_parts.specs.Laws.{AreBytes, ReadsTexts}
use Rattle.code_parts.proofs.Combine.{are_left}
use Rattle.xcode.specs.declared.fault.CodeFault.{CodeFault}
use Rattle.xcode.specs.declared.fault.CodeFault.TheVariants.{Short, Shape}
use Rattle.xcode.specs.Decoding.{FilePart, bind, checked, flaw_fault, item_told, joint, shaped, items_at}
use Rattle.xcode.specs.Laws.{Lasts, IsSpelled, go_on}

abbrev pub fine : {A : Type 0} → A → Result A CodeFault
fine x = Ok x

abbrev pub bad : {A : Type 0} → CodeFault → Result A CodeFault
bad e = Err e

pub fine_is : {A : Type 0} (x y : A) → fine x ≡ fine y → x ≡ y
fine_is x y e = cc

pub bad_is : {A : Type 0} (e f : CodeFault) → bad {A = A} e ≡ bad f → e ≡ f
bad_is e f h = cc

pub not_both : {A : Type 0} (x : A) (e : CodeFault) → fine x ≡ bad e → ⊥
not_both x e h = cc

pub bind_fine : {A B : Type 0} (first : Result A CodeFault) (next : A → Result B CodeFault) (y : B)
    → bind first next ≡ Ok y → (x : A) × (first ≡ Ok x) × (next x ≡ Ok y)
bind_fine (Ok x) next y e = (x, refl, e)
bind_fine (Err f) next y e = absurd cc

-- the first part fails, or the one behind it
pub bind_bad : {A B : Type 0} (first : Result A CodeFault) (next : A → Result B CodeFault) (e : CodeFault)
    → bind first next ≡ Err e → (first ≡ Err e) ⊎ ((x : A) × (first ≡ Ok x) × (next x ≡ Err e))
bind_bad {A} {B} (Ok x) next e h = inr (x, refl, h)
bind_bad {A} {B} (Err f) next e h = inl (ap (λ (g : CodeFault). bad g) (bad_is {A = B} f e h))

pub pair_is : {A : Type 0} (a x : A) (bytes rest : List ℕ) → fine {A = A × List ℕ} (a, bytes) ≡ fine (x, rest)
    → (a ≡ x) × (bytes ≡ rest)
pair_is {A} a x bytes rest e =
    let same : (a, bytes) ≡ (x, rest) = fine_is (a, bytes) (x, rest) e in
    (ap (λ (p : A × List ℕ). p.0) same, ap (λ (p : A × List ℕ). p.1) same)

-- ---- one part behind another

pub joint_spelled : {A B : Type 0} {r : FilePart A} {s : A → FilePart B} {t : A → List ℕ} {u : B → List ℕ} {P G : A
    → Type 0} {Q H : A → B → Type 0} → IsSpelled r t P G → ((a : A) → IsSpelled (s a) u (Q a) (H a))
    → IsSpelled (joint r s) (λ p. t p.0 ++ u p.1) (λ p. P p.0 × Q p.0 p.1) (λ p. G p.0 × H p.0 p.1)
joint_spelled {A} {B} {r} {s} {t} {u} {P} {G} {Q} {H} first second = record {
  again = λ p rest h. ap (joint r s) (append_assoc (t p.0) (u p.1) rest)
      ∙ rw (first.again p.0 (u p.1 ++ rest) h.0, (second p.0).again p.1 rest h.1) refl;
  takes = λ bytes rest p fit e.
      let a = bind_fine (r bytes) (λ x. bind (s x.0 x.1) (λ y. Ok ((x.0, y.0), y.1))) (p, rest) e in
      let b = bind_fine (s a.0.0 a.0.1) (λ y. Ok ((a.0.0, y.0), y.1)) (p, rest) a.2 in
      let end = pair_is (a.0.0, b.0.0) p b.0.1 rest b.2 in
      let front = first.takes bytes a.0.1 a.0.0 fit a.1 in
      let back = (second a.0.0).takes a.0.1 b.0.1 b.0.0 (are_left bytes (t a.0.0) a.0.1 front.0 fit) b.1 in
      let whole : bytes ≡ (t a.0.0 ++ u b.0.0) ++ b.0.1 = front.0 ∙ ap (λ (l : List ℕ). t a.0.0 ++ l) back.0
      ∙ sym (append_assoc (t a.0.0) (u b.0.0) b.0.1) in
      subst (λ (q : A × B). (bytes ≡ (t q.0 ++ u q.1) ++ rest) × (G q.0 × H q.0 q.1)) end.0
      (subst (λ (l : List ℕ). bytes ≡ (t a.0.0 ++ u b.0.0) ++ l) end.1 whole, (front.1, back.1));
  stays = λ bytes more rest p e.
      let a = bind_fine (r bytes) (λ x. bind (s x.0 x.1) (λ y. Ok ((x.0, y.0), y.1))) (p, rest) e in
      let b = bind_fine (s a.0.0 a.0.1) (λ y. Ok ((a.0.0, y.0), y.1)) (p, rest) a.2 in
      let end = pair_is (a.0.0, b.0.0) p b.0.1 rest b.2 in
      rw (first.stays bytes more a.0.1 a.0.0 a.1, (second a.0.0).stays a.0.1 more b.0.1 b.0.0 b.1)
      (ap (λ (q : A × B). fine (q, b.0.1 ++ more)) end.0 ∙ ap (λ (l : List ℕ). fine (p, l ++ more)) end.1);
  fails = λ bytes more f lasts e.
      elim (bind_bad (r bytes) (λ x. bind (s x.0 x.1) (λ y. Ok ((x.0, y.0), y.1))) f e) [
        | inl h ↦ rw (first.fails bytes more f lasts h) refl
        | inr a ↦ rw (first.stays bytes more a.0.1 a.0.0 a.1)
            (elim (bind_bad (s a.0.0 a.0.1) (λ y. Ok ((a.0.0, y.0), y.1)) f a.2) [
              | inl h ↦ rw ((second a.0.0).fails a.0.1 more f lasts h) refl
              | inr b ↦ absurd (not_both ((a.0.0, b.0.0), b.0.1) f b.2)
            ])
      ];
}

-- what is made of a part
pub made_spelled : {A B : Type 0} {r : FilePart A} {t : A → List ℕ} {P G : A → Type 0} → IsSpelled r t P G
    → (make : A → Result B CodeFault) (v : B → List ℕ) (Q H : B → Type 0)
    → ((x : A) (y : B) → G x → make x ≡ Ok y → (t x ≡ v y) × H y)
    → ((y : B) → Q y → (x : A) × P x × (make x ≡ Ok y) × (v y ≡ t x))
    → IsSpelled (λ bytes. bind (r bytes) (λ x. bind (make x.0) (λ y. Ok (y, x.1)))) v Q H
made_spelled {A} {B} {r} {t} {P} {G} law make v Q H back forth = record {
  again = λ y rest h.
      let x = forth y h in
      ap (λ (l : List ℕ). bind (r (l ++ rest)) (λ z. bind (make z.0) (λ w. Ok (w, z.1)))) x.3
      ∙ rw (law.again x.0 rest x.1, x.2) refl;
  takes = λ bytes rest y fit e.
      let a = bind_fine (r bytes) (λ x. bind (make x.0) (λ z. Ok (z, x.1))) (y, rest) e in
      let b = bind_fine (make a.0.0) (λ z. Ok (z, a.0.1)) (y, rest) a.2 in
      let end = pair_is b.0 y a.0.1 rest b.2 in
      let front = law.takes bytes a.0.1 a.0.0 fit a.1 in
      let is = back a.0.0 y front.1 (b.1 ∙ ap (λ (z : B). fine z) end.0) in
      (front.0 ∙ ap (λ (l : List ℕ). l ++ a.0.1) is.0 ∙ ap (λ (l : List ℕ). v y ++ l) end.1, is.1);
  stays = λ bytes more rest y e.
      let a = bind_fine (r bytes) (λ x. bind (make x.0) (λ z. Ok (z, x.1))) (y, rest) e in
      let b = bind_fine (make a.0.0) (λ z. Ok (z, a.0.1)) (y, rest) a.2 in
      let end = pair_is b.0 y a.0.1 rest b.2 in
      rw (law.stays bytes more a.0.1 a.0.0 a.1, b.1)
      (ap (λ (z : B). fine (z, a.0.1 ++ more)) end.0 ∙ ap (λ (l : List ℕ). fine (y, l ++ more)) end.1);
  fails = λ bytes more f lasts e.
      elim (bind_bad (r bytes) (λ x. bind (make x.0) (λ z. Ok (z, x.1))) f e) [
        | inl h ↦ rw (law.fails bytes more f lasts h) refl
        | inr a ↦ rw (law.stays bytes more a.0.1 a.0.0 a.1) (elim (bind_bad (make a.0.0) (λ z. Ok (z, a.0.1)) f a.2) [
          | inl h ↦ rw h refl
          | inr b ↦ absurd (not_both (b.0, a.0.1) f b.2)
        ])
      ];
}

pub shaped_spelled : {A B : Type 0} {r : FilePart A} {t : A → List ℕ} {P G : A → Type 0} → IsSpelled r t P G
    → (make : A → B) (v : B → List ℕ) (Q H : B → Type 0)
    → ((x : A) → G x → (t x ≡ v (make x)) × H (make x))
    → ((y : B) → Q y → (x : A) × P x × (make x ≡ y) × (v y ≡ t x))
    → IsSpelled (shaped r make) v Q H
shaped_spelled {A} {B} {r} {t} {P} {G} law make v Q H back forth = made_spelled law (λ x. fine (make x)) v Q H
    (λ x y h e. subst (λ (z : B). (t x ≡ v z) × H z) (fine_is (make x) y e) (back x h))
    (λ y h. let x = forth y h in (x.0, x.1, ap (λ (z : B). fine z) x.2, x.3))

-- a part that is tested
pub checked_fine : {A : Type 0} (fault : CodeFault) (b : Bool) (x y : A) → checked fault b x ≡ Ok y
    → (b ≡ true) × (x ≡ y)
checked_fine fault true x y e = (refl, fine_is x y e)
checked_fine fault false x y e = absurd cc

pub still : {B : Type 0} (b : Bool) (fault f : CodeFault) (x y : B) → checked fault b x ≡ Err f
    → checked fault b y ≡ Err f
still true fault f x y e = absurd (not_both x f e)
still {B} false fault f x y e = ap (λ (g : CodeFault). bad {A = B} g) (bad_is {A = B} fault f e)

pub checked_spelled : {A : Type 0} {r : FilePart A} {t : A → List ℕ} {P G : A → Type 0} → IsSpelled r t P G
    → (fault : CodeFault) (test : A → Bool)
    → IsSpelled (λ bytes. bind (r bytes) (λ x. checked fault (test x.0) x)) t (λ x. P x × (test x ≡ true))
    (λ x. G x × (test x ≡ true))
checked_spelled {A} {r} {t} {P} {G} law fault test = record {
  again = λ x rest h. rw (law.again x rest h.0, h.1) refl;
  takes = λ bytes rest x fit e.
      let a = bind_fine (r bytes) (λ x. checked fault (test x.0) x) (x, rest) e in
      let c = checked_fine fault (test a.0.0) a.0 (x, rest) a.2 in
      let one : r bytes ≡ Ok (x, rest) = a.1 ∙ ap (λ (p : A × List ℕ). fine p) c.1 in
      let is = law.takes bytes rest x fit one in
      (is.0, (is.1, ap (λ (p : A × List ℕ). test p.0) (sym c.1) ∙ c.0));
  stays = λ bytes more rest x e.
      let a = bind_fine (r bytes) (λ x. checked fault (test x.0) x) (x, rest) e in
      let c = checked_fine fault (test a.0.0) a.0 (x, rest) a.2 in
      let one : r bytes ≡ Ok (x, rest) = a.1 ∙ ap (λ (p : A × List ℕ). fine p) c.1 in
      let holds : test x ≡ true = ap (λ (p : A × List ℕ). test p.0) (sym c.1) ∙ c.0 in
      rw (law.stays bytes more rest x one, holds) refl;
  fails = λ bytes more f lasts e.
      elim (bind_bad (r bytes) (λ x. checked fault (test x.0) x) f e) [
        | inl h ↦ rw (law.fails bytes more f lasts h) refl
        | inr a ↦ rw (law.stays bytes more a.0.1 a.0.0 a.1) (still (test a.0.0) fault f a.0 (a.0.0, a.0.1 ++ more) a.2)
      ];
}

-- ---- items

pub told_spelled : {A : Type 0} {one : Reader (Judged A)} {t : A → List ℕ} {P G : A → Type 0} → ReadsTexts one t P G
    → IsSpelled (λ bytes. item_told (one bytes)) t P G
told_spelled {A} {one} {t} {P} {G} law = record {
  again = λ x rest h. rw (law.again x rest h) refl;
  takes = λ bytes rest x fit e. law.takes bytes rest x fit (front_fine (one bytes) (x, rest) e);
  stays = λ bytes more rest x e. rw (law.steady.stays bytes more rest (Ok x) (front_fine (one bytes) (x, rest) e)) refl;
  fails = λ bytes more f lasts e.
      let w = front_bad (one bytes) f lasts e in
      rw (law.steady.stays bytes more w.1 (Err w.0) w.2) (ap (λ (g : CodeFault). bad g) w.3);
}
  where
    front_fine : {B : Type 0} (front : Front (Judged B)) (x : B × List ℕ) → item_told front ≡ Ok x
        → front ≡ Some (Ok x.0, x.1)
    front_fine None x e = absurd cc
    front_fine {B} (Some (Ok y, rest)) x e = ap (λ (p : B × List ℕ). Some (Ok p.0, p.1)) (fine_is (y, rest) x e)
    front_fine (Some (Err f, rest)) x e = absurd cc

    front_bad : {B : Type 0} (front : Front (Judged B)) (e : CodeFault) → Lasts e → item_told front ≡ Err e
        → (f : Flaw) × (rest : List ℕ) × (front ≡ Some (Err f, rest)) × (flaw_fault f ≡ e)
    front_bad {B} None e lasts h = absurd (subst Lasts (sym (bad_is {A = B × List ℕ} Short e h)) lasts)
    front_bad (Some (Ok y, rest)) e lasts h = absurd (not_both (y, rest) e h)
    front_bad {B} (Some (Err f, rest)) e lasts h = (f, rest, refl, bad_is {A = B × List ℕ} (flaw_fault f) e h)

items_again : {A : Type 0} {one : Reader (Judged A)} {t : A → List ℕ} {P G : A → Type 0} → ReadsTexts one t P G
    → (follows : List A → A → Bool) (xs earlier : List A) (rest : List ℕ) → go_on follows earlier xs ≡ true
    → AllByRecursion P xs → items_at one follows (length xs) earlier (flat_map t xs ++ rest) ≡ Ok (earlier ++ xs, rest)
unfolding items_at
items_again {A} law follows [] earlier rest legal h = ap (λ (l : List A). fine (l, rest)) (sym (append-nil earlier))
items_again {A} {one} {t} law follows (x ∷ xs) earlier rest legal h =
    let both = and_parts (follows earlier x) (go_on follows (earlier ++ x ∷ []) xs) legal in
    let regrouped : flat_map t (x ∷ xs) ++ rest ≡ t x ++ (flat_map t xs ++ rest) =
    append_assoc (t x) (flat_map t xs) rest in
    ap (items_at one follows (suc (length xs)) earlier) regrouped
    ∙ rw ((told_spelled law).again x (flat_map t xs ++ rest) h.0, both.0)
    (items_again law follows xs (earlier ++ x ∷ []) rest both.1 h.1
    ∙ ap (λ (l : List A). fine (l, rest)) (append_assoc earlier (x ∷ []) xs))

-- the items that were read behind earlier ones
record AreRead {A : Type 0} (t : A → List ℕ) (G : A → Type 0) (follows : List A → A → Bool) (n : ℕ) (earlier : List A)
    (bytes rest : List ℕ) (all : List A) : Type 0 where
  xs : List A
  all_are : earlier ++ xs ≡ all
  spelled : bytes ≡ flat_map t xs ++ rest
  count : length xs ≡ n
  legal : go_on follows earlier xs ≡ true
  each : AllByRecursion G xs

items_take : {A : Type 0} {one : Reader (Judged A)} {t : A → List ℕ} {P G : A → Type 0} → ReadsTexts one t P G
    → (follows : List A → A → Bool) (n : ℕ) (earlier : List A) (bytes rest : List ℕ) (all : List A) → AreBytes bytes
    → items_at one follows n earlier bytes ≡ Ok (all, rest) → AreRead t G follows n earlier bytes rest all
unfolding items_at
items_take {A} {one} {t} law follows zero earlier bytes rest all fit e =
    let end = pair_is earlier all bytes rest e in
    record { xs = []; all_are = append-nil earlier ∙ end.0; spelled = end.1; count = refl; legal = refl; each = tt }
items_take {A} {one} {t} law follows (suc n) earlier bytes rest all fit e =
    let more = λ (y : A × List ℕ). items_at one follows n (earlier ++ y.0 ∷ []) y.1 in
    let a = bind_fine (item_told (one bytes)) (λ x. bind (checked Shape (follows earlier x.0) x) more) (all, rest) e in
    let b = bind_fine (checked Shape (follows earlier a.0.0) a.0) more (all, rest) a.2 in
    let c = checked_fine Shape (follows earlier a.0.0) a.0 b.0 b.1 in
    let front = (told_spelled law).takes bytes a.0.1 a.0.0 fit a.1 in
    let others : items_at one follows n (earlier ++ a.0.0 ∷ []) a.0.1 ≡ Ok (all, rest) = ap more c.1 ∙ b.2 in
    let back = items_take law follows n (earlier ++ a.0.0 ∷ []) a.0.1 rest all
    (are_left bytes (t a.0.0) a.0.1 front.0 fit) others in
    record {
      xs = a.0.0 ∷ back.xs;
      all_are = sym (append_assoc earlier (a.0.0 ∷ []) back.xs) ∙ back.all_are;
      spelled = front.0 ∙ ap (λ (l : List ℕ). t a.0.0 ++ l) back.spelled
          ∙ sym (append_assoc (t a.0.0) (flat_map t back.xs) rest);
      count = ap suc back.count;
      legal = and_from (follows earlier a.0.0) (go_on follows (earlier ++ a.0.0 ∷ []) back.xs) c.0 back.legal;
      each = (front.1, back.each);
    }

items_stay : {A : Type 0} {one : Reader (Judged A)} {t : A → List ℕ} {P G : A → Type 0} → ReadsTexts one t P G
    → (follows : List A → A → Bool) (n : ℕ) (earlier : List A) (bytes more rest : List ℕ) (all : List A)
    → items_at one follows n earlier bytes ≡ Ok (all, rest)
    → items_at one follows n earlier (bytes ++ more) ≡ Ok (all, rest ++ more)
unfolding items_at
items_stay {A} law follows zero earlier bytes more rest all e =
    let end = pair_is earlier all bytes rest e in
    ap (λ (l : List A). fine (l, bytes ++ more)) end.0 ∙ ap (λ (l : List ℕ). fine (all, l ++ more)) end.1
items_stay {A} {one} law follows (suc n) earlier bytes more rest all e =
    let next = λ (y : A × List ℕ). items_at one follows n (earlier ++ y.0 ∷ []) y.1 in
    let a = bind_fine (item_told (one bytes)) (λ x. bind (checked Shape (follows earlier x.0) x) next) (all, rest) e in
    let b = bind_fine (checked Shape (follows earlier a.0.0) a.0) next (all, rest) a.2 in
    let c = checked_fine Shape (follows earlier a.0.0) a.0 b.0 b.1 in
    let others : items_at one follows n (earlier ++ a.0.0 ∷ []) a.0.1 ≡ Ok (all, rest) = ap next c.1 ∙ b.2 in
    rw ((told_spelled law).stays bytes more a.0.1 a.0.0 a.1, c.0)
    (items_stay law follows n (earlier ++ a.0.0 ∷ []) a.0.1 more rest all others)

items_fail : {A : Type 0} {one : Reader (Judged A)} {t : A → List ℕ} {P G : A → Type 0} → ReadsTexts one t P G
    → (follows : List A → A → Bool) (n : ℕ) (earlier : List A) (bytes more : List ℕ) (f : CodeFault) → Lasts f
    → items_at one follows n earlier bytes ≡ Err f → items_at one follows n earlier (bytes ++ more) ≡ Err f
unfolding items_at
items_fail law follows zero earlier bytes more f lasts e = absurd (not_both (earlier, bytes) f e)
items_fail {A} {one} law follows (suc n) earlier bytes more f lasts e =
    let next = λ (y : A × List ℕ). items_at one follows n (earlier ++ y.0 ∷ []) y.1 in
    elim (bind_bad (item_told (one bytes)) (λ x. bind (checked Shape (follows earlier x.0) x) next) f e) [
      | inl h ↦ rw ((told_spelled law).fails bytes more f lasts h) refl
      | inr a ↦ rw ((told_spelled law).stays bytes more a.0.1 a.0.0 a.1)
          (elim (bind_bad (checked Shape (follows earlier a.0.0) a.0) next f a.2) [
            | inl h ↦ ap (λ (r : Result (A × List ℕ) CodeFault). bind r next)
                (still (follows earlier a.0.0) Shape f a.0 (a.0.0, a.0.1 ++ more) h)
            | inr b ↦
                let c = checked_fine Shape (follows earlier a.0.0) a.0 b.0 b.1 in
                let others : items_at one follows n (earlier ++ a.0.0 ∷ []) a.0.1 ≡ Err f = ap next c.1 ∙ b.2 in
                rw c.0 (items_fail law follows n (earlier ++ a.0.0 ∷ []) a.0.1 more f lasts others)
          ])
    ]

-- so many items of a section
abbrev pub AreItems : {A : Type 0} → ℕ → (List A → A → Bool) → (A → Type 0) → List A → Type 0
AreItems n follows P xs = (length xs ≡ n) × (go_on follows [] xs ≡ true) × AllByRecursion P xs

pub items_spelled : {A : Type 0} {one : Reader (Judged A)} {t : A → List ℕ} {P G : A → Type 0} → ReadsTexts one t P G
    → (follows : List A → A → Bool) (n : ℕ)
    → IsSpelled (items_at one follows n []) (flat_map t) (AreItems n follows P) (AreItems n follows G)
items_spelled {A} {one} {t} {P} {G} law follows n = record {
  again = λ xs rest h. ap (λ (k : ℕ). items_at one follows k [] (flat_map t xs ++ rest)) (sym h.0)
      ∙ items_again law follows xs [] rest h.1 h.2;
  takes = λ bytes rest xs fit e.
      let r = items_take law follows n [] bytes rest xs fit e in
      subst (λ (l : List A). (bytes ≡ flat_map t l ++ rest) × AreItems n follows G l) r.all_are
      (r.spelled, (r.count, r.legal, r.each));
  stays = λ bytes more rest xs e. items_stay law follows n [] bytes more rest xs e;
  fails = λ bytes more f lasts e. items_fail law follows n [] bytes more f lasts e;
}
