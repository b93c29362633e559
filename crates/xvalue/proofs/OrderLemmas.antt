-- The order of texts, and where a text first stands in another.
use Rattle.std.proofs.Common.{◌≡◌, ℕ, zero, suc, ◌+◌, ◌<◌, ◌≤◌, ◌↔◌, true, false, List, [], ◌∷◌, ◌++◌, length}
use Rattle.std.proofs.Common.{length-drop, drop, reverse, replicate, append-nil, append_assoc, ◌==◌, refl, sym, ap, ◌∙◌}
use Rattle.std.proofs.Common.{subst, arith, inl, inr}
use Rattle.std.specs.Prelude.{Bool, nat_lt, if◌then◌else◌, ◌⊎◌, Option, Some, None, is_some}
use Rattle.std.proofs.lemmas.Bool.{cases_order, false≢true, eq-eqb, ne_eqb, lt-ltb, le-ltb}
use Rattle.std.proofs.lemmas.Option.{same_Some, none-some}
use Rattle.std.proofs.Math.Seq.{drop-nil}
use Rattle.std.proofs.lemmas.List.{reverse-append, reverse-reverse}
use Rattle.fixed_num.specs.Reading.{without_blanks}
use Rattle.xvalue.specs.Texts.{first_or_blank, is_text_before, without_last_blanks, text_begins_with, first_place}
use Rattle.xvalue.specs.Texts.{place_number, further}

pub is_before-self : (cs : List ℕ) → is_text_before cs cs ≡ false
is_before-self [] = refl
is_before-self (c ∷ cs) = ap (λ b. if b then is_text_before cs cs else nat_lt c c) (eq-eqb c c refl) ∙ is_before-self cs

-- blanks at the end change nothing

pub is_before-blank_first : (cs ds : List ℕ) → is_text_before (cs ++ 32 ∷ []) ds ≡ is_text_before cs ds
is_before-blank_first [] [] = refl
is_before-blank_first [] (d ∷ ds) = refl
is_before-blank_first (c ∷ cs) [] = ap (λ b. if c == 32 then b else nat_lt c 32) (is_before-blank_first cs [])
is_before-blank_first (c ∷ cs) (d ∷ ds) = ap (λ b. if c == d then b else nat_lt c d) (is_before-blank_first cs ds)

pub is_before-blank_second : (cs ds : List ℕ) → is_text_before cs (ds ++ 32 ∷ []) ≡ is_text_before cs ds
is_before-blank_second [] [] = refl
is_before-blank_second [] (d ∷ ds) = ap (λ b. if 32 == d then b else nat_lt 32 d) (is_before-blank_second [] ds)
is_before-blank_second (c ∷ cs) [] = refl
is_before-blank_second (c ∷ cs) (d ∷ ds) = ap (λ b. if c == d then b else nat_lt c d) (is_before-blank_second cs ds)

-- the first bytes decide, and where they are the same the texts behind them
abbrev Decided : ℕ → ℕ → Bool → Type 0
Decided x y behind = (x < y) ⊎ ((x ≡ y) × (behind ≡ true))

decided : (x y : ℕ) (behind : Bool) → (if x == y then behind else nat_lt x y) ≡ true → Decided x y behind
decided x y behind e =
    elim (cases_order x y) [
      | inl same ↦ inr (same, sym (ap (λ b. if b then behind else nat_lt x y) (eq-eqb x y same)) ∙ e)
      | inr (inl less) ↦ inl less
      | inr (inr more) ↦
          let other : (x == y) ≡ false = ne_eqb x y (λ same. omega (arith, same, more)) in
          let not_less : nat_lt x y ≡ false = le-ltb x y (omega (arith, more)) in
          absurd (false≢true (sym not_less ∙ sym (ap (λ b. if b then behind else nat_lt x y) other) ∙ e))
    ]

decide : (x y : ℕ) (behind : Bool) → Decided x y behind → (if x == y then behind else nat_lt x y) ≡ true
decide x y behind (inl less) =
    ap (λ b. if b then behind else nat_lt x y) (ne_eqb x y (λ same. omega (arith, same, less))) ∙ lt-ltb x y less
decide x y behind (inr (same, e)) = ap (λ b. if b then behind else nat_lt x y) (eq-eqb x y same) ∙ e

before_is : (cs ds : List ℕ) → is_text_before cs ds ≡ true → (0 < length cs + length ds)
    × Decided (first_or_blank cs) (first_or_blank ds) (is_text_before (drop 1 cs) (drop 1 ds))
before_is [] [] e = absurd (false≢true e)
before_is [] (d ∷ ds) e = (omega arith, decided 32 d (is_text_before [] ds) e)
before_is (c ∷ cs) [] e = (omega arith, decided c 32 (is_text_before cs []) e)
before_is (c ∷ cs) (d ∷ ds) e = (omega arith, decided c d (is_text_before cs ds) e)

is_before-decide : (cs ds : List ℕ) → Decided (first_or_blank cs) (first_or_blank ds)
    (is_text_before (drop 1 cs) (drop 1 ds)) → is_text_before cs ds ≡ true
is_before-decide [] [] (inl less) = absurd (omega (arith, less))
is_before-decide [] [] (inr (same, e)) = e
is_before-decide [] (d ∷ ds) h = decide 32 d (is_text_before [] ds) h
is_before-decide (c ∷ cs) [] h = decide c 32 (is_text_before cs []) h
is_before-decide (c ∷ cs) (d ∷ ds) h = decide c d (is_text_before cs ds) h

-- by the number of bytes that are left
goes_on : (n : ℕ) (cs ds es : List ℕ) → length cs + length ds + length es ≤ n → is_text_before cs ds ≡ true
    → is_text_before ds es ≡ true → is_text_before cs es ≡ true
goes_on zero cs ds es few e f = absurd (omega (arith, few, (before_is cs ds e).0))
goes_on (suc n) cs ds es few e f =
    let a = before_is cs ds e in
    let b = before_is ds es f in
    let fewer : length (drop 1 cs) + length (drop 1 ds) + length (drop 1 es) ≤ n =
    omega (arith, few, a.0, length-drop 1 cs, length-drop 1 ds, length-drop 1 es) in
    let go : (g : is_text_before (drop 1 cs) (drop 1 ds) ≡ true) (h : is_text_before (drop 1 ds) (drop 1 es) ≡ true)
    → is_text_before (drop 1 cs) (drop 1 es) ≡ true = goes_on n (drop 1 cs) (drop 1 ds) (drop 1 es) fewer in
    is_before-decide cs es (both (first_or_blank cs) (first_or_blank ds) (first_or_blank es) _ _ _ go a.1 b.1)
  where
    both : (x y z : ℕ) (p q r : Bool) → (p ≡ true → q ≡ true → r ≡ true) → Decided x y p → Decided y z q → Decided x z r
    both x y z p q r go (inl g) (inl h) = inl (omega (arith, g, h))
    both x y z p q r go (inl g) (inr h) = inl (omega (arith, g, h.0))
    both x y z p q r go (inr g) (inl h) = inl (omega (arith, g.0, h))
    both x y z p q r go (inr g) (inr h) = inr (g.0 ∙ h.0, go g.1 h.1)

pub is_before-goes_on : (cs ds es : List ℕ) → is_text_before cs ds ≡ true → is_text_before ds es ≡ true
    → is_text_before cs es ≡ true
is_before-goes_on cs ds es e f = goes_on (length cs + length ds + length es) cs ds es (omega arith) e f

-- places

further_is : (o : Option ℕ) (n : ℕ) → further 1 o ≡ Some n → (m : ℕ) × (o ≡ Some m) × (n ≡ suc m)
further_is None n e = absurd (none-some n e)
further_is (Some m) n e = (m, refl, sym (same_Some (1 + m) n e) ∙ (let h : 1 + m ≡ suc m = omega arith in h))

either_place : (b : Bool) (o : Option ℕ) (n : ℕ) → (if b then Some 0 else o) ≡ Some n
    → ((b ≡ true) × (n ≡ 0)) ⊎ ((b ≡ false) × (o ≡ Some n))
either_place true o n e = inl (refl, sym (same_Some 0 n e))
either_place false o n e = inr (refl, e)

pub first_place-there : (part cs : List ℕ) (n : ℕ) → first_place part cs ≡ Some n
    → text_begins_with (drop n cs) part ≡ true
first_place-there part [] n e =
    elim (either_place (text_begins_with [] part) None n e) [
      | inl w ↦ subst (λ k. text_begins_with (drop k []) part ≡ true) (sym w.1) w.0
      | inr w ↦ absurd (none-some n w.1)
    ]
first_place-there part (c ∷ cs) n e =
    elim (either_place (text_begins_with (c ∷ cs) part) (further 1 (first_place part cs)) n e) [
      | inl w ↦ subst (λ k. text_begins_with (drop k (c ∷ cs)) part ≡ true) (sym w.1) w.0
      | inr w ↦
          let f = further_is (first_place part cs) n w.1 in
          subst (λ k. text_begins_with (drop k (c ∷ cs)) part ≡ true) (sym f.2) (first_place-there part cs f.0 f.1)
    ]

pub first_place-least : (part cs : List ℕ) (n k : ℕ) → first_place part cs ≡ Some n → k < n
    → text_begins_with (drop k cs) part ≡ false
first_place-least part [] n k e less =
    elim (either_place (text_begins_with [] part) None n e) [
      | inl w ↦ absurd (omega (arith, less, w.1))
      | inr w ↦ absurd
          (none-some n w.1)
    ]
first_place-least part (c ∷ cs) n zero e less =
    elim (either_place (text_begins_with (c ∷ cs) part) (further 1 (first_place part cs)) n e) [
      | inl w ↦ absurd
          (omega (arith, less, w.1))
      | inr w ↦ w.0
    ]
first_place-least part (c ∷ cs) n (suc k) e less =
    elim (either_place (text_begins_with (c ∷ cs) part) (further 1 (first_place part cs)) n e) [
      | inl w ↦ absurd (omega (arith, less, w.1))
      | inr w ↦ let f = further_is (first_place part cs) n w.1 in first_place-least part cs f.0 k f.1
          (omega (arith, less, f.2))
    ]

-- nowhere

none_of : (b : Bool) (o : Option ℕ) → (if b then Some 0 else o) ≡ None → (b ≡ false) × (o ≡ None)
none_of true o e = absurd (none-some 0 (sym e))
none_of false o e = (refl, e)

further_none : (o : Option ℕ) → further 1 o ≡ None → o ≡ None
further_none None e = refl
further_none (Some m) e = absurd (none-some (1 + m) (sym e))

nowhere : (part cs : List ℕ) → first_place part cs ≡ None → (k : ℕ) → text_begins_with (drop k cs) part ≡ false
nowhere part [] e k = ap (λ ds. text_begins_with ds part) (drop-nil k) ∙ (none_of (text_begins_with [] part) None e).0
nowhere part (c ∷ cs) e zero = (none_of (text_begins_with (c ∷ cs) part) (further 1 (first_place part cs)) e).0
nowhere part (c ∷ cs) e (suc k) =
    nowhere part cs
    (further_none (first_place part cs)
    (none_of (text_begins_with (c ∷ cs) part) (further 1 (first_place part cs)) e).1) k

none_found : (part cs : List ℕ) → ((k : ℕ) → text_begins_with (drop k cs) part ≡ false) → (o : Option ℕ)
    → first_place part cs ≡ o → o ≡ None
none_found part cs h None e = refl
none_found part cs h (Some n) e = absurd (false≢true (sym (h n) ∙ first_place-there part cs n e))

pub nowhere-none : (part cs : List ℕ) → (first_place part cs ≡ None) ↔
    ((k : ℕ) → text_begins_with (drop k cs) part ≡ false)
nowhere-none part cs = (nowhere part cs, λ h. none_found part cs h (first_place part cs) refl)

pub zero-none : (o : Option ℕ) → (place_number o ≡ 0) ↔ (o ≡ None)
zero-none None = (λ e. refl, λ e. refl)
zero-none (Some m) = (λ e. absurd (omega (arith, e)), λ e. absurd (none-some m (sym e)))

pub false-none : (o : Option ℕ) → (is_some o ≡ false) ↔ (o ≡ None)
false-none None = (λ e. refl, λ e. refl)
false-none (Some m) = (λ e. absurd (false≢true (sym e)), λ e. absurd (none-some m (sym e)))

-- texts neither of which is before the other

undecided : (x y : ℕ) (p q : Bool) → (if x == y then p else nat_lt x y) ≡ false
    → (if y == x then q else nat_lt y x) ≡ false → (x ≡ y) × ((p ≡ false) × (q ≡ false))
undecided x y p q e f =
    elim (cases_order x y) [
      | inl same ↦ (
        same,
        (
          sym (ap (λ b. if b then p else nat_lt x y) (eq-eqb x y same))
              ∙ e,
          sym (ap (λ b. if b then q else nat_lt y x) (eq-eqb y x (sym same))) ∙ f,
        ),
      )
      | inr (inl less) ↦ absurd (false≢true (sym e ∙ decide x y p (inl less)))
      | inr (inr more) ↦ absurd (false≢true (sym f ∙ decide y x q (inl more)))
    ]

-- both are the same with blanks behind them
abbrev AreAlike : List ℕ → List ℕ → Type 0
AreAlike cs ds = (n : ℕ) × ((k : ℕ) × (cs ++ replicate n 32 ≡ ds ++ replicate k 32))

alike : (cs ds : List ℕ) → is_text_before cs ds ≡ false → is_text_before ds cs ≡ false → AreAlike cs ds
alike [] [] e f = (0, (0, refl))
alike [] (d ∷ ds) e f =
    let u = undecided 32 d (is_text_before [] ds) (is_text_before ds []) e f in
    let r = alike [] ds u.1.0 u.1.1 in
    (suc r.0, (r.1.0, ap (λ x. x ∷ replicate r.0 32) u.0 ∙ ap (λ xs. d ∷ xs) r.1.1))
alike (c ∷ cs) [] e f =
    let u = undecided c 32 (is_text_before cs []) (is_text_before [] cs) e f in
    let r = alike cs [] u.1.0 u.1.1 in
    (r.0, (suc r.1.0, ap (λ x. x ∷ (cs ++ replicate r.0 32)) u.0 ∙ ap (λ xs. 32 ∷ xs) r.1.1))
alike (c ∷ cs) (d ∷ ds) e f =
    let u = undecided c d (is_text_before cs ds) (is_text_before ds cs) e f in
    let r = alike cs ds u.1.0 u.1.1 in
    (r.0, (r.1.0, ap (λ x. x ∷ (cs ++ replicate r.0 32)) u.0 ∙ ap (λ xs. d ∷ xs) r.1.1))

one_blank : (cs : List ℕ) → without_last_blanks (cs ++ 32 ∷ []) ≡ without_last_blanks cs
one_blank cs = ap (λ xs. reverse (without_blanks xs)) (reverse-append cs (32 ∷ []))

more_blanks : (n : ℕ) (cs : List ℕ) → without_last_blanks (cs ++ replicate n 32) ≡ without_last_blanks cs
more_blanks zero cs = ap without_last_blanks (append-nil cs)
more_blanks (suc n) cs = ap without_last_blanks (sym (append_assoc cs (32 ∷ []) (replicate n 32)))
    ∙ more_blanks n (cs ++ 32 ∷ []) ∙ one_blank cs

-- blanks taken off at the end change nothing in the order
by_first : (x : ℕ) (xs ds : List ℕ) → is_text_before (reverse (without_blanks xs)) ds ≡ is_text_before (reverse xs) ds
    → is_text_before (reverse (without_blanks (x ∷ xs))) ds ≡ is_text_before (reverse (x ∷ xs)) ds
by_first x xs ds r =
    elim (cases_order x 32) [
      | inl same ↦
          ap (λ b. is_text_before (reverse (if b then without_blanks xs else x ∷ xs)) ds) (eq-eqb x 32 same)
          ∙ r
          ∙ sym (is_before-blank_first (reverse xs) ds)
          ∙ ap (λ y. is_text_before (reverse xs ++ y ∷ []) ds) (sym same)
          ∙ ap (λ ys. is_text_before ys ds) (sym (reverse-append (x ∷ []) xs))
      | inr (inl less) ↦ other (ne_eqb x 32 (λ same. omega (arith, same, less)))
      | inr (inr more) ↦ other (ne_eqb x 32 (λ same. omega (arith, same, more)))
    ]
  where
    other : (x == 32) ≡ false → is_text_before (reverse (without_blanks (x ∷ xs))) ds
        ≡ is_text_before (reverse (x ∷ xs)) ds
    other e = ap (λ b. is_text_before (reverse (if b then without_blanks xs else x ∷ xs)) ds) e

reversed-first : (xs ds : List ℕ) → is_text_before (reverse (without_blanks xs)) ds ≡ is_text_before (reverse xs) ds
reversed-first [] ds = refl
reversed-first (x ∷ xs) ds = by_first x xs ds (reversed-first xs ds)

trimmed-first : (cs ds : List ℕ) → is_text_before (without_last_blanks cs) ds ≡ is_text_before cs ds
trimmed-first cs ds = reversed-first (reverse cs) ds ∙ ap (λ xs. is_text_before xs ds) (reverse-reverse cs)

not_before : (cs ds : List ℕ) → without_last_blanks cs ≡ without_last_blanks ds → is_text_before cs ds ≡ false
not_before cs ds e = sym (trimmed-first cs ds) ∙ ap (λ xs. is_text_before xs ds) e ∙ trimmed-first ds ds
    ∙ is_before-self ds

pub neither-same : (cs ds : List ℕ) → ((is_text_before cs ds ≡ false) × (is_text_before ds cs ≡ false)) ↔
    (without_last_blanks cs ≡ without_last_blanks ds)
neither-same cs ds = (
  λ h. let r = alike cs ds h.0 h.1 in sym (more_blanks r.0 cs) ∙ ap without_last_blanks r.1.1 ∙ more_blanks r.1.0 ds,
  λ e. (not_before cs ds e, not_before ds cs (sym e)),
)
