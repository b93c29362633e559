-- The parts of forms: expressions, names, numbers, marks and lists.
use Rattle.std.proofs.Common.{◌≡◌, ℕ, zero, suc, List, [], ◌∷◌, ◌++◌, length, take, Bool, true, false, Option, None}
use Rattle.std.proofs.Common.{Result, Ok, Err, refl, sym, ap, ◌∙◌, subst, append_assoc, inl, inr}
use Rattle.std.specs.Prelude.{if◌then◌else◌, nat_le, ◌&&◌, ◌||◌}
use Rattle.std.proofs.lemmas.Bool.{leb-true, and_parts, or_parts}
use Rattle.std.proofs.lemmas.List.{append-nil}
use Rattle.fixed_num.specs.Number.{Number as Decimal}
use Rattle.prg_expr.specs.declared.tree.BinaryOperator.TheVariants.{Or, And, Equal, NotEqual, Less, Greater, AtMost}
use Rattle.prg_expr.specs.declared.tree.BinaryOperator.TheVariants.{AtLeast, Contains, Plus, Minus, Times, Over}
use Rattle.prg_expr.specs.Grammar.{Spells}
use Rattle.prg_expr.specs.Reading.{front, ◌>>=◌}
use Rattle.prg_expr.specs.Spelling.{InFront}
use Rattle.prg_expr.specs.Tree.{Tree}
use Rattle.prg_expr.specs.Word.{Word}
use Rattle.prg_expr.specs.Word as word
use Rattle.prg_expr.specs.declared.fault.ParseFaultKind.{ParseFaultKind}
use Rattle.prg_expr.specs.declared.fault.ParseFaultKind.TheVariants as kind
use Rattle.prg_line.specs.Act.{Act, Letters}
use Rattle.prg_line.specs.Act as act
use Rattle.prg_line.specs.Forms as f
use Rattle.prg_line.specs.Forms.{At, at, FormReader, on_taken, unexpected, is_at, is_at_end, is_word_in}
use Rattle.prg_line.specs.Commands as c
use Rattle.prg_line.specs.Commands.{Phrase, Is, MarkThen, But, Either, Name, Whole, Several, SelectNumber}
use Rattle.prg_line.proofs.Sound.{Sound, Front, ok, fine, failed, taken, not_ok, ok_same, bind_ok, same_said}
use Rattle.prg_line.proofs.Sound.{same_place, same_words, but_front, is_sound, mark_sound, not-taken, not-left}
use Rattle.prg_line.proofs.Sound.{same-taken}

-- that reading finds what words spell, which the crate of expressions proves
abbrev pub Law : Type 0
Law = (ws rest : List Word) (e : Tree) → front ws ≡ Ok (e, rest) → InFront e ws rest

abbrev told : Result (Tree × List Word) ParseFaultKind → Result (Tree × At) ParseFaultKind
told r = r >>= λ x. Ok (x.0, at x.1 true)

expression_front : Law → (ws : List Word) (r : Result (Tree × List Word) ParseFaultKind) → front ws ≡ r
    → (e : Tree) (b : At) → told r ≡ Ok (e, b) → Front (Spells e) ws b.words
expression_front law ws (Err k) i e b h = absurd (not_ok _ (e, b) h)
expression_front law ws (Ok x) i e b h =
    let t = law ws x.1 x.0 i in
    let s = same_said x.0 e (at x.1 true) b h in
    let w = same_words (at x.1 true) b (same_place x.0 e (at x.1 true) b h) in
    record {
      front = t.0;
      holds = subst (λ (y : Tree). Spells y t.0) s t.1;
      splits = t.2 ∙ ap (λ (l : List Word). t.0 ++ l) w;
    }

pub expression_sound : Law → Sound f.expression Spells
unfolding f.expression
expression_sound law = record { reads = λ a e b h. expression_front law a.words (front a.words) refl e b h }

name_front : (ws : List Word) (n : Letters) (b : At) → f.name_in ws ≡ Ok (n, b) → Front (Name n) ws b.words
unfolding f.name_in
name_front [] n b h = absurd (not_ok _ (n, b) h)
name_front (word.Name s ∷ ws) n b h =
    record {
      front = word.Name s ∷ [];
      holds = (s, sym (same_said (take 10 s) n (at ws false) b h), refl);
      splits =
          ap (λ (l : List Word). word.Name s ∷ l)
          (same_words (at ws false) b (same_place (take 10 s) n (at ws false) b h));
    }
name_front (word.Number k ∷ ws) n b h = absurd (not_ok _ (n, b) h)
name_front (word.Text t ∷ ws) n b h = absurd (not_ok _ (n, b) h)
name_front (word.Logical l ∷ ws) n b h = absurd (not_ok _ (n, b) h)
name_front (word.Not ∷ ws) n b h = absurd (not_ok _ (n, b) h)
name_front (word.Sign o ∷ ws) n b h = absurd (not_ok _ (n, b) h)
name_front (word.Arrow ∷ ws) n b h = absurd (not_ok _ (n, b) h)
name_front (word.Open ∷ ws) n b h = absurd (not_ok _ (n, b) h)
name_front (word.Close ∷ ws) n b h = absurd (not_ok _ (n, b) h)
name_front (word.Comma ∷ ws) n b h = absurd (not_ok _ (n, b) h)
name_front (word.Outside m ∷ ws) n b h = absurd (not_ok _ (n, b) h)

pub name_sound : Sound f.name Name
name_sound = record { reads = λ a n b h. name_front a.words n b h }

whole_front : (d : Decimal) (ws : List Word) (n : ℕ) (b : At) → (f.whole_of d >>= λ k. ok k (at ws false)) ≡ Ok (n, b)
    → Front (Whole n) (word.Number d ∷ ws) b.words
whole_front d ws n b h =
    let k = bind_ok (f.whole_of d) (λ k. ok k (at ws false)) (n, b) h in
    record {
      front = word.Number d ∷ [];
      holds = (d, k.1 ∙ ap (λ (m : ℕ). fine m) (same_said k.0 n (at ws false) b k.2), refl);
      splits =
          ap (λ (l : List Word). word.Number d ∷ l) (same_words (at ws false) b (same_place k.0 n (at ws false) b k.2));
    }

number_front : (ws : List Word) (n : ℕ) (b : At) → f.whole_number_in ws ≡ Ok (n, b) → Front (Whole n) ws b.words
unfolding f.whole_number_in
number_front [] n b h = absurd (not_ok _ (n, b) h)
number_front (word.Number d ∷ ws) n b h = whole_front d ws n b h
number_front (word.Text t ∷ ws) n b h = absurd (not_ok _ (n, b) h)
number_front (word.Logical l ∷ ws) n b h = absurd (not_ok _ (n, b) h)
number_front (word.Name s ∷ ws) n b h = absurd (not_ok _ (n, b) h)
number_front (word.Not ∷ ws) n b h = absurd (not_ok _ (n, b) h)
number_front (word.Sign o ∷ ws) n b h = absurd (not_ok _ (n, b) h)
number_front (word.Arrow ∷ ws) n b h = absurd (not_ok _ (n, b) h)
number_front (word.Open ∷ ws) n b h = absurd (not_ok _ (n, b) h)
number_front (word.Close ∷ ws) n b h = absurd (not_ok _ (n, b) h)
number_front (word.Comma ∷ ws) n b h = absurd (not_ok _ (n, b) h)
number_front (word.Outside m ∷ ws) n b h = absurd (not_ok _ (n, b) h)

pub whole_sound : Sound f.whole_number Whole
whole_sound = record { reads = λ a n b h. number_front a.words n b h }

area_front : (n : ℕ) (x : Bool) → (nat_le 1 n && nat_le n 10) ≡ x → (a : At) (y : Act) (b : At)
    → ((if x then fine n else failed kind.Word) >>= λ k. ok (act.Select (act.Number k)) a) ≡ Ok (y, b)
    → Front (SelectNumber n y) a.words b.words
area_front n true i a y b h =
    let p = and_parts (nat_le 1 n) (nat_le n 10) i in
    record {
      front = [];
      holds = (leb-true 1 n p.0, leb-true n 10 p.1, (sym (same_said (act.Select (act.Number n)) y a b h), refl));
      splits = same_words a b (same_place (act.Select (act.Number n)) y a b h);
    }
area_front n false i a y b h = absurd (not_ok kind.Word (y, b) h)

pub number_sound : (n : ℕ) → Sound (λ a. f.area_number n >>= λ k. Ok (act.Select (act.Number k), a)) (SelectNumber n)
number_sound n = record { reads = λ a y b h. area_front n (nat_le 1 n && nat_le n 10) refl a y b h }

-- marks

comma_took : (a : At) (ws : List Word) (b : At) → f.comma_in a ws ≡ taken true b → ws ≡ word.Comma ∷ b.words
unfolding f.comma_in
comma_took a [] b h = absurd (not-taken a b h)
comma_took a (word.Comma ∷ ws) b h =
    ap (λ (l : List Word). word.Comma ∷ l) (same_words (at ws false) b (same-taken true (at ws false) b h))
comma_took a (word.Number n ∷ ws) b h = absurd (not-taken a b h)
comma_took a (word.Text t ∷ ws) b h = absurd (not-taken a b h)
comma_took a (word.Logical l ∷ ws) b h = absurd (not-taken a b h)
comma_took a (word.Name s ∷ ws) b h = absurd (not-taken a b h)
comma_took a (word.Not ∷ ws) b h = absurd (not-taken a b h)
comma_took a (word.Sign o ∷ ws) b h = absurd (not-taken a b h)
comma_took a (word.Arrow ∷ ws) b h = absurd (not-taken a b h)
comma_took a (word.Open ∷ ws) b h = absurd (not-taken a b h)
comma_took a (word.Close ∷ ws) b h = absurd (not-taken a b h)
comma_took a (word.Outside m ∷ ws) b h = absurd (not-taken a b h)

no_comma : (x : Bool) (b d : At) → (if x then failed kind.Expression else failed (unexpected b)) ≡ fine d → ⊥
no_comma true b d h = not_ok kind.Expression d h
no_comma false b d h = not_ok (unexpected b) d h

between_took : (x : Bool) (a b d : At) → f.comma a ≡ taken x b
    → on_taken (taken x b) (λ p. fine p) (λ p. if is_at_end p then failed kind.Expression else failed (unexpected p))
    ≡ Ok d → a.words ≡ word.Comma ∷ d.words
between_took true a b d t e = comma_took a a.words d (t ∙ ap (λ (p : At). taken true p) (ok_same b d e))
between_took false a b d t e = absurd (no_comma (is_at_end b) b d e)

between_in : (a d : At) → f.comma_between a ≡ Ok d → a.words ≡ word.Comma ∷ d.words
unfolding f.comma_between
between_in a d h = between_took (f.comma a).0 a (f.comma a).1 d refl h

pub comma_sound : {B : Type 0} {r : FormReader B} {P : Phrase B} → Sound r P
    → Sound (λ a. f.comma_between a >>= r) (MarkThen word.Comma P)
comma_sound {B} {r} {P} behind = mark_sound word.Comma f.comma_between between_in behind

equal_in : (a : At) (ws : List Word) (d : At) → f.equal_in a ws ≡ Ok d → ws ≡ word.Sign Equal ∷ d.words
unfolding f.equal_in
equal_in a [] d h = absurd (not_ok _ d h)
equal_in a (word.Sign Equal ∷ ws) d h =
    ap (λ (l : List Word). word.Sign Equal ∷ l) (same_words (at ws a.behind) d (ok_same (at ws a.behind) d h))
equal_in a (word.Number n ∷ ws) d h = absurd (not_ok _ d h)
equal_in a (word.Text t ∷ ws) d h = absurd (not_ok _ d h)
equal_in a (word.Logical l ∷ ws) d h = absurd (not_ok _ d h)
equal_in a (word.Name s ∷ ws) d h = absurd (not_ok _ d h)
equal_in a (word.Not ∷ ws) d h = absurd (not_ok _ d h)
equal_in a (word.Arrow ∷ ws) d h = absurd (not_ok _ d h)
equal_in a (word.Open ∷ ws) d h = absurd (not_ok _ d h)
equal_in a (word.Close ∷ ws) d h = absurd (not_ok _ d h)
equal_in a (word.Comma ∷ ws) d h = absurd (not_ok _ d h)
equal_in a (word.Outside m ∷ ws) d h = absurd (not_ok _ d h)
equal_in a (word.Sign Or ∷ ws) d h = absurd (not_ok _ d h)
equal_in a (word.Sign And ∷ ws) d h = absurd (not_ok _ d h)
equal_in a (word.Sign NotEqual ∷ ws) d h = absurd (not_ok _ d h)
equal_in a (word.Sign Less ∷ ws) d h = absurd (not_ok _ d h)
equal_in a (word.Sign Greater ∷ ws) d h = absurd (not_ok _ d h)
equal_in a (word.Sign AtMost ∷ ws) d h = absurd (not_ok _ d h)
equal_in a (word.Sign AtLeast ∷ ws) d h = absurd (not_ok _ d h)
equal_in a (word.Sign Contains ∷ ws) d h = absurd (not_ok _ d h)
equal_in a (word.Sign Plus ∷ ws) d h = absurd (not_ok _ d h)
equal_in a (word.Sign Minus ∷ ws) d h = absurd (not_ok _ d h)
equal_in a (word.Sign Times ∷ ws) d h = absurd (not_ok _ d h)
equal_in a (word.Sign Over ∷ ws) d h = absurd (not_ok _ d h)

pub equal_sound : {B : Type 0} {r : FormReader B} {P : Phrase B} → Sound r P
    → Sound (λ a. f.equal a >>= r) (MarkThen (word.Sign Equal) P)
equal_sound {B} {r} {P} behind = mark_sound (word.Sign Equal) f.equal (λ a d h. equal_in a a.words d h) behind

-- lists

comma_stood : (a : At) (ws : List Word) (b : At) → f.comma_in a ws ≡ taken false b → a ≡ b
unfolding f.comma_in
comma_stood a [] b h = same-taken false a b h
comma_stood a (word.Comma ∷ ws) b h = absurd (not-left (at ws false) b h)
comma_stood a (word.Number n ∷ ws) b h = same-taken false a b h
comma_stood a (word.Text t ∷ ws) b h = same-taken false a b h
comma_stood a (word.Logical l ∷ ws) b h = same-taken false a b h
comma_stood a (word.Name s ∷ ws) b h = same-taken false a b h
comma_stood a (word.Not ∷ ws) b h = same-taken false a b h
comma_stood a (word.Sign o ∷ ws) b h = same-taken false a b h
comma_stood a (word.Arrow ∷ ws) b h = same-taken false a b h
comma_stood a (word.Open ∷ ws) b h = same-taken false a b h
comma_stood a (word.Close ∷ ws) b h = same-taken false a b h
comma_stood a (word.Outside m ∷ ws) b h = same-taken false a b h

-- some, each behind a comma
data Behind {A : Type 0} (P : A → List Word → Type 0) : List A → List Word → Type 0 where
  none : Behind P [] []
  further : {x : A} {xs : List A} {aw bw : List Word} → P x aw → Behind P xs bw
      → Behind P (x ∷ xs) (word.Comma ∷ (aw ++ bw))

record MoreRead {A : Type 0} (P : A → List Word → Type 0) (found : List A) (ws : List Word) (all : List A)
    (rest : List Word) : Type 0 where
  xs : List A
  front : List Word
  behind : Behind P xs front
  splits : ws ≡ front ++ rest
  is_all : all ≡ found ++ xs

more_stops : {A : Type 0} (P : Phrase A) (found : List A) (a b : At) (all : List A) (d : At) → a ≡ b
    → ok found b ≡ Ok (all, d) → MoreRead P found a.words all d.words
more_stops P found a b all d e h =
    record {
      xs = [];
      front = [];
      behind = none;
      splits = same_words a d (e ∙ same_place found all b d h);
      is_all = sym (same_said found all b d h) ∙ sym (append-nil found);
    }

more_goes : {A : Type 0} (P : Phrase A) (found : List A) (x : A) (a b c : At) (all : List A) (d : At)
    → a.words ≡ word.Comma ∷ b.words → Front (P x) b.words c.words
    → MoreRead P (found ++ x ∷ []) c.words all d.words → MoreRead P found a.words all d.words
more_goes P found x a b c all d e p m =
    record {
      xs = x ∷ m.xs;
      front = word.Comma ∷ (p.front ++ m.front);
      behind = further p.holds m.behind;
      splits =
          e ∙ ap (λ (l : List Word). word.Comma ∷ l)
          (p.splits ∙ ap (λ (l : List Word). p.front ++ l) m.splits ∙ sym (append_assoc p.front m.front d.words));
      is_all = m.is_all ∙ append_assoc found (x ∷ []) m.xs;
    }

-- what reading on finds, where the next turn is known to find it
abbrev Turn : {A : Type 0} (one : FormReader A) (P : Phrase A) (n : ℕ) → Type 0
Turn {A} one P n =
    (found : List A) (a : At) (all : List A) (d : At) → f.more one n found a ≡ Ok (all, d)
    → MoreRead P found a.words all d.words

turn_by : {A : Type 0} (one : FormReader A) (P : Phrase A) → Sound one P → (n : ℕ) → Turn one P n
    → (found : List A) (a : At) (all : List A) (d : At) (x : Bool) (b : At)
    → f.comma a ≡ taken x b
    → on_taken (taken x b) (λ p. one p >>= λ y. f.more one n (found ++ y.0 ∷ []) y.1) (λ p. ok found p)
    ≡ Ok (all, d) → MoreRead P found a.words all d.words
turn_by one P first n again found a all d true b t h =
    let y = bind_ok (one b) (λ y. f.more one n (found ++ y.0 ∷ []) y.1) (all, d) h in
    more_goes P found y.0.0 a b y.0.1 all d (comma_took a a.words b t) (first.reads b y.0.0 y.0.1 y.1)
    (again (found ++ y.0.0 ∷ []) y.0.1 all d y.2)
turn_by one P first n again found a all d false b t h = more_stops P found a b all d (comma_stood a a.words b t) h

more_front : {A : Type 0} (one : FormReader A) (P : Phrase A) → Sound one P
    → (n : ℕ) (found : List A) (a : At) (all : List A) (d : At) → f.more one n found a ≡ Ok (all, d)
    → MoreRead P found a.words all d.words
unfolding f.more
more_front one P first zero found a all d h = absurd (not_ok kind.Word (all, d) h)
more_front one P first (suc n) found a all d h =
    turn_by one P first n (more_front one P first n) found a all d (f.comma a).0 (f.comma a).1 refl h

several_of : {A : Type 0} (P : Phrase A) (x : A) (aw : List Word) → P x aw → {xs : List A} {bw : List Word}
    → Behind P xs bw → Several P (x ∷ xs) (aw ++ bw)
several_of P x aw p none = subst (λ (l : List Word). Several P (x ∷ []) l) (sym (append-nil aw)) (c.last p)
several_of P x aw p (further {x = y} {xs = ys} {aw = cw} {bw = dw} q b) = c.next p (several_of P y cw q b)

several_front : {A : Type 0} (one : FormReader A) (P : Phrase A) → Sound one P → (a : At) (all : List A) (d : At)
    → f.several_forms one a ≡ Ok (all, d) → Front (Several P all) a.words d.words
unfolding f.several_forms
several_front one P first a all d h =
    let y = bind_ok (one a) (λ y. f.more one (suc (length y.1.words)) (y.0 ∷ []) y.1) (all, d) h in
    let p = first.reads a y.0.0 y.0.1 y.1 in
    let m = more_front one P first (suc (length y.0.1.words)) (y.0.0 ∷ []) y.0.1 all d y.2 in
    record {
      front = p.front ++ m.front;
      holds =
          subst (λ l. Several P l (p.front ++ m.front)) (sym m.is_all) (several_of P y.0.0 p.front p.holds m.behind);
      splits = p.splits ∙ ap (λ (l : List Word). p.front ++ l) m.splits ∙ sym (append_assoc p.front m.front d.words);
    }

pub several_sound : {A : Type 0} {one : FormReader A} {P : Phrase A} → Sound one P
    → Sound (f.several_forms one) (Several P)
several_sound {A} {one} {P} first = record { reads = several_front one P first }

-- a phrase that doesn't begin with a word

refused_front : {B : Type 0} (whole : List ℕ) (r : FormReader B) (P : Phrase B) → Sound r P → (x : Bool) (a : At)
    → is_word_in whole a.words ≡ x → (y : B) (d : At)
    → (if x then failed kind.Word else r a) ≡ Ok (y, d) → Front (But whole P y) a.words d.words
refused_front whole r P first true a n y d h = absurd (not_ok kind.Word (y, d) h)
refused_front whole r P first false a n y d h = but_front whole P y a.words d.words n (first.reads a y d h)

pub refused_sound : {B : Type 0} (whole : List ℕ) {r : FormReader B} {P : Phrase B} → Sound r P
    → Sound (λ a. if is_at whole a then Err kind.Word else r a) (But whole P)
refused_sound whole {r} {P} first = record {
  reads = λ a y d h. refused_front whole r P first (is_at whole a) a refl y d h;
}

prompt_front : (r : FormReader (Option Tree)) (P : Phrase (Option Tree)) (whole : List ℕ) → Sound r P
    → (x : Bool) (a : At) → (is_at whole a || is_at_end a) ≡ x → (y : Option Tree) (d : At)
    → (if x then fine (None, a) else r a) ≡ Ok (y, d) → Front (Either (Is None) (But whole P) y) a.words d.words
prompt_front r P whole first true a n y d h =
    let p = (is_sound None).reads a y d h in record { front = p.front; holds = inl p.holds; splits = p.splits }
prompt_front r P whole first false a n y d h =
    let p = but_front whole P y a.words d.words (or_parts (is_at whole a) (is_at_end a) n).0 (first.reads a y d h) in
    record { front = p.front; holds = inr p.holds; splits = p.splits }

pub prompt_sound : {r : FormReader (Option Tree)} {P : Phrase (Option Tree)} (whole : List ℕ) → Sound r P
    → Sound (λ a. if is_at whole a || is_at_end a then Ok (None, a) else r a) (Either (Is None) (But whole P))
prompt_sound {r} {P} whole first = record {
  reads = λ a y d h. prompt_front r P whole first (is_at whole a || is_at_end a) a refl y d h;
}
