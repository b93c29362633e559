-- The parts of forms are found: expressions, names, numbers, marks and lists.
use Rattle.std.proofs.Common.{◌≡◌, ℕ, zero, suc, ◌<◌, ◌⊎◌, List, [], ◌∷◌, ◌++◌, length, take, codes, Bool, true, false}
use Rattle.std.proofs.Common.{Option, None, Result, Ok, Err, refl, sym, ap, ◌∙◌, subst, append_assoc, arith, inl, inr}
use Rattle.std.specs.Prelude.{if◌then◌else◌, ◌&&◌, ◌||◌, nat_le}
use Rattle.std.proofs.lemmas.Bool.{le-leb, and_from, or_from, or_left, or_right}
use Rattle.std.proofs.lemmas.List.{length-append}
use Rattle.fixed_num.specs.Number.{Number as Decimal}
use Rattle.prg_expr.specs.declared.tree.BinaryOperator.TheVariants.{Equal}
use Rattle.prg_expr.specs.Grammar.{Spells, Free}
use Rattle.prg_expr.specs.Reading.{front, reader, stage, chain, comparison_read, prefixes, operand, wrong_word, ◌>>=◌}
use Rattle.prg_expr.specs.Tree.{Tree}
use Rattle.prg_expr.specs.Word.{Word}
use Rattle.prg_expr.specs.Word as word
use Rattle.prg_expr.specs.declared.fault.ParseFaultKind.{ParseFaultKind}
use Rattle.prg_expr.specs.declared.fault.ParseFaultKind.TheVariants as kind
use Rattle.prg_line.specs.Act.{Act, Letters}
use Rattle.prg_line.specs.Act as act
use Rattle.prg_line.specs.Forms as f
use Rattle.prg_line.specs.Forms.{At, at, FormReader, WordTaken, on_taken, unexpected, is_at, is_at_end, is_nil}
use Rattle.prg_line.specs.Forms.{is_word_in}
use Rattle.prg_line.specs.Commands as c
use Rattle.prg_line.specs.Commands.{Phrase, Is, Then, Key, MarkThen, But, Where, Either, Name, Whole, Several}
use Rattle.prg_line.specs.Commands.{SelectNumber}
use Rattle.prg_line.proofs.Sound.{ok, fine, failed, taken, apart}
use Rattle.prg_line.proofs.Full.{Reaches, Full, Ended, Anything, Filled, bind_to, mark_finds, test_to, taken_to}
use Rattle.prg_line.proofs.Full.{then_full}

-- that what words spell is found in front of what can't go on with it, which the crate of expressions proves
abbrev pub FoundLaw : Type 0
FoundLaw = (ws rest : List Word) (e : Tree) → Spells e ws → Free 7 rest → front (ws ++ rest) ≡ Ok (e, rest)

abbrev good : Tree → List Word → Result (Tree × List Word) ParseFaultKind
good e rest = Ok (e, rest)

told_to : (r s : Result (Tree × List Word) ParseFaultKind) → r ≡ s
    → (r >>= λ x. ok x.0 (at x.1 true)) ≡ (s >>= λ x. ok x.0 (at x.1 true))
told_to r s e = ap (λ (t : Result (Tree × List Word) ParseFaultKind). t >>= λ x. ok x.0 (at x.1 true)) e

expression_finds : FoundLaw → (a : At) (e : Tree) (ws rest : List Word) → Spells e ws → a.words ≡ ws ++ rest
    → Free 7 rest → Reaches f.expression a e rest
unfolding f.expression
expression_finds law a e ws rest p w free =
    record {
      place = at rest true;
      reads = told_to (front a.words) (good e rest) (ap front w ∙ law ws rest e p free);
      left = refl;
    }

pub expression_full : FoundLaw → Full f.expression Spells (Free 7)
expression_full law = record { finds = expression_finds law }

name_at : (s : List ℕ) (ws : List Word) → f.name_in (word.Name s ∷ ws) ≡ Ok (take 10 s, at ws false)
unfolding f.name_in
name_at s ws = refl

name_finds : (a : At) (n : Letters) (ws rest : List Word) → Name n ws → a.words ≡ ws ++ rest → Anything rest
    → Reaches f.name a n rest
name_finds a n ws rest (s, e, i) w g =
    record {
      place = at rest false;
      reads =
          ap f.name_in (w ∙ ap (λ (l : List Word). l ++ rest) i) ∙ name_at s rest
          ∙ ap (λ (m : Letters). ok m (at rest false)) (sym e);
      left = refl;
    }

pub name_full : Full f.name Name Anything
name_full = record { finds = name_finds }

number_at : (d : Decimal) (n : ℕ) (ws : List Word) → f.whole_of d ≡ Ok n
    → f.whole_number_in (word.Number d ∷ ws) ≡ Ok (n, at ws false)
unfolding f.whole_number_in
number_at d n ws h = bind_to (f.whole_of d) (λ k. ok k (at ws false)) n (n, at ws false) h refl

whole_finds : (a : At) (n : ℕ) (ws rest : List Word) → Whole n ws → a.words ≡ ws ++ rest → Anything rest
    → Reaches f.whole_number a n rest
whole_finds a n ws rest (d, h, i) w g =
    record {
      place = at rest false;
      reads = ap f.whole_number_in (w ∙ ap (λ (l : List Word). l ++ rest) i) ∙ number_at d n rest h;
      left = refl;
    }

pub whole_full : Full f.whole_number Whole Anything
whole_full = record { finds = whole_finds }

area_to : (n : ℕ) (x : Bool) (a : At) → x ≡ true
    → ((if x then fine n else failed kind.Word) >>= λ k. ok (act.Select (act.Number k)) a)
    ≡ fine (act.Select (act.Number n), a)
area_to n x a e =
    ap (λ (z : Bool). (if z then fine n else failed kind.Word) >>= λ k. ok (act.Select (act.Number k)) a) e

number_finds : (n : ℕ) (a : At) (y : Act) (ws rest : List Word) → SelectNumber n y ws → a.words ≡ ws ++ rest
    → Ended rest → Reaches (λ a. f.area_number n >>= λ k. ok (act.Select (act.Number k)) a) a y rest
number_finds n a y ws rest (l, m, i) w g =
    record {
      place = a;
      reads = area_to n (nat_le 1 n && nat_le n 10) a
          (and_from (nat_le 1 n) (nat_le n 10) (le-leb 1 n l) (le-leb n 10 m)) ∙ ap (λ z. fine (z, a)) (sym i.0);
      left = w ∙ ap (λ (l : List Word). l ++ rest) i.1;
    }

pub number_full : (n : ℕ) → Full (λ a. f.area_number n >>= λ k. ok (act.Select (act.Number k)) a) (SelectNumber n) Ended
number_full n = record { finds = number_finds n }

-- marks

comma_at : (a : At) (ws : List Word) → f.comma_in a (word.Comma ∷ ws) ≡ taken true (at ws false)
unfolding f.comma_in
comma_at a ws = refl

comma_there : (a : At) (ws : List Word) → a.words ≡ word.Comma ∷ ws → f.comma a ≡ taken true (at ws false)
comma_there a ws e = ap (f.comma_in a) e ∙ comma_at a ws

between_there : (a : At) (ws : List Word) → a.words ≡ word.Comma ∷ ws
    → (b : At) × (f.comma_between a ≡ fine b) × (b.words ≡ ws)
unfolding f.comma_between
between_there a ws e = (
  at ws false,
  ap (λ (t : WordTaken). on_taken t (λ b. fine b)
      (λ b. if is_at_end b then failed kind.Expression else failed (unexpected b))) (comma_there a ws e),
  refl,
)

pub comma_full : {B : Type 0} {r : FormReader B} {P : Phrase B} {G : List Word → Type 0} → Full r P G
    → Full (λ a. f.comma_between a >>= r) (MarkThen word.Comma P) G
comma_full {B} {r} {P} {G} behind = record { finds = mark_finds word.Comma f.comma_between r P G between_there behind }

equal_at : (a : At) (ws : List Word) → f.equal_in a (word.Sign Equal ∷ ws) ≡ fine (at ws a.behind)
unfolding f.equal_in
equal_at a ws = refl

equal_there : (a : At) (ws : List Word) → a.words ≡ word.Sign Equal ∷ ws
    → (b : At) × (f.equal a ≡ fine b) × (b.words ≡ ws)
equal_there a ws e = (at ws a.behind, ap (f.equal_in a) e ∙ equal_at a ws, refl)

pub equal_full : {B : Type 0} {r : FormReader B} {P : Phrase B} {G : List Word → Type 0} → Full r P G
    → Full (λ a. f.equal a >>= r) (MarkThen (word.Sign Equal) P) G
equal_full {B} {r} {P} {G} behind = record { finds = mark_finds (word.Sign Equal) f.equal r P G equal_there behind }

-- lists

abbrev pub NoComma : List Word → Type 0
NoComma (word.Comma ∷ ws) = ⊥
NoComma ws = Unit {0}

comma_absent : (a : At) (ws : List Word) → NoComma ws → f.comma_in a ws ≡ taken false a
unfolding f.comma_in
comma_absent a [] h = refl
comma_absent a (word.Comma ∷ ws) h = absurd h
comma_absent a (word.Name s ∷ ws) h = refl
comma_absent a (word.Number n ∷ ws) h = refl
comma_absent a (word.Text t ∷ ws) h = refl
comma_absent a (word.Logical l ∷ ws) h = refl
comma_absent a (word.Not ∷ ws) h = refl
comma_absent a (word.Sign o ∷ ws) h = refl
comma_absent a (word.Arrow ∷ ws) h = refl
comma_absent a (word.Open ∷ ws) h = refl
comma_absent a (word.Close ∷ ws) h = refl
comma_absent a (word.Outside m ∷ ws) h = refl

-- what may follow a list: what may follow one, but no comma
abbrev pub Behind : (List Word → Type 0) → List Word → Type 0
Behind F rest = F rest × NoComma rest

module _ {A : Type 0} (read : FormReader A) (P : Phrase A) (F : List Word → Type 0) (first : Full read P F)
    (at_comma : (ws : List Word) → F (word.Comma ∷ ws)) where
  more_ends : (n : ℕ) (found : List A) (a : At) (rest : List Word) → a.words ≡ rest → NoComma rest
      → Reaches (f.more read (suc n) found) a found rest
  unfolding f.more
  more_ends n found a rest w free =
      record {
        place = a;
        reads =
            taken_to (λ b. read b >>= λ x. f.more read n (found ++ x.0 ∷ []) x.1) (λ b. ok found b) (f.comma a)
            (taken false a) (fine (found, a)) (ap (λ (l : List Word). f.comma_in a l) w ∙ comma_absent a rest free)
            refl;
        left = w;
      }

  more_goes : (n : ℕ) (found all : List A) (a b d : At) (x : A) (rest : List Word) → f.comma a ≡ taken true b
      → read b ≡ fine (x, d) → Reaches (f.more read n (found ++ x ∷ [])) d all rest
      → Reaches (f.more read (suc n) found) a all rest
  unfolding f.more
  more_goes n found all a b d x rest c h t =
      record {
        place = t.place;
        reads =
            taken_to (λ p. read p >>= λ y. f.more read n (found ++ y.0 ∷ []) y.1) (λ p. ok found p) (f.comma a)
            (taken true b) (fine (all, t.place)) c
            (bind_to (read b) (λ y. f.more read n (found ++ y.0 ∷ []) y.1) (x, d) (all, t.place) h t.reads);
        left = t.left;
      }

  -- behind the first one
  more_finds : {xs : List A} {ws : List Word} → Several P xs ws → (n : ℕ) (found : List A) (a : At) (rest : List Word)
      → length a.words < n → a.words ≡ word.Comma ∷ (ws ++ rest) → Behind F rest
      → Reaches (f.more read n found) a (found ++ xs) rest
  more_finds s zero found a rest lt w g = absurd (omega (arith, lt))
  more_finds (c.last {x = x} {ws = ws} p) (suc zero) found a rest lt w g = absurd (omega (arith, lt, ap length w))
  more_finds (c.last {x = x} {ws = ws} p) (suc (suc n)) found a rest lt w g =
      let t = first.finds (at (ws ++ rest) false) x ws rest p refl g.0 in
      more_goes (suc n) found (found ++ x ∷ []) a (at (ws ++ rest) false) t.place x rest (comma_there a (ws ++ rest) w)
      t.reads (more_ends n (found ++ x ∷ []) t.place rest t.left g.1)
  more_finds (c.next {x = x} {xs = xs} {aw = aw} {bw = bw} p s) (suc n) found a rest lt w g =
      let w' = w ∙ ap (λ (l : List Word). word.Comma ∷ l) (append_assoc aw (word.Comma ∷ bw) rest) in
      let t =
      first.finds (at (aw ++ (word.Comma ∷ (bw ++ rest))) false) x aw (word.Comma ∷ (bw ++ rest)) p refl
      (at_comma (bw ++ rest)) in
      let size = ap length w' ∙ ap suc (length-append aw (word.Comma ∷ (bw ++ rest))) in
      subst (λ (l : List A). Reaches (f.more read (suc n) found) a l rest) (append_assoc found (x ∷ []) xs)
      (more_goes n found ((found ++ x ∷ []) ++ xs) a (at (aw ++ (word.Comma ∷ (bw ++ rest))) false) t.place x rest
      (comma_there a (aw ++ (word.Comma ∷ (bw ++ rest))) w') t.reads
      (more_finds {xs = xs} {ws = bw} s n (found ++ x ∷ []) t.place rest (omega (arith, lt, size, ap length t.left))
      t.left g))

  several_finds : (a : At) (all : List A) (ws rest : List Word) → Several P all ws → a.words ≡ ws ++ rest
      → Behind F rest → Reaches (f.several_forms read) a all rest
  unfolding f.several_forms
  several_finds a all ws rest (c.last {x = x} {ws = ws'} p) w g =
      let t = first.finds a x ws rest p w g.0 in
      let m = more_ends (length t.place.words) (x ∷ []) t.place rest t.left g.1 in
      record {
        place = m.place;
        reads =
            bind_to (read a) (λ y. f.more read (suc (length y.1.words)) (y.0 ∷ []) y.1) (x, t.place) (x ∷ [], m.place)
            t.reads m.reads;
        left = m.left;
      }
  several_finds a all ws rest (c.next {x = x} {xs = xs} {aw = aw} {bw = bw} p s) w g =
      let t =
      first.finds a x aw (word.Comma ∷ (bw ++ rest)) p (w ∙ append_assoc aw (word.Comma ∷ bw) rest)
      (at_comma (bw ++ rest)) in
      let m =
      more_finds {xs = xs} {ws = bw} s (suc (length t.place.words)) (x ∷ []) t.place rest (omega arith) t.left g in
      record {
        place = m.place;
        reads =
            bind_to (read a) (λ y. f.more read (suc (length y.1.words)) (y.0 ∷ []) y.1) (x, t.place) (x ∷ xs, m.place)
            t.reads m.reads;
        left = m.left;
      }

  pub several_full : Full (f.several_forms read) (Several P) (Behind F)
  several_full = record { finds = several_finds }

-- what begins with an expression or a name isn't empty

front_nothing : front [] ≡ Err kind.Expression
unfolding reader stage chain comparison_read prefixes operand wrong_word
front_nothing = refl

abbrev bad : ParseFaultKind → Result (Tree × List Word) ParseFaultKind
bad e = Err e

abbrev read_as : Tree × List Word → Result (Tree × List Word) ParseFaultKind
read_as x = Ok x

not_read : (x : Tree × List Word) → bad kind.Expression ≡ read_as x → ⊥
not_read x h = cc

pub spells_filled : FoundLaw → Filled Spells
spells_filled law = record { filled = λ e p. not_read (e, []) (sym front_nothing ∙ law [] [] e p tt) }

no_words : (w : Word) (ws : List Word) → w ∷ ws ≡ [] → ⊥
no_words w ws h = cc

none_left : (front other : List Word) → [] ≡ front ++ other → front ≡ []
none_left [] other h = refl
none_left (w ∷ ws) other h = absurd (no_words w (ws ++ other) (sym h))

pub name_filled : Filled Name
name_filled = record { filled = λ n p. no_words (word.Name p.0) [] (sym p.2) }

pub then_filled : {A B : Type 0} {P : Phrase A} {Q : A → Phrase B} → Filled P → Filled (Then P Q)
then_filled {A} {B} {P} {Q} some = record {
  filled = λ y p. some.filled p.0 (subst (P p.0) (none_left p.1 p.2 p.5) p.3);
}

several_words : {A : Type 0} (P : Phrase A) → Filled P → {xs : List A} {ws : List Word} → Several P xs ws → ws ≡ [] → ⊥
several_words P some (c.last {x = x} {ws = ws} p) e = some.filled x (subst (P x) e p)
several_words P some (c.next {x = x} {xs = xs} {aw = aw} {bw = bw} p s) e = no_tail aw word.Comma bw e
  where
    no_tail : (front : List Word) (w : Word) (others : List Word) → front ++ w ∷ others ≡ [] → ⊥
    no_tail [] w others h = no_words w others h
    no_tail (v ∷ front) w others h = no_words v (front ++ w ∷ others) h

pub several_filled : {A : Type 0} {P : Phrase A} → Filled P → Filled (Several P)
several_filled {A} {P} some = record { filled = λ xs s. several_words P some s refl }

-- what follows

pub record Begins {B : Type 0} (Q : Phrase B) (G F : List Word → Type 0) : Type 0 where
  pub begins : (y : B) (front rest : List Word) → Q y front → G rest → F (front ++ rest)

-- what may be followed by the line's end or by a clause word
pub record Open (F : List Word → Type 0) : Type 0 where
  pub nil : F []
  pub name : (s : List ℕ) (ws : List Word) → F (word.Name s ∷ ws)

pub free_open : Open (Free 7)
free_open = record { nil = tt; name = λ s ws. tt }

pub list_open : Open (Behind (Free 7))
list_open = record { nil = (tt, tt); name = λ s ws. (tt, tt) }

pub names_open : Open (Behind Anything)
names_open = record { nil = (tt, tt); name = λ s ws. (tt, tt) }

pub any_begins : {B : Type 0} {Q : Phrase B} {G : List Word → Type 0} → Begins Q G Anything
any_begins = record { begins = λ y front rest q g. tt }

pub is_begins : {B : Type 0} {x : B} {F : List Word → Type 0} → Open F → Begins (Is x) Ended F
is_begins {B} {x} {F} o = record {
  begins = λ y front rest q g. subst F (sym (ap (λ (l : List Word). l ++ rest) q.1 ∙ g)) o.nil;
}

pub same_begins : {B : Type 0} {x : B} {F : List Word → Type 0} → Begins (Is x) F F
same_begins {B} {x} {F} = record {
  begins = λ y front rest q g. subst F (sym (ap (λ (l : List Word). l ++ rest) q.1)) g;
}

pub key_begins : {B : Type 0} (whole : List ℕ) {P : Phrase B} {F G : List Word → Type 0} → Open F
    → Begins (Key whole P) G F
key_begins whole {P} {F} {G} o = record {
  begins = λ y front rest q g. subst F (sym (ap (λ (l : List Word). l ++ rest) q.4)) (o.name q.0 (q.1 ++ rest));
}

pub comma_begins : {B : Type 0} {P : Phrase B} {G : List Word → Type 0} → Begins (MarkThen word.Comma P) G (Free 7)
comma_begins {B} {P} {G} = record {
  begins = λ y front rest q g. subst (Free 7) (sym (ap (λ (l : List Word). l ++ rest) q.2)) tt;
}

one_begins : {B : Type 0} (whole : List ℕ) (P Q : Phrase B) (F G : List Word → Type 0) → Open F → Begins Q G F
    → (y : B) (front rest : List Word) → Where whole P Q y front → G rest → F (front ++ rest)
one_begins whole P Q F G o b y front rest (inl p) g =
    (key_begins whole {P = P} {F = F} {G = G} o).begins y front rest p g
one_begins whole P Q F G o b y front rest (inr (h, q)) g = b.begins y front rest q g

pub where_begins : {B : Type 0} (whole : List ℕ) {P Q : Phrase B} {F G : List Word → Type 0} → Open F → Begins Q G F
    → Begins (Where whole P Q) G F
where_begins whole {P} {Q} {F} {G} o b = record { begins = one_begins whole P Q F G o b }

-- one phrase and then another
pub both_full : {A B : Type 0} {r : FormReader A} {f : A → FormReader B} {P : Phrase A} {Q : A → Phrase B}
    {F G : List Word → Type 0} → Full r P F → ((x : A) → Full (f x) (Q x) G)
    → ((x : A) → Begins (Q x) G F) → Full (λ a. r a >>= λ x. f x.0 x.1) (Then P Q) G
both_full first second b = then_full first second (λ x. (b x).begins)

-- a prompt, behind which TO stands or nothing

abbrev pub BehindPrompt : List Word → Type 0
BehindPrompt rest = (rest ≡ []) ⊎ (is_word_in (codes "TO") rest ≡ true)

stops : (a : At) (rest : List Word) → a.words ≡ rest → BehindPrompt rest → (is_at (codes "TO") a || is_at_end a) ≡ true
stops a rest w (inl n) = or_right (is_at (codes "TO") a) (is_at_end a) (ap is_nil (w ∙ n))
stops a rest w (inr t) = or_left (is_at (codes "TO") a) (is_at_end a) (ap (is_word_in (codes "TO")) w ∙ t)

prompt_finds : (r : FormReader (Option Tree)) (P : Phrase (Option Tree)) → Filled P → Full r P BehindPrompt
    → (a : At) (y : Option Tree) (front rest : List Word) → Either (Is None) (But (codes "TO") P) y front
    → a.words ≡ front ++ rest
    → BehindPrompt rest → Reaches (λ a. if is_at (codes "TO") a || is_at_end a then ok None a else r a) a y rest
prompt_finds r P some first a y front rest (inl (e, n)) w g =
    let here = w ∙ ap (λ (l : List Word). l ++ rest) n in
    record {
      place = a;
      reads =
          test_to (is_at (codes "TO") a || is_at_end a) true (ok None a) (r a) (fine (y, a)) (stops a rest here g)
          (ap (λ z. fine (z, a)) (sym e));
      left = here;
    }
prompt_finds r P some first a y [] rest (inr (h, p)) w g = absurd (some.filled y p)
prompt_finds r P some first a y (v ∷ front) rest (inr (h, p)) w g =
    let t = first.finds a y (v ∷ front) rest p w g in
    record {
      place = t.place;
      reads = test_to (is_at (codes "TO") a || is_at_end a) false (ok None a) (r a) (fine (y, t.place))
          (or_from (is_at (codes "TO") a) (is_at_end a) (ap (is_word_in (codes "TO")) w ∙ h) (ap is_nil w)) t.reads;
      left = t.left;
    }

pub prompted : {r : FormReader (Option Tree)} {P : Phrase (Option Tree)} → Filled P → Full r P BehindPrompt
    → Full (λ a. if is_at (codes "TO") a || is_at_end a then ok None a else r a) (Either (Is None) (But (codes "TO") P))
    BehindPrompt
prompted {r} {P} some first = record { finds = prompt_finds r P some first }

free_word : (rest : List Word) → is_word_in (codes "TO") rest ≡ true → Free 7 rest
free_word [] h = tt
free_word (word.Name s ∷ ws) h = tt
free_word (word.Number n ∷ ws) h = absurd (apart h)
free_word (word.Text t ∷ ws) h = absurd (apart h)
free_word (word.Logical l ∷ ws) h = absurd (apart h)
free_word (word.Not ∷ ws) h = absurd (apart h)
free_word (word.Sign o ∷ ws) h = absurd (apart h)
free_word (word.Arrow ∷ ws) h = absurd (apart h)
free_word (word.Open ∷ ws) h = absurd (apart h)
free_word (word.Close ∷ ws) h = absurd (apart h)
free_word (word.Comma ∷ ws) h = absurd (apart h)
free_word (word.Outside m ∷ ws) h = absurd (apart h)

free_behind : (rest : List Word) → BehindPrompt rest → Free 7 rest
free_behind rest (inl n) = subst (Free 7) (sym n) tt
free_behind rest (inr t) = free_word rest t

pub prompt_begins : {x : Option Tree} → Begins (Is x) BehindPrompt (Free 7)
prompt_begins = record {
  begins = λ y front rest q g. subst (Free 7) (sym (ap (λ (l : List Word). l ++ rest) q.1)) (free_behind rest g);
}

pub to_begins : {B : Type 0} {P : Phrase B} {G : List Word → Type 0} → Begins (Key (codes "TO") P) G BehindPrompt
to_begins = record {
  begins = λ y front rest q g. inr (ap (λ (l : List Word). is_word_in (codes "TO") (l ++ rest)) q.4 ∙ q.2);
}

either_to : {B : Type 0} (P : Phrase B) (x : B) (y : B) (front rest : List Word) → Where (codes "TO") P (Is x) y front
    → Ended rest → BehindPrompt (front ++ rest)
either_to P x y front rest (inl q) g = inr (ap (λ (l : List Word). is_word_in (codes "TO") (l ++ rest)) q.4 ∙ q.2)
either_to P x y front rest (inr (h, q)) g = inl (ap (λ (l : List Word). l ++ rest) q.1 ∙ g)

pub to_or_end : {B : Type 0} {P : Phrase B} {x : B} → Begins (Where (codes "TO") P (Is x)) Ended BehindPrompt
to_or_end {B} {P} {x} = record { begins = either_to P x }

-- a number or a name

choice_finds : (r s : FormReader Act) (P : ℕ → Phrase Act) (Q : Letters → Phrase Act) → Full r (Then Whole P) Ended
    → Full s (Then Name Q) Ended → (a : At) (y : Act) (front rest : List Word)
    → Either (Then Whole P) (Then Name Q) y front → a.words ≡ front ++ rest → Ended rest
    → Reaches (λ a. if f.is_at_number a then r a else s a) a y rest
choice_finds r s P Q first second a y front rest (inl p) w g =
    let t = first.finds a y front rest p w g in
    let there = w ∙ ap (λ (l : List Word). l ++ rest) (p.5 ∙ ap (λ (l : List Word). l ++ p.2) p.3.2) in
    record {
      place = t.place;
      reads = test_to (f.is_at_number a) true (r a) (s a) (fine (y, t.place)) (ap f.is_number there) t.reads;
      left = t.left;
    }
choice_finds r s P Q first second a y front rest (inr p) w g =
    let t = second.finds a y front rest p w g in
    let there = w ∙ ap (λ (l : List Word). l ++ rest) (p.5 ∙ ap (λ (l : List Word). l ++ p.2) p.3.2) in
    record {
      place = t.place;
      reads = test_to (f.is_at_number a) false (r a) (s a) (fine (y, t.place)) (ap f.is_number there) t.reads;
      left = t.left;
    }

pub choice_full : {r s : FormReader Act} {P : ℕ → Phrase Act} {Q : Letters → Phrase Act} → Full r (Then Whole P) Ended
    → Full s (Then Name Q) Ended
    → Full (λ a. if f.is_at_number a then r a else s a) (Either (Then Whole P) (Then Name Q)) Ended
choice_full {r} {s} {P} {Q} first second = record { finds = choice_finds r s P Q first second }

pub end_begins : {B : Type 0} {x : B} → Begins (Is x) Ended Ended
end_begins = record { begins = λ y front rest q g. ap (λ (l : List Word). l ++ rest) q.1 ∙ g }
