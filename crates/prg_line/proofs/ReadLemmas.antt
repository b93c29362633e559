-- Of a line without a fault the words say what is read, and the other way.
use Rattle.std.proofs.Common.{◌≡◌, ℕ, ◌≤◌, List, [], ◌∷◌, Option, Some, None, Bool, true, false, Result, Ok, Err}
use Rattle.std.proofs.Common.{length, map, refl, ◌∙◌, ap, arith, subst}
use Rattle.std.specs.Prelude.{if◌then◌else◌, nat_lt, nat_le, ◌&&◌}
use Rattle.std.proofs.lemmas.List.{length-map}
use Rattle.std.proofs.lemmas.Bool.{ltb-false, le-ltb}
use Rattle.prg_expr.specs.Faults.{least, least_of, length_fault, rank}
use Rattle.prg_expr.specs.Lexicon.{Spot, spot_word, spot_fault, IsLine}
use Rattle.prg_expr.specs.Scanning.{scan}
use Rattle.prg_expr.specs.declared.fault.ParseFaultKind.{ParseFaultKind}
use Rattle.prg_expr.specs.declared.fault.ParseFaultKind.TheVariants.{TooLong}
use Rattle.prg_line.specs.declared.verb.Verb.{Verb}
use Rattle.prg_line.specs.Commands.{Says}
use Rattle.prg_line.specs.Forms.{At, at, sentence}
use Rattle.prg_line.specs.LineSays.{Faultless, Counts, LineSays, verb_begun}
use Rattle.prg_line.specs.Alone.{form, saying_fault, saying_in, role_at, fault_at, saying_at, word_fault}
use Rattle.prg_line.specs.Saying.{Saying, role_of}
use Rattle.prg_line.specs.Verbs.{FoundVerb, ignores_rest, has_expressions}
use Rattle.prg_line.proofs.PartsFull.{FoundLaw}
use Rattle.prg_line.proofs.PartsSound.{Law}
use Rattle.prg_line.proofs.SaysFull.{says_full}
use Rattle.prg_line.proofs.RoleLemmas.{role_agrees}
use Rattle.prg_line.proofs.SaysSound.{says_sound}
use Rattle.prg_line.proofs.Sound.{fine, failed, not_ok}

-- that going through a line finds its words, which the crate of expressions proves
abbrev pub CutLaw : Type 0
CutLaw = (line : List ℕ) → IsLine (scan line) line

some_fault : (x : ParseFaultKind) → Some x ≡ None → ⊥
some_fault x h = cc

some_told : (b : Bool) (k l : ParseFaultKind) → (if b then Some k else Some l) ≡ None → ⊥
some_told true k l e = cc
some_told false k l e = cc

-- where neither of two faults is
pub no_fault : (own place : Option ParseFaultKind) → least own place ≡ None → place ≡ None
no_fault None place e = e
no_fault (Some k) None e = refl
no_fault (Some k) (Some l) e = absurd (some_told (nat_le (rank k) (rank l)) k l e)

pub own_fault : (own place : Option ParseFaultKind) → least own place ≡ None → own ≡ None
own_fault None place e = refl
own_fault (Some k) None e = e
own_fault (Some k) (Some l) e = absurd (some_told (nat_le (rank k) (rank l)) k l e)

-- the words

least_some : (k : ParseFaultKind) (f : Option ParseFaultKind) (g : Option ParseFaultKind) → least (Some k) f ≡ g
    → g ≡ None → ⊥
least_some k None g e h = some_fault k (e ∙ h)
least_some k (Some l) g e h = some_told (nat_le (rank k) (rank l)) k l (e ∙ h)

told_by : (k : ParseFaultKind) (f : Option ParseFaultKind) (fs : List (Option ParseFaultKind))
    → ((l : ParseFaultKind) → least_of (Some l) fs ≡ None → ⊥) → (g : Option ParseFaultKind) → least (Some k) f ≡ g
    → least_of g fs ≡ None → ⊥
told_by k f fs again None e h = least_some k f None e refl
told_by k f fs again (Some l) e h = again l h

told_some : (k : ParseFaultKind) (fs : List (Option ParseFaultKind)) → least_of (Some k) fs ≡ None → ⊥
told_some k [] h = some_fault k h
told_some k (f ∷ fs) h = told_by k f fs (λ l g. told_some l fs g) (least (Some k) f) refl h

faultless_by : (s : Spot) (spots : List Spot) → (least_of None (map spot_fault spots) ≡ None → Faultless spots)
    → (f : Option ParseFaultKind) → spot_fault s ≡ f → least_of f (map spot_fault spots) ≡ None
    → Faultless (s ∷ spots)
faultless_by s spots again None e h = (e, again h)
faultless_by s spots again (Some k) e h = absurd (told_some k (map spot_fault spots) h)

faultless : (spots : List Spot) → least_of None (map spot_fault spots) ≡ None → Faultless spots
faultless [] h = tt
faultless (s ∷ spots) h = faultless_by s spots (faultless spots) (spot_fault s) refl h

counted : (x : Bool) (spots : List Spot) → (if x then None else least_of None (map spot_fault spots)) ≡ None
    → Counts x spots
counted true spots h = tt
counted false spots h = faultless spots h

short : (n : ℕ) (x : Bool) → nat_lt 1024 n ≡ x → (if x then Some TooLong else None) ≡ None → n ≤ 1024
short n true e h = absurd (some_fault TooLong h)
short n false e h = ltb-false 1024 n e

-- the form

form_read : (v : Verb) (a : At) (s : Saying) (x : Bool) → (if x then failed TooLong else sentence v a) ≡ fine s
    → sentence v a ≡ fine s
form_read v a s true h = absurd (not_ok TooLong s h)
form_read v a s false h = h

form_in : (n : ℕ) (f : FoundVerb) (s : Saying) → form n f ≡ fine s → sentence f.0 (at f.1 false) ≡ fine s
unfolding form
form_in n f s h = form_read f.0 (at f.1 false) s (has_expressions f.0 && nat_lt 4096 n) h

formed : (r : Result Saying ParseFaultKind) → saying_fault r ≡ None → r ≡ fine (saying_in r)
formed (Ok s) h = refl
formed (Err k) h = absurd (some_fault k h)

says_form : Law → (n : ℕ) (f : FoundVerb) → saying_fault (form n f) ≡ None → Says f.0 (saying_in (form n f)) f.1
says_form law n f h =
    says_sound law f.0 (at f.1 false) (saying_in (form n f)) (form_in n f (saying_in (form n f)) (formed (form n f) h))

pub line_says : Law → CutLaw → (text : List ℕ) → fault_at text ≡ None → LineSays (saying_at text) text
unfolding fault_at saying_at
line_says law cut text h =
    let spots = scan text in
    let f = verb_begun spots in
    let own =
    own_fault (least (word_fault f.0 spots) (saying_fault (form (length (map spot_word (scan text))) f)))
    (length_fault (length text)) h in
    record {
      spots = spots;
      are_words = cut text;
      short =
          short (length text) (nat_lt 1024 (length text)) refl
          (no_fault (least (word_fault f.0 spots) (saying_fault (form (length (map spot_word (scan text))) f)))
          (length_fault (length text)) h);
      counts =
          counted (ignores_rest f.0) spots
          (own_fault (word_fault f.0 spots) (saying_fault (form (length (map spot_word (scan text))) f)) own);
      says =
          says_form law (length (map spot_word (scan text))) f
          (no_fault (word_fault f.0 spots) (saying_fault (form (length (map spot_word (scan text))) f)) own);
    }

pub line_placed : Law → (text : List ℕ) → fault_at text ≡ None → role_at text ≡ role_of (saying_at text)
unfolding fault_at role_at saying_at
line_placed law text h =
    let spots = scan text in
    let f = verb_begun spots in
    let own =
    own_fault (least (word_fault f.0 spots) (saying_fault (form (length (map spot_word (scan text))) f)))
    (length_fault (length text)) h in
    role_agrees f.0 (saying_in (form (length (map spot_word (scan text))) f)) f.1
    (says_form law (length (map spot_word (scan text))) f
    (no_fault (word_fault f.0 spots) (saying_fault (form (length (map spot_word (scan text))) f)) own))

-- the other way

-- that a line is words in one way only, which the crate of expressions proves
abbrev pub OneLaw : Type 0
OneLaw = (line : List ℕ) (a b : List Spot) → IsLine a line → IsLine b line → a ≡ b

faultless_to : (spots : List Spot) → Faultless spots → least_of None (map spot_fault spots) ≡ None
faultless_to [] h = refl
faultless_to (s ∷ spots) h =
    ap (λ (f : Option ParseFaultKind). least_of f (map spot_fault spots)) h.0 ∙ faultless_to spots h.1

counted_to : (x : Bool) (spots : List Spot) → Counts x spots
    → (if x then None else least_of None (map spot_fault spots)) ≡ None
counted_to true spots h = refl
counted_to false spots h = faultless_to spots h

form_read_to : (r : Result Saying ParseFaultKind) (x : Bool) → x ≡ false → (if x then failed TooLong else r) ≡ r
form_read_to r x e = ap (λ (z : Bool). if z then failed TooLong else r) e

form_to : (n : ℕ) (f : FoundVerb) (s : Saying) → n ≤ 1024 → sentence f.0 (at f.1 false) ≡ fine s → form n f ≡ fine s
unfolding form
form_to n f s l h =
    form_read_to (sentence f.0 (at f.1 false)) (has_expressions f.0 && nat_lt 4096 n)
    (never (has_expressions f.0) (nat_lt 4096 n) (le-ltb 4096 n (omega (arith, l)))) ∙ h
  where
    never : (x y : Bool) → y ≡ false → (x && y) ≡ false
    never true y e = e
    never false y e = refl

-- that the words found are no more than the bytes, which the crate of expressions proves
abbrev pub FewLaw : Type 0
FewLaw = (line : List ℕ) → length (scan line) ≤ length line

few_words : (text : List ℕ) → length (scan text) ≤ length text → length text ≤ 1024
    → length (map spot_word (scan text)) ≤ 1024
few_words text few le = let m = length-map (scan text) spot_word in omega (arith, m, few, le)

short_to : (x : Bool) → x ≡ false → (if x then Some TooLong else None) ≡ None
short_to x e = ap (λ (z : Bool). if z then Some TooLong else None) e

none_of : (x y z : Option ParseFaultKind) → x ≡ None → y ≡ None → z ≡ None → least (least x y) z ≡ None
none_of x y z e h g =
    ap (λ (k : Option ParseFaultKind). least (least k y) z) e ∙ ap (λ (k : Option ParseFaultKind). least k z) h ∙ g

pub line_found : FoundLaw → CutLaw → FewLaw → OneLaw → (text : List ℕ) (s : Saying) → LineSays s text
    → (fault_at text ≡ None) × (saying_at text ≡ s)
unfolding fault_at saying_at
line_found found cut few one text s l =
    let spots = scan text in
    let f = verb_begun spots in
    let same : l.spots ≡ spots = one text l.spots spots l.are_words (cut text) in
    let says = subst (λ (ss : List Spot). Says (verb_begun ss).0 s (verb_begun ss).1) same l.says in
    let counts = subst (λ (ss : List Spot). Counts (ignores_rest (verb_begun ss).0) ss) same l.counts in
    let read : form (length (map spot_word (scan text))) f ≡ fine s =
    form_to (length (map spot_word (scan text))) f s (few_words text (few text) l.short)
    (says_full found f.0 (at f.1 false) s says) in (
      none_of (word_fault f.0 spots) (saying_fault (form (length (map spot_word (scan text))) f))
          (length_fault (length text)) (counted_to (ignores_rest f.0) spots counts) (ap saying_fault read)
          (short_to (nat_lt 1024 (length text)) (le-ltb 1024 (length text) l.short)),
      ap saying_in read,
    )
