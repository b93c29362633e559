-- A part more of a key, and the parts of a key that are left.
use Rattle.std.proofs.Common.{◌≡◌, ◌≤◌, ◌+◌, ℕ, Bool, true, false, List, [], ◌∷◌, ◌++◌, length, drop, refl, sym, ap}
use Rattle.std.proofs.Common.{◌∙◌, append_assoc, append-nil, arith}
use Rattle.std.specs.Prelude.{codes, if◌then◌else◌, slice_get}
use Rattle.std.specs.List.{AllByRecursion}
use Rattle.dbf_file.specs.declared.field.Field.{Field}
use Rattle.prg_expr.specs.declared.tree.BinaryOperator.TheVariants.{Plus}
use Rattle.prg_expr.specs.declared.token.Token.{Token}
use Rattle.prg_expr.specs.Word.{Word, Name, Sign, Open, Close, words}
use Rattle.shape.specs.declared.parts.KeyPart.{KeyPart}
use Rattle.shape.specs.Keys.{name_of}
use Rattle.shape_files.specs.Keys.{LacksPart, NamesField, OpensNothing, key_words, more_words, part_words}

more_one : (fields : List Field) (ps : List KeyPart) (p : KeyPart)
    → more_words fields (ps ++ p ∷ []) ≡ more_words fields ps ++ (Sign Plus ∷ part_words fields p)
more_one fields [] p = append-nil (Sign Plus ∷ part_words fields p)
more_one fields (q ∷ ps) p =
    ap (λ ws. (Sign Plus ∷ part_words fields q) ++ ws) (more_one fields ps p)
    ∙ sym (append_assoc (Sign Plus ∷ part_words fields q) (more_words fields ps) (Sign Plus ∷ part_words fields p))

key_one : (fields : List Field) (first : KeyPart) (ps : List KeyPart) (p : KeyPart)
    → key_words fields (first ∷ (ps ++ p ∷ [])) ≡ key_words fields (first ∷ ps) ++ (Sign Plus ∷ part_words fields p)
key_one fields first ps p =
    ap (λ ws. part_words fields first ++ ws) (more_one fields ps p)
    ∙ sym (append_assoc (part_words fields first) (more_words fields ps) (Sign Plus ∷ part_words fields p))

pub grown : (fields : List Field) (ps new : List KeyPart) (p : KeyPart) (all rest others behind : List Word)
    → 1 ≤ length ps → all ≡ key_words fields ps ++ rest → rest ≡ Sign Plus ∷ others
    → others ≡ part_words fields p ++ behind → new ≡ ps ++ p ∷ [] → all ≡ key_words fields new ++ behind
grown fields [] new p all rest others behind some e r o n = absurd (omega (arith, some))
grown fields (first ∷ ps) new p all rest others behind some e r o n =
    e
    ∙ ap (λ ws. key_words fields (first ∷ ps) ++ ws) (r ∙ ap (λ ws. Sign Plus ∷ ws) o)
    ∙ sym (append_assoc (key_words fields (first ∷ ps)) (Sign Plus ∷ part_words fields p) behind)
    ∙ ap (λ ws. ws ++ behind) (sym (key_one fields first ps p))
    ∙ ap (λ l. key_words fields l ++ behind) (sym n)

-- ---- what is left of a key

cut_by : (u v : Bool) (n m : List ℕ) (r s : List Word) → (u ≡ false → OpensNothing r) → OpensNothing s
    → (if u then Name (codes "UPPER") ∷ Open ∷ Name n ∷ Close ∷ [] else Name n ∷ []) ++ r
    ≡ (if v then Name (codes "UPPER") ∷ Open ∷ Name m ∷ Close ∷ [] else Name m ∷ []) ++ s → r ≡ s
cut_by true true n m r s plain well e = ap (λ (l : List Word). drop 4 l) e
cut_by true false n m r s plain well e =
    absurd (well (Name n ∷ Close ∷ r) (sym (ap (λ (l : List Word). drop 1 l) e)))
cut_by false true n m r s plain well e =
    absurd (plain refl (Name m ∷ Close ∷ s) (ap (λ (l : List Word). drop 1 l) e))
cut_by false false n m r s plain well e = ap (λ (l : List Word). drop 1 l) e

-- behind one part and another the same words are left
cut : (fields : List Field) (p q : KeyPart) (r s : List Word) → (p.upper ≡ false → OpensNothing r) → OpensNothing s
    → part_words fields p ++ r ≡ part_words fields q ++ s → r ≡ s
cut fields p q r s plain well e =
    cut_by p.upper q.upper (name_of (slice_get fields p.field)) (name_of (slice_get fields q.field)) r s plain well e

more_opens : (fields : List Field) (ps : List KeyPart) → OpensNothing (more_words fields ps)
more_opens fields [] rest e = absurd (cc)
more_opens fields (p ∷ ps) rest e = absurd (cc)

-- of a key so many parts are taken, and these words are left, which spell the others
pub record PartsLeft (fields : List Field) (all : List KeyPart) (taken : ℕ) (rest : List Word) : Type 0 where
  pub parts : List KeyPart
  pub names : AllByRecursion (NamesField fields) parts
  pub words : rest ≡ more_words fields parts
  pub count : length all ≡ taken + length parts

pub first_taken : (fields : List Field) (p : KeyPart) (all : List KeyPart) (words rest : List Word)
    → words ≡ part_words fields p ++ rest → (p.upper ≡ false → OpensNothing rest) → 1 ≤ length all
    → AllByRecursion (NamesField fields) all → words ≡ key_words fields all → PartsLeft fields all 1 rest
first_taken fields p [] words rest e plain some names key = absurd (omega (arith, some))
first_taken fields p (q ∷ qs) words rest e plain some names key = record {
  parts = qs;
  names = names.1;
  words = cut fields p q rest (more_words fields qs) plain (more_opens fields qs) (sym e ∙ key);
  count = omega arith;
}

pub none_first : (fields : List Field) (all : List KeyPart) (words : List Word) → LacksPart fields words
    → 1 ≤ length all → AllByRecursion (NamesField fields) all → words ≡ key_words fields all → ⊥
none_first fields [] words lacks some names key = absurd (omega (arith, some))
none_first fields (q ∷ qs) words lacks some names key =
    lacks q (more_words fields qs) names.0 (more_opens fields qs) key

next_by : (fields : List Field) (p : KeyPart) (all ps : List KeyPart) (taken : ℕ) (rest others behind : List Word)
    → AllByRecursion (NamesField fields) ps → rest ≡ more_words fields ps → length all ≡ taken + length ps
    → rest ≡ Sign Plus ∷ others → others ≡ part_words fields p ++ behind → (p.upper ≡ false → OpensNothing behind)
    → PartsLeft fields all (taken + 1) behind
next_by fields p all [] taken rest others behind names words count plus e plain = absurd (cc)
next_by fields p all (q ∷ qs) taken rest others behind names words count plus e plain = record {
  parts = qs;
  names = names.1;
  words = cut fields p q behind (more_words fields qs) plain (more_opens fields qs)
      (sym e ∙ ap (λ (l : List Word). drop 1 l) (sym plus ∙ words));
  count = omega (arith, count);
}

pub next_taken : (fields : List Field) (p : KeyPart) (all : List KeyPart) (taken : ℕ) (rest others behind : List Word)
    → PartsLeft fields all taken rest → rest ≡ Sign Plus ∷ others → others ≡ part_words fields p ++ behind
    → (p.upper ≡ false → OpensNothing behind) → PartsLeft fields all (taken + 1) behind
next_taken fields p all taken rest others behind l plus e plain =
    next_by fields p all l.parts taken rest others behind l.names l.words l.count plus e plain

none_by : (fields : List Field) (ps : List KeyPart) (rest others : List Word) → AllByRecursion (NamesField fields) ps
    → rest ≡ more_words fields ps → rest ≡ Sign Plus ∷ others → LacksPart fields others → ⊥
none_by fields [] rest others names words plus lacks = absurd (cc)
none_by fields (q ∷ qs) rest others names words plus lacks =
    lacks q (more_words fields qs) names.0 (more_opens fields qs)
    (ap (λ (l : List Word). drop 1 l) (sym plus ∙ words))

pub none_next : (fields : List Field) (all : List KeyPart) (taken : ℕ) (rest others : List Word)
    → PartsLeft fields all taken rest → rest ≡ Sign Plus ∷ others → LacksPart fields others → ⊥
none_next fields all taken rest others l plus lacks =
    none_by fields l.parts rest others l.names l.words plus lacks

many_by : (fields : List Field) (ps : List KeyPart) (rest others : List Word) → rest ≡ more_words fields ps
    → rest ≡ Sign Plus ∷ others → 1 ≤ length ps
many_by fields [] rest others words plus = absurd (cc)
many_by fields (q ∷ qs) rest others words plus = omega arith

pub too_many : (fields : List Field) (all : List KeyPart) (taken : ℕ) (rest others : List Word)
    → PartsLeft fields all taken rest → rest ≡ Sign Plus ∷ others → 8 ≤ taken → length all ≤ 8 → ⊥
too_many fields all taken rest others l plus full few =
    absurd (omega (arith, l.count, full, few, many_by fields l.parts rest others l.words plus))

rest_by : (fields : List Field) (ps : List KeyPart) (rest : List Word) → rest ≡ more_words fields ps
    → ((others : List Word) → rest ≡ Sign Plus ∷ others → ⊥) → rest ≡ []
rest_by fields [] rest words none = words
rest_by fields (q ∷ qs) rest words none = absurd (none (part_words fields q ++ more_words fields qs) words)

pub none_left : (fields : List Field) (all : List KeyPart) (taken : ℕ) (rest : List Word)
    → PartsLeft fields all taken rest → ((others : List Word) → rest ≡ Sign Plus ∷ others → ⊥) → rest ≡ []
none_left fields all taken rest l none = rest_by fields l.parts rest l.words none

opened_by : (u : Bool) (n a : List ℕ) (rest behind : List Word) → OpensNothing rest
    → Name a ∷ Open ∷ behind ≡ (if u then Name (codes "UPPER") ∷ Open ∷ Name n ∷ Close ∷ [] else Name n ∷ []) ++ rest
    → behind ≡ Name n ∷ Close ∷ rest
opened_by true n a rest behind well e = ap (λ (l : List Word). drop 2 l) e
opened_by false n a rest behind well e = absurd (well behind (sym (ap (λ (l : List Word). drop 1 l) e)))

-- behind a name and an opening parenthesis stands no part
pub opened_part : (fields : List Field) (words behind : List Word) (a : List ℕ)
    → ((p : KeyPart) (r : List Word) → NamesField fields p
    → behind ≡ Name (name_of (slice_get fields p.field)) ∷ Close ∷ r → ⊥)
    → words ≡ Name a ∷ Open ∷ behind → LacksPart fields words
opened_part fields words behind a none opened part rest names well e = none part rest names
    (opened_by part.upper (name_of (slice_get fields part.field)) a rest behind well (sym opened ∙ e))

pub no_words : (tokens : List Token) → words tokens ≡ [] → length tokens ≡ 0
no_words [] e = refl
no_words (t ∷ ts) e = absurd (cc)
