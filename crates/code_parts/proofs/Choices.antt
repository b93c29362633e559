-- What tests and look-ups that didn't fail say.
use Rattle.std.proofs.Common.{◌⊎◌, inl, inr, ◌≡◌, ℕ, Bool, true, false, cond, eqb, List, [], ◌∷◌, Option, Some, None}
use Rattle.std.proofs.Common.{Ok, refl, ap, ◌∙◌}
use Rattle.std.specs.Prelude.{◌||◌}
use Rattle.std.specs.List.{AllByRecursion}
use Rattle.std.proofs.lemmas.Bool.{eqb-true}
use Rattle.dbf_file.proofs.ChoiceLemmas.{chosen}
use Rattle.xvalue.specs.declared.kind.Kind.{Kind}
use Rattle.xvalue.specs.declared.kind.Kind.TheVariants.{Number as OfNumber, Text as OfText, Date as OfDate}
use Rattle.xvalue.specs.declared.kind.Kind.TheVariants.{Logical as OfLogical}
use Rattle.code_parts.specs.declared.flaw.Flaw.{Flaw}
use Rattle.code_parts.specs.Reading.{Reader, Judged}
use Rattle.code_parts.specs.Laws.{ReadsTexts}
use Rattle.code_parts.specs.Texts.{kind_number, truth_number}
use Rattle.code_parts.specs.Items.{wanted, there, kind_of_byte, truth_of_byte}
use Rattle.code_parts.proofs.Combine.{some, some_is}

pub all_any : {A : Type 0} (xs : List A) → AllByRecursion (λ (x : A). Unit {0}) xs
all_any [] = tt
all_any (x ∷ xs) = (tt, all_any xs)

pub either_true : (a b : Bool) → (a || b) ≡ true → (a ≡ true) ⊎ (b ≡ true)
either_true true b e = inl refl
either_true false b e = inr e

pub wanted_ok : {A : Type 0} (flaw : Flaw) (b : Bool) (x y : A) → wanted flaw b x ≡ Ok y → (b ≡ true) × (x ≡ y)
wanted_ok flaw true x y e = (refl, cc)
wanted_ok flaw false x y e = absurd cc

pub there_ok : {A B : Type 0} (flaw : Flaw) (o : Option A) (make : A → Judged B) (y : B) → there flaw o make ≡ Ok y
    → (x : A) × (o ≡ Some x) × (make x ≡ Ok y)
there_ok flaw None make y e = absurd cc
there_ok flaw (Some x) make y e = (x, refl, e)

-- one line of a table of numbers
pub line : {A : Type 0} (number_of : A → ℕ) (byte number : ℕ) (here x : A) (others : Option A) → number ≡ number_of here
    → (others ≡ Some x → byte ≡ number_of x) → cond (eqb byte number) (Some here) others ≡ Some x → byte ≡ number_of x
line number_of byte number here x others is rest e =
    elim (chosen (eqb byte number) (some here) others (some x) e) [
      | inl h ↦ eqb-true byte number h.0 ∙ is ∙ ap number_of (some_is here x h.1)
      | inr h ↦ rest h.1
    ]

pub no_line : {A : Type 0} (x : A) → ◌≡◌ {A = Option A} None (Some x) → ⊥
no_line x e = absurd cc

pub kind_was : (byte : ℕ) (kind : Kind) → kind_of_byte byte ≡ Some kind → byte ≡ kind_number kind
kind_was byte kind =
    line kind_number byte 1 OfNumber kind _ refl (
    line kind_number byte 2 OfText kind _ refl (
    line kind_number byte 3 OfDate kind _ refl (
    line kind_number byte 4 OfLogical kind _ refl (λ e. absurd (no_line kind e)))))

pub kind_is : (kind : Kind) → kind_of_byte (kind_number kind) ≡ Some kind
kind_is OfNumber = refl
kind_is OfText = refl
kind_is OfDate = refl
kind_is OfLogical = refl

pub truth_was : (byte : ℕ) (truth : Bool) → truth_of_byte byte ≡ Some truth → byte ≡ truth_number truth
truth_was byte truth =
    line truth_number byte 0 false truth _ refl (
    line truth_number byte 1 true truth _ refl (λ e. absurd (no_line truth e)))

pub truth_is : (truth : Bool) → truth_of_byte (truth_number truth) ≡ Some truth
truth_is true = refl
truth_is false = refl

-- a reader chosen by a test
pub if_spells : {X : Type 0} {r s : Reader (Judged X)} {t : X → List ℕ} {P G : X → Type 0} (test : Bool)
    → (test ≡ true → ReadsTexts r t P G) → (test ≡ false → ReadsTexts s t P G) → ReadsTexts (cond test r s) t P G
if_spells true holds fails = holds refl
if_spells false holds fails = fails refl
