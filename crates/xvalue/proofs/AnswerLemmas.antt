-- What an operator's line leaves of old values.
use Rattle.std.proofs.Common.{◌≡◌, ℕ, ◌-◌, ◌≤◌, List, [], ◌∷◌, ◌++◌, length, take, replicate, refl, ap, ◌∙◌, arith}
use Rattle.std.proofs.Common.{length-append, length-take}
use Rattle.std.proofs.lemmas.List.{take_all, length-replicate}
use Rattle.xvalue.specs.Texts.{fitting}
use Rattle.xvalue.specs.declared.value.Value.{Value}
use Rattle.xvalue.specs.declared.value.Value.TheVariants.{Number, Text, Date, Logical}
use Rattle.xvalue.specs.Kinds.{kind_of}
use Rattle.xvalue.specs.Answers.{at_length, text_answered, answered}

-- a short text with its padding isn't cut
pub at_length-fits : (size missing : ℕ) (cs padding : List ℕ) → size ≤ 254 → missing ≡ size - length cs
    → padding ≡ fitting (replicate missing 32) → fitting (take size cs ++ padding) ≡ at_length size cs
at_length-fits size missing cs padding short rest e =
    let whole : padding ≡ replicate missing 32 =
    e ∙ take_all 254 (replicate missing 32) (omega (arith, length-replicate {A = ℕ} missing 32)) in
    ap (λ p. fitting (take size cs ++ p)) whole
    ∙ take_all 254 (take size cs ++ replicate missing 32)
    (omega (
      arith,
      length-append (take size cs) (replicate missing 32),
      length-take size cs,
      length-replicate
          {A = ℕ} missing 32,
    ))
    ∙ ap (λ n. take size cs ++ replicate n 32) rest

pub same_kind_answered : (old : Value) (line : List ℕ) → kind_of (answered old line) ≡ kind_of old
same_kind_answered (Number old) line = refl
same_kind_answered (Text old) line = refl
same_kind_answered (Date old) line = refl
same_kind_answered (Logical old) line = refl

pub empty_answered : (old : Value) → answered old [] ≡ old
empty_answered (Number old) = refl
empty_answered (Text old) = refl
empty_answered (Date old) = refl
empty_answered (Logical old) = refl

pub length-at_length : (size : ℕ) (cs : List ℕ) → length (at_length size cs) ≡ size
length-at_length size cs =
    omega (
      arith,
      length-append (take size cs) (replicate (size - length cs) 32),
      length-take size cs,
      length-replicate
          {A = ℕ} (size - length cs) 32,
    )

pub length-answered : (old line : List ℕ) → length (text_answered old line) ≡ length old
length-answered old [] = refl
length-answered old (c ∷ cs) = length-at_length (length old) (c ∷ cs)
