-- Kinds that a test finds the same are the same.
use Rattle.std.proofs.Common.{◌≡◌, true, refl}
use Rattle.xvalue.specs.declared.kind.Kind.{Kind}
use Rattle.xvalue.specs.declared.kind.Kind.TheVariants.{Number, Text, Date, Logical}
use Rattle.xvalue.specs.Kinds.{same_kind}

pub kinds_same : (one other : Kind) → same_kind one other ≡ true → one ≡ other
kinds_same Number Number e = refl
kinds_same Number Text e = absurd cc
kinds_same Number Date e = absurd cc
kinds_same Number Logical e = absurd cc
kinds_same Text Number e = absurd cc
kinds_same Text Text e = refl
kinds_same Text Date e = absurd cc
kinds_same Text Logical e = absurd cc
kinds_same Date Number e = absurd cc
kinds_same Date Text e = absurd cc
kinds_same Date Date e = refl
kinds_same Date Logical e = absurd cc
kinds_same Logical Number e = absurd cc
kinds_same Logical Text e = absurd cc
kinds_same Logical Date e = absurd cc
kinds_same Logical Logical e = refl
