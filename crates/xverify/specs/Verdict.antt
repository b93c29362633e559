-- What a refusal says.
use Rattle.code_items.specs.declared.code.Code.{Code}
use Rattle.code_rules.specs.Rules.{FirstRefusal}
use Rattle.xverify.specs.declared.verified.VerifyError.{VerifyError}
use Rattle.xverify.specs.declared.verified.VerifyError.TheVariants.{Refused, NoMemory}

abbrev pub Refuses : Code → VerifyError → Type 0
Refuses code (Refused refused) = FirstRefusal code refused.rule refused.at
Refuses code NoMemory = Unit {0}
