use Rattle.std.proofs.Common.{sym, ◌∙◌, ap, arith}
use Rattle.code_rules.specs.Places.{start_of}
use Rattle.xverify.proofs.Findings.{first_found}
use Rattle.xverify.proofs.verifying.test_rules.Goals as goal

pub loop-place-init : goal.loop-place-init
loop-place-init c = record {
  incoming = c.in-Ok.ensures ∙ (ap (λ b. start_of c.args.code.now b.number) c.block_at-first.ensures
      ∙ sym (first_found c.args.code.now));
  before = λ p lt. absurd (omega (arith, lt));
}

pub returns-in-Some-clause-no : goal.returns-in-Some-clause-no
returns-in-Some-clause-no c = record {
  within = omega (arith, c.len-place-end.ensures);
  here = sym c.in-Ok-look.ensures.rule ∙ c.in-Some.is;
  before = c.loop-place.invariant.before;
}
