use Rattle.std.proofs.Common.{◌≡◌, ℕ, ◌<◌, None}
use Rattle.code_rules.specs.Places.{incoming_at}
use Rattle.code_rules.specs.Rules.{refusal_at}
use Rattle.xverify.proofs.verifying.test_rules.Given as goal

abbrev pub invariant-loop-place : goal.invariant-loop-place
invariant-loop-place l = record {
  incoming : l.incoming ≡ incoming_at l.code l.place;
  before : (p : ℕ) → p < l.place → refusal_at l.code p ≡ None;
}
