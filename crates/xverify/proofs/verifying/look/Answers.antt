use Rattle.std.proofs.Common.{◌≡◌, ap, ◌∙◌, arith, rules, sym}
use Rattle.code_rules.specs.Flow.{flow}
use Rattle.code_rules.specs.Places.{block_at, start_of}
use Rattle.code_rules.specs.Rules.{refusal_of}
use Rattle.code_rules.proofs.Incoming.{at_first}
use Rattle.xverify.proofs.Findings.{rule_found, next_found, got}
use Rattle.xverify.proofs.verifying.look.Goals as goal

pub refusal-rule-requires : goal.refusal-rule-requires
refusal-rule-requires c = record {
  legal = c.requires.legal;
  start = λ e.
      let first : (block_at c.args.code.now c.args.place).first ≡ c.args.place = (rw (← c.block_at.ensures) e) in
      c.requires.incoming ∙ (at_first c.args.code.now c.args.place first
      ∙ ap (λ b. start_of c.args.code.now b.number) (sym c.block_at.ensures));
  small = omega (arith, c.requires.within, (c.legal_codes.ensures c.args.code.now c.requires.legal).instructions);
}

pub returns-clause-rule : goal.returns-clause-rule
returns-clause-rule c =
    let code = c.args.code.now in
    let after = c.in_ok-flow.ensures ∙ ap (flow code c.get-instr.result.now) c.in_ok-after.ensures in
    rule_found code c.args.place c.get-instr.result.now c.args.incoming c.before-state.result.now c.flow.new.state _
    c.requires.incoming c.before-state.ensures (got code c.args.place _ c.get-instr.ensures) after
    (c.refusal-rule.ensures ∙ ap (λ b. refusal_of code
    (record {
      place = c.args.place;
      block = b;
      instr = c.get-instr.result.now;
      before = c.before-state.result.now;
      after = c.flow.new.state;
    })) c.block_at.ensures)

pub returns-clause-after : goal.returns-clause-after
returns-clause-after c =
    let code = c.args.code.now in
    let after = c.in_ok-flow.ensures ∙ ap (flow code c.get-instr.result.now) c.in_ok-after.ensures in
    next_found code c.args.place c.get-instr.result.now c.args.incoming c.before-state.result.now c.flow.new.state _
    c.requires.incoming c.before-state.ensures (got code c.args.place _ c.get-instr.ensures) after (search rules)
