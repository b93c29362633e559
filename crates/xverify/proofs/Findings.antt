-- What the verifier finds at one place.
use Rattle.std.proofs.Common.{◌≡◌, ℕ, zero, suc, ◌+◌, List, [], ◌∷◌, Option, Some, refl, ap, ◌∙◌, add-one}
use Rattle.std.specs.Prelude.{slice_get, slice_index_or}
use Rattle.code_items.specs.declared.instr.FlowInstr.TheVariants.{End}
use Rattle.code_items.specs.declared.instr.Instr.TheVariants.{Flow}
use Rattle.code_items.specs.declared.code.Code.{Code}
use Rattle.code_items.specs.declared.instr.Instr.{Instr}
use Rattle.code_items.specs.declared.state.State.{State}
use Rattle.code_rules.specs.declared.rule.Rule.{Rule}
use Rattle.code_rules.specs.Flow.{flow}
use Rattle.code_rules.specs.Places.{instr_at, block_at, or_state, map_at, start_of, state_entered, incoming_at}
use Rattle.code_rules.specs.Places.{state_at}
use Rattle.code_rules.specs.Rules.{Here, refusal_of, refusal_at}

-- what is found at a place, as the rules see it
abbrev pub seen : Code → ℕ → State → Instr → State → Here
seen code place before instr after = record {
  place = place;
  block = block_at code place;
  instr = instr;
  before = before;
  after = after;
}

pub rule_found : (code : Code) (place : ℕ) (instr : Instr) (incoming before after : State) (rule : Option Rule)
    → incoming ≡ incoming_at code place → before ≡ or_state (map_at code place) incoming → instr ≡ instr_at code place
    → after ≡ flow code instr before → rule ≡ refusal_of code (seen code place before instr after)
    → rule ≡ refusal_at code place
unfolding refusal_at state_at
rule_found code place instr incoming before after rule a b c d e = rw (e, d, c, b, a) refl

pub next_found : (code : Code) (place : ℕ) (instr : Instr) (incoming before after next : State)
    → incoming ≡ incoming_at code place → before ≡ or_state (map_at code place) incoming → instr ≡ instr_at code place
    → after ≡ flow code instr before → next ≡ state_entered code (block_at code (place + 1)) (place + 1) after
    → next ≡ incoming_at code (place + 1)
unfolding incoming_at
next_found code place instr incoming before after next a b c d e =
    let left : after ≡ flow code (instr_at code place) (or_state (map_at code place) (incoming_at code place)) =
    rw (d, c, b, a) refl in
    let at : next ≡ state_entered code (block_at code (suc place)) (suc place) after = rw add-one at e in
    rw add-one (at ∙ ap (state_entered code (block_at code (suc place)) (suc place)) left)

pub first_found : (code : Code) → incoming_at code 0 ≡ start_of code (block_at code 0).number
unfolding incoming_at
first_found code = refl

index_got : (is : List Instr) (place : ℕ) (i : Instr) → slice_get is place ≡ Some i
    → i ≡ slice_index_or is place (Flow End)
index_got [] place i e = absurd (cc)
index_got (x ∷ is) zero i e = cc
index_got (x ∷ is) (suc place) i e = index_got is place i e

pub got : (code : Code) (place : ℕ) (i : Instr) → slice_get code.instructions place ≡ Some i → i ≡ instr_at code place
got code place i e = index_got code.instructions place i e
