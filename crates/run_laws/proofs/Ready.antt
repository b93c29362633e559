-- An instruction whose tests come out well has all that it needs.
use Rattle.std.proofs.Common.{◌≡◌, ◌<◌, true, None, length, arith}
use Rattle.code_items.specs.declared.code.Code.{Code}
use Rattle.code_items.specs.declared.instr.FlowInstr.TheVariants.{End}
use Rattle.code_items.specs.declared.instr.Instr.{Instr}
use Rattle.code_items.specs.declared.instr.Instr.TheVariants.{Values, Flow, Screen, Areas, Moves, Records}
use Rattle.code_items.specs.Facts.{Facts}
use Rattle.code_items.specs.Instrs.{is_instr}
use Rattle.code_items.specs.Legal.{IsCode}
use Rattle.code_rules.specs.Places.{instr_at}
use Rattle.run_steps.specs.World.{World, state_of}
use Rattle.run_steps.specs.Faults.{fault_of, IsClear}
use Rattle.run_steps.specs.Needs.{Needs, CallFits, IsReadyFor}
use Rattle.run_steps.specs.Safe.{IsSafeHere}
use Rattle.run_steps.specs.Shapes.{StoreFits, HasShape}
use Rattle.run_steps.proofs.Results.{ResultLaw}
use Rattle.run_laws.proofs.Known.{Known, known_of}
use Rattle.run_laws.proofs.Tests.{Same, all_within}
use Rattle.run_laws.proofs.OnValues.{value_ready, flow_ready, flow_fits, screen_ready}
use Rattle.run_laws.proofs.OnAreas.{area_ready}
use Rattle.run_laws.proofs.OnMoves.{move_ready}
use Rattle.run_laws.proofs.OnRecords.{record_ready}

needs_met : Same → ResultLaw → (code : Code) (w : World) → Facts code → Known code.declared (state_of w)
    → StoreFits code.declared w.env.store → (i : Instr) → is_instr code.declared.version i ≡ true → IsClear code w i
    → Needs code i w.values w.env
needs_met same law code w f k fits (Values i) legal c = value_ready same code w f k i c
needs_met same law code w f k fits (Flow i) legal c = flow_ready same code w i c
needs_met same law code w f k fits (Screen i) legal c = screen_ready same code w f k i c
needs_met same law code w f k fits (Areas i) legal c = area_ready code w f k fits i legal c
needs_met same law code w f k fits (Moves i) legal c = move_ready same law code w f k fits i c
needs_met same law code w f k fits (Records i) legal c = record_ready same law code w f k fits i legal c

calls_fit : (code : Code) (w : World) (i : Instr) → IsClear code w i → CallFits i w.returns
calls_fit code w (Values i) c = tt
calls_fit code w (Flow i) c = flow_fits code w i c
calls_fit code w (Screen i) c = tt
calls_fit code w (Areas i) c = tt
calls_fit code w (Moves i) c = tt
calls_fit code w (Records i) c = tt

pub ready : Same → ResultLaw → (code : Code) (w : World) (i : Instr) → Facts code → HasShape code w
    → is_instr code.declared.version i ≡ true → IsClear code w i → IsReadyFor code w i
ready same law code w i f h legal c = record {
  needs = needs_met same law code w f (known_of code.declared (state_of w) h.state) h.store i legal c;
  calls = calls_fit code w i c;
  place = omega (arith, h.place, f.places, f.instructions);
}

abbrev pub AreReady : Type 0
AreReady =
    (code : Code) (w : World) (i : Instr) → IsCode code → HasShape code w → is_instr code.declared.version i ≡ true
    → IsClear code w i → IsReadyFor code w i

pub goes_on : AreReady → (code : Code) (w : World) → IsCode code → Facts code → HasShape code w
    → fault_of code w (instr_at code w.place) ≡ None → IsClear code w (instr_at code w.place) → IsSafeHere code w
goes_on are_ready code w legal f h sound clear =
    let place : w.place < length code.instructions = omega (arith, h.place, f.places) in
    record {
      place = place;
      sound = sound;
      ready =
          λ _. are_ready code w (instr_at code w.place) legal h
          (all_within (is_instr code.declared.version) code.instructions w.place (Flow End) f.legal place) clear;
    }
