use Rattle.std.proofs.Common.{◌≡◌, ◌++◌, map, take}
use Rattle.operator_desk.specs.Asked.{place_known, places_known}
use Rattle.operator_desk.proofs.gets.Gets.learn_places.Given as goal

abbrev pub invariant-loop-instr : goal.invariant-loop-instr
invariant-loop-instr l =
    places_known l.self ≡ places_known l.initial.self ++ map place_known (take l.instr-index l.instrs)
