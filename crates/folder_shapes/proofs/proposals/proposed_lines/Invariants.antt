use Rattle.std.proofs.Common.{◌≡◌, ◌++◌, map, drop}
use Rattle.folder_shapes.specs.Programs.{named_in}
use Rattle.folder_shapes.specs.Proposals.{proposals_from}
use Rattle.folder_shapes.specs.States.{taken_state}
use Rattle.folder_shapes.proofs.proposals.proposed_lines.Given as goal

abbrev pub invariant-loop-n : goal.invariant-loop-n
invariant-loop-n l =
    l.lines.items
    ++ proposals_from (taken_state l.fn.declared) l.n (map named_in (drop l.n l.fn.declared.mentions.items))
    ≡ proposals_from (taken_state l.fn.declared) 0 (map named_in l.fn.declared.mentions.items)
