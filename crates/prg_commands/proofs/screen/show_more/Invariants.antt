use Rattle.std.proofs.Common.{◌≡◌, ℕ, map, length}
use Rattle.prg_expr.specs.Tree.{tree_of}
use Rattle.prg_commands.specs.Acts as acts
use Rattle.prg_commands.proofs.screen.show_more.Given as goal

-- what is left leads to the whole
abbrev pub invariant-loop-e : goal.invariant-loop-e
invariant-loop-e g l = record {
  same : g.S.Sink.laying l.sink ≡ g.S.Sink.laying l.fn.sink;
  leads : g.S.Sink.judges → (b : ℕ)
      → acts.ShownMore (g.S.Sink.laying l.fn.sink) (g.S.Sink.place l.sink) (map tree_of l.rest) b
      → acts.ShownMore (g.S.Sink.laying l.fn.sink) (g.S.Sink.place l.fn.sink) (map tree_of l.values) b;
}

abbrev pub decreases-loop-e : goal.decreases-loop-e
decreases-loop-e g l = length l.rest
