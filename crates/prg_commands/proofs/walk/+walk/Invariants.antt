use Rattle.std.proofs.Common.{◌≡◌, ◌+◌, ◌*◌}
use Rattle.prg_commands.specs.Acts.{names_of}
use Rattle.prg_commands.proofs.Steps.{Leads, LeadsCases}
use Rattle.prg_commands.proofs.walk.+walk.Given as goal

abbrev pub invariant-all-loop-command : goal.invariant-all-loop-command
invariant-all-loop-command g l = record {
  same : g.S.Sink.laying l.sink ≡ g.S.Sink.laying l.fn.sink;
  leads : g.S.Sink.judges → Leads (g.S.Sink.laying l.fn.sink) l.fn.around.leaps (g.S.Sink.place l.fn.sink) l.list
      l.command-index (names_of l.gets.items) l.way (g.S.Sink.place l.sink);
}

abbrev pub invariant-chain-loop-number : goal.invariant-chain-loop-number
invariant-chain-loop-number g l = record {
  same : g.S.Sink.laying l.sink ≡ g.S.Sink.laying l.fn.sink;
  leads : g.S.Sink.judges → LeadsCases (g.S.Sink.laying l.fn.sink) l.around.leaps (g.S.Sink.place l.fn.sink) l.cases
      l.closed l.number l.end l.way (g.S.Sink.place l.sink);
}

abbrev pub invariant-repeat-loop : goal.invariant-repeat-loop
invariant-repeat-loop g l = record {
  same : g.S.Sink.laying l.sink ≡ g.S.Sink.laying l.fn.sink;
  place : g.S.Sink.judges → g.S.Sink.place l.sink ≡ g.S.Sink.place l.fn.sink;
}

abbrev pub invariant-scan-loop : goal.invariant-scan-loop
invariant-scan-loop g l = record {
  same : g.S.Sink.laying l.sink ≡ g.S.Sink.laying l.fn.sink;
  place : g.S.Sink.judges → g.S.Sink.place l.sink ≡ l.top;
}

abbrev pub decreases-all : goal.decreases-all
decreases-all g l = l.around.levels * 8

abbrev pub decreases-part : goal.decreases-part
decreases-part g l = l.around.levels * 8 + 1

abbrev pub decreases-otherwise : goal.decreases-otherwise
decreases-otherwise g l = l.around.levels * 8 + 1

abbrev pub decreases-whole : goal.decreases-whole
decreases-whole g l = l.around.levels * 8 + 1

abbrev pub decreases-round : goal.decreases-round
decreases-round g l = l.around.levels * 8 + 1

abbrev pub decreases-row_round : goal.decreases-row_round
decreases-row_round g l = l.around.levels * 8 + 1

abbrev pub decreases-chain : goal.decreases-chain
decreases-chain g l = l.around.levels * 8 + 2

abbrev pub decreases-call : goal.decreases-call
decreases-call g l = l.around.levels * 8 + 2

abbrev pub decreases-repeat : goal.decreases-repeat
decreases-repeat g l = l.around.levels * 8 + 2

abbrev pub decreases-scan : goal.decreases-scan
decreases-scan g l = l.around.levels * 8 + 2

abbrev pub decreases-choose : goal.decreases-choose
decreases-choose g l = l.around.levels * 8 + 3

abbrev pub decreases-decide : goal.decreases-decide
decreases-decide g l = l.around.levels * 8 + 3

abbrev pub decreases-turned : goal.decreases-turned
decreases-turned g l = l.around.levels * 8 + 3

abbrev pub decreases-block : goal.decreases-block
decreases-block g l = l.around.levels * 8 + 4

abbrev pub decreases-single : goal.decreases-single
decreases-single g l = l.around.levels * 8 + 4

abbrev pub decreases-one : goal.decreases-one
decreases-one g l = l.around.levels * 8 + 5

abbrev pub decreases-next : goal.decreases-next
decreases-next g l = l.around.levels * 8 + 6
