use Rattle.std.proofs.Common.{◌≡◌, ◌+◌, ◌<◌, ◌^◌, map, length}
use Rattle.prg_code.specs.Growth.{drafts_of}
use Rattle.prg_code.specs.Rooms.{in_64_bits, sizes_of, maps_of}
use Rattle.prg_code.proofs.settled.room_of.Given as goal

abbrev pub invariant-loop-piece : goal.invariant-loop-piece
invariant-loop-piece l = record {
  instrs_fit : l.instrs < 2 ^ 64;
  maps_fit : l.maps < 2 ^ 64;
  instrs : in_64_bits (l.instrs + sizes_of l.own (map (λ p. p.draft) l.rest))
      ≡ in_64_bits (sizes_of l.own (drafts_of l.block));
  maps : in_64_bits (l.maps + maps_of l.block.labels.items (map (λ p. p.draft) l.rest))
      ≡ in_64_bits (maps_of l.block.labels.items (drafts_of l.block));
}

abbrev pub decreases-loop-piece : goal.decreases-loop-piece
decreases-loop-piece l = length l.rest
