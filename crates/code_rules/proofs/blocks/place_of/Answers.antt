use Rattle.std.proofs.Common.{rules, arith, nat_lt}
use Rattle.std.proofs.lemmas.List.Sorted.{IsPartitionPoint-from_clause}
use Rattle.code_items.specs.declared.code.Map.{Map}
use Rattle.code_rules.proofs.BlockLists.{found, parted}
use Rattle.code_rules.proofs.blocks.place_of.Goals as goal

pub returns : goal.returns
returns c =
    let point = IsPartitionPoint-from_clause
    (λ (m : Map). nat_lt m.place c.args.place) _ _ c.partition_point.ensures.partitioned
    (parted c.args.maps.now c.requires.0 c.args.place c.requires.1) (λ a r g called. search rules) in
    found c.args.maps.now 0 c.requires.0 c.args.place c.partition_point.result c.requires.1
    (λ k d lt. point.0 k d (omega arith) lt) point.1
