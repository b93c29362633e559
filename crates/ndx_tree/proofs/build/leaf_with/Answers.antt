use Rattle.std.proofs.Common.{◌≡◌, ◌∙◌, ◌+◌, List, [], ◌++◌, length, take, drop, refl, ap, sym, subst, arith}
use Rattle.key_lists.specs.Pairs.{Pair}
use Rattle.key_rows.specs.Flat.{HaveKeys}
use Rattle.ndx_tree.proofs.Building.{leaf_page, part_length}
use Rattle.ndx_tree.proofs.Keyed.{entries_room}
use Rattle.ndx_tree.proofs.build.leaf_with.Goals as goal

pub copy_part-requires-clause-alike : goal.copy_part-requires-clause-alike
copy_part-requires-clause-alike c =
    let k = c.requires.keyed in
    let none : c.in_ok-row.field-0.entries.items ≡ [] = c.in_ok-row.ensures.no_entry in
    let size : length c.in_ok-row.field-0.entries.items ≡ 0 = ap (λ (m : List Pair). length m) none in (
      k.key_length,
      k.keys,
      subst (λ (m : List Pair). HaveKeys k.key_length m) (sym none) tt,
      entries_room c.args.most
          k.key_length (length c.in_ok-row.field-0.entries.items + c.args.count) _ (omega (arith, c.requires.most.0))
          k.fits (omega (arith, c.requires.full, size)) c.in_ok-row.ensures.entry_room,
    )

pub of_parts-requires-clause-parts : goal.of_parts-requires-clause-parts
of_parts-requires-clause-parts c =
    let is : c.copy_part.new.to.items ≡ take c.args.count (drop c.args.at c.args.entries.now.items) =
    c.copy_part.ensures.items ∙ ap (λ (m : List Pair). m ++ take c.args.count
    (drop c.args.at c.args.entries.now.items)) c.in_ok-row.ensures.no_entry in
    leaf_page c.args.most c.args.at c.args.count c.args.entries.now.items _ _ c.requires.rising c.requires.most.0 is
    c.in_ok-row.ensures.no_child

pub of_parts-requires-clause-full : goal.of_parts-requires-clause-full
of_parts-requires-clause-full c =
    let is : c.copy_part.new.to.items ≡ take c.args.count (drop c.args.at c.args.entries.now.items) =
    c.copy_part.ensures.items ∙ ap (λ (m : List Pair). m ++ take c.args.count
    (drop c.args.at c.args.entries.now.items)) c.in_ok-row.ensures.no_entry in
    omega (
      arith,
      ap (λ (m : List Pair). length m) is,
      part_length c.args.at c.args.count c.args.entries.now.items
          c.requires.within,
      c.requires.full,
    )

pub returns : goal.returns
returns c =
    let is : c.copy_part.new.to.items ≡ take c.args.count (drop c.args.at c.args.entries.now.items) =
    c.copy_part.ensures.items ∙ ap (λ (m : List Pair). m ++ take c.args.count
    (drop c.args.at c.args.entries.now.items)) c.in_ok-row.ensures.no_entry in
    c.of_parts.ensures ∙ rw (is, c.in_ok-row.ensures.no_child) refl
