use Rattle.std.proofs.Common.{◌≡◌, ◌≤◌, ◌∙◌, not, ◌||◌, List, length, refl, ap, subst, arith}
use Rattle.std.proofs.lemmas.List.Filters.{length-filter_both}
use Rattle.std.specs.List.{Contains}
use Rattle.key_lists.specs.Order.{without}
use Rattle.key_lists.specs.Pairs.{Pair, is_before}
use Rattle.tables_tests.proofs.files.lists.put.Goals as goal

-- no pair comes in where one is taken out
no_longer : (x : Pair) (old new : List Pair) → new ≡ without is_before x old → length new ≤ length old
no_longer x old new e =
    let parts = length-filter_both (λ y. is_before x y || is_before y x) (λ y. not (is_before x y || is_before y x))
    (λ y. refl) old in
    omega (arith, parts, ap (λ (m : List Pair). length m) e)

pub reserve-requires : goal.reserve-requires
reserve-requires g c =
    let x : Pair = (c.args.key.now, c.args.number) in
    let fewer = no_longer x _ _ c.remove.ensures.pairs in
    omega (arith, fewer, c.len.ensures.count)

pub insert-requires-clause-absent : goal.insert-requires-clause-absent
insert-requires-clause-absent g c there =
    let x : Pair = (c.args.key.now, c.args.number) in
    (((c.changes_one.ensures x _ c.len.ensures.sound.ordered).members_without x).0
    (subst (λ l. Contains l x) (c.reserve.ensures.pairs ∙ c.remove.ensures.pairs) there)).1 refl
