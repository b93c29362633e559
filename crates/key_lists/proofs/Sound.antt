-- What each change of a list keeps.
use Rattle.std.proofs.Common.{◌≡◌, List, ◌||◌}
use Rattle.std.specs.List.{Contains}
use Rattle.key_lists.specs.Order.{Each, IsDistinct, inserted, without, in_order}
use Rattle.key_lists.specs.Pairs.{Pair, is_before}
use Rattle.key_lists.specs.KeyForm.{KeyForm, IsKeyList, IsKeyLength, IsPairOf}
use Rattle.key_lists.proofs.Ordered.{IsAscending-inserted, IsAscending-filter, IsAscending-in_order, Each-inserted}
use Rattle.key_lists.proofs.Ordered.{Each-filter, Each-in_order, Each-absent}
use Rattle.key_lists.proofs.PairOrder.{is_before_strict}

pub IsKeyList-inserted : (form : KeyForm) (x : Pair) (pairs : List Pair) → IsPairOf form.key_length x
    → (Contains pairs x → ⊥) → IsKeyList form pairs → IsKeyList form (inserted is_before x pairs)
IsKeyList-inserted form x pairs fits absent sound = record {
  key_length = sound.key_length;
  ordered = IsAscending-inserted is_before is_before_strict x pairs (Each-absent pairs x absent) sound.ordered;
  keys = Each-inserted is_before (IsPairOf form.key_length) x pairs fits sound.keys;
}

pub IsKeyList-without : (form : KeyForm) (x : Pair) (pairs : List Pair) → IsKeyList form pairs
    → IsKeyList form (without is_before x pairs)
IsKeyList-without form x pairs sound = record {
  key_length = sound.key_length;
  ordered = IsAscending-filter is_before (λ y. is_before x y || is_before y x) pairs sound.ordered;
  keys = Each-filter (IsPairOf form.key_length) (λ y. is_before x y || is_before y x) pairs sound.keys;
}

pub IsKeyList-in_order : (form : KeyForm) (pairs : List Pair) → IsKeyLength form.key_length
    → Each (IsPairOf form.key_length) pairs → IsDistinct pairs → IsKeyList form (in_order is_before pairs)
IsKeyList-in_order form pairs key_length keys distinct = record {
  key_length = key_length;
  ordered = IsAscending-in_order is_before is_before_strict pairs distinct;
  keys = Each-in_order is_before (IsPairOf form.key_length) pairs keys;
}

-- pairs that were put in order, whatever the text of their keys
pub IsKeyList-rebuilt : (form : KeyForm) (pairs sorted : List Pair) → IsKeyLength form.key_length
    → Each (IsPairOf form.key_length) pairs → IsDistinct pairs → sorted ≡ in_order is_before pairs
    → IsKeyList form sorted
IsKeyList-rebuilt form pairs sorted fits keys distinct order =
    rw order (IsKeyList-in_order form pairs fits keys distinct)
