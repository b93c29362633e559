-- Two files hold one index if they list the same pairs with one key.
use Rattle.std.proofs.Common.{◌≡◌, ◌↔◌, ℕ, List, sym, ◌∙◌, subst}
use Rattle.key_lists.specs.KeyForm.{KeyForm}
use Rattle.key_lists.specs.Pairs.{Pair}
use Rattle.ndx_tree.specs.IndexText.{HoldsOneList}
use Rattle.save_rules.specs.Unchanged.{IsShortIndex, HoldOneIndex}

-- the same key and the same pairs
abbrev pub Same : KeyForm → KeyForm → List Pair → List Pair → Type 0
Same one other first second = (one ≡ other) × (first ≡ second)

pub hold_one : HoldsOneList → (read new : List ℕ) (one other : KeyForm) (pairs others : List Pair)
    → IsShortIndex read one pairs → IsShortIndex new other others → HoldOneIndex read new ↔ Same one other pairs others
hold_one law read new one other pairs others before after = (
  λ held.
      let first = law read held.form one held.pairs pairs held.before.file before.file in
      let second = law new held.form other held.pairs others held.after.file after.file in
      (first.0 ∙ sym second.0, first.1 ∙ sym second.1),
  λ (forms, all). record {
    form = one;
    pairs = pairs;
    before = before;
    after = subst (λ (f : KeyForm). IsShortIndex new f pairs) (sym forms)
        (subst (IsShortIndex new other) (sym all) after);
  },
)
