-- Page 0 at the front of a file.
use Rattle.std.proofs.Common.{◌≡◌, ◌∙◌, ℕ, ◌+◌, ◌≤◌, ◌<◌, List, ◌++◌, length, take, drop, ap, arith, refl}
use Rattle.std.proofs.Common.{length-append}
use Rattle.std.specs.Prelude.{slice_index}
use Rattle.std.proofs.lemmas.List.{get_or_append_left, drop-append-le, take-append-le, length-drop}
use Rattle.ndx_page.specs.Numbers.{number_at}
use Rattle.ndx_page.specs.declared.head.Head.{Head}
use Rattle.ndx_page.specs.HeadLayout.{IsHead}

index_front : (place i : ℕ) (a b : List ℕ) → place + i < length a
    → slice_index (drop place (a ++ b)) i ≡ slice_index (drop place a) i
index_front place i a b l =
    let rest = length-drop place a in
    ap (λ (m : List ℕ). slice_index m i) (drop-append-le place a b (omega arith))
    ∙ get_or_append_left (drop place a) b 0 i (omega (arith, rest))

two_front : (place : ℕ) (a b : List ℕ) → place + 2 ≤ length a → number_at 2 place (a ++ b) ≡ number_at 2 place a
unfolding number_at
two_front place a b l =
    let e0 = index_front place 0 a b (omega arith) in
    let e1 = index_front place 1 a b (omega arith) in
    rw (e0, e1) refl

pub four_front : (place : ℕ) (a b : List ℕ) → place + 4 ≤ length a → number_at 4 place (a ++ b) ≡ number_at 4 place a
unfolding number_at
four_front place a b l =
    let e0 = index_front place 0 a b (omega arith) in
    let e1 = index_front place 1 a b (omega arith) in
    let e2 = index_front place 2 a b (omega arith) in
    let e3 = index_front place 3 a b (omega arith) in
    rw (e0, e1, e2, e3) refl

-- what follows page 0 changes nothing
pub head_front : (a b : List ℕ) (head : Head) → length a ≡ 512 → IsHead a head → IsHead (a ++ b) head
head_front a b head whole h =
    let rest = length-drop 24 a in
    record {
      whole = omega (arith, whole, length-append a b);
      root = four_front 0 a b (omega (arith, whole)) ∙ h.root;
      pages = four_front 4 a b (omega (arith, whole)) ∙ h.pages;
      key_length = two_front 12 a b (omega (arith, whole)) ∙ h.key_length;
      per_page = two_front 14 a b (omega (arith, whole)) ∙ h.per_page;
      kind = two_front 16 a b (omega (arith, whole)) ∙ h.kind;
      size = two_front 18 a b (omega (arith, whole)) ∙ h.size;
      unique = get_or_append_left a b 0 23 (omega (arith, whole)) ∙ h.unique;
      text = (
        h.text.0,
        ap (take 488) (drop-append-le 24 a b (omega (arith, whole)))
            ∙ take-append-le 488 (drop 24 a) b (omega (arith, rest, whole)) ∙ h.text.1,
      );
    }
