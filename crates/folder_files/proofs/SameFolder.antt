-- A name that is put in the place of another one stands in the same folder.
use Rattle.std.proofs.Common.{◌≡◌, ◌<◌, ◌-◌, ◌==◌, ◌++◌, not, arith, ap, sym, ◌∙◌, length, length-append}
use Rattle.std.proofs.Common.{get_or, reverse, refl, ℕ, List, Bool, true, false}
use Rattle.std.proofs.lemmas.Bool.{and_parts, both_ways, false_from_ne_true, not-true, not_from_false, or_parts}
use Rattle.std.proofs.lemmas.List.{get_or-append_right, get_or-reverse, get_or-take, get_or_append_left, length-reverse}
use Rattle.std.proofs.lemmas.List.{length-take-le, take_at}
use Rattle.std.proofs.lemmas.List.Folds.{list_any_at}
use Rattle.std.proofs.lemmas.List.Sums.{prefix_len_stops, suffix_len-le-length, suffix_len_is}
use Rattle.std.specs.List.{list_any, suffix_len}
use Rattle.folder_files.specs.Paths.{folder_of_path}
use Rattle.save_rules.specs.Rules.{is_in_folder, leads_away}

abbrev is_other : ℕ → Bool
is_other byte = not (byte == 47)

-- ---- a name in a folder has no slash

none_at : (p : ℕ → Bool) (xs : List ℕ) (i : ℕ) → i < length xs → list_any p xs ≡ false → p (get_or xs i 0) ≡ false
none_at p xs i below none =
    false_from_ne_true (p (get_or xs i 0)) (λ is. both_ways (list_any p xs) none (list_any_at p xs i 0 below is))

leads_nowhere : (link : List ℕ) → is_in_folder link ≡ true → list_any leads_away link ≡ false
unfolding is_in_folder
leads_nowhere link h = not-true (list_any leads_away link) (and_parts _ (not (list_any leads_away link)) h).1

pub has_no_slash : (link : List ℕ) → is_in_folder link ≡ true → (k : ℕ) → k < length link
    → is_other (get_or link k 0) ≡ true
has_no_slash link h k below =
    not_from_false (get_or link k 0 == 47)
    (or_parts (get_or link k 0 == 47) (get_or link k 0 == 0) (none_at leads_away link k below (leads_nowhere link h))).0

-- ---- what is behind the folder's path doesn't change it

ends_with_slash : (path : List ℕ) → 0 < length path - suffix_len is_other path
    → is_other (get_or path (length path - suffix_len is_other path - 1) 0) ≡ false
ends_with_slash path some =
    let within : suffix_len is_other path < length (reverse path) = omega (arith, length-reverse path) in
    let stops = prefix_len_stops is_other (reverse path) 0 within in
    let place : length path - 1 - suffix_len is_other path ≡ length path - suffix_len is_other path - 1 = omega arith in
    let there = get_or-reverse path (suffix_len is_other path) 0 (omega arith) in
    ap is_other (sym (there ∙ ap (λ k. get_or path k 0) place)) ∙ stops

pub folder_stays : (path link : List ℕ) → ((k : ℕ) → k < length link → is_other (get_or link k 0) ≡ true)
    → folder_of_path (folder_of_path path ++ link) ≡ folder_of_path path
folder_stays path link passes =
    let f : List ℕ = folder_of_path path in
    let n : ℕ = length path - suffix_len is_other path in
    let short = suffix_len-le-length is_other path in
    let long : length f ≡ n = length-take-le n path (omega arith) in
    let whole = length-append f link in
    let behind : suffix_len is_other (f ++ link) ≡ length (f ++ link) - length f =
    suffix_len_is is_other (f ++ link) (length f) 0 (omega arith)
    (λ k from below. ap is_other (get_or-append_right f link (length f) k 0 refl from)
    ∙ passes (k - length f) (omega arith))
    (λ some.
    let front = get_or_append_left f link 0 (length f - 1) (omega arith) in
    let there = get_or-take n path (length f - 1) 0 (omega arith) in
    let place : length f - 1 ≡ n - 1 = omega arith in
    ap is_other (front ∙ there ∙ ap (λ k. get_or path k 0) place) ∙ ends_with_slash path (omega arith)) in
    take_at f link (length (f ++ link) - suffix_len is_other (f ++ link)) (omega arith)
