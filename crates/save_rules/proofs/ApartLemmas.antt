-- Names that are all different.
use Rattle.std.proofs.Common.{◌≡◌, ◌≢◌, ◌<◌, ◌≤◌, ◌+◌, ⊎_elim, ℕ, true, false, List, take, Some, sym, ap, ◌∙◌}
use Rattle.std.proofs.Common.{Bor, arith, slice_get, length}
use Rattle.std.proofs.lemmas.Bool.{true≢false, cases_lt}
use Rattle.std.proofs.lemmas.List.{get_or-take, length-take}
use Rattle.std.proofs.lemmas.List.Folds.{Any-from_list_any, list_any_at}
use Rattle.std.proofs.lemmas.Option.{slice_get_within, slice_get-get_or, get_or_from_slice_get, same_Some}
use Rattle.std.proofs.lemmas.Slice.Eq.{bytes_eq-Decides}
use Rattle.std.specs.Str.{bytes_eq}
use Rattle.save_rules.specs.Recorded.{is_named_among, AllDiffer}

-- no two of the first n names are equal
abbrev pub ApartBelow : ℕ → List (Bor (List ℕ)) → Type 0
ApartBelow n names = (j k : ℕ) (a b : Bor (List ℕ)) → j < n → k < n → slice_get names j ≡ Some a
    → slice_get names k ≡ Some b → j ≢ k → a.now ≢ b.now

-- one of the first n names is among them
found : (names : List (Bor (List ℕ))) (n j : ℕ) (a : Bor (List ℕ)) (name : List ℕ) → j < n → slice_get names j ≡ Some a
    → a.now ≡ name → is_named_among name (take n names) ≡ true
found names n j a name below there same =
    let within = slice_get_within names j a there in
    let long = length-take n names in
    list_any_at (λ other. bytes_eq other.now name) (take n names) j a (omega arith)
    (ap (λ (o : Bor (List ℕ)). bytes_eq o.now name) (get_or-take n names j a below
    ∙ get_or_from_slice_get names j a a there) ∙ (bytes_eq-Decides a.now name).1 same)

pub one_more : (names : List (Bor (List ℕ))) (n : ℕ) (name : Bor (List ℕ)) → ApartBelow n names
    → slice_get names n ≡ Some name → is_named_among name.now (take n names) ≡ false → ApartBelow (n + 1) names
one_more names n name apart here other = λ j k a b j_below k_below at_j at_k differ.
    let is_name : (i : ℕ) (c : Bor (List ℕ)) → slice_get names i ≡ Some c → i ≡ n → c.now ≡ name.now =
    λ i c at_i e. ap (λ (m : Bor (List ℕ)). m.now)
    (same_Some c name (sym at_i ∙ ap (slice_get names) e ∙ here)) in
    let old : (i : ℕ) (c : Bor (List ℕ)) → i < n → slice_get names i ≡ Some c → c.now ≢ name.now =
    λ i c below at_i same. true≢false (sym (found names n i c name.now below at_i same) ∙ other) in
    ⊎_elim (λ (low : j < n). ⊎_elim (λ (lower : k < n). apart j k a b low lower at_j at_k differ)
    (λ (high : n ≤ k). λ (e : a.now ≡ b.now). old j a low at_j (e ∙ is_name k b at_k (omega arith))) (cases_lt k n))
    (λ (high : n ≤ j). λ (e : a.now ≡ b.now). let last : j ≡ n = omega arith in
    let low : k < n = omega (arith, differ) in
    old k b low at_k (sym e ∙ is_name j a at_j last)) (cases_lt j n)

pub all_apart : (names : List (Bor (List ℕ))) (n : ℕ) → length names ≤ n → ApartBelow n names → AllDiffer names
all_apart names n all apart = λ j k a b at_j at_k differ.
    let low = slice_get_within names j a at_j in
    let lower = slice_get_within names k b at_k in
    apart j k a b (omega arith) (omega arith) at_j at_k differ

pub not_apart : (names : List (Bor (List ℕ))) (n : ℕ) (name : Bor (List ℕ)) → slice_get names n ≡ Some name
    → is_named_among name.now (take n names) ≡ true → AllDiffer names → ⊥
not_apart names n name here one apart =
    let within = slice_get_within names n name here in
    let long = length-take n names in
    let (j, b, low, is, same) = Any-from_list_any (λ other. bytes_eq other.now name.now) (take n names) one in
    let below : j < n = omega arith in
    let there : slice_get names j ≡ Some b = slice_get-get_or names j b (omega arith)
    ∙ ap Some (sym (get_or-take n names j b below) ∙ is) in
    apart j n b name there here (λ e. absurd (omega arith)) ((bytes_eq-Decides b.now name.now).0 same)
