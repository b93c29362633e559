-- The numbers of the files that are replaced.
use Rattle.std.proofs.Common.{◌≡◌, ◌↔◌, ◌<◌, ◌≤◌, ◌+◌, ◌⊎◌, inr, ⊎_elim, ℕ, Bool, true, List, [], ◌∷◌, ◌++◌}
use Rattle.std.proofs.Common.{Option, Some, MatchOption, Contains, Bor, length, slice_get, nat_lt, refl, sym, ap, ◌∙◌}
use Rattle.std.proofs.Common.{subst, arith}
use Rattle.std.proofs.lemmas.Bool.{cases_lt, lt-ltb, ltb-true}
use Rattle.std.proofs.lemmas.List.Elements.{Contains-append_left, Contains-append_right, Contains-append_cases}
use Rattle.std.proofs.lemmas.Option.{same_Some, slice_get_within}
use Rattle.key_lists.specs.Order.{Each, IsAscending}
use Rattle.key_lists.proofs.Members.{Contains-here, Contains-cases, Contains-none}
use Rattle.key_lists.proofs.Ordered.{Each-append, Each-map, IsAscending-append}
use Rattle.ndx_tree.specs.IndexText.{HoldsOneList}
use Rattle.save_rules.specs.declared.unchanged.HandedIn.{HandedIn}
use Rattle.save_rules.specs.Unchanged.{TextOfTable, IsShortIndex, HoldTheSame, Stays}
use Rattle.save_rules.specs.Unchanged.{AreReplaced, AreChanged}
use Rattle.save_rules.proofs.IndexLemmas as index
use Rattle.save_rules.proofs.NameLemmas.{by_table, by_index}
use Rattle.save_rules.proofs.TableLemmas as table

-- ---- file by file

abbrev IsReplaced : Bool → List HandedIn → ℕ → Type 0
IsReplaced keeps files m = (file : HandedIn) × (slice_get files m ≡ Some file) × (¬ Stays keeps file)

-- these are the numbers among the first n files
pub record AreSoFar (keeps : Bool) (files : List HandedIn) (n : ℕ) (numbers : List ℕ) : Type 0 where
  pub rising : IsAscending nat_lt numbers
  pub below : Each (λ m. nat_lt m n ≡ true) numbers
  pub exact : (m : ℕ) → Contains numbers m ↔ ((m < n) × IsReplaced keeps files m)

pub none_yet : (keeps : Bool) (files : List HandedIn) → AreSoFar keeps files 0 []
none_yet keeps files = record {
  rising = tt;
  below = tt;
  exact = λ m. (λ c. absurd (Contains-none m c), λ (less, r). absurd (omega arith));
}

later : (n m : ℕ) → nat_lt m n ≡ true → nat_lt m (n + 1) ≡ true
later n m less = let fact = ltb-true m n less in lt-ltb m (n + 1) (omega arith)

pub one_stays : (keeps : Bool) (files : List HandedIn) (n : ℕ) (numbers : List ℕ) (file : HandedIn)
    → slice_get files n ≡ Some file → Stays keeps file → AreSoFar keeps files n numbers
    → AreSoFar keeps files (n + 1) numbers
one_stays keeps files n numbers file here stays old = record {
  rising = old.rising;
  below = Each-map (λ m. nat_lt m n ≡ true) (λ m. nat_lt m (n + 1) ≡ true) (later n) numbers old.below;
  exact = λ m. (
    λ c. let (less, r) = (old.exact m).0 c in (omega arith, r),
    λ (less, r). ⊎_elim (λ (below : m < n). (old.exact m).1 (below, r))
        (λ (above : n ≤ m).
        let last : m ≡ n = omega arith in
        let same : r.0 ≡ file = same_Some r.0 file (sym r.1 ∙ ap (slice_get files) last ∙ here) in
        absurd (r.2 (subst (Stays keeps) (sym same) stays))) (cases_lt m n),
  );
}

pub one_more : (keeps : Bool) (files : List HandedIn) (n : ℕ) (numbers : List ℕ) (file : HandedIn)
    → slice_get files n ≡ Some file → (¬ Stays keeps file) → AreSoFar keeps files n numbers
    → AreSoFar keeps files (n + 1) (numbers ++ n ∷ [])
one_more keeps files n numbers file here changed old = record {
  rising = IsAscending-append nat_lt numbers (n ∷ []) old.rising (tt, tt)
      (Each-map (λ m. nat_lt m n ≡ true) (λ m. Each (λ k. nat_lt m k ≡ true) (n ∷ [])) (λ m less. (less, tt)) numbers
      old.below);
  below = Each-append (λ m. nat_lt m (n + 1) ≡ true) numbers (n ∷ [])
      (Each-map (λ m. nat_lt m n ≡ true) (λ m. nat_lt m (n + 1) ≡ true) (later n) numbers old.below)
      (lt-ltb n (n + 1) (omega arith), tt);
  exact = λ m. (
    λ c. ⊎_elim (λ (in_old : Contains numbers m). let (less, r) = (old.exact m).0 in_old in (omega arith, r))
        (λ (new : Contains (n ∷ []) m). ⊎_elim (λ (last : m ≡ n). let less : m < n + 1 = omega arith in
        (less, (file, ap (slice_get files) last ∙ here, changed))) (λ (no : Contains [] m). absurd (Contains-none m no))
        (Contains-cases n [] m new)) (Contains-append_cases numbers (n ∷ []) m c),
    λ (less, r). ⊎_elim (λ (below : m < n). Contains-append_left numbers (n ∷ []) m ((old.exact m).1 (below, r)))
        (λ (above : n ≤ m). Contains-append_right numbers (n ∷ []) m (Contains-here n [] m (omega arith))) (cases_lt m n),
  );
}

pub all_replaced : (keeps : Bool) (files : List HandedIn) (n : ℕ) (numbers : List ℕ) → length files ≤ n
    → AreSoFar keeps files n numbers → AreReplaced keeps files numbers
all_replaced keeps files n numbers all old = record {
  rising = old.rising;
  exact = λ m. (
    λ c. ((old.exact m).0 c).1,
    λ r. let within = slice_get_within files m r.0 r.1 in (old.exact m).1 (omega arith, r),
  );
}

-- ---- by what is loaded and what is last

-- a file that was read stays just where a fact holds: it is among the numbers just where that doesn't
listed : (files : List HandedIn) (numbers : List ℕ) (n : ℕ) (file : HandedIn) (P : Type 0) → AreReplaced true files numbers
    → slice_get files n ≡ Some file → Stays true file ↔ P → Contains numbers n ↔ (¬ P)
listed files numbers n file P replaced here stays = (
  λ c holds.
      let r = (replaced.exact n).0 c in
      let same : r.0 ≡ file = same_Some r.0 file (sym r.1 ∙ here) in
      r.2 (subst (Stays true) (sym same) (stays.1 holds)),
  λ differs. (replaced.exact n).1 (file, here, λ s. differs (stays.0 s)),
)

-- a file that was read, and whose bytes can be the same only where it holds what it held, stays just then
by_records : (file : HandedIn) (read : Bor (List ℕ)) (P : Type 0) → file.read ≡ Some read
    → (read.now ≡ file.new.now → P) → HoldTheSame file.name.now read.now file.new.now ↔ P → Stays true file ↔ P
by_records file read P is equal same =
    let Q : Option (Bor (List ℕ)) → Type 0 = λ o. MatchOption o ⊥ (λ (r : Bor (List ℕ)). (r.now ≡ file.new.now)
    ⊎ ((true ≡ true) × HoldTheSame file.name.now r.now file.new.now)) in (
      λ stays. ⊎_elim equal (λ (k, held). same.0 held) (subst Q is stays),
      λ holds. subst Q (sym is) (inr (refl, same.1 holds)),
    )

both : (P Q R : Type 0) → P ↔ Q → Q ↔ R → P ↔ R
both P Q R a b = (λ p. b.0 (a.0 p), λ r. a.1 (b.1 r))

pub by_what_changed : HoldsOneList → (files : List HandedIn) (numbers : List ℕ) → AreReplaced true files numbers
    → AreChanged files numbers
by_what_changed law files numbers replaced = record {
  tables = λ n file read structure last_structure loaded last here is named before after.
      let new = file.new.now in
      let held = table.hold_one read.now new structure last_structure loaded last before after in
      let equal : read.now ≡ new → table.Same structure last_structure loaded last =
      λ e. held.0 (record {
        structure = structure;
        rows = loaded;
        before = before;
        after = subst (λ bytes. TextOfTable bytes structure loaded) e before;
      }) in
      listed files numbers n file (table.Same structure last_structure loaded last) replaced here
      (by_records file read (table.Same structure last_structure loaded last) is equal
      (both _ _ _ (by_table file.name.now read.now new named) held));
  indexes = λ n file read form last_form loaded last here is named before after.
      let new = file.new.now in
      let held = index.hold_one law read.now new form last_form loaded last before after in
      let equal : read.now ≡ new → index.Same form last_form loaded last =
      λ e. held.0 (record {
        form = form;
        pairs = loaded;
        before = before;
        after = subst (λ bytes. IsShortIndex bytes form loaded) e before;
      }) in
      listed files numbers n file (index.Same form last_form loaded last) replaced here
      (by_records file read (index.Same form last_form loaded last) is equal
      (both _ _ _ (by_index file.name.now read.now new named) held));
}
