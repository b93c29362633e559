-- What a page's bytes tell.
use Rattle.std.proofs.Common.{◌≡◌, ◌==◌, ◌∙◌, ℕ, zero, suc, ◌+◌, ◌*◌, ◌<◌, ◌≤◌, ◌⊎◌, inl, inr, Bool, true, false, not}
use Rattle.std.proofs.Common.{◌||◌, List, [], ◌∷◌, length, take, drop, All, refl, sym, ap, subst, arith, eqb-true}
use Rattle.std.proofs.Common.{eq-eqb}
use Rattle.std.specs.List.{list_any}
use Rattle.std.proofs.lemmas.Bool.{eqb-false, ne_eqb, not-false}
use Rattle.std.proofs.lemmas.List.{length-drop, length-take-le}
use Rattle.std.proofs.lemmas.List.Elements.{All-nil, All-cons, All-head, All-tail}
use Rattle.std.proofs.Math.Nat.{zero-mul, suc-mul}
use Rattle.ndx_page.specs.declared.page.PageEntry.{PageEntry}
use Rattle.ndx_page.specs.declared.page.Page.{Page}
use Rattle.ndx_page.specs.Numbers.{number_at}
use Rattle.ndx_page.specs.Layout.{entry_size, most_entries}
use Rattle.ndx_page.specs.PageLayout.{IsPage, entry_at, entries_at, told_entries, told_last}
use Rattle.ndx_page.proofs.LayoutLemmas.{entries-size}
use Rattle.ndx_page.proofs.EntryLemmas.{length-entries_at}

-- the keys that are told have the key length
keys_told : (l n place : ℕ) (bytes : List ℕ) → place + n * entry_size l ≤ length bytes
    → All (λ e. length e.key.items ≡ l) (entries_at l n place bytes)
unfolding entry_at entries_at
keys_told l zero place bytes room = All-nil (λ e. length e.key.items ≡ l)
keys_told l (suc n) place bytes room =
    let grown = suc-mul n (entry_size l) in
    let behind = length-drop (place + 8) bytes in
    let here : length (take l (drop (place + 8) bytes)) ≡ l =
    length-take-le l (drop (place + 8) bytes) (omega (arith, grown, behind)) in
    All-cons (λ e. length e.key.items ≡ l) (entry_at l place bytes) (entries_at l n (place + entry_size l) bytes) here
    (keys_told l n (place + entry_size l) bytes (omega (arith, grown)))

positive : (n : ℕ) → (n ≡ 0 → ⊥) → 0 < n
positive zero some = absurd (some refl)
positive (suc n) some = omega arith

not_zero : (n : ℕ) → 0 < n → n ≡ 0 → ⊥
not_zero n some none = omega (arith, some, none)

pub or_false : (a b : Bool) → (a || b) ≡ false → (a ≡ false) × (b ≡ false)
or_false true b none = cc
or_false false b none = (refl, none)

All-both : (es : List PageEntry) → All (λ e. e.child ≡ 0) es → All (λ e. 0 < e.number) es
    → All (λ e. (e.child ≡ 0) × (0 < e.number)) es
All-both es children numbers = λ k d within. (children k d within, numbers k d within)

-- a test that no entry passes
none_passes : (p : PageEntry → Bool) (P : PageEntry → Type 0) → ((e : PageEntry) → p e ≡ false → P e)
    → (es : List PageEntry) → list_any p es ≡ false → All P es
none_passes p P means [] none = All-nil P
none_passes p P means (e ∷ es) none =
    let parts = or_false (p e) (list_any p es) none in
    All-cons P e es (means e parts.0) (none_passes p P means es parts.1)

none_pass : (p : PageEntry → Bool) (P : PageEntry → Type 0) → ((e : PageEntry) → P e → p e ≡ false)
    → (es : List PageEntry) → All P es → list_any p es ≡ false
none_pass p P means [] all = refl
none_pass p P means (e ∷ es) all =
    let here = means e (All-head P e es all) in
    let others = none_pass p P means es (All-tail P e es all) in
    rw (here, others) refl

-- what the bytes tell of a page
pub record Told (l : ℕ) (bytes : List ℕ) (page : Page) : Type 0 where
  pub entries : page.entries.items ≡ told_entries l bytes
  pub most : number_at 4 0 bytes ≤ most_entries l
  pub leaf : number_at 4 4 bytes ≡ 0 → (list_any (λ e. not (e.child == 0)) (told_entries l bytes) ≡ false)
      × (list_any (λ e. e.number == 0) (told_entries l bytes) ≡ false) × (page.last ≡ 0)
  pub inner : (number_at 4 4 bytes ≡ 0 → ⊥) → (list_any (λ e. e.child == 0) (told_entries l bytes) ≡ false)
      × (told_last l bytes ≡ page.last) × (told_last l bytes ≡ 0 → ⊥)

-- the child of the first entry is the first child
first_child : (l n : ℕ) (bytes : List ℕ) (e : PageEntry) (es : List PageEntry) → entries_at l n 4 bytes ≡ e ∷ es
    → number_at 4 4 bytes ≡ e.child
unfolding entry_at entries_at
first_child l zero bytes e es told = cc
first_child l (suc n) bytes e es told =
    let same : entry_at l 4 bytes ≡ e = cc in
    ap (λ (x : PageEntry). x.child) same

-- without entries the first child is the last
only_child : (l n : ℕ) (bytes : List ℕ) → n ≡ 0 → number_at 4 (4 + n * entry_size l) bytes ≡ number_at 4 4 bytes
only_child l n bytes none =
    ap (λ (k : ℕ). number_at 4 (4 + k * entry_size l) bytes) none ∙ ap (λ (k : ℕ). number_at 4 k bytes)
    (omega (arith, zero-mul (entry_size l)))

-- the entry is one of a leaf, or of an inner page
abbrev IsLeafEntry : PageEntry → Type 0
IsLeafEntry e = (e.child ≡ 0) × (0 < e.number)

abbrev IsInnerEntry : PageEntry → Type 0
IsInnerEntry e = 0 < e.child

-- which kind of page it is, by its first child
record IsTold (l : ℕ) (bytes : List ℕ) (es : List PageEntry) (last : ℕ) : Type 0 where
  pub leaf : number_at 4 4 bytes ≡ 0 → All IsLeafEntry es × (last ≡ 0)
  pub inner : (number_at 4 4 bytes ≡ 0 → ⊥)
      → All IsInnerEntry es × (number_at 4 (4 + length es * entry_size l) bytes ≡ last) × (0 < last)

kind_told : (l : ℕ) (bytes : List ℕ) (es : List PageEntry) (last : ℕ) → entries_at l (length es) 4 bytes ≡ es →
    ((es ≡ []) ⊎ (0 < last) → number_at 4 (4 + length es * entry_size l) bytes ≡ last) →
    (All IsLeafEntry es × (last ≡ 0)) ⊎ (All IsInnerEntry es × (0 < last)) → IsTold l bytes es last
kind_told l bytes [] last told last_is kind =
    let same = sym (only_child l 0 bytes refl) ∙ last_is (inl refl) in
    record {
      leaf = λ none. (All-nil IsLeafEntry, sym same ∙ none);
      inner = λ some. (All-nil IsInnerEntry, last_is (inl refl), positive last (λ none. some (same ∙ none)));
    }
kind_told l bytes (e ∷ es) last told last_is (inl leaf) =
    let child = first_child l (length (e ∷ es)) bytes e es told in
    let none = All-head IsLeafEntry e es leaf.0 in
    record { leaf = λ _. leaf; inner = λ some. absurd (some (child ∙ none.0)) }
kind_told l bytes (e ∷ es) last told last_is (inr inner) =
    let child = first_child l (length (e ∷ es)) bytes e es told in
    let some = All-head IsInnerEntry e es inner.0 in
    record {
      leaf = λ none. absurd (omega (arith, child, none, some));
      inner = λ _.
          (inner.0, last_is (inr inner.1), inner.1);
    }

-- and back
kind_of : (l : ℕ) (bytes : List ℕ) (es : List PageEntry) (last first : ℕ) → number_at 4 4 bytes ≡ first
    → IsTold l bytes es last →
    ((es ≡ []) ⊎ (0 < last) → number_at 4 (4 + length es * entry_size l) bytes ≡ last)
    × ((All IsLeafEntry es × (last ≡ 0)) ⊎ (All IsInnerEntry es × (0 < last)))
kind_of l bytes es last zero first_is told =
    let leaf = told.leaf first_is in (
      λ which. elim which [
        | inl none ↦ only_child l (length es) bytes (ap length none) ∙ first_is
            ∙ sym leaf.1
        | inr some ↦ absurd (omega (arith, some, leaf.1))
      ],
      inl leaf,
    )
kind_of l bytes es last (suc k) first_is told =
    let inner = told.inner (λ none. absurd (omega (arith, none, first_is))) in
    (λ _. inner.1, inr (inner.0, inner.2))

-- what stands in the bytes is told
pub told_of : (l : ℕ) (bytes : List ℕ) (page : Page) → IsPage l bytes page → Told l bytes page
told_of l bytes page is_page =
    let es : List PageEntry = page.entries.items in
    let kind = kind_told l bytes es page.last is_page.entries is_page.last is_page.fits.kind in
    let count = is_page.count in
    let few = is_page.fits.most in
    let same : es ≡ told_entries l bytes = sym is_page.entries ∙ ap (λ (n : ℕ). entries_at l n 4 bytes) (sym count) in
    let none : (p : PageEntry → Bool) → list_any p es ≡ false → list_any p (told_entries l bytes) ≡ false =
    λ p h. ap (list_any p) (sym same) ∙ h in
    record {
      entries = same;
      most = omega (arith, count, few);
      leaf = λ first. let facts = kind.leaf first in (
        none (λ e. not (e.child == 0)) (none_pass (λ e. not (e.child == 0)) IsLeafEntry
            (λ e h. ap not (eq-eqb e.child 0 h.0)) es facts.0),
        none (λ e. e.number == 0) (none_pass (λ e. e.number == 0) IsLeafEntry
            (λ e h. ne_eqb e.number 0 (not_zero e.number h.1)) es facts.0),
        facts.1,
      );
      inner = λ first. let facts = kind.inner first in (
        none (λ e. e.child == 0) (none_pass (λ e. e.child == 0) IsInnerEntry
            (λ e h. ne_eqb e.child 0 (not_zero e.child h)) es facts.0),
        ap (λ (n : ℕ). number_at 4 (4 + n * entry_size l) bytes) count ∙ facts.1,
        λ h. not_zero page.last facts.2 (sym (ap (λ (n : ℕ). number_at 4 (4 + n * entry_size l) bytes) count ∙ facts.1)
            ∙ h),
      );
    }

-- and what is told stands there
pub page_told : (l : ℕ) (bytes : List ℕ) (page : Page) → length bytes ≡ 512 → Told l bytes page → IsPage l bytes page
page_told l bytes page whole told =
    let es : List PageEntry = page.entries.items in
    let n : ℕ = number_at 4 0 bytes in
    let count : n ≡ length es = sym (ap length told.entries ∙ length-entries_at l n 4 bytes) in
    let size = entries-size l n told.most in
    let keys = keys_told l n 4 bytes (omega (arith, size, whole)) in
    let most = told.most in
    let back : (p : PageEntry → Bool) → list_any p (told_entries l bytes) ≡ false → list_any p es ≡ false =
    λ p h. ap (list_any p) told.entries ∙ h in
    let is_told : IsTold l bytes es page.last = record {
      leaf = λ first. let facts = told.leaf first in (
        All-both es
            (none_passes (λ e. not (e.child == 0)) (λ e. e.child ≡ 0)
            (λ e h. eqb-true e.child 0 (not-false (e.child == 0) h)) es (back (λ e. not (e.child == 0)) facts.0))
            (none_passes (λ e. e.number == 0) (λ e. 0 < e.number) (λ e h. positive e.number (eqb-false e.number 0 h)) es
            (back (λ e. e.number == 0) facts.1)),
        facts.2,
      );
      inner = λ first. let facts = told.inner first in (
        none_passes (λ e. e.child == 0) IsInnerEntry (λ e h. positive e.child (eqb-false e.child 0 h)) es
            (back (λ e. e.child == 0) facts.0),
        ap (λ (k : ℕ). number_at 4 (4 + k * entry_size l) bytes) (sym count) ∙ facts.1,
        positive page.last (λ h. facts.2 (facts.1 ∙ h)),
      );
    } in
    let kind = kind_of l bytes es page.last (number_at 4 4 bytes) refl is_told in
    record {
      fits = record {
        most = omega (arith, count, most);
        keys = subst (All (λ e. length e.key.items ≡ l))
            (sym told.entries) keys;
        kind = kind.1;
      };
      count = count;
      entries = ap (λ (k : ℕ). entries_at l k 4 bytes) (sym count) ∙ sym told.entries;
      last = kind.0;
    }

pub same_pages : (a b : Page) → a.entries.items ≡ b.entries.items → a.last ≡ b.last → a ≡ b
same_pages a b same_entries same_last =
    let made : List PageEntry → ℕ → Page = λ es last. record { entries = record { items = es }; last = last } in
    ap (λ (es : List PageEntry). made es a.last) same_entries ∙ ap (made b.entries.items) same_last

-- what a test over the entries that were read says of those that are told
pub told_test : (p : PageEntry → Bool) (l count : ℕ) (bytes : List ℕ) (entries shown : List PageEntry) (result : Bool)
    {answer : Bool} →
    entries ≡ entries_at l count 4 bytes → count ≡ number_at 4 0 bytes → shown ≡ entries → result ≡ list_any p shown
    → result ≡ answer → list_any p (told_entries l bytes) ≡ answer
told_test p l count bytes entries shown result read counted same tested is_answer =
    sym (ap (list_any p) (same ∙ read ∙ ap (λ (n : ℕ). entries_at l n 4 bytes) counted)) ∙ sym tested ∙ is_answer
