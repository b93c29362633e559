-- The page of 512 bytes is the one that stands in them.
use Rattle.std.proofs.Common.{◌≡◌, ℕ, Bool, true, false, cond, not, ◌||◌, ◌&&◌, ◌==◌, Some, None, List, length, refl}
use Rattle.std.proofs.Common.{sym, ap, subst, ⊎_elim}
use Rattle.std.specs.Prelude.{is_none, if◌then◌else◌, nat_lt}
use Rattle.std.specs.List.{list_any}
use Rattle.std.proofs.lemmas.Bool.{eqb-false, eq-eqb, ne_eqb, le-ltb, ltb-false, cases_eq}
use Rattle.ndx_page.specs.declared.page.PageEntry.{PageEntry}
use Rattle.ndx_page.specs.declared.page.Page.{Page}
use Rattle.ndx_page.specs.declared.page.PageFault.{PageFault}
use Rattle.ndx_page.specs.Numbers.{number_at}
use Rattle.ndx_page.specs.Layout.{most_entries}
use Rattle.ndx_page.specs.PageLayout.{IsPage, told_entries, told_last, is_told_leaf, page_of, PagesAreTold}
use Rattle.ndx_page.proofs.ReadLemmas.{Told, told_of, page_told, same_pages, or_false}

-- of three tests none holds
none_of : (a b c : Bool) (x y z : PageFault) → is_none (cond a (Some x) (cond b (Some y) (cond c (Some z) None))) ≡ true
    → (a ≡ false) × (b ≡ false) × (c ≡ false)
none_of true b c x y z e = absurd cc
none_of false true c x y z e = absurd cc
none_of false false true x y z e = absurd cc
none_of false false false x y z e = (refl, refl, refl)

some_of : (b : Bool) (q p : Page) → (if b then Some q else None) ≡ Some p → (b ≡ true) × (q ≡ p)
some_of true q p e = (refl, cc)
some_of false q p e = absurd cc

and_false : (a b : Bool) → a ≡ true → (a && b) ≡ false → b ≡ false
and_false a b e f = rw e at f

-- what the bytes tell, as a page
the_page : ℕ → List ℕ → Page
the_page l bytes = record {
  entries = record { items = told_entries l bytes };
  last = if is_told_leaf bytes then 0
      else told_last l bytes;
}

told_from : (l : ℕ) (bytes : List ℕ) → nat_lt (most_entries l) (number_at 4 0 bytes) ≡ false →
    (if is_told_leaf bytes then list_any (λ (e : PageEntry). not (e.child == 0)) (told_entries l bytes)
    else (told_last l bytes == 0 || list_any (λ (e : PageEntry). e.child == 0) (told_entries l bytes))) ≡ false →
    (is_told_leaf bytes && list_any (λ (e : PageEntry). e.number == 0) (told_entries l bytes)) ≡ false
    → Told l bytes (the_page l bytes)
unfolding the_page
told_from l bytes count child number = record {
  entries = refl;
  most = ltb-false (most_entries l) (number_at 4 0 bytes) count;
  leaf = λ e. let leaf : is_told_leaf bytes ≡ true = eq-eqb (number_at 4 4 bytes) 0 e in (
    subst (λ b. (if b then list_any (λ (e : PageEntry). not (e.child == 0)) (told_entries l bytes)
        else (told_last l bytes == 0 || list_any (λ (e : PageEntry). e.child == 0) (told_entries l bytes))) ≡ false)
        leaf child,
    and_false _ _ leaf number,
    ap (λ b. if b then 0 else told_last l bytes) leaf,
  );
  inner = λ n. let inner : is_told_leaf bytes ≡ false = ne_eqb (number_at 4 4 bytes) 0 n in
      let both = or_false (told_last l bytes == 0) _
      (subst (λ b. (if b then list_any (λ (e : PageEntry). not (e.child == 0)) (told_entries l bytes)
      else (told_last l bytes == 0 || list_any (λ (e : PageEntry). e.child == 0) (told_entries l bytes))) ≡ false)
      inner child) in
      (both.1, sym (ap (λ b. if b then 0 else told_last l bytes) inner), eqb-false (told_last l bytes) 0 both.0);
}

-- the page of the bytes stands in them
page_of-stands : (l : ℕ) (bytes : List ℕ) (p : Page) → length bytes ≡ 512 → page_of l bytes ≡ Some p → IsPage l bytes p
unfolding page_of the_page
page_of-stands l bytes p whole e =
    let found = some_of _ (the_page l bytes) p e in
    let none = none_of _ _ _ _ _ _ found.0 in
    subst (IsPage l bytes) found.1 (page_told l bytes (the_page l bytes) whole (told_from l bytes none.0 none.1 none.2))

-- and what stands in them is their page
stands-page_of : (l : ℕ) (bytes : List ℕ) (p : Page) → IsPage l bytes p → page_of l bytes ≡ Some p
unfolding page_of
stands-page_of l bytes p is =
    let told = told_of l bytes p is in
    let count : nat_lt (most_entries l) (number_at 4 0 bytes) ≡ false =
    le-ltb (most_entries l) (number_at 4 0 bytes) told.most in
    ⊎_elim
    (λ e. let leaf : is_told_leaf bytes ≡ true = eq-eqb (number_at 4 4 bytes) 0 e in
    let facts = told.leaf e in
    let a = facts.0 in let b = facts.1 in
    rw (count, leaf, a, b) (ap (λ (q : Page). Some q) (same_pages _ p (sym told.entries) (sym facts.2))))
    (λ n. let inner : is_told_leaf bytes ≡ false = ne_eqb (number_at 4 4 bytes) 0 n in
    let facts = told.inner n in
    let a = facts.0 in
    let b : (told_last l bytes == 0) ≡ false = ne_eqb (told_last l bytes) 0 facts.2 in
    rw (count, inner, b, a) (ap (λ (q : Page). Some q) (same_pages _ p (sym told.entries) facts.1)))
    (cases_eq (number_at 4 4 bytes) 0)

-- the law
pub pages_told : PagesAreTold
pages_told = record { stands = page_of-stands; told = stands-page_of }
