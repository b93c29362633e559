-- The texts of pages behind one another, as a page of the tree writes them.
use Rattle.std.proofs.Common.{◌≡◌, ◌∙◌, ℕ, ◌+◌, ◌/◌, ◌≤◌, List, [], ◌∷◌, ◌++◌, length, refl, ap, sym, arith}
use Rattle.std.proofs.Common.{append_assoc, length-append}
use Rattle.std.proofs.lemmas.List.{append-nil}
use Rattle.ndx_page.specs.declared.page.Page.{Page}
use Rattle.ndx_page.specs.Layout.{most_entries}
use Rattle.ndx_page.specs.PageLayout.{page_text}
use Rattle.ndx_tree.specs.IndexText.{pages_text, IsOwnPage, IsHalfFull}
use Rattle.ndx_tree.specs.Writes.{ArePages, IsPageText, IsAppended}
use Rattle.key_lists.proofs.Ordered.{Each-append}

pages_text-append : (k : ℕ) (a b : List Page) → pages_text k (a ++ b) ≡ pages_text k a ++ pages_text k b
pages_text-append k [] b = refl
pages_text-append k (p ∷ a) b = ap (λ (m : List ℕ). page_text k p ++ m) (pages_text-append k a b)
    ∙ sym (append_assoc (page_text k p) (pages_text k a) (pages_text k b))

pub no_pages : (k first : ℕ) (body : List ℕ) → ArePages k first first body body
no_pages k first body = record { pages = []; items = sym (append-nil body); count = omega arith; own = tt; half = tt }

-- the pages of a child more, which is half full
pub more_pages : (k first mid n count : ℕ) (body old new : List ℕ) → ArePages k first mid body old
    → IsPageText k mid n old new count → most_entries k / 2 ≤ count → ArePages k first n body new
more_pages k first mid n count body old new a c half = record {
  pages = a.pages ++ (c.pages ++ c.page ∷ []);
  items = c.items ∙ ap (λ (m : List ℕ). m ++ pages_text k (c.pages ++ c.page ∷ [])) a.items
      ∙ append_assoc body (pages_text k a.pages) (pages_text k (c.pages ++ c.page ∷ []))
      ∙ ap (λ (m : List ℕ). body ++ m) (sym (pages_text-append k a.pages (c.pages ++ c.page ∷ [])));
  count = omega (
    arith,
    a.count,
    c.count,
    length-append a.pages (c.pages ++ c.page ∷ []),
    length-append c.pages
        (c.page ∷ []),
  );
  own = Each-append (IsOwnPage k) a.pages (c.pages ++ c.page ∷ []) a.own c.own;
  half = Each-append (IsHalfFull k) a.pages (c.pages ++ c.page ∷ []) a.half
      (Each-append (IsHalfFull k) c.pages (c.page ∷ []) c.half (omega (arith, half, c.entries), tt));
}

-- a page behind those below it
pub page_behind_pages : (k first n count : ℕ) (body old new : List ℕ) (page : Page) → ArePages k first n body old
    → IsAppended k old new page → IsOwnPage k page → length page.entries.items ≡ count
    → IsPageText k first (n + 1) body new count
page_behind_pages k first n count body old new page a x own entries = record {
  pages = a.pages;
  page = page;
  items = x.items ∙ ap (λ (m : List ℕ). m ++ x.text) a.items ∙ append_assoc body (pages_text k a.pages) x.text
      ∙ ap (λ (m : List ℕ). body ++ (pages_text k a.pages ++ m)) (x.is ∙ sym (append-nil (page_text k page)))
      ∙ ap (λ (m : List ℕ). body ++ m) (sym (pages_text-append k a.pages (page ∷ [])));
  count = omega (arith, a.count);
  own = Each-append (IsOwnPage k) a.pages (page ∷ []) a.own (own, tt);
  half = a.half;
  entries = entries;
}
