-- The whole file, as it is written.
use Rattle.std.proofs.Common.{◌≡◌, ◌∙◌, ℕ, ◌+◌, ◌-◌, ◌*◌, List, [], ◌∷◌, ◌++◌, length, ap, sym, subst, arith}
use Rattle.std.proofs.Common.{length-append}
use Rattle.std.proofs.lemmas.List.{append-nil}
use Rattle.ndx_page.specs.declared.head.Head.{Head}
use Rattle.ndx_page.specs.Numbers.{number_at}
use Rattle.ndx_page.specs.HeadLayout.{IsHead, head_text}
use Rattle.key_lists.specs.KeyForm.{KeyForm}
use Rattle.key_lists.specs.Rising.{IsRising}
use Rattle.ndx_tree.specs.Pages.{PageView}
use Rattle.ndx_tree.specs.Trees.{IsTree}
use Rattle.ndx_tree.specs.declared.page.SparePages.{SparePages}
use Rattle.ndx_tree.specs.IndexFile.{IsIndexFile, IsBelow, page_count}
use Rattle.ndx_tree.specs.Writes.{IsWritten, IsPageText}
use Rattle.key_lists.specs.Order.{Each}
use Rattle.ndx_tree.specs.IndexText.{IsIndexText, IsOwnPage, IsHalfFull, pages_text}
use Rattle.ndx_tree.proofs.TreeLemmas.{tree_low}
use Rattle.ndx_tree.proofs.HeadFront.{head_front, four_front}
use Rattle.ndx_tree.proofs.Writing.{last_bounds}

pub file_written : (form : KeyForm) (root : PageView) (pool : SparePages) (reserved n : ℕ) (head : Head)
    (front body bytes : List ℕ) → IsTree form root pool reserved → IsWritten form.key_length 0 n body root
    → length body ≡ n * 512 → IsHead front head → length front ≡ 512 → head.length ≡ form.key_length → head.root ≡ n
    → head.text.items ≡ form.key_text → bytes ≡ front ++ body → (file : IsIndexFile bytes form root.pairs)
    × (length file.tree.reached ≡ n)
file_written form root pool reserved n head front body bytes t w size is whole l r x e =
    let low = tree_low form root pool reserved t in
    let count : length bytes ≡ 512 + n * 512 =
    ap (λ (m : List ℕ). length m) e ∙ length-append front body ∙ omega (arith, whole, size) in
    let all : front ++ (body ++ []) ≡ bytes = ap (λ (m : List ℕ). front ++ m) (append-nil body) ∙ sym e in
    let level : 20 - root.height + root.height ≡ 20 = omega (arith, low) in
    let below : IsBelow form.key_length bytes (20 - root.height) (20 - root.height + root.height) n w.reached w.items =
    subst (λ (m : List ℕ). IsBelow form.key_length m (20 - root.height) (20 - root.height + root.height) n w.reached
    w.items) all (w.below front [] (20 - root.height) whole) in (
      record {
        head = head;
        is_head = subst (λ (m : List ℕ). IsHead m head) (sym e) (head_front front body head whole is);
        key_length = l;
        key_text = x;
        tree = record {
          level = 20 - root.height;
          reached = w.reached;
          items = w.items;
          below = subst (λ k. IsBelow k bytes (20 - root.height) 20 head.root w.reached w.items) (sym l)
              (subst (λ m. IsBelow form.key_length bytes (20 - root.height) 20 m w.reached w.items) (sym r)
              (subst (λ d. IsBelow form.key_length bytes (20 - root.height) d n w.reached w.items) level below));
          fresh = w.fresh (page_count bytes) [] (omega (arith, count)) tt;
          order = record {
            rising = subst IsRising (sym w.pairs) t.list.ordered;
            bounds = last_bounds [] w.items
                (subst IsRising (sym w.pairs) t.list.ordered) (w.last []);
          };
          pairs_are = sym w.pairs;
        };
      },
      omega (arith, w.all),
    )

-- and it is the text of its pages
pub text_written : (form : KeyForm) (root : PageView) (n count : ℕ) (head : Head) (front body bytes : List ℕ)
    → (file : IsIndexFile bytes form root.pairs) → length file.tree.reached ≡ n
    → IsPageText form.key_length 0 n [] body count → length body ≡ n * 512 → length front ≡ 512 → front ≡ head_text head
    → head.length ≡ form.key_length → head.root ≡ n → head.pages ≡ n + 1 → head.text.items ≡ form.key_text
    → bytes ≡ front ++ body → IsIndexText bytes form root.pairs
text_written form root n count head front body bytes file all p size whole exact l r pages x e = record {
  head = head;
  pages = p.pages;
  root = p.page;
  text = e ∙ ap (λ (m : List ℕ). m ++ body) exact ∙ ap (λ (m : List ℕ). head_text head ++ m) p.items
      ∙ ap (λ k. head_text head ++ pages_text k (p.pages ++ p.page ∷ [])) (sym l);
  whole = omega (arith, ap (λ (m : List ℕ). length m) e, length-append front body, whole, size, p.count);
  key_length = l;
  key_text = x;
  root_is = omega (arith, r, p.count);
  count = omega (arith, pages, p.count);
  own = subst (λ k. Each (IsOwnPage k) (p.pages ++ p.page ∷ [])) (sym l) p.own;
  half = subst (λ k. Each (IsHalfFull k) p.pages) (sym l) p.half;
  file = file;
  reached = omega (arith, all, p.count);
}

-- the number of pages that page 0 tells is that of the file
pub pages_told : (n : ℕ) (head : Head) (front body bytes : List ℕ) → length body ≡ n * 512 → IsHead front head
    → length front ≡ 512 → head.pages ≡ n + 1 → bytes ≡ front ++ body → number_at 4 4 bytes ≡ page_count bytes
pages_told n head front body bytes size is whole pages e =
    let count : length bytes ≡ 512 + n * 512 =
    ap (λ (m : List ℕ). length m) e ∙ length-append front body ∙ omega (arith, whole, size) in
    ap (number_at 4 4) e ∙ four_front 4 front body (omega (arith, whole)) ∙ is.pages ∙ pages ∙ omega (arith, count)
