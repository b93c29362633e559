-- Pages as they are written.
use Rattle.std.proofs.Common.{◌≡◌, ◌∙◌, ℕ, suc, ◌+◌, ◌-◌, ◌*◌, ◌^◌, ◌<◌, ◌≤◌, min, List, [], ◌∷◌, ◌++◌, length, take}
use Rattle.std.proofs.Common.{replicate, get_or, All, refl, sym, ap, arith, length-append, append_assoc}
use Rattle.std.proofs.lemmas.List.{length-take, take_min, take_all}
use Rattle.std.specs.List.{flat_map}
use Rattle.std.proofs.Math.Nat.{min_comm}
use Rattle.ndx_page.specs.declared.page.PageEntry.{PageEntry}
use Rattle.ndx_page.specs.declared.page.Page.{Page}
use Rattle.ndx_page.specs.Numbers.{number_at, number_text, padded}
use Rattle.ndx_page.specs.Layout.{entry_size, most_entries}
use Rattle.ndx_page.specs.PageLayout.{FitsKeys, IsPage, entries_at, entry_text, page_text}
use Rattle.ndx_page.proofs.LayoutLemmas.{most_entries-bound}
use Rattle.ndx_page.proofs.NumberLemmas.{length-number_text, number_at-text}
use Rattle.ndx_page.proofs.EntryLemmas.{HasNumbers, AreFit, length-entries_text, entries_again}

-- the page, written part by part
pub page_written : (l shown : ℕ) (page : Page) → shown ≡ min (length page.entries.items) (most_entries l) →
    padded 512 ((number_text 4 shown ++ flat_map (entry_text l) (take shown page.entries.items)) ++ number_text 4
    page.last) ≡ page_text l page
unfolding page_text
page_written l shown page is_min =
    let es : List PageEntry = page.entries.items in
    let most = most_entries l in
    let same : take shown es ≡ take most es =
    ap (λ (n : ℕ). take n es) (is_min ∙ min_comm (length es) most) ∙ take_min most es in
    let count : shown ≡ length (take most es) = is_min ∙ min_comm (length es) most ∙ sym (length-take most es) in
    ap (λ (n : ℕ). padded 512 ((number_text 4 n ++ flat_map (entry_text l) (take shown es)) ++ number_text 4 page.last))
    count
    ∙ ap (λ (shorter : List PageEntry). padded 512
    ((number_text 4 (length (take most es)) ++ flat_map (entry_text l) shorter) ++ number_text 4 page.last)) same

-- what is known of each entry, as a recursion
are_fit : (l : ℕ) (es : List PageEntry) → ((k : ℕ) (d : PageEntry) → k < length es → HasNumbers (get_or es k d))
    → All (λ e. length e.key.items ≡ l) es → AreFit l es
are_fit l [] numbers keys = tt
are_fit l (e ∷ es) numbers keys = (
  numbers 0 e (omega arith),
  keys 0 e (omega arith),
  are_fit l es (λ k d within. numbers (suc k) d (omega arith))
      (λ k d within. keys (suc k) d (omega arith)),
)

-- the page reads as it was written
pub page_again : (l : ℕ) (page : Page) → 1 ≤ l → FitsKeys l page
    → ((k : ℕ) (d : PageEntry) → k < length page.entries.items → HasNumbers (get_or page.entries.items k d))
    → page.last < 2 ^ 32 →
    IsPage l (page_text l page) page
unfolding page_text
page_again l page some fits numbers last_fits =
    let es : List PageEntry = page.entries.items in
    let shown = take (most_entries l) es in
    let all : shown ≡ es = take_all (most_entries l) es fits.most in
    let front : List ℕ = number_text 4 (length es) in
    let others : List ℕ = flat_map (entry_text l) es in
    let end : List ℕ = number_text 4 page.last in
    let zeros : List ℕ = replicate (512 - length ((front ++ others) ++ end)) 0 in
    let bytes : List ℕ = page_text l page in
    let whole : bytes ≡ padded 512 ((front ++ others) ++ end) = ap
    (λ (xs : List PageEntry). padded 512 ((number_text 4 (length xs) ++ flat_map (entry_text l) xs) ++ end)) all in
    let first : bytes ≡ [] ++ (front ++ (others ++ (end ++ zeros))) = whole ∙ simp append_assoc in
    let second : bytes ≡ front ++ (others ++ (end ++ zeros)) = whole ∙ simp append_assoc in
    let third : bytes ≡ (front ++ others) ++ (end ++ zeros) = whole ∙ simp append_assoc in
    let four = length-number_text 4 (length es) in
    let size = length-entries_text l es in
    let few = most_entries-bound l some in
    let most = fits.most in
    let small : length es < 2 ^ 32 = omega arith in
    let behind : length (front ++ others) ≡ 4 + length es * entry_size l =
    length-append front others ∙ omega (arith, four, size) in
    record {
      fits = fits;
      count = ap (number_at 4 0) first ∙ number_at-text 4 (length es) 0 [] _ refl small;
      entries = ap (entries_at l (length es) 4) second ∙ entries_again l 4 es front (end ++ zeros) four
          (are_fit l es numbers fits.keys);
      last = λ _. ap (number_at 4 (4 + length es * entry_size l)) third
          ∙ number_at-text 4 page.last (4 + length es * entry_size l) (front ++ others) zeros behind last_fits;
    }
