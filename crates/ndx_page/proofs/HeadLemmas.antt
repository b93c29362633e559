-- Heads with the same numbers and the same key expression are the same.
use Rattle.std.proofs.Common.{◌≡◌, ◌∙◌, ℕ, suc, ◌+◌, ◌-◌, ◌^◌, ◌<◌, ◌≤◌, List, [], ◌∷◌, ◌++◌, length, take, drop}
use Rattle.std.proofs.Common.{replicate, get_or, Contains, refl, ap, subst, arith, length-append, append_assoc}
use Rattle.std.proofs.lemmas.List.{take_all, drop_at, length-replicate, get_or-append_right, get_or_append_left}
use Rattle.std.proofs.Math.Bridge.{le_prop}
use Rattle.arrayvec.specs.ArrayVec.{ArrayVec}
use Rattle.ndx_page.specs.declared.head.Head.{Head}
use Rattle.ndx_page.specs.Numbers.{number_at, number_text, padded}
use Rattle.ndx_page.specs.Layout.{entry_size, most_entries}
use Rattle.ndx_page.specs.HeadLayout.{IsHead, head_text}
use Rattle.ndx_page.proofs.LayoutLemmas.{most_entries-bound}
use Rattle.ndx_page.proofs.NumberLemmas.{length-number_text, number_at-text}

abbrev make : (root pages length : ℕ) (text : ArrayVec ℕ) → 1 ≤ length → length ≤ 100 → (Contains text.items 0 → ⊥)
    → Head
make root pages length text some short none =
    record {
      root = root;
      pages = pages;
      length = length;
      text = text;
      some_key = some;
      short_key = short;
      no_zero =
          none;
    }

same_facts : (root pages length : ℕ) (text : ArrayVec ℕ) (some some' : 1 ≤ length) (short short' : length ≤ 100)
    (none none' : Contains text.items 0 → ⊥) →
    make root pages length text some short none ≡ make root pages length text some' short' none'
same_facts root pages length text some some' short short' none none' =
    let one : IsProp (1 ≤ length) = le_prop in
    let two : IsProp (length ≤ 100) = le_prop in
    let three : IsProp (Contains text.items 0 → ⊥) = hlevel in
    ap (λ (p : 1 ≤ length). make root pages length text p short none) (one some some')
    ∙ ap (λ (p : length ≤ 100). make root pages length text some' p none) (two short short')
    ∙ ap (λ (p : Contains text.items 0 → ⊥). make root pages length text some' short' p) (three none none')

same_parts : (root pages length : ℕ) (text : ArrayVec ℕ) (some : 1 ≤ length) (short : length ≤ 100)
    (none : Contains text.items 0 → ⊥)
    (length' : ℕ) (text' : ArrayVec ℕ) → length ≡ length' → text ≡ text'
    → (some' : 1 ≤ length') (short' : length' ≤ 100) (none' : Contains text'.items 0 → ⊥) →
    make root pages length text some short none ≡ make root pages length' text' some' short' none'
same_parts root pages length text some short none length' text' same_length same_text =
    let P : ℕ → Type 0 = λ l. (some' : 1 ≤ l) (short' : l ≤ 100) (none' : Contains text'.items 0 → ⊥)
    → make root pages length text some short none ≡ make root pages l text' some' short' none' in
    let Q : ArrayVec ℕ → Type 0 = λ t. (some' : 1 ≤ length) (short' : length ≤ 100) (none' : Contains t.items 0 → ⊥)
    → make root pages length text some short none ≡ make root pages length t some' short' none' in
    subst P same_length
    (subst Q same_text (λ some' short' none'. same_facts root pages length text some some' short short' none none'))

pub same_heads : (a b : Head) → a.root ≡ b.root → a.pages ≡ b.pages → a.length ≡ b.length → a.text ≡ b.text → a ≡ b
same_heads a b same_root same_pages same_length same_text =
    ap (λ (root : ℕ). make root a.pages a.length a.text a.some_key a.short_key a.no_zero) same_root
    ∙ ap (λ (pages : ℕ). make b.root pages a.length a.text a.some_key a.short_key a.no_zero) same_pages
    ∙ same_parts b.root b.pages a.length a.text a.some_key a.short_key a.no_zero b.length b.text same_length same_text
    b.some_key b.short_key b.no_zero

-- one more part behind what stands
pub then_part : (part old new front : List ℕ) → new ≡ old ++ part → old ≡ front → new ≡ front ++ part
then_part part old new front added stands = added ∙ ap (λ (xs : List ℕ). xs ++ part) stands

part_length : (n m : ℕ) (front part : List ℕ) → length front ≡ n → length part ≡ m → length (front ++ part) ≡ n + m
part_length n m front part one two = length-append front part ∙ omega (arith, one, two)

-- a part behind three to eight others, and before the rest
split_1 : (a b c d e f g h t z : List ℕ) → ((((((((a ++ b) ++ c) ++ d) ++ e) ++ f) ++ g) ++ h) ++ t) ++ z
    ≡ a ++ (b ++ (((((((c ++ d) ++ e) ++ f) ++ g) ++ h) ++ t) ++ z))
split_1 a b c d e f g h t z = simp append_assoc

split_3 : (a b c d e f g h t z : List ℕ) → ((((((((a ++ b) ++ c) ++ d) ++ e) ++ f) ++ g) ++ h) ++ t) ++ z
    ≡ ((a ++ b) ++ c) ++ (d ++ (((((e ++ f) ++ g) ++ h) ++ t) ++ z))
split_3 a b c d e f g h t z = simp append_assoc

split_4 : (a b c d e f g h t z : List ℕ) → ((((((((a ++ b) ++ c) ++ d) ++ e) ++ f) ++ g) ++ h) ++ t) ++ z
    ≡ (((a ++ b) ++ c) ++ d) ++ (e ++ ((((f ++ g) ++ h) ++ t) ++ z))
split_4 a b c d e f g h t z = simp append_assoc

split_5 : (a b c d e f g h t z : List ℕ) → ((((((((a ++ b) ++ c) ++ d) ++ e) ++ f) ++ g) ++ h) ++ t) ++ z
    ≡ ((((a ++ b) ++ c) ++ d) ++ e) ++ (f ++ (((g ++ h) ++ t) ++ z))
split_5 a b c d e f g h t z = simp append_assoc

split_6 : (a b c d e f g h t z : List ℕ) → ((((((((a ++ b) ++ c) ++ d) ++ e) ++ f) ++ g) ++ h) ++ t) ++ z
    ≡ (((((a ++ b) ++ c) ++ d) ++ e) ++ f) ++ (g ++ ((h ++ t) ++ z))
split_6 a b c d e f g h t z = simp append_assoc

split_7 : (a b c d e f g h t z : List ℕ) → ((((((((a ++ b) ++ c) ++ d) ++ e) ++ f) ++ g) ++ h) ++ t) ++ z
    ≡ ((((((a ++ b) ++ c) ++ d) ++ e) ++ f) ++ g) ++ (h ++ (t ++ z))
split_7 a b c d e f g h t z = simp append_assoc

-- what stands in page 0 reads as it was written
record Laid (bytes : List ℕ) (root pages key_length most size : ℕ) (text : List ℕ) : Type 0 where
  pub whole : 512 ≤ length bytes
  pub root_is : number_at 4 0 bytes ≡ root
  pub pages_is : number_at 4 4 bytes ≡ pages
  pub length_is : number_at 2 12 bytes ≡ key_length
  pub most_is : number_at 2 14 bytes ≡ most
  pub kind_is : number_at 2 16 bytes ≡ 0
  pub size_is : number_at 2 18 bytes ≡ size
  pub unique_is : get_or bytes 23 0 ≡ 0
  pub text_is : (rest : List ℕ) × (take 488 (drop 24 bytes) ≡ text ++ 0 ∷ rest)

laid : (root pages key_length most size : ℕ) (zeros text : List ℕ) → root < 2 ^ 32 → pages < 2 ^ 32
    → key_length < 2 ^ 16 → most < 2 ^ 16 → size < 2 ^ 16 → length text ≤ 487 →
    length zeros ≡ 4 → get_or zeros 3 0 ≡ 0 →
    Laid (padded 512
    ((((((((number_text 4 root ++ number_text 4 pages) ++ zeros) ++ number_text 2 key_length) ++ number_text 2 most)
    ++ number_text 2 0) ++ number_text 2 size) ++ zeros) ++ text)) root pages key_length most size text
laid root pages key_length most size zeros text root_fits pages_fits length_fits most_fits size_fits text_fits
    four_zeros last_zero =
    let a = number_text 4 root in
    let b = number_text 4 pages in
    let d = number_text 2 key_length in
    let e = number_text 2 most in
    let f = number_text 2 0 in
    let g = number_text 2 size in
    let two = part_length 4 4 a b (length-number_text 4 root) (length-number_text 4 pages) in
    let three = part_length 8 4 (a ++ b) zeros two four_zeros in
    let four = part_length 12 2 ((a ++ b) ++ zeros) d three (length-number_text 2 key_length) in
    let five = part_length 14 2 (((a ++ b) ++ zeros) ++ d) e four (length-number_text 2 most) in
    let six = part_length 16 2 ((((a ++ b) ++ zeros) ++ d) ++ e) f five (length-number_text 2 0) in
    let seven = part_length 18 2 (((((a ++ b) ++ zeros) ++ d) ++ e) ++ f) g six (length-number_text 2 size) in
    let front : List ℕ = ((((((a ++ b) ++ zeros) ++ d) ++ e) ++ f) ++ g) ++ zeros in
    let eight : length front ≡ 24 =
    part_length 20 4 ((((((a ++ b) ++ zeros) ++ d) ++ e) ++ f) ++ g) zeros seven four_zeros in
    let body : length (front ++ text) ≡ 24 + length text = part_length 24 (length text) front text eight refl in
    let z : List ℕ = replicate (512 - length (front ++ text)) 0 in
    let tail_length : length z ≡ 488 - length text =
    length-replicate {A = ℕ} (512 - length (front ++ text)) 0 ∙ omega (arith, body) in
    let bytes : List ℕ = (front ++ text) ++ z in
    let all : length bytes ≡ 512 = length-append (front ++ text) z ∙ omega (arith, body, tail_length) in
    let more : ℕ = 487 - length text in
    let tail : z ≡ 0 ∷ replicate more 0 =
    ap (λ (n : ℕ). replicate n 0) (let e : 512 - length (front ++ text) ≡ suc more = omega (arith, body) in e) in
    let behind : drop 24 bytes ≡ text ++ z =
    ap (drop 24) (append_assoc front text z) ∙ drop_at front (text ++ z) 24 eight in
    let rest_length : length (text ++ z) ≤ 488 = omega (arith, length-append text z, tail_length) in
    record {
      whole = omega (arith, all);
      root_is = ap (number_at 4 0) (split_1 a b zeros d e f g zeros text z)
          ∙ number_at-text 4 root 0 [] _ refl root_fits;
      pages_is = ap (number_at 4 4) (split_1 a b zeros d e f g zeros text z)
          ∙ number_at-text 4 pages 4 a _ (length-number_text 4 root) pages_fits;
      length_is = ap (number_at 2 12) (split_3 a b zeros d e f g zeros text z)
          ∙ number_at-text 2 key_length 12 ((a ++ b) ++ zeros) _ three length_fits;
      most_is = ap (number_at 2 14) (split_4 a b zeros d e f g zeros text z)
          ∙ number_at-text 2 most 14 (((a ++ b) ++ zeros) ++ d) _ four most_fits;
      kind_is = ap (number_at 2 16) (split_5 a b zeros d e f g zeros text z)
          ∙ number_at-text 2 0 16 ((((a ++ b) ++ zeros) ++ d) ++ e) _ five (omega arith);
      size_is = ap (number_at 2 18) (split_6 a b zeros d e f g zeros text z)
          ∙ number_at-text 2 size 18 (((((a ++ b) ++ zeros) ++ d) ++ e) ++ f) _ six size_fits;
      unique_is = ap (λ (xs : List ℕ). get_or xs 23 0) (split_7 a b zeros d e f g zeros text z)
          ∙ get_or-append_right _ (zeros ++ (text ++ z)) 20 23 0 seven (omega arith)
          ∙ get_or_append_left zeros (text ++ z) 0 3 (omega (arith, four_zeros)) ∙ last_zero;
      text_is = (
        replicate more 0,
        ap (take 488) behind ∙ take_all 488 (text ++ z) rest_length
            ∙ ap (λ (xs : List ℕ). text ++ xs) tail,
      );
    }

pub head_again : (head : Head) → head.root < 2 ^ 32 → head.pages < 2 ^ 32 → length head.text.items ≤ 487
    → IsHead (head_text head) head
unfolding head_text
head_again head root_fits pages_fits text_fits =
    let some = head.some_key in
    let short = head.short_key in
    let few = most_entries-bound head.length some in
    let is_laid = laid head.root head.pages head.length (most_entries head.length) (entry_size head.length)
    (replicate 4 0) head.text.items
    root_fits pages_fits (omega arith) (omega arith) (omega arith) text_fits refl refl in
    record {
      whole = is_laid.whole;
      root = is_laid.root_is;
      pages = is_laid.pages_is;
      key_length = is_laid.length_is;
      per_page = is_laid.most_is;
      kind = is_laid.kind_is;
      size = is_laid.size_is;
      unique = is_laid.unique_is;
      text = is_laid.text_is;
    }

-- page 0 of these numbers and this key expression
abbrev pub parts : ℕ → ℕ → ℕ → ℕ → ℕ → List ℕ → List ℕ
parts root pages key_length most size text = padded 512
    (number_text 4 root ++ number_text 4 pages ++ replicate 4 0 ++ number_text 2 key_length ++ number_text 2 most
    ++ number_text 2 0 ++ number_text 2 size ++ replicate 4 0 ++ text)

pub parts_written : (head : Head) (most size : ℕ) (text : List ℕ) → most ≡ most_entries head.length
    → size ≡ entry_size head.length → text ≡ head.text.items →
    parts head.root head.pages head.length most size text ≡ head_text head
unfolding head_text
parts_written head most size text most_is size_is text_is =
    ap (λ (n : ℕ). parts head.root head.pages head.length n size text) most_is
    ∙ ap (λ (n : ℕ). parts head.root head.pages head.length (most_entries head.length) n text) size_is
    ∙ ap (λ (xs : List ℕ). parts head.root head.pages head.length (most_entries head.length) (entry_size head.length)
    xs) text_is
