-- Entries as they are written.
use Rattle.std.proofs.Common.{◌≡◌, ◌∙◌, ℕ, zero, suc, ◌+◌, ◌-◌, ◌*◌, ◌^◌, ◌<◌, ◌≤◌, min, List, [], ◌∷◌, ◌++◌, length}
use Rattle.std.proofs.Common.{take, drop, replicate, refl, sym, ap, arith, length-append, append_assoc, append-nil}
use Rattle.std.proofs.lemmas.List.{length-take, take_min, take_all, take_at, drop_at, length-replicate}
use Rattle.std.specs.List.{flat_map}
use Rattle.std.proofs.Math.Nat.{min_comm, zero-mul, suc-mul, add_comm, add-mul, one-mul}
use Rattle.ndx_page.specs.declared.page.PageEntry.{PageEntry}
use Rattle.ndx_page.specs.Numbers.{number_at, number_text}
use Rattle.ndx_page.specs.Layout.{entry_size}
use Rattle.ndx_page.specs.PageLayout.{entry_at, entries_at, entry_text}
use Rattle.ndx_page.proofs.NumberLemmas.{length-number_text, number_at-text}

-- what an entry says, without the zeros behind it
abbrev said : ℕ → PageEntry → List ℕ
said l e = number_text 4 e.child ++ number_text 4 e.number ++ take l e.key.items

length-said : (l : ℕ) (e : PageEntry) → length (said l e) ≡ 8 + min l (length e.key.items)
length-said l e =
    length-append (number_text 4 e.child ++ number_text 4 e.number) (take l e.key.items)
    ∙ ap (λ (n : ℕ). n + length (take l e.key.items)) (length-append (number_text 4 e.child) (number_text 4 e.number))
    ∙ rw (length-number_text 4 e.child, length-number_text 4 e.number, length-take l e.key.items) refl

-- an entry takes as much room as the next
pub length-entry_text : (l : ℕ) (e : PageEntry) → length (entry_text l e) ≡ entry_size l
unfolding entry_text
length-entry_text l e =
    let whole = length-append (said l e) (replicate (entry_size l - length (said l e)) 0) in
    let zeros = length-replicate {A = ℕ} (entry_size l - length (said l e)) 0 in
    let front = length-said l e in
    omega (arith, whole, zeros, front)

-- the entry, written part by part
pub entry_written : (old : List ℕ) (l shown : ℕ) (e : PageEntry) → shown ≡ min (length e.key.items) l →
    (((old ++ number_text 4 e.child) ++ number_text 4 e.number) ++ take shown e.key.items) ++ replicate
    (entry_size l - 8 - shown) 0 ≡ old ++ entry_text l e
unfolding entry_text
entry_written old l shown e is_min =
    let front = length-said l e in
    let count : entry_size l - 8 - shown ≡ entry_size l - length (said l e) = omega (arith, front) in
    let cut : take shown e.key.items ≡ take l e.key.items =
    ap (λ (n : ℕ). take n e.key.items) (is_min ∙ min_comm (length e.key.items) l) ∙ take_min l e.key.items in
    ap (λ (n : ℕ). (((old ++ number_text 4 e.child) ++ number_text 4 e.number) ++ take shown e.key.items) ++ replicate n
    0) count
    ∙ ap (λ (key : List ℕ). (((old ++ number_text 4 e.child) ++ number_text 4 e.number) ++ key) ++ replicate
    (entry_size l - length (said l e)) 0) cut
    ∙ simp append_assoc

-- numbers that four bytes hold
pub record HasNumbers (e : PageEntry) : Type 0 where
  pub child : e.child < 2 ^ 32
  pub number : e.number < 2 ^ 32

made : ℕ → ℕ → List ℕ → PageEntry
made child number items = record { child = child; number = number; key = record { items = items } }

-- an entry reads as it was written
pub entry_again : (l place : ℕ) (e : PageEntry) (front rest : List ℕ) → length front ≡ place → HasNumbers e
    → length e.key.items ≡ l →
    entry_at l place (front ++ (entry_text l e ++ rest)) ≡ e
unfolding entry_at entry_text made
entry_again l place e front rest at_place fits key_length =
    let bytes : List ℕ = front ++ (entry_text l e ++ rest) in
    let zeros : List ℕ = replicate (entry_size l - length (said l e)) 0 in
    let child_text : List ℕ = number_text 4 e.child in
    let number_bytes : List ℕ = number_text 4 e.number in
    let key : List ℕ = take l e.key.items in
    let first : bytes ≡ front ++ (child_text ++ (number_bytes ++ (key ++ (zeros ++ rest)))) = simp append_assoc in
    let second : bytes ≡ (front ++ child_text) ++ (number_bytes ++ (key ++ (zeros ++ rest))) = simp append_assoc in
    let third : bytes ≡ ((front ++ child_text) ++ number_bytes) ++ (key ++ (zeros ++ rest)) = simp append_assoc in
    let child_length = length-number_text 4 e.child in
    let number_length = length-number_text 4 e.number in
    let behind_child : length (front ++ child_text) ≡ place + 4 =
    length-append front child_text ∙ omega (arith, at_place, child_length) in
    let behind_number : length ((front ++ child_text) ++ number_bytes) ≡ place + 8 =
    length-append (front ++ child_text) number_bytes ∙ omega (arith, behind_child, number_length) in
    let whole_key : key ≡ e.key.items = take_all l e.key.items (omega (arith, key_length)) in
    let child : number_at 4 place bytes ≡ e.child =
    ap (number_at 4 place) first ∙ number_at-text 4 e.child place front _ at_place fits.child in
    let number : number_at 4 (place + 4) bytes ≡ e.number = ap (number_at 4 (place + 4)) second
    ∙ number_at-text 4 e.number (place + 4) (front ++ child_text) _ behind_child fits.number in
    let rest_key : drop (place + 8) bytes ≡ key ++ (zeros ++ rest) =
    ap (drop (place + 8)) third ∙ drop_at ((front ++ child_text) ++ number_bytes) _ (place + 8) behind_number in
    let key_is : take l (drop (place + 8) bytes) ≡ e.key.items =
    ap (take l) rest_key ∙ take_at key (zeros ++ rest) l (ap length whole_key ∙ key_length) ∙ whole_key in
    ap (λ (n : ℕ). made n (number_at 4 (place + 4) bytes) (take l (drop (place + 8) bytes))) child
    ∙ ap (λ (n : ℕ). made e.child n (take l (drop (place + 8) bytes))) number
    ∙ ap (λ (items : List ℕ). made e.child e.number items) key_is

-- the bytes of entries
pub length-entries_text : (l : ℕ) (es : List PageEntry) → length (flat_map (entry_text l) es) ≡ length es * entry_size l
length-entries_text l [] = sym (zero-mul (entry_size l))
length-entries_text l (e ∷ es) =
    length-append (entry_text l e) (flat_map (entry_text l) es)
    ∙ rw (length-entry_text l e, length-entries_text l es, suc-mul (length es) (entry_size l))
    (add_comm (entry_size l) (length es * entry_size l))

-- entries that fit
abbrev pub AreFit : ℕ → List PageEntry → Type 0
AreFit l [] = Unit {0}
AreFit l (e ∷ es) = HasNumbers e × (length e.key.items ≡ l) × AreFit l es

-- and they read as they were written
pub entries_again : (l place : ℕ) (es : List PageEntry) (front rest : List ℕ) → length front ≡ place → AreFit l es →
    entries_at l (length es) place (front ++ (flat_map (entry_text l) es ++ rest)) ≡ es
unfolding entries_at
entries_again l place [] front rest at_place fit = refl
entries_again l place (e ∷ es) front rest at_place fit =
    let others : List ℕ = flat_map (entry_text l) es in
    let bytes : List ℕ = front ++ ((entry_text l e ++ others) ++ rest) in
    let first : bytes ≡ front ++ (entry_text l e ++ (others ++ rest)) = simp append_assoc in
    let second : bytes ≡ (front ++ entry_text l e) ++ (others ++ rest) = simp append_assoc in
    let size = length-entry_text l e in
    let behind : length (front ++ entry_text l e) ≡ place + entry_size l =
    length-append front (entry_text l e) ∙ omega (arith, at_place, size) in
    let here : entry_at l place bytes ≡ e =
    ap (entry_at l place) first ∙ entry_again l place e front (others ++ rest) at_place fit.0 fit.1 in
    let there : entries_at l (length es) (place + entry_size l) bytes ≡ es =
    ap (entries_at l (length es) (place + entry_size l)) second ∙ entries_again l (place + entry_size l) es
    (front ++ entry_text l e) rest behind fit.2 in
    ap (λ (x : PageEntry). x ∷ entries_at l (length es) (place + entry_size l) bytes) here
    ∙ ap (λ (xs : List PageEntry). e ∷ xs) there

-- one more of the entries that are told
pub entries_more : (l count index : ℕ) (bytes : List ℕ) (es whole : List PageEntry) → index < count →
    es ++ entries_at l (count - index) (4 + index * entry_size l) bytes ≡ whole →
    (es ++ entry_at l (4 + index * entry_size l) bytes ∷ []) ++ entries_at l (count - (index + 1))
    (4 + (index + 1) * entry_size l) bytes ≡ whole
unfolding entries_at
entries_more l count index bytes es whole within left =
    let size = entry_size l in
    let place : ℕ = 4 + index * size in
    let fewer : ℕ = count - (index + 1) in
    let one_less : count - index ≡ suc fewer = omega arith in
    let grown = add-mul index 1 size in
    let one = one-mul size in
    let next : 4 + (index + 1) * size ≡ place + size = omega (arith, grown, one) in
    let here = entry_at l place bytes in
    append_assoc es (here ∷ []) (entries_at l fewer (4 + (index + 1) * size) bytes)
    ∙ ap (λ (n : ℕ). es ++ (here ∷ entries_at l fewer n bytes)) next
    ∙ ap (λ (n : ℕ). es ++ entries_at l n place bytes) (sym one_less)
    ∙ left

pub length-entries_at : (l n place : ℕ) (bytes : List ℕ) → length (entries_at l n place bytes) ≡ n
unfolding entries_at
length-entries_at l zero place bytes = refl
length-entries_at l (suc n) place bytes =
    let rest = length-entries_at l n (place + entry_size l) bytes in omega (arith, rest)

-- before the first of them
pub entries_none : (l count : ℕ) (bytes : List ℕ) (es : List PageEntry) → es ≡ []
    → es ++ entries_at l (count - 0) (4 + 0 * entry_size l) bytes ≡ entries_at l count 4 bytes
entries_none l count bytes es none =
    ap (λ (xs : List PageEntry). xs ++ entries_at l (count - 0) (4 + 0 * entry_size l) bytes) none
    ∙ ap (λ (n : ℕ). entries_at l n (4 + 0 * entry_size l) bytes) (omega arith)
    ∙ ap (λ (n : ℕ). entries_at l count n bytes) (omega (arith, zero-mul (entry_size l)))

-- behind the last of them
pub entries_all : (l count index : ℕ) (bytes : List ℕ) (es : List PageEntry) → count ≤ index
    → es ++ entries_at l (count - index) (4 + index * entry_size l) bytes ≡ entries_at l count 4 bytes
    → es ≡ entries_at l count 4 bytes
unfolding entries_at
entries_all l count index bytes es all left =
    let none : count - index ≡ 0 = omega arith in
    sym (append-nil es) ∙ ap (λ (n : ℕ). es ++ entries_at l n (4 + index * entry_size l) bytes) (sym none) ∙ left
