-- Bytes that are moved up, and what is written in their place.
use Rattle.std.proofs.Common.{◌≡◌, ◌∙◌, ℕ, ◌+◌, ◌-◌, ◌≤◌, List, ◌++◌, length, take, drop, sym, ap, arith, append_assoc}
use Rattle.std.proofs.Common.{length-append, length-drop}
use Rattle.std.proofs.lemmas.List.{drop-drop, take-take, take_at, drop_at, length-take-le, take-append-le}
use Rattle.std.proofs.lemmas.List.{drop-append-le}
use Rattle.std.proofs.lemmas.List.Edits.{take-paste, length-paste}
use Rattle.std.proofs.lemmas.List.{take_all}
use Rattle.std.proofs.Math.Seq.{drop-append-add}
use Rattle.std.specs.List.{copy_within}

-- moved to the end
pub moved_to_end : (xs ys : List ℕ) (start end size : ℕ) → start ≤ end → length xs ≡ end + size
    → ys ≡ copy_within xs start end (start + size) → ys ≡ take (start + size) xs ++ take (end - start) (drop start xs)
moved_to_end xs ys start end size le n e =
    let at : start + size ≤ length xs = omega arith in
    let some : end - start ≤ length (drop start xs) = omega (arith, length-drop start xs) in
    let long : length (copy_within xs start end (start + size)) ≡ length xs =
    length-paste xs (start + size) (drop start xs) (end - start) (omega arith) some in
    let whole : take ((start + size) + (end - start)) (copy_within xs start end (start + size))
    ≡ copy_within xs start end (start + size) =
    take_all ((start + size) + (end - start)) (copy_within xs start end (start + size)) (omega (arith, long)) in
    e ∙ sym whole ∙ take-paste xs (start + size) (drop start xs) (end - start) at some

-- moved down to a place, and what is left over taken off
pub moved_down : (xs ys : List ℕ) (start size end : ℕ) → start + size ≤ length xs → end ≡ length xs
    → ys ≡ copy_within xs (start + size) end start → take (end - size) ys ≡ take start xs ++ drop (start + size) xs
moved_down xs ys start size end le n e =
    let some : end - (start + size) ≤ length (drop (start + size) xs) = omega (arith, length-drop (start + size) xs) in
    let kept : end - size ≡ start + (end - (start + size)) = omega arith in
    ap (take (end - size)) e ∙ ap (λ i. take i (copy_within xs (start + size) end start)) kept
    ∙ take-paste xs start (drop (start + size) xs) (end - (start + size)) (omega arith) some
    ∙ ap (λ (m : List ℕ). take start xs ++ m)
    (take_all (end - (start + size)) (drop (start + size) xs) (omega (arith, length-drop (start + size) xs)))

-- a key and a number in the place of what was moved up
pub written_between : (start : ℕ) (old key number xs ys zs ws : List ℕ) → start ≤ length old
    → xs ≡ old ++ (key ++ number) → ys ≡ take (start + (length key + length number)) xs ++ take (length old - start)
    (drop start xs) → zs ≡ take start ys ++ (key ++ drop (start + length key) ys)
    → ws ≡ take (start + length key) zs ++ (number ++ drop ((start + length key) + length number) zs)
    → ws ≡ take start old ++ (key ++ (number ++ drop start old))
written_between start old key number xs ys zs ws le is moved first second =
    let more = key ++ number in
    let front : List ℕ = take (start + (length key + length number)) xs in
    let before : List ℕ = take start old in
    let behind : List ℕ = drop start old in
    let rest : List ℕ = drop (start + length key) ys in
    let all : length xs ≡ length old + (length key + length number) =
    omega (arith, ap (λ (m : List ℕ). length m) is, length-append old (key ++ number), length-append key number) in
    let front_size : length front ≡ start + (length key + length number) =
    length-take-le (start + (length key + length number)) xs (omega arith) in
    let before_size : length before ≡ start = length-take-le start old le in
    let tail : take (length old - start) (drop start xs) ≡ behind = ap
    (λ (m : List ℕ). take (length old - start) (drop start m)) is
    ∙ ap (take (length old - start)) (drop-append-le start old more le)
    ∙ take_at behind more (length old - start) (length-drop start old) in
    let ys_is : ys ≡ front ++ behind = moved ∙ ap (λ (m : List ℕ). front ++ m) tail in
    let head : take start ys ≡ before = ap (take start) ys_is ∙ take-append-le start front behind
    (omega (arith, front_size)) ∙ take-take start (start + (length key + length number)) xs (omega arith)
    ∙ ap (take start) is ∙ take-append-le start old more le in
    let zs_is : zs ≡ (before ++ key) ++ rest =
    first ∙ ap (λ (m : List ℕ). m ++ (key ++ rest)) head ∙ sym (append_assoc before key rest) in
    let size : length (before ++ key) ≡ start + length key = omega (arith, length-append before key, before_size) in
    let kept : take (start + length key) zs ≡ before ++ key =
    ap (take (start + length key)) zs_is ∙ take_at (before ++ key) rest (start + length key) size in
    let last : drop ((start + length key) + length number) zs ≡ behind = ap
    (drop ((start + length key) + length number)) zs_is
    ∙ ap (λ n. drop (n + length number) ((before ++ key) ++ rest)) (sym size)
    ∙ drop-append-add (before ++ key) rest (length number) ∙ drop-drop (length number) (start + length key) ys
    ∙ ap (drop ((start + length key) + length number)) ys_is ∙ drop_at front behind
    ((start + length key) + length number) (omega (arith, front_size)) in
    second ∙ ap (λ (m : List ℕ). m ++ (number ++ drop ((start + length key) + length number) zs)) kept
    ∙ ap (λ (m : List ℕ). (before ++ key) ++ (number ++ m)) last ∙ append_assoc before key (number ++ behind)
