-- Reading one item after the other, as a loop does.
use Rattle.std.proofs.Common.{◌≡◌, ℕ, suc, ◌-◌, ◌+◌, ◌≤◌, ◌<◌, Bool, true, false, List, [], ◌∷◌, ◌++◌, Result, Ok, Err}
use Rattle.std.proofs.Common.{refl, sym, ◌∙◌, arith}
use Rattle.code_parts.specs.Reading.{Reader, Judged}
use Rattle.xcode.specs.declared.fault.CodeFault.{CodeFault}
use Rattle.xcode.specs.declared.fault.CodeFault.TheVariants.{Magic, Version, Short, Limit, Operation, Shape, Extra}
use Rattle.xcode.specs.declared.fault.CodeFault.TheVariants.{Memory}
use Rattle.xcode.specs.Decoding.{FileFails, bind, checked, item_told, items_at}

pub goes_on : {A : Type 0} (one : Reader (Judged A)) (follows : List A → A → Bool) (count i : ℕ) (earlier : List A)
    (bytes : List ℕ) (n : A) (after : List ℕ) (total : Result (List A × List ℕ) CodeFault) → i < count
    → item_told (one bytes) ≡ Ok (n, after) → follows earlier n ≡ true
    → items_at one follows (count - i) earlier bytes ≡ total
    → items_at one follows (count - (i + 1)) (earlier ++ n ∷ []) after ≡ total
unfolding items_at
goes_on one follows count i earlier bytes n after total lt h legal so_far =
    let k : count - i ≡ suc (count - (i + 1)) = omega arith in
    let step : items_at one follows (count - i) earlier bytes
    ≡ items_at one follows (count - (i + 1)) (earlier ++ n ∷ []) after = rw (k, h, legal) refl in
    sym step ∙ so_far

fault_of : {A : Type 0} (e : CodeFault) (first : Result A CodeFault) → FileFails e first
    → {B : Type 0} (f : A → Result B CodeFault) → FileFails e (bind first f)
fault_of Magic first h f = rw h refl
fault_of Version first h f = rw h refl
fault_of Short first h f = rw h refl
fault_of Limit first h f = rw h refl
fault_of Operation first h f = rw h refl
fault_of Shape first h f = rw h refl
fault_of Extra first h f = rw h refl
fault_of Memory first h f = tt

pub ends : {A : Type 0} (one : Reader (Judged A)) (follows : List A → A → Bool) (e : CodeFault) (count i : ℕ)
    (earlier : List A) (bytes : List ℕ) (total : Result (List A × List ℕ) CodeFault) → i < count
    → FileFails e (item_told (one bytes))
    → items_at one follows (count - i) earlier bytes ≡ total → FileFails e total
unfolding items_at
ends {A} one follows e count i earlier bytes total lt h so_far =
    let k : count - i ≡ suc (count - (i + 1)) = omega arith in
    let more = λ (x : A × List ℕ). bind (checked Shape (follows earlier x.0) x)
    (λ y. items_at one follows (count - (i + 1)) (earlier ++ y.0 ∷ []) y.1) in
    let unrolled : bind (item_told (one bytes)) more ≡ total = rw k at so_far in
    let here : FileFails e (bind (item_told (one bytes)) more) = fault_of e (item_told (one bytes)) h more in
    rw unrolled at here

pub is_refused : {A : Type 0} (one : Reader (Judged A)) (follows : List A → A → Bool) (count i : ℕ) (earlier : List A)
    (bytes : List ℕ) (n : A) (after : List ℕ) (total : Result (List A × List ℕ) CodeFault) → i < count
    → item_told (one bytes) ≡ Ok (n, after) → follows earlier n ≡ false
    → items_at one follows (count - i) earlier bytes ≡ total → total ≡ Err Shape
unfolding items_at
is_refused {A} one follows count i earlier bytes n after total lt h illegal so_far =
    let k : count - i ≡ suc (count - (i + 1)) = omega arith in
    let step : items_at one follows (count - i) earlier bytes ≡ Err Shape = rw (k, h, illegal) refl in
    sym so_far ∙ step

pub is_done : {A : Type 0} (one : Reader (Judged A)) (follows : List A → A → Bool) (count i : ℕ) (earlier : List A)
    (bytes : List ℕ) (total : Result (List A × List ℕ) CodeFault) → count ≤ i
    → items_at one follows (count - i) earlier bytes ≡ total → total ≡ Ok (earlier, bytes)
unfolding items_at
is_done {A} one follows count i earlier bytes total le so_far =
    let k : count - i ≡ 0 = omega arith in
    let step : items_at one follows (count - i) earlier bytes ≡ Ok (earlier, bytes) = rw k refl in
    sym so_far ∙ step
