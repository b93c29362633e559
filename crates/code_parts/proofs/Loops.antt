-- Reading one thing after the other, as a loop does.
use Rattle.std.proofs.Common.{◌≡◌, ℕ, suc, ◌-◌, ◌+◌, ◌≤◌, ◌<◌, List, [], ◌++◌, Ok, Err, Some, None, refl, sym, ap, ◌∙◌}
use Rattle.std.proofs.Common.{append_assoc, arith}
use Rattle.std.proofs.lemmas.List.{append-nil}
use Rattle.code_parts.specs.declared.flaw.Unread.{Unread}
use Rattle.code_parts.specs.declared.flaw.Unread.TheVariants.{Short, Memory}
use Rattle.code_parts.specs.Reading.{Front, Reader, read_behind, give, Fails, Judged, judged_behind, put_before}
use Rattle.code_parts.specs.Reading.{several}

-- things read so far, and further ones
abbrev pub followed : {A : Type 0} → Judged (List A) → Judged (List A) → Judged (List A)
followed (Ok xs) (Ok ys) = Ok (xs ++ ys)
followed (Ok xs) (Err flaw) = Err flaw
followed (Err flaw) ys = Err flaw

-- what was read before, and what is still read
abbrev pub with_front : {A : Type 0} → Judged (List A) → Front (Judged (List A)) → Front (Judged (List A))
with_front front read = read_behind read (λ others. give (followed front others))

regroup : {A : Type 0} (front : Judged (List A)) (one : Judged A) (read : Front (Judged (List A)))
    → with_front front (read_behind read (λ others. give (put_before one others)))
    ≡ with_front (judged_behind front one) read
regroup front one None = refl
regroup (Ok xs) (Ok x) (Some (Ok ys, rest)) = ap (λ (zs : List _). Some (Ok zs, rest)) (simp append_assoc)
regroup (Ok xs) (Ok x) (Some (Err f, rest)) = refl
regroup (Ok xs) (Err f) (Some read) = refl
regroup (Err f) one (Some read) = refl

pub goes_on : {A : Type 0} (one : Reader (Judged A)) (front : Judged (List A)) (count i : ℕ) (bytes : List ℕ)
    (n : Judged A) (after : List ℕ) (total : Front (Judged (List A))) → i < count → one bytes ≡ Some (n, after)
    → with_front front (several one (count - i) bytes) ≡ total
    → with_front (judged_behind front n) (several one (count - (i + 1)) after) ≡ total
unfolding several
goes_on one front count i bytes n after total lt h so_far =
    let k : count - i ≡ suc (count - (i + 1)) = omega arith in
    let step : with_front front (several one (count - i) bytes)
    ≡ with_front (judged_behind front n) (several one (count - (i + 1)) after) =
    rw (k, h) (regroup front n (several one (count - (i + 1)) after)) in
    sym step ∙ so_far

pub ends : {A : Type 0} (one : Reader (Judged A)) (e : Unread) (front : Judged (List A)) (count i : ℕ) (bytes : List ℕ)
    (total : Front (Judged (List A))) → i < count → Fails e (one bytes)
    → with_front front (several one (count - i) bytes) ≡ total → Fails e total
unfolding several
ends {A} one Short front count i bytes total lt h so_far =
    let k : count - i ≡ suc (count - (i + 1)) = omega arith in
    let step : with_front front (several one (count - i) bytes) ≡ None = rw (k, h) refl in
    sym so_far ∙ step
ends one Memory front count i bytes total lt h so_far = tt

pub is_done : {A : Type 0} (one : Reader (Judged A)) (front : Judged (List A)) (count i : ℕ) (bytes : List ℕ)
    (total : Front (Judged (List A))) → count ≤ i → with_front front (several one (count - i) bytes) ≡ total
    → total ≡ Some (front, bytes)
unfolding several
is_done {A} one front count i bytes total le so_far =
    let k : count - i ≡ 0 = omega arith in
    let step : with_front front (several one (count - i) bytes) ≡ Some (followed front (Ok []), bytes) = rw k refl in
    sym so_far ∙ step ∙ ap (λ (xs : Judged (List A)). Some (xs, bytes)) (all_of front)
  where
    all_of : (front : Judged (List A)) → followed front (Ok []) ≡ front
    all_of (Ok xs) = ap (λ (ys : List A). Ok ys) (append-nil xs)
    all_of (Err f) = refl
