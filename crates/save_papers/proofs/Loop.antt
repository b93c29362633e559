-- Reading entries one after the other, as a loop does.
use Rattle.std.proofs.Common.{◌≡◌, ℕ, suc, ◌-◌, ◌+◌, ◌≤◌, ◌<◌, List, [], ◌∷◌, ◌++◌, Option, Some, None, refl, sym, ap}
use Rattle.std.proofs.Common.{◌∙◌, append_assoc, arith}
use Rattle.std.proofs.lemmas.List.{append-nil}
use Rattle.save_papers.specs.declared.paper.PaperError.{PaperError}
use Rattle.save_papers.specs.declared.paper.PaperError.TheVariants as errors
use Rattle.save_papers.specs.Papers.{EntrySays}
use Rattle.save_papers.specs.Reading.{◌>>=◌, PaperFails, paper_entry_at, paper_entries_at}

-- what was read before, and what is still read
abbrev pub with_front : List EntrySays → Option (List EntrySays × List ℕ) → Option (List EntrySays × List ℕ)
with_front front read = read >>= λ x. Some (front ++ x.0, x.1)

regroup : (front : List EntrySays) (n : EntrySays) (read : Option (List EntrySays × List ℕ))
    → with_front front (read >>= λ x. Some (n ∷ x.0, x.1)) ≡ with_front (front ++ n ∷ []) read
regroup front n (Some x) = ap (λ (ns : List EntrySays). Some (ns, x.1)) (simp append_assoc)
regroup front n None = refl

pub goes_on : (front : List EntrySays) (count i : ℕ) (bytes : List ℕ) (n : EntrySays) (after : List ℕ)
    (total : Option (List EntrySays × List ℕ)) → i < count → paper_entry_at bytes ≡ Some (n, after)
    → with_front front (paper_entries_at (count - i) bytes) ≡ total
    → with_front (front ++ n ∷ []) (paper_entries_at (count - (i + 1)) after) ≡ total
unfolding paper_entries_at
goes_on front count i bytes n after total lt h so_far =
    let k : count - i ≡ suc (count - (i + 1)) = omega arith in
    let one : with_front front (paper_entries_at (count - i) bytes)
    ≡ with_front (front ++ n ∷ []) (paper_entries_at (count - (i + 1)) after) =
    rw (k, h) (regroup front n (paper_entries_at (count - (i + 1)) after)) in
    sym one ∙ so_far

pub ends : (e : PaperError) (front : List EntrySays) (count i : ℕ) (bytes : List ℕ)
    (total : Option (List EntrySays × List ℕ)) → i < count → PaperFails e (paper_entry_at bytes)
    → with_front front (paper_entries_at (count - i) bytes) ≡ total → PaperFails e total
unfolding paper_entries_at
ends errors.Memory front count i bytes total lt h so_far = tt
ends errors.Foreign front count i bytes total lt h so_far =
    let k : count - i ≡ suc (count - (i + 1)) = omega arith in
    let one : with_front front (paper_entries_at (count - i) bytes) ≡ None = rw (k, h) refl in
    sym so_far ∙ one

pub is_done : (front : List EntrySays) (count i : ℕ) (bytes : List ℕ) (total : Option (List EntrySays × List ℕ))
    → count ≤ i → with_front front (paper_entries_at (count - i) bytes) ≡ total → total ≡ Some (front, bytes)
unfolding paper_entries_at
is_done front count i bytes total le so_far =
    let k : count - i ≡ 0 = omega arith in
    let one : with_front front (paper_entries_at (count - i) bytes) ≡ Some (front, bytes) =
    rw k (ap (λ (ns : List EntrySays). Some (ns, bytes)) (append-nil front)) in
    sym so_far ∙ one
