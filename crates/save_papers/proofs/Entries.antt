-- Entries that are read are spelled so, and those that are spelled so are read.
use Rattle.std.proofs.Common.{◌≡◌, ℕ, zero, suc, List, [], ◌∷◌, ◌++◌, length, All, Some, refl}
use Rattle.std.proofs.Common.{ap, subst, ◌∙◌, append_assoc}
use Rattle.std.specs.List.{flat_map, AllByRecursion}
use Rattle.std.proofs.lemmas.List.Elements.{All-from_recursion, All-head, All-tail}
use Rattle.std.proofs.lemmas.List.Concat.{flat_map-cons}
use Rattle.save_papers.specs.declared.paper.PaperEntry.{PaperEntry}
use Rattle.save_papers.specs.Papers.{EntrySays, string, flagged_sum, paper_entry_text, entry_view, entry_views}
use Rattle.save_papers.specs.Papers.{FitsEntry}
use Rattle.save_papers.specs.Reading.{◌>>=◌, string_at, sum_at, flagged_sum_at, paper_entry_at, paper_entries_at}
use Rattle.save_papers.proofs.Fields.{IsBytes, bind_some, some_is, Takes, Takes-then, string_takes, string_again}
use Rattle.save_papers.proofs.Fields.{sum_takes, sum_again, flagged_takes, flagged_again}

pub entry_takes : (bytes : List ℕ) (x : EntrySays × List ℕ) → IsBytes bytes → paper_entry_at bytes ≡ Some x
    → Takes bytes (paper_entry_text x.0) x.1 × FitsEntry x.0
unfolding paper_entry_at
entry_takes bytes x fits e =
    let a = bind_some (string_at bytes)
    (λ name. string_at name.1 >>= λ beside. flagged_sum_at beside.1 >>= λ old. sum_at old.1 >>= λ new. Some
    (record { name = name.0; beside = beside.0; old = old.0; new = new.0 }, new.1)) x e in
    let b = bind_some (string_at a.0.1)
    (λ beside. flagged_sum_at beside.1 >>= λ old. sum_at old.1 >>= λ new. Some
    (record { name = a.0.0; beside = beside.0; old = old.0; new = new.0 }, new.1)) x a.2 in
    let c = bind_some (flagged_sum_at b.0.1)
    (λ old. sum_at old.1 >>= λ new. Some (record { name = a.0.0; beside = b.0.0; old = old.0; new = new.0 }, new.1))
    x b.2 in
    let d = bind_some (sum_at c.0.1)
    (λ new. Some (record { name = a.0.0; beside = b.0.0; old = c.0.0; new = new.0 }, new.1)) x c.2 in
    let t0 = string_takes bytes a.0.0 a.0.1 fits a.1 in
    let t1 = string_takes a.0.1 b.0.0 b.0.1 t0.0.rest_fits b.1 in
    let t2 = flagged_takes b.0.1 c.0.0 c.0.1 t1.0.rest_fits c.1 in
    let t3 = sum_takes c.0.1 d.0.0 d.0.1 t2.0.rest_fits d.1 in
    let e01 = Takes-then bytes (string a.0.0) a.0.1 (string b.0.0) b.0.1 t0.0 t1.0 in
    let e02 = Takes-then bytes (string a.0.0 ++ string b.0.0) b.0.1 (flagged_sum c.0.0) c.0.1 e01 t2.0 in
    let e03 = Takes-then bytes ((string a.0.0 ++ string b.0.0) ++ flagged_sum c.0.0) c.0.1 d.0.0 d.0.1 e02 t3.0 in
    let made : EntrySays × List ℕ = (record { name = a.0.0; beside = b.0.0; old = c.0.0; new = d.0.0 }, d.0.1) in
    subst (λ (y : EntrySays × List ℕ). Takes bytes (paper_entry_text y.0) y.1 × FitsEntry y.0) (some_is made x d.2)
    (e03, record { name = t0.1; beside = t1.1; old = t2.1; new = t3.1 })

pub entry_again : (e : EntrySays) (rest : List ℕ) → FitsEntry e → paper_entry_at (paper_entry_text e ++ rest)
    ≡ Some (e, rest)
unfolding paper_entry_at
entry_again e rest fits =
    let regrouped : paper_entry_text e ++ rest ≡ string e.name
    ++ (string e.beside ++ (flagged_sum e.old ++ (e.new ++ rest))) =
    append_assoc ((string e.name ++ string e.beside) ++ flagged_sum e.old) e.new rest
    ∙ append_assoc (string e.name ++ string e.beside) (flagged_sum e.old) (e.new ++ rest)
    ∙ append_assoc (string e.name) (string e.beside) (flagged_sum e.old ++ (e.new ++ rest)) in
    ap paper_entry_at regrouped ∙ rw (
      string_again e.name (string e.beside ++ (flagged_sum e.old ++ (e.new ++ rest)))
          fits.name,
      string_again e.beside (flagged_sum e.old ++ (e.new ++ rest)) fits.beside,
      flagged_again e.old
          (e.new ++ rest) fits.old,
      sum_again e.new rest fits.new,
    ) refl

pub entries_take : (n : ℕ) (bytes : List ℕ) (x : List EntrySays × List ℕ) → IsBytes bytes
    → paper_entries_at n bytes ≡ Some x → Takes bytes (flat_map paper_entry_text x.0) x.1 × (length x.0 ≡ n)
    × AllByRecursion FitsEntry x.0
unfolding paper_entries_at
entries_take zero bytes x fits e =
    subst (λ (y : List EntrySays × List ℕ). Takes bytes (flat_map paper_entry_text y.0) y.1 × (length y.0 ≡ 0)
    × AllByRecursion FitsEntry y.0) (some_is ([], bytes) x e) (record { parts = refl; rest_fits = fits }, refl, tt)
entries_take (suc n) bytes x fits e =
    let a = bind_some (paper_entry_at bytes)
    (λ first. paper_entries_at n first.1 >>= λ others. Some (first.0 ∷ others.0, others.1)) x e in
    let b = bind_some (paper_entries_at n a.0.1) (λ others. Some (a.0.0 ∷ others.0, others.1)) x a.2 in
    let first = entry_takes bytes a.0 fits a.1 in
    let second = entries_take n a.0.1 b.0 first.0.rest_fits b.1 in
    let both = Takes-then bytes (paper_entry_text a.0.0) a.0.1 (flat_map paper_entry_text b.0.0) b.0.1 first.0
    second.0 in
    let made : List EntrySays × List ℕ = (a.0.0 ∷ b.0.0, b.0.1) in
    subst (λ (y : List EntrySays × List ℕ). Takes bytes (flat_map paper_entry_text y.0) y.1 × (length y.0 ≡ suc n)
    × AllByRecursion FitsEntry y.0) (some_is made x b.2)
    (rw flat_map-cons both, ap suc second.1, (first.1, second.2))

pub entries_again : (es : List EntrySays) (rest : List ℕ) → AllByRecursion FitsEntry es
    → paper_entries_at (length es) (flat_map paper_entry_text es ++ rest) ≡ Some (es, rest)
unfolding paper_entries_at
entries_again [] rest fits = refl
entries_again (e ∷ es) rest fits =
    let regrouped : flat_map paper_entry_text (e ∷ es) ++ rest ≡ paper_entry_text e
    ++ (flat_map paper_entry_text es ++ rest) = ap (λ (x : List ℕ). x ++ rest) (flat_map-cons paper_entry_text e es)
    ∙ append_assoc (paper_entry_text e) (flat_map paper_entry_text es) rest in
    ap (paper_entries_at (suc (length es))) regrouped
    ∙ rw (entry_again e (flat_map paper_entry_text es ++ rest) fits.0, entries_again es rest fits.1) refl

-- entries that fit, at each place
each_fits : (es : List PaperEntry) → AllByRecursion FitsEntry (entry_views es)
    → AllByRecursion (λ e. FitsEntry (entry_view e)) es
each_fits [] fits = tt
each_fits (e ∷ es) fits = (fits.0, each_fits es fits.1)

pub entry_fits : (es : List PaperEntry) → AllByRecursion FitsEntry (entry_views es)
    → All (λ e. FitsEntry (entry_view e)) es
entry_fits es fits = All-from_recursion (λ e. FitsEntry (entry_view e)) es (each_fits es fits)

pub fitting_entries : (es : List PaperEntry) → All (λ e. FitsEntry (entry_view e)) es
    → AllByRecursion FitsEntry (entry_views es)
fitting_entries [] fits = tt
fitting_entries (e ∷ es) fits = (
  All-head (λ e. FitsEntry (entry_view e)) e es fits,
  fitting_entries es (All-tail (λ e. FitsEntry (entry_view e)) e es fits),
)
