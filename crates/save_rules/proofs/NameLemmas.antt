-- A file's name says what it can hold.
use Rattle.std.proofs.Common.{◌≡◌, ◌↔◌, inl, inr, ⊎_elim, ℕ, ◌∷◌, [], List, ◌++◌, get_or, refl, sym, ap, ◌∙◌, arith, lit<, ◌<◌}
use Rattle.std.proofs.Common.{append_assoc, codes, length, Bool, IsTrue}
use Rattle.save_rules.specs.Recorded.{IsDeclaredFile, IsDone}
use Rattle.save_rules.specs.Unchanged.{IsTableName, IsIndexName, HoldOneTable, HoldOneIndex, HoldTheSame}
use Rattle.save_rules.proofs.EndingLemmas.{one_ending}

-- texts that differ at a place aren't equal
differ : (place : ℕ) (xs ys : List ℕ) → get_or xs place 0 < get_or ys place 0 → xs ≡ ys → ⊥
differ place xs ys less e =
    let same : get_or xs place 0 ≡ get_or ys place 0 = ap (λ (zs : List ℕ). get_or zs place 0) e in
    omega arith

-- no name has two endings whose last bytes differ
pub no_two : (name : List ℕ) → IsTableName name → IsIndexName name → ⊥
no_two name table index =
    differ 1 (codes ".DBF") (codes ".NDX") (lit< tt)
    (one_ending table.0 index.0 (codes ".DBF") (codes ".NDX") refl (sym table.2 ∙ index.2))

not_done : (journal name ending : List ℕ) → IsDone journal name → IsDeclaredFile ending name → length ending ≡ 4
    → get_or ending 0 0 ≡ 46 → ⊥
not_done journal name ending done declared long point =
    let last = one_ending declared.0 (journal ++ 46 ∷ []) ending (codes "done") long
    (sym declared.2 ∙ done.1 ∙ sym (append_assoc journal (46 ∷ []) (codes "done"))) in
    differ 0 ending (codes "done") (rw point (lit< tt)) last

pub done_alone : (journal name read new : List ℕ) → IsDone journal name → HoldTheSame name read new → ⊥
done_alone journal name read new done same =
    ⊎_elim (λ (table, held). not_done journal name (codes ".DBF") done table refl refl)
    (λ (index, held). not_done journal name (codes ".NDX") done index refl refl) same

-- a table's file holds what it held if it holds the same table, and an index's if it holds the same index
pub by_table : (name read new : List ℕ) → IsTableName name → HoldTheSame name read new ↔ HoldOneTable read new
by_table name read new table =
    (⊎_elim (λ (named, held). held) (λ (index, held). absurd (no_two name table index)), λ held. inl (table, held))

pub by_index : (name read new : List ℕ) → IsIndexName name → HoldTheSame name read new ↔ HoldOneIndex read new
by_index name read new index =
    (⊎_elim (λ (table, held). absurd (no_two name table index)) (λ (named, held). held), λ held. inr (index, held))

-- a test of one fact tests another that holds just where it does
pub through : (P Q : Type 0) → Q ↔ P → (same : Bool) → IsTrue same ↔ P → IsTrue same ↔ Q
through P Q both same test = (λ yes. both.1 (test.0 yes), λ holds. test.1 (both.0 holds))
