-- Moves over lists that list the rows.
use Rattle.std.proofs.Common.{◌≡◌, ℕ, zero, suc, ◌+◌, ◌-◌, ◌<◌, ◌≤◌, Bool, true, false, List, [], ◌∷◌, ◌++◌, length}
use Rattle.std.proofs.Common.{get_or, refl, sym, ap, ◌∙◌, arith}
use Rattle.std.specs.List.{Contains}
use Rattle.std.proofs.Math.ListN.{get_or-eq_default}
use Rattle.dbf_file.specs.Rows.{Row, row_at, no_row}
use Rattle.key_lists.specs.Pairs.{Pair}
use Rattle.shape.specs.declared.parts.KeyPart.{KeyPart}
use Rattle.shape.specs.Keys.{key_of, cased}
use Rattle.row_keys.specs.Lists.{index_list, row_pair}
use Rattle.row_keys.proofs.IndexLemmas.{ListLaw}
use Rattle.row_moves.proofs.RecordOrder.{length-records}
use Rattle.row_moves.specs.Orders.{records_from, record_order}

records_at : (n count k : ℕ) (d : Pair) → k < count → get_or (records_from n count) k d ≡ ([], n + k)
records_at n zero k d lt = absurd (omega arith)
records_at n (suc count) zero d lt = (let e : n ≡ n + 0 = omega arith in ap (λ m. ([], m)) e)
records_at n (suc count) (suc k) d lt =
    (let e : n + 1 + k ≡ n + suc k = omega arith in records_at (n + 1) count k d (omega arith) ∙ ap (λ m. ([], m)) e)

-- the records are those from 1 to their count
pub in_records : (count : ℕ) (p : Pair) → Contains (record_order count) p → (1 ≤ p.1) × (p.1 ≤ count)
in_records count p there =
    let within : there.0 < count = omega (arith, there.1, length-records 1 count) in
    let number : p.1 ≡ 1 + there.0 = ap (λ (q : Pair). q.1) (sym there.2 ∙ records_at 1 count there.0 p within) in
    (omega arith, omega arith)

pair_number : (parts : List KeyPart) (rows : List Row) (r : ℕ) (p : Pair) → p ≡ row_pair parts rows r → p.1 ≡ r + 1
unfolding row_pair
pair_number parts rows r p e = ap (λ (q : Pair). q.1) e

-- a list of the rows lists their records
pub in_list : ListLaw → (parts : List KeyPart) (rows : List Row) (p : Pair) → Contains (index_list parts rows) p
    → (1 ≤ p.1) × (p.1 ≤ length rows)
in_list law parts rows p there =
    let w = (law parts rows).only p.0 p.1 there in
    let number : p.1 ≡ w.0 + 1 = pair_number parts rows w.0 p w.2 in
    (omega arith, omega (arith, w.1))

-- where there is no row there is no key
pub no_key : (parts : List KeyPart) → key_of parts [] ≡ []
no_key [] = refl
no_key (part ∷ parts) = ap (λ k. k ++ key_of parts []) (no_text part.upper) ∙ no_key parts
  where
    no_text : (upper : Bool) → cased upper [] ≡ []
    no_text true = refl
    no_text false = refl

-- nor where there is no such record
pub no_record : (parts : List KeyPart) (rows : List Row) (n : ℕ) → length rows ≤ n - 1
    → key_of parts (row_at rows (n - 1)).texts ≡ []
no_record parts rows n le = ap (λ (r : Row). key_of parts r.texts) (get_or-eq_default rows no_row le) ∙ no_key parts
