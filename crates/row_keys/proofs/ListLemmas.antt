-- What an index lists, by the laws of lists in order.
use Rattle.std.proofs.Common.{◌≡◌, ℕ, zero, suc, ◌+◌, ◌<◌, ◌≤◌, Bool, true, false, cond, List, [], ◌∷◌, ◌++◌, length}
use Rattle.std.proofs.Common.{get_or, take, drop, set, refl, sym, ap, ◌∙◌, subst, arith}
use Rattle.std.specs.List.{Contains}
use Rattle.std.proofs.lemmas.List.{append-nil}
use Rattle.std.proofs.lemmas.List.Elements.{filter_more}
use Rattle.dbf_file.specs.Rows.{Row, row_at, no_row, with_mark}
use Rattle.key_lists.specs.Order.{Each, IsAscending, IsDistinct, in_order, inserted, without}
use Rattle.key_lists.specs.Pairs.{Pair, is_before}
use Rattle.key_lists.specs.Laws.{PutsInOrder, ChangesRows}
use Rattle.key_lists.proofs.Ordered.{Each-append, absent-Each, take_drop_at, set_at}
use Rattle.row_keys.specs.declared.building.Kept.{Kept}
use Rattle.row_keys.specs.declared.building.Kept.TheVariants.{Nothing}
use Rattle.shape.specs.declared.parts.KeyPart.{KeyPart}
use Rattle.shape.specs.Keys.{key_of}
use Rattle.row_keys.specs.Lists.{row_pairs, index_list, row_pair, is_kept, kept_rows, IsIndexList}

abbrev pub OrderLaw : Type 0
OrderLaw = (pairs : List Pair) → PutsInOrder pairs

abbrev pub RowsLaw : Type 0
RowsLaw = (front : List Pair) (p : Pair) (back : List Pair) → ChangesRows front p back

-- ---- pairs of rows

module _ (parts : List KeyPart) where
  -- the numbers go from the first on
  pub Each-row_pairs : (P : Pair → Type 0) (n m : ℕ) (rows : List Row) → n + length rows ≤ m
      → ((k : ℕ) (row : Row) → n ≤ k → k < m → P (key_of parts row.texts, k)) → Each P (row_pairs parts n rows)
  Each-row_pairs P n m [] le h = tt
  Each-row_pairs P n m (row ∷ rows) le h = (
    h n row (omega arith) (omega arith),
    Each-row_pairs P (n + 1) m rows (omega arith)
        (λ k r a b. h k r (omega arith) b),
  )

  pub IsDistinct-row_pairs : (n : ℕ) (rows : List Row) → IsDistinct (row_pairs parts n rows)
  IsDistinct-row_pairs n [] = tt
  IsDistinct-row_pairs n (row ∷ rows) = (
    Each-row_pairs (λ p. p ≡ (key_of parts row.texts, n) → ⊥) (n + 1) (n + 1 + length rows) rows (omega arith)
        (λ k r a b e. let same : k ≡ n = ap (λ (p : Pair). p.1) e in omega arith),
    IsDistinct-row_pairs (n + 1) rows,
  )

  pub length-row_pairs : (n : ℕ) (rows : List Row) → length (row_pairs parts n rows) ≡ length rows
  length-row_pairs n [] = refl
  length-row_pairs n (row ∷ rows) = ap suc (length-row_pairs (n + 1) rows)

  pub row_pairs-append : (n : ℕ) (rows more : List Row) → row_pairs parts n (rows ++ more)
      ≡ row_pairs parts n rows ++ row_pairs parts (n + length rows) more
  row_pairs-append n [] more = ap (λ m. row_pairs parts m more) (omega arith)
  row_pairs-append n (row ∷ rows) more = ap (λ ps. (key_of parts row.texts, n) ∷ ps)
      (row_pairs-append (n + 1) rows more ∙ ap (λ m. row_pairs parts (n + 1) rows ++ row_pairs parts m more)
      (omega arith))

  pub get_or-row_pairs : (n : ℕ) (rows : List Row) (k : ℕ) (d : Pair) → k < length rows
      → get_or (row_pairs parts n rows) k d ≡ (key_of parts (get_or rows k no_row).texts, n + k)
  get_or-row_pairs n [] k d lt = absurd (omega arith)
  get_or-row_pairs n (row ∷ rows) zero d lt = ap (λ m. (key_of parts row.texts, m)) (omega arith)
  get_or-row_pairs n (row ∷ rows) (suc k) d lt = get_or-row_pairs (n + 1) rows k d (omega arith)
      ∙ ap (λ m. (key_of parts (get_or rows k no_row).texts, m)) (omega arith)

length_take : {X : Type 0} (xs : List X) (i : ℕ) → i < length xs → length (take i xs) ≡ i
length_take [] i lt = absurd (omega arith)
length_take (x ∷ xs) zero lt = refl
length_take (x ∷ xs) (suc i) lt = ap suc (length_take xs i (omega arith))

-- ---- the list of a table's rows

module _ (order : OrderLaw) (parts : List KeyPart) (rows : List Row) where
  pub ordered : IsAscending is_before (index_list parts rows)
  unfolding index_list
  ordered = (order (row_pairs parts 1 rows)).ascending (IsDistinct-row_pairs parts 1 rows)

  pub count : length (index_list parts rows) ≡ length rows
  unfolding index_list
  count = (order (row_pairs parts 1 rows)).count ∙ length-row_pairs parts 1 rows

  pub listed : (r : ℕ) → r < length rows → Contains (index_list parts rows) (row_pair parts rows r)
  unfolding index_list row_pair
  listed r lt = ((order (row_pairs parts 1 rows)).members (row_pair parts rows r)).1 (
    r,
    omega (arith, length-row_pairs parts 1 rows),
    get_or-row_pairs parts 1 rows r (row_pair parts rows r) lt
        ∙ ap (λ n. (key_of parts (get_or rows r no_row).texts, n)) {x = 1 + r} {y = r + 1} (omega arith),
  )

  pub only : (key : List ℕ) (n : ℕ) → Contains (index_list parts rows) (key, n)
      → (r : ℕ) × (r < length rows) × ((key, n) ≡ row_pair parts rows r)
  unfolding index_list row_pair
  only key n there =
      let c : Contains (row_pairs parts 1 rows) (key, n) =
      ((order (row_pairs parts 1 rows)).members (key, n)).0 there in
      let lt : c.0 < length rows = omega (arith, c.1, length-row_pairs parts 1 rows) in (
        c.0,
        lt,
        sym c.2 ∙ get_or-row_pairs parts 1 rows c.0 (key, n) lt
            ∙ ap (λ m. (key_of parts (get_or rows c.0 no_row).texts, m)) {x = 1 + c.0} {y = c.0 + 1} (omega arith),
      )

-- a row at the end goes into the index
pub index_list-push : (law : RowsLaw) (parts : List KeyPart) (rows : List Row) (row : Row)
    → index_list parts (rows ++ row ∷ []) ≡ inserted is_before (key_of parts row.texts, length rows + 1)
    (index_list parts rows)
unfolding index_list
index_list-push law parts rows row =
    let pairs : List Pair = row_pairs parts 1 rows in
    ap (in_order is_before) (row_pairs-append parts 1 rows (row ∷ []))
    ∙ (law pairs (key_of parts row.texts, 1 + length rows) []).added
    ∙ ap (λ ps. inserted is_before (key_of parts row.texts, 1 + length rows) (in_order is_before ps)) (append-nil pairs)
    ∙ ap (λ n. inserted is_before (key_of parts row.texts, n) (in_order is_before pairs)) {x = 1 + length rows}
    {y = length rows + 1} (omega arith)

module _ (law : RowsLaw) (parts : List KeyPart) (rows : List Row) (i : ℕ) (lt : i < length rows) where
  abbrev pairs_before : List Pair
  pairs_before = row_pairs parts 1 (take i rows)

  abbrev pairs_after : List Pair
  pairs_after = row_pairs parts (i + 2) (drop (suc i) rows)

  others : (P : Pair → Type 0) → ((k : ℕ) (r : Row) → (k ≡ i + 1 → ⊥) → P (key_of parts r.texts, k))
      → Each P (pairs_before ++ pairs_after)
  others P h = Each-append P pairs_before pairs_after
      (Each-row_pairs parts P 1 (i + 1) (take i rows) (omega (arith, length_take rows i lt))
      (λ k r a b. h k r (λ e. omega arith)))
      (Each-row_pairs parts P (i + 2) (i + 2 + length (drop (suc i) rows)) (drop (suc i) rows) (omega arith)
      (λ k r a b. h k r (λ e. omega arith)))

  around : (row : Row) → row_pairs parts 1 (take i rows ++ row ∷ drop (suc i) rows)
      ≡ pairs_before ++ (key_of parts row.texts, i + 1) ∷ pairs_after
  around row =
      row_pairs-append parts 1 (take i rows) (row ∷ drop (suc i) rows)
      ∙ ap (λ n. pairs_before ++ (key_of parts row.texts, n) ∷ row_pairs parts (n + 1) (drop (suc i) rows))
      {x = 1 + length (take i rows)} {y = i + 1} (omega (arith, length_take rows i lt))
      ∙ ap (λ n. pairs_before ++ (key_of parts row.texts, i + 1) ∷ row_pairs parts n (drop (suc i) rows))
      {x = i + 1 + 1} {y = i + 2} (omega arith)

  whole_list : in_order is_before (row_pairs parts 1 rows) ≡ in_order is_before
      (pairs_before ++ (key_of parts (row_at rows i).texts, i + 1) ∷ pairs_after)
  whole_list = ap (λ rs. in_order is_before (row_pairs parts 1 rs)) (take_drop_at rows i no_row lt)
      ∙ ap (in_order is_before) (around (row_at rows i))

  apart : (key : List ℕ) → Each (λ p. p ≡ (key, i + 1) → ⊥) (pairs_before ++ pairs_after)
  apart key = others (λ p. p ≡ (key, i + 1) → ⊥) (λ k r n e. n (ap (λ (p : Pair). p.1) e))

  -- a row that changes goes out of the index and in again
  pub index_list-set : (row : Row) → index_list parts (set rows i row)
      ≡ inserted is_before (key_of parts row.texts, i + 1)
      (without is_before (row_pair parts rows i) (index_list parts rows))
  unfolding index_list row_pair
  index_list-set row =
      ap (λ rs. in_order is_before (row_pairs parts 1 rs)) (set_at rows i row lt)
      ∙ ap (in_order is_before) (around row)
      ∙ (law pairs_before (key_of parts (row_at rows i).texts, i + 1) pairs_after).replaced
      (apart (key_of parts (row_at rows i).texts)) (key_of parts row.texts, i + 1)
      ∙ ap (λ ps. inserted is_before (key_of parts row.texts, i + 1)
      (without is_before (key_of parts (row_at rows i).texts, i + 1) ps)) (sym whole_list)

  -- while it is out, no pair has its number
  pub not_left : (order : OrderLaw) (key : List ℕ)
      → Contains (without is_before (row_pair parts rows i) (index_list parts rows)) (key, i + 1) → ⊥
  unfolding index_list row_pair
  not_left order key there =
      let gone : without is_before (key_of parts (row_at rows i).texts, i + 1)
      (in_order is_before (row_pairs parts 1 rows)) ≡ in_order is_before (pairs_before ++ pairs_after) =
      ap (without is_before (key_of parts (row_at rows i).texts, i + 1)) whole_list
      ∙ (law pairs_before (key_of parts (row_at rows i).texts, i + 1) pairs_after).removed
      (apart (key_of parts (row_at rows i).texts)) in
      absent-Each (pairs_before ++ pairs_after) (key, i + 1) (apart key)
      (((order (pairs_before ++ pairs_after)).members (key, i + 1)).0
      (subst (λ ps. Contains ps (key, i + 1)) gone there))

-- a row of the same key has the same pair
row_pairs-set : (parts : List KeyPart) (n : ℕ) (rows : List Row) (r : ℕ) (row : Row)
    → key_of parts row.texts ≡ key_of parts (row_at rows r).texts → row_pairs parts n (set rows r row)
    ≡ row_pairs parts n rows
row_pairs-set parts n [] zero row e = refl
row_pairs-set parts n [] (suc r) row e = refl
row_pairs-set parts n (x ∷ rows) zero row e = ap (λ key. (key, n) ∷ row_pairs parts (n + 1) rows) e
row_pairs-set parts n (x ∷ rows) (suc r) row e =
    ap (λ ps. (key_of parts x.texts, n) ∷ ps) (row_pairs-set parts (n + 1) rows r row e)

pub index_list-same : (parts : List KeyPart) (rows : List Row) (r : ℕ) (row : Row)
    → key_of parts row.texts ≡ key_of parts (row_at rows r).texts → index_list parts (set rows r row)
    ≡ index_list parts rows
unfolding index_list
index_list-same parts rows r row e = ap (in_order is_before) (row_pairs-set parts 1 rows r row e)

index_list-marked : (parts : List KeyPart) (rows : List Row) (r : ℕ) (mark : Bool)
    → index_list parts (with_mark rows r mark) ≡ index_list parts rows
index_list-marked parts rows r mark =
    index_list-same parts rows r (record { marked = mark; texts = (row_at rows r).texts }) refl

-- all of it
pub index_lists : OrderLaw → RowsLaw → (parts : List KeyPart) (rows : List Row) → IsIndexList parts rows
index_lists order law parts rows = record {
  ordered = ordered order parts rows;
  listed = listed order parts rows;
  only = only order parts rows;
  count = count order parts rows;
  added = index_list-push law parts rows;
  changed = λ r row lt. index_list-set law parts rows r lt row;
  marked = index_list-marked parts rows;
  out = λ r key lt. not_left law parts rows r lt order key;
}

-- ---- a list made row by row

pub kept_more : (kept : Kept) (rows : List Row) (r : ℕ) → r < length rows
    → kept_rows kept (take (r + 1) rows) ≡ kept_rows kept (take r rows) ++ cond (is_kept kept (row_at rows r))
    (row_at rows r ∷ []) []
kept_more kept rows r lt = filter_more (is_kept kept) rows r no_row lt

-- a row that is kept has the next number
pub pairs_more : (parts : List KeyPart) (kept : Kept) (rows : List Row) (r n : ℕ) → r < length rows
    → n ≡ length (row_pairs parts 1 (kept_rows kept (take r rows))) + 1
    → row_pairs parts 1 (kept_rows kept (take (r + 1) rows)) ≡ row_pairs parts 1 (kept_rows kept (take r rows)) ++ cond
    (is_kept kept (row_at rows r)) ((key_of parts (row_at rows r).texts, n) ∷ []) []
pairs_more parts kept rows r n lt count =
    let before = kept_rows kept (take r rows) in
    ap (row_pairs parts 1) (kept_more kept rows r lt)
    ∙ row_pairs-append parts 1 before (cond (is_kept kept (row_at rows r)) (row_at rows r ∷ []) [])
    ∙ elim (is_kept kept (row_at rows r)) as
    (λ b. row_pairs parts 1 before ++ row_pairs parts (1 + length before) (cond b (row_at rows r ∷ []) [])
    ≡ row_pairs parts 1 before ++ cond b ((key_of parts (row_at rows r).texts, n) ∷ []) []) [
      | true ↦ ap (λ m. row_pairs parts 1 before ++ (key_of parts (row_at rows r).texts, m) ∷ [])
          {x = 1 + length before} {y = n} (omega (arith, count, length-row_pairs parts 1 before))
      | false ↦ refl
    ]

pub each_push : (P : Pair → Type 0) (pairs : List Pair) (p : Pair) → Each P pairs → P p → Each P (pairs ++ p ∷ [])
each_push P pairs p each here = Each-append P pairs (p ∷ []) each (here, tt)

pub listed_by : (parts : List KeyPart) (rows : List Row) (pairs entries : List Pair)
    → pairs ≡ in_order is_before entries → entries ≡ row_pairs parts 1 rows → pairs ≡ index_list parts rows
unfolding index_list
listed_by parts rows pairs entries e f = e ∙ ap (in_order is_before) f

-- where no row is kept
pub nothing_kept : (rows : List Row) → kept_rows Nothing rows ≡ []
nothing_kept [] = refl
nothing_kept (row ∷ rows) = nothing_kept rows
