-- TOP found by passes over rows.
use Rattle.std.proofs.Common.{◌≡◌, ℕ, zero, suc, ◌+◌, ◌-◌, ◌<◌, Bool, true, false, not, Option, Some, None, List, []}
use Rattle.std.proofs.Common.{◌∷◌, ◌++◌, length, filter, take, cond, refl, sym, ap, ◌∙◌, subst, arith, append-nil}
use Rattle.std.proofs.lemmas.Bool.{both_ways, false_from_ne_true}
use Rattle.dbf_file.specs.Rows.{Row, row_at}
use Rattle.dbf_file.specs.Tables.{StructureState}
use Rattle.open_table.specs.Tried.{tried}
use Rattle.shape.specs.declared.parts.KeyPart.{KeyPart}
use Rattle.shape.specs.Keys.{key_of}
use Rattle.key_lists.specs.Order.{IsAscending, Each, inserted, IsStrictOrder}
use Rattle.key_lists.specs.Pairs.{Pair, is_before}
use Rattle.row_keys.specs.declared.building.Kept.{Kept}
use Rattle.row_keys.specs.Lists.{index_list, is_kept, kept_rows}
use Rattle.row_keys.proofs.IndexLemmas.{ListLaw}
use Rattle.row_keys.proofs.ListLemmas.{kept_more}
use Rattle.row_moves.specs.Moves.{first_shown, met}
use Rattle.open_table.specs.Passes.{lesser, with_tried, is_met, count_met}

-- ---- cases of one test

moved : (b : Bool) (row : Row) (front whole : List Row) (this : Row)
    → (length front < length whole) × (row_at whole (length front) ≡ this)
    → (length (cond b (row ∷ front) front) < length (cond b (row ∷ whole) whole))
    × (row_at (cond b (row ∷ whole) whole) (length (cond b (row ∷ front) front)) ≡ this)
moved true row front whole this h = (omega (arith, h.0), h.1)
moved false row front whole this h = h

alone : (b : Bool) (p : Pair) → cond b (Some p) None ≡ with_tried b p None
alone true p = refl
alone false p = refl

pick : (b : Bool) (p y : Pair) (rest : Option Pair) → is_before y p ≡ false → lesser p rest ≡ p
    → lesser p (cond b (Some y) rest) ≡ p
pick true p y rest e f = ap (λ c. cond c y p) e
pick false p y rest e f = f

further : (b shown : Bool) (p y : Pair) (more rest : Option Pair) → is_before y p ≡ true
    → more ≡ with_tried shown p rest → cond b (Some y) more ≡ with_tried shown p (cond b (Some y) rest)
further true true p y more rest e f = ap (λ c. Some (cond c y p)) (sym e)
further true false p y more rest e f = refl
further false shown p y more rest e f = f

in_front : (shown : Bool) (p : Pair) (rest : Option Pair) → lesser p rest ≡ p
    → cond shown (Some p) rest ≡ with_tried shown p rest
in_front true p rest e = ap Some (sym e)
in_front false p rest e = refl

met_or : (b : Bool) (y z : Pair) (rest : Option Pair) → is_before z y ≡ false → is_met rest y ≡ true
    → is_met (cond b (Some z) rest) y ≡ true
met_or true y z rest e f = ap not e
met_or false y z rest e f = f

one_more : (b : Bool) (p : Pair) (pairs : List Pair) → length (cond b (p ∷ pairs) pairs) ≡ length pairs + cond b 1 0
one_more true p pairs = omega arith
one_more false p pairs = omega arith

both_more : (b : Bool) (y : Pair) (more pairs : List Pair) (n : ℕ) → length more ≡ length pairs + n
    → length (cond b (y ∷ more) more) ≡ length (cond b (y ∷ pairs) pairs) + n
both_more true y more pairs n e = omega (arith, e)
both_more false y more pairs n e = e

-- ---- rows that are kept, one by one

pub kept_take : (kept : Kept) (rows : List Row) (r : ℕ) → r < length rows → is_kept kept (row_at rows r) ≡ true
    → kept_rows kept (take (r + 1) rows) ≡ kept_rows kept (take r rows) ++ row_at rows r ∷ []
kept_take kept rows r lt e =
    kept_more kept rows r lt ∙ ap (λ b. kept_rows kept (take r rows) ++ cond b (row_at rows r ∷ []) []) e

pub kept_skip : (kept : Kept) (rows : List Row) (r : ℕ) → r < length rows → is_kept kept (row_at rows r) ≡ false
    → kept_rows kept (take (r + 1) rows) ≡ kept_rows kept (take r rows)
kept_skip kept rows r lt e = kept_more kept rows r lt
    ∙ ap (λ b. kept_rows kept (take r rows) ++ cond b (row_at rows r ∷ []) []) e
    ∙ append-nil (kept_rows kept (take r rows))

-- a row that is kept has the place that it is counted at
pub kept_place : (kept : Kept) (rows : List Row) (r : ℕ) → r < length rows → is_kept kept (row_at rows r) ≡ true
    → (length (kept_rows kept (take r rows)) < length (kept_rows kept rows))
    × (row_at (kept_rows kept rows) (length (kept_rows kept (take r rows))) ≡ row_at rows r)
kept_place kept [] r lt e = absurd (omega arith)
kept_place kept (row ∷ rows) zero lt e = subst
    (λ b. (0 < length (cond b (row ∷ kept_rows kept rows) (kept_rows kept rows)))
    × (row_at (cond b (row ∷ kept_rows kept rows) (kept_rows kept rows)) 0 ≡ row)) (sym e) (omega arith, refl)
kept_place kept (row ∷ rows) (suc r) lt e = moved (is_kept kept row) row (kept_rows kept (take r rows))
    (kept_rows kept rows) (row_at rows r) (kept_place kept rows r (omega arith) e)

pub same_tried : (s : StructureState) (rows others : List Row) (r n count m : ℕ) → n ≡ m + 1
    → row_at others m ≡ row_at rows r → count ≡ length others
    → record { structure = s; row = row_at rows r; number = n; count = count } ≡ tried s others n
same_tried s rows others r n count m e f g =
    let at : m ≡ n - 1 = omega (arith, e) in
    let same : row_at rows r ≡ row_at others (n - 1) = sym f ∙ ap (row_at others) at in
    λ i. record { structure = s; row = same i; number = n; count = g i }

-- ---- the first shown pair

lesser_itself : (p : Pair) (pairs : List Pair) (shown : ℕ → Bool) → Each (λ q. is_before q p ≡ false) pairs
    → lesser p (first_shown shown pairs) ≡ p
lesser_itself p [] shown none = refl
lesser_itself p (y ∷ ys) shown none =
    pick (shown y.1) p y (first_shown shown ys) none.0 (lesser_itself p ys shown none.1)

each_after : IsStrictOrder is_before → (p y : Pair) (ys : List Pair) → is_before y p ≡ false
    → Each (λ z. is_before y z ≡ true) ys → Each (λ q. is_before q p ≡ false) ys
each_after order p y [] e after = tt
each_after order p y (z ∷ zs) e after = (
  false_from_ne_true (is_before z p) (λ t. both_ways (is_before y p) e (order.trans y z p after.0 t)),
  each_after order p y zs e after.1,
)

pub first_inserted : IsStrictOrder is_before → (shown : ℕ → Bool) (p : Pair) (pairs : List Pair)
    → IsAscending is_before pairs → first_shown shown (inserted is_before p pairs)
    ≡ with_tried (shown p.1) p (first_shown shown pairs)
first_inserted order shown p [] asc = alone (shown p.1) p
first_inserted order shown p (y ∷ ys) asc = put (first_inserted order shown p ys asc.1) (is_before y p) refl
  where
    put : first_shown shown (inserted is_before p ys) ≡ with_tried (shown p.1) p (first_shown shown ys) → (b : Bool)
        → is_before y p ≡ b → first_shown shown (cond b (y ∷ inserted is_before p ys) (p ∷ y ∷ ys))
        ≡ with_tried (shown p.1) p (first_shown shown (y ∷ ys))
    put rest true e = further (shown y.1) (shown p.1) p y (first_shown shown (inserted is_before p ys))
        (first_shown shown ys) e rest
    put rest false e = in_front (shown p.1) p (first_shown shown (y ∷ ys))
        (lesser_itself p (y ∷ ys) shown (e, each_after order p y ys e asc.0))

-- ---- how many rows are met

none_met : (y : Pair) (ys : List Pair) → Each (λ z. is_before y z ≡ true) ys → length (filter (is_met (Some y)) ys) ≡ 0
none_met y [] after = refl
none_met y (z ∷ zs) after = subst
    (λ b. length (cond (not b) (z ∷ filter (is_met (Some y)) zs) (filter (is_met (Some y)) zs)) ≡ 0) (sym after.0)
    (none_met y zs after.1)

met_first : IsStrictOrder is_before → (shown : ℕ → Bool) (y : Pair) (ys : List Pair)
    → Each (λ z. is_before y z ≡ true) ys → is_met (first_shown shown ys) y ≡ true
met_first order shown y [] after = refl
met_first order shown y (z ∷ zs) after = met_or (shown z.1) y z (first_shown shown zs)
    (false_from_ne_true (is_before z y)
    (λ t. both_ways (is_before y y) (order.irrefl y) (order.trans y z y after.0 t)))
    (met_first order shown y zs after.1)

pub met_count : IsStrictOrder is_before → (shown : ℕ → Bool) (pairs : List Pair) → IsAscending is_before pairs
    → met shown pairs ≡ count_met (first_shown shown pairs) pairs
met_count order shown [] asc = refl
met_count order shown (y ∷ ys) asc = count (met_count order shown ys asc.1) (shown y.1)
  where
    count : met shown ys ≡ count_met (first_shown shown ys) ys → (b : Bool)
        → cond b 1 (met shown ys + 1) ≡ count_met (cond b (Some y) (first_shown shown ys)) (y ∷ ys)
    count rest true = subst
        (λ b. 1 ≡ length (cond (not b) (y ∷ filter (is_met (Some y)) ys) (filter (is_met (Some y)) ys)))
        (sym (order.irrefl y)) (ap suc (sym (none_met y ys asc.0)))
    count rest false = subst
        (λ b. met shown ys + 1 ≡ length (cond b (y ∷ filter (is_met (first_shown shown ys)) ys)
        (filter (is_met (first_shown shown ys)) ys))) (sym (met_first order shown y ys asc.0)) (omega (arith, rest))

pub count_inserted : (f : Pair → Bool) (p : Pair) (pairs : List Pair)
    → length (filter f (inserted is_before p pairs)) ≡ length (filter f pairs) + cond (f p) 1 0
count_inserted f p [] = one_more (f p) p []
count_inserted f p (y ∷ ys) = put (count_inserted f p ys) (is_before y p)
  where
    put : length (filter f (inserted is_before p ys)) ≡ length (filter f ys) + cond (f p) 1 0 → (b : Bool)
        → length (filter f (cond b (y ∷ inserted is_before p ys) (p ∷ y ∷ ys)))
        ≡ length (filter f (y ∷ ys)) + cond (f p) 1 0
    put rest true = both_more (f y) y (filter f (inserted is_before p ys)) (filter f ys) (cond (f p) 1 0) rest
    put rest false = one_more (f p) p (filter f (y ∷ ys))

-- ---- one row more

module _ (law : ListLaw) (order : IsStrictOrder is_before) (parts : List KeyPart) (kept : Kept) (rows : List Row)
    (r : ℕ) (lt : r < length rows) where
  abbrev so_far : List Row
  so_far = kept_rows kept (take r rows)

  abbrev pair_of : ℕ → Pair
  pair_of n = (key_of parts (row_at rows r).texts, n)

  pub one_listed : is_kept kept (row_at rows r) ≡ true → index_list parts (kept_rows kept (take (r + 1) rows))
      ≡ inserted is_before (pair_of (length so_far + 1)) (index_list parts so_far)
  one_listed e = ap (index_list parts) (kept_take kept rows r lt e) ∙ (law parts so_far).added (row_at rows r)

  pub one_tried : (shown : ℕ → Bool) (best after : Option Pair) (n : ℕ) → is_kept kept (row_at rows r) ≡ true
      → n ≡ length so_far + 1 → best ≡ first_shown shown (index_list parts so_far)
      → after ≡ with_tried (shown n) (pair_of n) best
      → after ≡ first_shown shown (index_list parts (kept_rows kept (take (r + 1) rows)))
  one_tried shown best after n e at b a =
      a ∙ ap (with_tried (shown n) (pair_of n)) b
      ∙ ap (λ m. with_tried (shown m) (pair_of m) (first_shown shown (index_list parts so_far))) at
      ∙ sym (first_inserted order shown (pair_of (length so_far + 1)) (index_list parts so_far)
      (law parts so_far).ordered)
      ∙ ap (first_shown shown) (sym (one_listed e))

  pub one_counted : (best : Option Pair) (n : ℕ) → is_kept kept (row_at rows r) ≡ true → n ≡ length so_far + 1
      → count_met best (index_list parts (kept_rows kept (take (r + 1) rows)))
      ≡ count_met best (index_list parts so_far) + cond (is_met best (pair_of n)) 1 0
  one_counted best n e at =
      ap (count_met best) (one_listed e) ∙ count_inserted (is_met best) (pair_of (length so_far + 1))
      (index_list parts so_far)
      ∙ ap (λ m. count_met best (index_list parts so_far) + cond (is_met best (pair_of m)) 1 0) (sym at)
