-- Rows in order, parted from the front on.
use Rattle.std.proofs.Common.{◌≡◌, ◌<◌, ◌+◌, ◌++◌, ◌∙◌, ⊎_elim, ◌⊎◌, inl, inr, ℕ, zero, suc, List, [], ◌∷◌, length, map}
use Rattle.std.proofs.Common.{get_or, false, sym, subst, ap, refl, arith, rules}
use Rattle.std.proofs.lemmas.Bool.{false≢true}
use Rattle.std.proofs.lemmas.Cmp.{nat_list_cmp_total}
use Rattle.std.proofs.lemmas.List.Elements.{Contains-append_right}
use Rattle.std.proofs.lemmas.List.{get_or-map, length-map}
use Rattle.std.proofs.lemmas.List.Sorted.{sorted_far, ranks_by, IsPermutation-map, IsPermutation-refl}
use Rattle.std.proofs.lemmas.List.Sorted.{IsPermutation-cons, IsPermutation-middle, IsPermutation-trans}
use Rattle.std.proofs.lemmas.List.Sorted.{IsPermutation-sym, Contains-permutation}
use Rattle.std.proofs.lemmas.Map.Text.{is_eq-slice_cmp}
use Rattle.std.proofs.lemmas.Slice.Eq.{bytes_eq-Decides}
use Rattle.std.specs.Ordering.{is_lt, is_eq, ordering_reverse}
use Rattle.std.specs.Global.{Vec}
use Rattle.std.specs.List.Sorted.{IsSortedBy}
use Rattle.std.specs.Prelude.{Contains, IsPermutation}
use Rattle.std.specs.declared.cmp.Ordering.{Ordering}
use Rattle.std.specs.declared.cmp.Ordering.TheVariants.{Less, Equal, Greater}
use Rattle.row_changes.specs.Changes.{IsParted, GoesAndComes}
use Rattle.row_changes.specs.Ordered.{row_cmp, Rising, IsBeforeFirst}
use Rattle.row_changes.specs.Turns.{texts, AddUp, LeadsOn}

-- ---- in order

pub rising_tail : (row : List ℕ) (rows : List (List ℕ)) → Rising (row ∷ rows) → Rising rows
rising_tail row rows up = λ i j d ij jn. up (suc i) (suc j) d (omega arith) (omega arith)

not_less : (o : Ordering) → is_lt o ≡ false → o ≡ Less → ⊥
not_less o never e = false≢true (sym never ∙ ap is_lt e)

-- a row that is before the first of rows in order isn't among them
pub not_among : (row : List ℕ) (rows : List (List ℕ)) → Rising rows → IsBeforeFirst row rows → Contains rows row → ⊥
not_among row [] up before (k, below, at) = absurd (omega (arith, below))
not_among row (first ∷ rows) up before (k, below, at) =
    not_less (row_cmp row first) (subst (λ r. is_lt (row_cmp r first) ≡ false) at (up 0 k row (omega arith) below))
    before

pub same_row : (a b : List ℕ) → row_cmp a b ≡ Equal → a ≡ b
same_row a b e = search (rules, bytes_eq-Decides, sym (is_eq-slice_cmp a b) ∙ ap is_eq e)

pub turned : (a b : List ℕ) → row_cmp a b ≡ Greater → row_cmp b a ≡ Less
turned a b e = nat_list_cmp_total.antisymm b a ∙ ap ordering_reverse e

-- ---- one row more

front : (row : List ℕ) (rows stayed gone : List (List ℕ)) → IsPermutation rows (stayed ++ gone)
    → IsPermutation (row ∷ rows) (stayed ++ row ∷ gone)
front row rows stayed gone h =
    IsPermutation-trans (row ∷ rows) (row ∷ (stayed ++ gone)) (stayed ++ row ∷ gone)
    (IsPermutation-cons row rows (stayed ++ gone) h)
    (IsPermutation-sym (stayed ++ row ∷ gone) (row ∷ (stayed ++ gone)) (IsPermutation-middle stayed row gone))

among : (rows stayed come : List (List ℕ)) (row : List ℕ) → IsPermutation rows (stayed ++ come) → Contains come row
    → Contains rows row
among rows stayed come row h there = Contains-permutation (stayed ++ come) rows row
    (IsPermutation-sym rows (stayed ++ come) h) (Contains-append_right stayed come row there)

head_cases : (row other : List ℕ) (rows : List (List ℕ)) → Contains (row ∷ rows) other
    → (row ≡ other) ⊎ Contains rows other
head_cases row other rows (zero, below, at) = inl at
head_cases row other rows (suc k, below, at) = inr (k, omega arith, at)

goes_parted : (row : List ℕ) (before after stayed gone come : List (List ℕ)) → (Contains after row → ⊥)
    → IsParted before after stayed gone come → IsParted (row ∷ before) after stayed (row ∷ gone) come
goes_parted row before after stayed gone come new h = record {
  before_is = front row before stayed gone h.before_is;
  after_is = h.after_is;
  apart = λ r g c. ⊎_elim (λ e. new (subst (Contains after) (sym e) (among after stayed come r h.after_is c)))
      (λ g. h.apart r g c) (head_cases row r gone g);
}

comes_parted : (row : List ℕ) (before after stayed gone come : List (List ℕ)) → (Contains before row → ⊥)
    → IsParted before after stayed gone come → IsParted before (row ∷ after) stayed gone (row ∷ come)
comes_parted row before after stayed gone come old h = record {
  before_is = h.before_is;
  after_is = front row after stayed come h.after_is;
  apart = λ r g c. ⊎_elim (λ e. old (subst (Contains before) (sym e) (among before stayed gone r h.before_is g)))
      (λ c. h.apart r g c) (head_cases row r come c);
}

stays_parted : (row : List ℕ) (before after stayed gone come : List (List ℕ)) → IsParted before after stayed gone come
    → IsParted (row ∷ before) (row ∷ after) (row ∷ stayed) gone come
stays_parted row before after stayed gone come h = record {
  before_is = IsPermutation-cons row before (stayed ++ gone) h.before_is;
  after_is = IsPermutation-cons row after (stayed ++ come) h.after_is;
  apart = h.apart;
}

pub none_parted : GoesAndComes [] [] 0 0
none_parted = record {
  stayed = [];
  gone = [];
  come = [];
  parted = record {
    before_is = IsPermutation-refl [];
    after_is = IsPermutation-refl [];
    apart = λ r g c. absurd
        (omega (arith, g.1));
  };
  goes_are = refl;
  comes_are = refl;
}

-- ---- what is left leads to the whole

goes_counted : (row : List ℕ) (before after : List (List ℕ)) (goes comes : ℕ) → (Contains after row → ⊥)
    → GoesAndComes before after goes comes → GoesAndComes (row ∷ before) after (goes + 1) comes
goes_counted row before after goes comes new h = record {
  stayed = h.stayed;
  gone = row ∷ h.gone;
  come = h.come;
  parted = goes_parted row before after h.stayed h.gone h.come new h.parted;
  goes_are = omega (arith, h.goes_are);
  comes_are = h.comes_are;
}

comes_counted : (row : List ℕ) (before after : List (List ℕ)) (goes comes : ℕ) → (Contains before row → ⊥)
    → GoesAndComes before after goes comes → GoesAndComes before (row ∷ after) goes (comes + 1)
comes_counted row before after goes comes old h = record {
  stayed = h.stayed;
  gone = h.gone;
  come = row ∷ h.come;
  parted = comes_parted row before after h.stayed h.gone h.come old h.parted;
  goes_are = h.goes_are;
  comes_are = omega (arith, h.comes_are);
}

stays_counted : (row : List ℕ) (before after : List (List ℕ)) (goes comes : ℕ) → GoesAndComes before after goes comes
    → GoesAndComes (row ∷ before) (row ∷ after) goes comes
stays_counted row before after goes comes h = record {
  stayed = row ∷ h.stayed;
  gone = h.gone;
  come = h.come;
  parted = stays_parted row before after h.stayed h.gone h.come h.parted;
  goes_are = h.goes_are;
  comes_are = h.comes_are;
}

pub goes_leads : (row : List ℕ) (before after : List (List ℕ)) (m n : ℕ) → Rising (row ∷ before) → Rising after
    → IsBeforeFirst row after → LeadsOn (row ∷ before) after m n before after (m + 1) n
goes_leads row before after m n up on least = record {
  left_rises = rising_tail row before up;
  right_rises = on;
  back = λ M N h. record {
    goes = h.goes + 1;
    comes = h.comes;
    there = goes_counted row before after h.goes h.comes (not_among row after on least) h.there;
    gone = omega (arith, h.gone);
    come = h.come;
  };
}

pub comes_leads : (row : List ℕ) (before after : List (List ℕ)) (m n : ℕ) → Rising before → Rising (row ∷ after)
    → IsBeforeFirst row before → LeadsOn before (row ∷ after) m n before after m (n + 1)
comes_leads row before after m n up on least = record {
  left_rises = up;
  right_rises = rising_tail row after on;
  back = λ M N h. record {
    goes = h.goes;
    comes = h.comes + 1;
    there = comes_counted row before after h.goes h.comes (not_among row before up least) h.there;
    gone = h.gone;
    come = omega (arith, h.come);
  };
}

pub stays_leads : (row other : List ℕ) (before after : List (List ℕ)) (m n : ℕ) → Rising (row ∷ before)
    → Rising (other ∷ after) → row ≡ other → LeadsOn (row ∷ before) (other ∷ after) m n before after m n
stays_leads row other before after m n up on same = record {
  left_rises = rising_tail row before up;
  right_rises = rising_tail other after on;
  back = λ M N h. record {
    goes = h.goes;
    comes = h.comes;
    there = subst (λ r. GoesAndComes (row ∷ before) (r ∷ after) h.goes h.comes) same
        (stays_counted row before after h.goes h.comes h.there);
    gone = h.gone;
    come = h.come;
  };
}

counted_so : (before after : List (List ℕ)) (i j : ℕ) → AddUp before after 0 0 i j → GoesAndComes before after i j
counted_so before after i j h =
    let gone : h.goes ≡ i = omega (arith, h.gone) in
    let come : h.comes ≡ j = omega (arith, h.come) in
    subst (λ g. GoesAndComes before after g j) gone (subst (λ c. GoesAndComes before after h.goes c) come h.there)

at_an_end : (left right : List (List ℕ)) (i j : ℕ) → left ≡ [] → right ≡ [] → AddUp left right i j i j
at_an_end left right i j le re = record {
  goes = 0;
  comes = 0;
  there = subst (λ l. GoesAndComes l right 0 0) (sym le) (subst (λ r. GoesAndComes [] r 0 0) (sym re) none_parted);
  gone = omega arith;
  come = omega arith;
}

-- where nothing is left, all is counted
pub all_counted : (before after left right : List (List ℕ)) (i j : ℕ) → LeadsOn before after 0 0 left right i j
    → left ≡ [] → right ≡ [] → GoesAndComes before after i j
all_counted before after left right i j h le re =
    counted_so before after i j (h.back i j (at_an_end left right i j le re))

-- ---- rows that were sorted

pub sorted_rises : (rows : List (Vec ℕ)) → IsSortedBy (λ a b. is_lt (row_cmp a.items b.items)) rows
    → Rising (texts rows)
sorted_rises [] up = λ i j d ij jn. absurd (omega (arith, jn))
sorted_rises (row ∷ rows) up = λ i j d ij jn.
    let all = row ∷ rows in
    let jm : j < length all = subst (λ n. j < n) (length-map all (λ (r : Vec ℕ). r.items)) jn in
    let f : Vec ℕ → List ℕ = λ r. r.items in
    let far = sorted_far (λ (a b : Vec ℕ). is_lt (row_cmp a.items b.items)) (ranks_by nat_list_cmp_total f) all up i j
    row ij jm in
    subst (λ a. is_lt (row_cmp (get_or (map f all) j d) a) ≡ false)
    (sym (get_or-map f all i row d (omega (arith, ij, jm))))
    (subst (λ b. is_lt (row_cmp b (f (get_or all i row))) ≡ false) (sym (get_or-map f all j row d jm)) far)

pub same_texts : (one other : List (Vec ℕ)) → IsPermutation one other → IsPermutation (texts one) (texts other)
same_texts one other h = IsPermutation-map (λ (r : Vec ℕ). r.items) one other h

-- ---- counts

pub of_sorted : (before after first second : List (List ℕ)) (goes comes : ℕ) → IsPermutation before first
    → IsPermutation after second → GoesAndComes first second goes comes → GoesAndComes before after goes comes
of_sorted before after first second goes comes b a h = record {
  stayed = h.stayed;
  gone = h.gone;
  come = h.come;
  parted = record {
    before_is = IsPermutation-trans before first (h.stayed ++ h.gone) b h.parted.before_is;
    after_is = IsPermutation-trans after second (h.stayed ++ h.come) a h.parted.after_is;
    apart = h.parted.apart;
  };
  goes_are = h.goes_are;
  comes_are = h.comes_are;
}

-- ---- the first rows of two lists

pub before_none : (row : List ℕ) (rows : List (Vec ℕ)) → length rows ≡ 0 → IsBeforeFirst row (texts rows)
before_none row [] e = tt
before_none row (first ∷ rows) e = absurd (omega (arith, e))

pub before_first : (row : List ℕ) (rows others : List (Vec ℕ)) (other : Vec ℕ) → rows ≡ other ∷ others
    → row_cmp row other.items ≡ Less → IsBeforeFirst row (texts rows)
before_first row rows others other e less = subst (λ rs. IsBeforeFirst row (texts rs)) (sym e) less

pub first_goes : (before after later : List (Vec ℕ)) (first : Vec ℕ) (m n : ℕ) → Rising (texts before)
    → Rising (texts after) → before ≡ first ∷ later → IsBeforeFirst first.items (texts after)
    → LeadsOn (texts before) (texts after) m n (texts later) (texts after) (m + 1) n
first_goes before after later first m n up on e least =
    subst (λ b. Rising (texts b) → LeadsOn (texts b) (texts after) m n (texts later) (texts after) (m + 1) n) (sym e)
    (λ up. goes_leads first.items (texts later) (texts after) m n up on least) up

pub first_comes : (before after others : List (Vec ℕ)) (other : Vec ℕ) (m n : ℕ) → Rising (texts before)
    → Rising (texts after) → after ≡ other ∷ others → IsBeforeFirst other.items (texts before)
    → LeadsOn (texts before) (texts after) m n (texts before) (texts others) m (n + 1)
first_comes before after others other m n up on e least =
    subst (λ a. Rising (texts a) → LeadsOn (texts before) (texts a) m n (texts before) (texts others) m (n + 1)) (sym e)
    (λ on. comes_leads other.items (texts before) (texts others) m n up on least) on

pub both_stay : (before after later others : List (Vec ℕ)) (first other : Vec ℕ) (m n : ℕ) → Rising (texts before)
    → Rising (texts after) → before ≡ first ∷ later → after ≡ other ∷ others → row_cmp first.items other.items ≡ Equal
    → LeadsOn (texts before) (texts after) m n (texts later) (texts others) m n
both_stay before after later others first other m n up on e f same =
    subst (λ b. Rising (texts b) → LeadsOn (texts b) (texts after) m n (texts later) (texts others) m n) (sym e)
    (λ up. subst (λ a. Rising (texts a) → LeadsOn (texts (first ∷ later)) (texts a) m n (texts later) (texts others) m
    n) (sym f)
    (λ on. stays_leads first.items other.items (texts later) (texts others) m n up on
    (same_row first.items other.items same)) on) up
