-- How declared indexes go along with a change of their table.
use Rattle.std.proofs.Common.{◌≡◌, ℕ, zero, suc, ◌+◌, ◌<◌, ◌≤◌, Bool, true, false, not, ◌||◌, Option, Some, None, List}
use Rattle.std.proofs.Common.{[], ◌∷◌, ◌++◌, length, get_or, map, cond, is_none, refl, sym, ap, ◌∙◌, subst, arith, ◌≢◌}
use Rattle.std.proofs.Common.{set, take, drop, below_more, ◌⊎◌, inl, inr, Result, Ok, Err}
use Rattle.std.proofs.lemmas.List.{get_or-set_other, get_or-set_same, get_or_default, length-set, take-append-le}
use Rattle.std.proofs.Math.Seq.{take-length}
use Rattle.std.specs.List.{All}
use Rattle.std.specs.Prelude.{IfSome, OnErr}
use Rattle.dbf_file.specs.Tables.{StructureState}
use Rattle.key_lists.specs.KeyForm.{KeyForm, IsKeyText}
use Rattle.shape.specs.Keys.{IsKey}
use Rattle.key_lists.specs.SortedList.{SortedList}
use Rattle.shape.specs.declared.parts.KeyPart.{KeyPart}
use Rattle.open_table.specs.Marks.{IndexMark, is_among, with_stale}
use Rattle.open_table.specs.Slots.{SlotState, mark_of, IsListed, IsSlotBy, OnBoth, GoesBy, left_if_open, Along}

-- ---- along all indexes

pub carry : (P Q : SlotState → Type 0) (R : SlotState → SlotState → Type 0) → ((a b : SlotState) → P a → R a b → Q b)
    → (old new : List SlotState) → Along R old new → All P old → All Q new
carry P Q R step old new along all i d lt = step (get_or old i d) (get_or new i d)
    (all i d (omega (arith, along.count))) (along.each i d (omega (arith, along.count)))

pub weaker : (P Q : SlotState → Type 0) → ((a : SlotState) → P a → Q a) → (slots : List SlotState) → All P slots
    → All Q slots
weaker P Q step slots all i d lt = step (get_or slots i d) (all i d lt)

pub map_along : {Y : Type 0} (f : SlotState → Y) (g : Y → Y) (R : SlotState → SlotState → Type 0)
    → ((a b : SlotState) → R a b → f b ≡ g (f a)) → (old new : List SlotState) → Along R old new
    → map f new ≡ map g (map f old)
map_along f g R step [] [] along = refl
map_along f g R step [] (y ∷ ys) along = absurd (omega (arith, along.count))
map_along f g R step (x ∷ xs) [] along = absurd (omega (arith, along.count))
map_along f g R step (x ∷ xs) (y ∷ ys) along =
    let rest : map f ys ≡ map g (map f xs) = map_along f g R step xs ys
    (record { count = omega (arith, along.count); each = λ i d lt. along.each (suc i) d (omega arith) }) in
    let here : f y ≡ g (f x) = step x y (along.each 0 x (omega arith)) in
    ap (λ z. z ∷ map f ys) here ∙ ap (λ zs. g (f x) ∷ zs) rest

pub same_along : {Y : Type 0} (f : SlotState → Y) (R : SlotState → SlotState → Type 0)
    → ((a b : SlotState) → R a b → f b ≡ f a) → (old new : List SlotState) → Along R old new → map f new ≡ map f old
same_along f R step [] [] along = refl
same_along f R step [] (y ∷ ys) along = absurd (omega (arith, along.count))
same_along f R step (x ∷ xs) [] along = absurd (omega (arith, along.count))
same_along f R step (x ∷ xs) (y ∷ ys) along =
    let rest : map f ys ≡ map f xs = same_along f R step xs ys
    (record { count = omega (arith, along.count); each = λ i d lt. along.each (suc i) d (omega arith) }) in
    let here : f y ≡ f x = step x y (along.each 0 x (omega arith)) in
    ap (λ z. z ∷ map f ys) here ∙ ap (λ zs. f x ∷ zs) rest

-- ---- one index

pub on_both : (P Q : SortedList → Type 0) (R : SortedList → SortedList → Type 0)
    → ((a b : SortedList) → P a → R a b → Q b) → (a b : Option SortedList) → IfSome a P → OnBoth R a b → IfSome b Q
on_both P Q R step None None h r = tt
on_both P Q R step None (Some b) h r = absurd r
on_both P Q R step (Some a) None h r = absurd r
on_both P Q R step (Some a) (Some b) h r = step a b h r

pub both_stale : (R : SortedList → SortedList → Type 0) (a b : Option SortedList) → OnBoth R a b → is_none b ≡ is_none a
both_stale R None None r = refl
both_stale R None (Some b) r = absurd r
both_stale R (Some a) None r = absurd r
both_stale R (Some a) (Some b) r = refl

pub both_same : (R : SortedList → SortedList → Type 0) → ((a : SortedList) → R a a) → (a : Option SortedList)
    → OnBoth R a a
both_same R same None = tt
both_same R same (Some a) = same a

pub same_mark : (a b : IndexMark) → b.number ≡ a.number → b.parts ≡ a.parts → b.text ≡ a.text → b.stale ≡ a.stale
    → b ≡ a
same_mark a b e f g h = λ i. record { number = e i; parts = f i; text = g i; stale = h i }

pub goes_mark : (R : List KeyPart → SortedList → SortedList → Type 0) (a b : SlotState) → GoesBy R a b → mark_of b ≡ mark_of a
goes_mark R a b goes = same_mark (mark_of a) (mark_of b) goes.same.number goes.same.parts goes.same.text
    (both_stale (R a.parts) a.index b.index goes.index)

-- the fact of its list goes along
pub slot_goes : (s : StructureState) (E F : List KeyPart → SortedList → Type 0)
    (R : List KeyPart → SortedList → SortedList → Type 0)
    → ((parts : List KeyPart) (a b : SortedList) → E parts a → R parts a b → F parts b)
    → ((parts : List KeyPart) (a b : SortedList) → R parts a b → b.form ≡ a.form) → (a b : SlotState)
    → IsSlotBy E s a → GoesBy R a b → IsSlotBy F s b
slot_goes s E F R step keeps a b h goes = record {
  key = subst (IsKey s) (sym goes.same.parts) h.key;
  text = subst IsKeyText (sym goes.same.text) h.text;
  listed = on_both (IsListed (E a.parts) a.text) (IsListed (F b.parts) b.text) (R a.parts)
      (λ x y l r. record {
        exact = subst (λ parts. F parts y) (sym goes.same.parts) (step a.parts x y l.exact r);
        text = ap (λ (f : KeyForm). f.key_text) (keeps a.parts x y r) ∙ l.text ∙ sym goes.same.text;
      })
      a.index b.index h.listed goes.index;
  idle = goes.fresh ∙ h.idle;
}

pub some_weaker : (P Q : SortedList → Type 0) → ((x : SortedList) → P x → Q x) → (a : Option SortedList) → IfSome a P
    → IfSome a Q
some_weaker P Q step None h = tt
some_weaker P Q step (Some x) h = step x h

pub listed_some : (E P : SortedList → Type 0) (text : List ℕ) → ((x : SortedList) → E x → P x)
    → (a : Option SortedList) → IfSome a (IsListed E text) → IfSome a P
listed_some E P text step None h = tt
listed_some E P text step (Some x) h = step x h.exact

-- without the lists of closed indexes
if_left : (P : SortedList → Type 0) (open_one : Bool) (a : Option SortedList) → IfSome a P
    → IfSome (cond open_one a None) P
if_left P true a h = h
if_left P false a h = tt

pub left_slot : (s : StructureState) (E : List KeyPart → SortedList → Type 0) (numbers : List ℕ) (a : SlotState) → IsSlotBy E s a
    → IsSlotBy E s (left_if_open numbers a)
left_slot s E numbers a h = record {
  key = h.key;
  text = h.text;
  listed = if_left (IsListed (E a.parts) a.text) (is_among numbers a.number) a.index h.listed;
  idle = h.idle;
}

stale_left : (open_one : Bool) (a : Option SortedList) → is_none (cond open_one a None) ≡ (is_none a || not open_one)
stale_left true None = refl
stale_left true (Some a) = refl
stale_left false None = refl
stale_left false (Some a) = refl

pub left_mark : (numbers : List ℕ) (a b : SlotState) → b ≡ left_if_open numbers a
    → (λ (m : IndexMark). with_stale m (m.stale || not (is_among numbers m.number))) (mark_of a) ≡ mark_of b
left_mark numbers a b e =
    same_mark (mark_of (left_if_open numbers a))
    (with_stale (mark_of a) (is_none a.index || not (is_among numbers a.number))) refl refl refl
    (sym (stale_left (is_among numbers a.number) a.index))
    ∙ ap mark_of (sym e)

-- ---- a loop over all indexes

-- so many have gone, and the others are as they were
pub record Turned (R : SlotState → SlotState → Type 0) (old items : List SlotState) (n : ℕ) : Type 0 where
  pub len : length items ≡ length old
  pub done : (i : ℕ) (d : SlotState) → i < n → R (get_or old i d) (get_or items i d)
  pub left : (i : ℕ) (d : SlotState) → n ≤ i → i < length items → get_or items i d ≡ get_or old i d

pub turned : (R : SlotState → SlotState → Type 0) (old items : List SlotState) (n : ℕ) (a b : SlotState)
    → Turned R old items n → n < length items → R (get_or items n a) b → Turned R old (set items n b) (n + 1)
turned R old items n a b t lt r =
    let P : ℕ → Type 0 = λ k. (d : SlotState) → R (get_or old k d) (get_or (set items n b) k d) in
    let before : (k : ℕ) → k < n → P k = λ k less d.
    (let ne : k ≢ n = omega arith in subst (R (get_or old k d)) (sym (get_or-set_other items n k b d ne))
    (t.done k d less)) in
    let is_old : (d : SlotState) → get_or items n a ≡ get_or old n d =
    λ d. t.left n a (omega arith) lt ∙ get_or_default old n a d (omega (arith, t.len)) in
    let here : P n = λ d. subst (λ x. R x (get_or (set items n b) n d)) (is_old d)
    (subst (R (get_or items n a)) (sym (get_or-set_same items n b d lt)) r) in
    record {
      len = length-set items n b ∙ t.len;
      done = λ i d less. below_more P n before here i less d;
      left = λ i d le less. (let ne : i ≢ n = omega arith in get_or-set_other items n i b d ne
          ∙ t.left i d (omega arith) (omega (arith, length-set items n b)));
    }

pub taken : (old items : List SlotState) (m : ℕ) → length items ≡ length old → m ≡ length old
    → take m (items ++ drop (length items) old) ≡ items
taken old items m e f =
    let within : m ≤ length items = omega arith in
    let whole : m ≡ length items = omega arith in
    take-append-le m items (drop (length items) old) within ∙ ap (λ k. take k items) whole ∙ take-length items

pub ended : (R : SlotState → SlotState → Type 0) (old items : List SlotState) (n : ℕ) → Turned R old items n
    → length old ≤ n → Along R old items
ended R old items n t le = record { count = t.len; each = λ i d lt. t.done i d (omega arith) }

below_or : (i n : ℕ) → (i < n) ⊎ (n ≤ i)
below_or i zero = inr (omega arith)
below_or zero (suc n) = inl (omega arith)
below_or (suc i) (suc n) = elim (below_or i n) as
    (λ _. (suc i < suc n) ⊎ (suc n ≤ suc i)) [ inl less ↦ inl (omega arith) | inr le ↦ inr (omega arith) ]

-- a loop that ends early leaves the others as they were
pub ended_early : (R : SlotState → SlotState → Type 0) → ((a : SlotState) → R a a)
    → (old items : List SlotState) (n : ℕ) → Turned R old items n → Along R old items
ended_early R same old items n t = record {
  count = t.len;
  each = λ i d lt. elim (below_or i n) as (λ _. R (get_or old i d) (get_or items i d)) [
    | inl less ↦ t.done i d less
    | inr le ↦ subst (R (get_or old i d)) (sym (t.left i d le (omega (arith, t.len)))) (same (get_or old i d))
  ];
}

pub room_turned : (P : SlotState → Type 0) (items : List SlotState) (n : ℕ) (b : SlotState)
    → ((i : ℕ) (d : SlotState) → i < n → P (get_or items i d)) → n < length items → P b → (i : ℕ) (d : SlotState)
    → i < n + 1 → P (get_or (set items n b) i d)
room_turned P items n b done lt fits i d less =
    let Q : ℕ → Type 0 = λ k. (e : SlotState) → P (get_or (set items n b) k e) in
    let before : (k : ℕ) → k < n → Q k = λ k before e.
    (let ne : k ≢ n = omega arith in subst P (sym (get_or-set_other items n k b e ne)) (done k e before)) in
    let here : Q n = λ e. subst P (sym (get_or-set_same items n b e lt)) fits in
    below_more Q n before here i less d

pub on_err : {T E : Type 0} (r : Result T E) (P : Type 0) → P → OnErr r P
on_err (Ok x) P p = tt
on_err (Err e) P p = p

pub turned_weaker : (R S : SlotState → SlotState → Type 0) → ((a b : SlotState) → R a b → S a b)
    → (old items : List SlotState) (n : ℕ) → Turned R old items n → Turned S old items n
turned_weaker R S step old items n t =
    record { len = t.len; done = λ i d lt. step (get_or old i d) (get_or items i d) (t.done i d lt); left = t.left }

pub along_chain : (R S T : SlotState → SlotState → Type 0) → ((a b c : SlotState) → R a b → S b c → T a c)
    → (old mid new : List SlotState) → Along R old mid → Along S mid new → Along T old new
along_chain R S T step old mid new first second = record {
  count = second.count ∙ first.count;
  each = λ i d lt. step (get_or old i d) (get_or mid i d) (get_or new i d) (first.each i d lt)
      (second.each i d (omega (arith, first.count)));
}

pub along_same : (old new : List SlotState) → Along (λ a b. b ≡ a) old new → new ≡ old
along_same [] [] along = refl
along_same [] (y ∷ ys) along = absurd (omega (arith, along.count))
along_same (x ∷ xs) [] along = absurd (omega (arith, along.count))
along_same (x ∷ xs) (y ∷ ys) along =
    let rest : ys ≡ xs = along_same xs ys
    (record { count = omega (arith, along.count); each = λ i d lt. along.each (suc i) d (omega arith) }) in
    ap (λ z. z ∷ ys) (along.each 0 x (omega arith)) ∙ ap (λ zs. x ∷ zs) rest
