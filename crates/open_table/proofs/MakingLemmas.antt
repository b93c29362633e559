-- Lists of declared indexes made anew.
use Rattle.std.proofs.Common.{◌≡◌, ℕ, ◌*◌, ◌≤◌, Bool, true, false, not, ◌||◌, ◌&&◌, Option, Some, None, List, [], ◌∷◌}
use Rattle.std.proofs.Common.{length, filter, suc, get_or, map, cond, is_none, is_some, refl, sym, ap, ◌∙◌, subst}
use Rattle.std.proofs.Common.{arith}
use Rattle.std.specs.List.{All}
use Rattle.std.specs.Prelude.{IfSome, IsSomeAnd, MatchBool, slice_get}
use Rattle.std.proofs.Math.Nat.{mul-le-mul}
use Rattle.dbf_file.specs.Rows.{Row}
use Rattle.dbf_file.specs.Tables.{StructureState}
use Rattle.key_lists.specs.KeyForm.{IsKeyText}
use Rattle.shape.specs.Keys.{IsKey}
use Rattle.key_lists.specs.SortedList.{SortedList}
use Rattle.row_keys.specs.declared.building.Kept.TheVariants.{Every}
use Rattle.row_keys.specs.Lists.{IsExact, kept_rows}
use Rattle.open_table.specs.Marks.{IndexMark, is_among, is_fresh, mark_at, count_stale, with_stale}
use Rattle.open_table.specs.Tables.{IndexedState, IsOrder}
use Rattle.open_table.specs.Slots.{SlotState, mark_of, IsListed, IsSlot, IsSameSlot, Along, is_wanted, PutsBy, Prepares}
use Rattle.open_table.specs.Slots.{committed, discarded}
use Rattle.open_table.proofs.SlotLemmas.{same_mark, map_along, along_chain, along_same}

pub same_slot : (a b : SlotState) → IsSameSlot a b → b.index ≡ a.index → b.fresh ≡ a.fresh → b ≡ a
same_slot a b s e f = λ i. record { number = s.number i; parts = s.parts i; text = s.text i; index = e i; fresh = f i }

pub same_table : (a b : IndexedState) → a.structure ≡ b.structure → a.rows ≡ b.rows → a.marks ≡ b.marks → a ≡ b
same_table a b e f g = λ i. record { structure = e i; rows = f i; marks = g i }

-- what was put by is given up
pub put_back : (s : StructureState) (rows : List Row) (old mid new : List SlotState) → All (IsSlot s rows) old
    → Along PutsBy old mid → Along (λ a b. b ≡ discarded a) mid new → new ≡ old
put_back s rows old mid new exact puts gone = along_same old new (record {
  count = gone.count ∙ puts.count;
  each = λ i d lt.
      let a = get_or old i d in
      let b = get_or mid i d in
      let p = puts.each i d lt in
      gone.each i d (omega (arith, puts.count)) ∙ same_slot a (discarded b)
      (record { number = p.same.number; parts = p.same.parts; text = p.same.text }) p.index
      (sym (exact i d lt).idle);
})

-- an index after what was put by has taken its place
made_list : (P : SortedList → Type 0) (wanted gives_up : Bool) (index fresh : Option SortedList)
    → MatchBool wanted (IsSomeAnd fresh P) (fresh ≡ None) → (gives_up ≡ false → IfSome index P)
    → IfSome (cond (is_some fresh) fresh (cond gives_up None index)) P
made_list P true gives_up index (Some x) f stays = f
made_list P true gives_up index None f stays = absurd f
made_list P false true index None f stays = tt
made_list P false false index None f stays = stays refl
made_list P false gives_up index (Some x) f stays = cc

stale_after : (P : SortedList → Type 0) (wanted gives_up : Bool) (index fresh : Option SortedList)
    → MatchBool wanted (IsSomeAnd fresh P) (fresh ≡ None) → is_none
    (cond (is_some fresh) fresh (cond gives_up None index)) ≡ cond wanted false (cond gives_up true (is_none index))
stale_after P true gives_up index (Some x) f = refl
stale_after P true gives_up index None f = absurd f
stale_after P false true index None f = refl
stale_after P false false index None f = refl
stale_after P false gives_up index (Some x) f = cc

module _ (s : StructureState) (rows others : List Row) (numbers : List ℕ) (only_stale gives_up : Bool) where
  pub made_slot : (gives_up ≡ false → others ≡ rows) → (a b c : SlotState) → IsSlot s rows a
      → Prepares s others numbers only_stale a b → c ≡ committed gives_up b → IsSlot s others c
  made_slot same a b c h p e = subst (IsSlot s others) (sym e) (record {
    key = subst (IsKey s) (sym p.puts.same.parts) h.key;
    text = subst IsKeyText (sym p.puts.same.text) h.text;
    listed = subst (λ i. IfSome (cond (is_some b.fresh) b.fresh (cond gives_up None i))
        (IsListed (IsExact s others b.parts) b.text)) (sym p.puts.index)
        (subst (λ ps. IfSome (cond (is_some b.fresh) b.fresh (cond gives_up None a.index))
        (IsListed (IsExact s others ps) b.text)) (sym p.puts.same.parts)
        (subst (λ t. IfSome (cond (is_some b.fresh) b.fresh (cond gives_up None a.index))
        (IsListed (IsExact s others a.parts) t)) (sym p.puts.same.text)
        (made_list (IsListed (IsExact s others a.parts) a.text) (is_wanted numbers only_stale a) gives_up a.index
        b.fresh p.fresh
        (λ stays. subst (λ rs. IfSome a.index (IsListed (IsExact s rs a.parts) a.text)) (sym (same stays)) h.listed))));
    idle = refl;
  })

  pub made_exact : (gives_up ≡ false → others ≡ rows) → (old mid new : List SlotState) → All (IsSlot s rows) old
      → Along (Prepares s others numbers only_stale) old mid → Along (λ a b. b ≡ committed gives_up a) mid new
      → All (IsSlot s others) new
  made_exact same old mid new exact made put i d lt =
      made_slot same (get_or old i d) (get_or mid i d) (get_or new i d)
      (exact i d (omega (arith, made.count, put.count))) (made.each i d (omega (arith, made.count, put.count)))
      (put.each i d (omega (arith, put.count)))

  made_mark : (f : IndexMark → IndexMark)
      → ((a : SlotState) → f (mark_of a) ≡ with_stale (mark_of a)
      (cond (is_wanted numbers only_stale a) false (cond gives_up true (is_none a.index)))) → (a b c : SlotState)
      → Prepares s others numbers only_stale a b → c ≡ committed gives_up b → mark_of c ≡ f (mark_of a)
  made_mark f is_f a b c p e =
      ap mark_of e
      ∙ same_mark (with_stale (mark_of a)
      (cond (is_wanted numbers only_stale a) false (cond gives_up true (is_none a.index))))
      (mark_of (committed gives_up b))
      p.puts.same.number p.puts.same.parts p.puts.same.text
      (ap (λ i. is_none (cond (is_some b.fresh) b.fresh (cond gives_up None i))) p.puts.index
      ∙ stale_after (IsListed (IsExact s others a.parts) a.text) (is_wanted numbers only_stale a) gives_up a.index
      b.fresh p.fresh)
      ∙ sym (is_f a)

  pub made_marks : (f : IndexMark → IndexMark)
      → ((a : SlotState) → f (mark_of a) ≡ with_stale (mark_of a)
      (cond (is_wanted numbers only_stale a) false (cond gives_up true (is_none a.index))))
      → (old mid new : List SlotState) → Along (Prepares s others numbers only_stale) old mid
      → Along (λ a b. b ≡ committed gives_up a) mid new → map mark_of new ≡ map f (map mark_of old)
  made_marks f is_f old mid new made put =
      map_along mark_of f (λ a c. mark_of c ≡ f (mark_of a)) (λ a c e. e) old new
      (along_chain (Prepares s others numbers only_stale) (λ a b. b ≡ committed gives_up a)
      (λ a c. mark_of c ≡ f (mark_of a)) (made_mark f is_f) old mid new made put)

-- where the first index is stale, making it pays for a pass over the rows
stale_first : (fresh : Bool) (n : ℕ) (rest : List ℕ) → (fresh ≡ true → ⊥)
    → 1 ≤ length (cond (not fresh) (n ∷ rest) rest)
stale_first true n rest stale = absurd (stale refl)
stale_first false n rest stale = omega arith

some_stale : (list : List ℕ) (t : IndexedState) → (IsOrder (slice_get list 0) t → ⊥) → 1 ≤ count_stale list t.marks
some_stale [] t stale = absurd (stale tt)
some_stale (n ∷ list) t stale =
    stale_first (is_fresh (mark_at t.marks n)) n (filter (λ k. not (is_fresh (mark_at t.marks k))) list) stale

pub pays_for : (list : List ℕ) (t : IndexedState) (base : ℕ) → base ≡ length t.rows * count_stale list t.marks
    → (IsOrder (slice_get list 0) t → ⊥) → length t.rows ≤ base
pays_for list t base e stale =
    let some = some_stale list t stale in
    let all : length t.rows * 1 ≤ length t.rows * count_stale list t.marks = mul-le-mul (omega arith) some in
    omega (arith, all, e)

-- rows all of which are kept
pub every_kept : (rows : List Row) → kept_rows Every rows ≡ rows
every_kept [] = refl
every_kept (row ∷ rows) = ap (λ rs. row ∷ rs) (every_kept rows)

-- what becomes of the marks
remade_stale : (among only stale : Bool) → (stale && not among) ≡ cond (among && (stale || not only)) false
    (cond false true stale)
remade_stale true true true = refl
remade_stale true true false = refl
remade_stale true false true = refl
remade_stale true false false = refl
remade_stale false true true = refl
remade_stale false true false = refl
remade_stale false false true = refl
remade_stale false false false = refl

packed_stale : (among stale : Bool) → not among ≡ cond (among && (stale || not false)) false (cond true true stale)
packed_stale true true = refl
packed_stale true false = refl
packed_stale false true = refl
packed_stale false false = refl

pub remade_mark : (numbers : List ℕ) (only_stale : Bool) (a : SlotState)
    → with_stale (mark_of a) (is_none a.index && not (is_among numbers a.number))
    ≡ with_stale (mark_of a) (cond (is_wanted numbers only_stale a) false (cond false true (is_none a.index)))
remade_mark numbers only_stale a =
    ap (with_stale (mark_of a)) (remade_stale (is_among numbers a.number) only_stale (is_none a.index))

pub packed_mark : (numbers : List ℕ) (a : SlotState) → with_stale (mark_of a) (not (is_among numbers a.number))
    ≡ with_stale (mark_of a) (cond (is_wanted numbers false a) false (cond true true (is_none a.index)))
packed_mark numbers a = ap (with_stale (mark_of a)) (packed_stale (is_among numbers a.number) (is_none a.index))

pub filter_shorter : {X : Type 0} (p : X → Bool) (xs : List X) → length (filter p xs) ≤ length xs
filter_shorter p [] = omega arith
filter_shorter p (x ∷ xs) = shorter_step (p x) p x xs (filter_shorter p xs)
  where
    shorter_step : {X : Type 0} (b : Bool) (p : X → Bool) (x : X) (xs : List X) → length (filter p xs) ≤ length xs
        → length (cond b (x ∷ filter p xs) (filter p xs)) ≤ suc (length xs)
    shorter_step true p x xs le = omega arith
    shorter_step false p x xs le = omega arith
