-- A page loses an entry, and two pages side by side become one or are parted anew.
use Rattle.std.proofs.Common.{◌≡◌, ℕ, zero, suc, true, false, cond, Some, ◌+◌, ◌-◌, ◌<◌, ◌≤◌, List, [], ◌∷◌, ◌++◌}
use Rattle.std.proofs.Common.{length, take, drop, set, get_or, refl, ap, sym, ◌∙◌, subst, arith, append_assoc}
use Rattle.std.proofs.Common.{length-append}
use Rattle.std.proofs.lemmas.Bool.{cond_both}
use Rattle.std.proofs.lemmas.List.{append-nil, take_all}
use Rattle.key_lists.specs.Pairs.{Pair, is_before}
use Rattle.key_lists.specs.Rising.{AllBefore, AllAfter, IsRising, place_of, last_of, has, without_pair}
use Rattle.ndx_tree.specs.Pages.{PageView, pairs_of_pages, pairs_of, height_of, IsCut, IsChild, AreChildren}
use Rattle.ndx_tree.specs.Pages.{IsFramedPage, AreBut, AreChildrenBesides}
use Rattle.key_lists.proofs.Rises.{rising_front, rising_back, rising_before_last, last_back, last_some, last_rest}
use Rattle.key_lists.proofs.Rises.{last_of_take}
use Rattle.ndx_tree.proofs.Cut.{cut_length, child_at}
use Rattle.ndx_tree.proofs.Divide.{least_pairs_pos}

-- lists

has_behind : (x : Pair) (l r : List Pair) → AllBefore l x → has x (l ++ r) ≡ has x r
has_behind x [] r a = refl
has_behind x (y ∷ l) r a = rw a.0 (has_behind x l r a.1)

has_within : (x s : Pair) (l r : List Pair) → last_of l ≡ Some s → is_before s x ≡ false → has x (l ++ r) ≡ has x l
has_within x s [] r e p = absurd cc
has_within x s (y ∷ []) r e p =
    let q : y ≡ s = cc in let h : is_before y x ≡ false = ap (λ (v : Pair). is_before v x) q ∙ p in rw h refl
has_within x s (y ∷ z ∷ l) r e p =
    ap (λ b. cond (is_before y x) b (cond (is_before x y) false true)) (has_within x s (z ∷ l) r e p)

without_behind : (x : Pair) (l r : List Pair) → AllBefore l x → without_pair x (l ++ r) ≡ l ++ without_pair x r
without_behind x [] r a = refl
without_behind x (y ∷ l) r a = rw a.0 (ap (λ (m : List Pair). y ∷ m) (without_behind x l r a.1))

without_within : (x s : Pair) (l r : List Pair) → last_of l ≡ Some s → is_before s x ≡ false
    → without_pair x (l ++ r) ≡ without_pair x l ++ r
without_within x s [] r e p = absurd cc
without_within x s (y ∷ []) r e p =
    let q : y ≡ s = cc in
    let h : is_before y x ≡ false = ap (λ (v : Pair). is_before v x) q ∙ p in
    rw h (elim (is_before x y) as (λ b. cond b (y ∷ r) r ≡ cond b (y ∷ []) [] ++ r) [ true ↦ refl | false ↦ refl ])
without_within x s (y ∷ z ∷ l) r e p =
    elim (is_before y x) as (λ b. cond b (y ∷ without_pair x ((z ∷ l) ++ r))
    (cond (is_before x y) (y ∷ ((z ∷ l) ++ r)) ((z ∷ l) ++ r)) ≡ cond b (y ∷ without_pair x (z ∷ l))
    (cond (is_before x y) (y ∷ z ∷ l) (z ∷ l)) ++ r) [
      | true ↦ ap (λ (m : List Pair). y ∷ m) (without_within x s (z ∷ l) r e p)
      | false ↦ elim (is_before x y) as (λ b. cond b (y ∷ ((z ∷ l) ++ r)) ((z ∷ l) ++ r)
          ≡ cond b (y ∷ z ∷ l) (z ∷ l) ++ r) [ true ↦ refl | false ↦ refl ]
    ]

AllAfter-without_pair : (x y : Pair) (l : List Pair) → AllAfter y l → AllAfter y (without_pair x l)
AllAfter-without_pair x y [] a = tt
AllAfter-without_pair x y (z ∷ l) a =
    cond_both (is_before z x) (z ∷ without_pair x l) (cond (is_before x z) (z ∷ l) l) (λ (m : List Pair). AllAfter y m)
    (λ _. (a.0, AllAfter-without_pair x y l a.1))
    (λ _. cond_both (is_before x z) (z ∷ l) l (λ (m : List Pair). AllAfter y m) (λ _. a) (λ _. a.1))

pub rising_without : (x : Pair) (l : List Pair) → IsRising l → IsRising (without_pair x l)
rising_without x [] r = tt
rising_without x (z ∷ l) r =
    cond_both (is_before z x) (z ∷ without_pair x l) (cond (is_before x z) (z ∷ l) l) (λ (m : List Pair). IsRising m)
    (λ _. (AllAfter-without_pair x z l r.0, rising_without x l r.1))
    (λ _. cond_both (is_before x z) (z ∷ l) l (λ (m : List Pair). IsRising m) (λ _. r) (λ _. r.1))

-- what stands at its place is x, or x is not there
pub has_at_place : (x : Pair) (l : List Pair) (d : Pair) → place_of x l < length l
    → has x l ≡ cond (is_before x (get_or l (place_of x l) d)) false true
has_at_place x [] d p = absurd (omega arith)
has_at_place x (y ∷ l) d p =
    (elim (is_before y x) as (λ b. cond b (suc (place_of x l)) 0 < length (y ∷ l)
    → cond b (has x l) (cond (is_before x y) false true)
    ≡ cond (is_before x (get_or (y ∷ l) (cond b (suc (place_of x l)) 0) d)) false true) [
      | true ↦ λ p. has_at_place x l d (omega arith)
      | false ↦ λ p. refl
    ]) p

pub has_past : (x : Pair) (l : List Pair) → length l ≤ place_of x l → has x l ≡ false
has_past x [] p = refl
has_past x (y ∷ l) p =
    (elim (is_before y x) as (λ b. length (y ∷ l) ≤ cond b (suc (place_of x l)) 0
    → cond b (has x l) (cond (is_before x y) false true) ≡ false) [
      | true ↦ λ p. has_past x l (omega arith)
      | false ↦ λ p. absurd (omega arith)
    ]) p

pub remove_at_place : (x : Pair) (l : List Pair) → has x l ≡ true
    → take (place_of x l) l ++ drop (suc (place_of x l)) l ≡ without_pair x l
remove_at_place x [] h = absurd cc
remove_at_place x (y ∷ l) h =
    (elim (is_before y x) as (λ b. cond b (has x l) (cond (is_before x y) false true) ≡ true
    → take (cond b (suc (place_of x l)) 0) (y ∷ l) ++ drop (suc (cond b (suc (place_of x l)) 0)) (y ∷ l)
    ≡ cond b (y ∷ without_pair x l) (cond (is_before x y) (y ∷ l) l)) [
      | true ↦ λ h. ap (λ (m : List Pair). y ∷ m) (remove_at_place x l h)
      | false ↦ λ h. (elim (is_before x y) as
          (λ b. cond b false true ≡ true → l ≡ cond b (y ∷ l) l) [ true ↦ λ e. absurd cc | false ↦ λ e. refl ]) h
    ]) h

-- the child at x's place loses x: so does the page
pub has_in_child : (x : Pair) (ss : List Pair) (cs : List PageView) (d : PageView) → IsCut ss cs
    → IsRising (pairs_of_pages cs) → has x (pairs_of_pages cs) ≡ has x (get_or cs (place_of x ss) d).pairs
has_in_child x [] [] d h r = absurd h
has_in_child x [] (c ∷ []) d h r = ap (has x) (append-nil c.pairs)
has_in_child x [] (c ∷ b ∷ cs) d h r = absurd h
has_in_child x (s ∷ ss) [] d h r = absurd h
has_in_child x (s ∷ ss) (c ∷ cs) d h r =
    (elim (is_before s x) as (λ b. is_before s x ≡ b → has x (pairs_of_pages (c ∷ cs))
    ≡ has x (get_or (c ∷ cs) (cond b (suc (place_of x ss)) 0) d).pairs) [
      | true ↦ λ p. has_behind x c.pairs (pairs_of_pages cs)
          (rising_before_last s x c.pairs h.0 (rising_front c.pairs _ r) p)
          ∙ has_in_child x ss cs d h.1 (rising_back c.pairs _ r)
      | false ↦ λ p. has_within x s c.pairs (pairs_of_pages cs) h.0 p
    ]) refl

pub shrunk_pairs : (x : Pair) (ss : List Pair) (cs : List PageView) (a d : PageView) → IsCut ss cs
    → IsRising (pairs_of_pages cs) → a.pairs ≡ without_pair x (get_or cs (place_of x ss) d).pairs
    → pairs_of_pages (set cs (place_of x ss) a) ≡ without_pair x (pairs_of_pages cs)
shrunk_pairs x [] [] a d h r e = absurd h
shrunk_pairs x [] (c ∷ []) a d h r e = append-nil a.pairs ∙ e ∙ ap (without_pair x) (sym (append-nil c.pairs))
shrunk_pairs x [] (c ∷ b ∷ cs) a d h r e = absurd h
shrunk_pairs x (s ∷ ss) [] a d h r e = absurd h
shrunk_pairs x (s ∷ ss) (c ∷ cs) a d h r e =
    (elim (is_before s x) as (λ b. is_before s x ≡ b → a.pairs ≡ without_pair x
    (get_or (c ∷ cs) (cond b (suc (place_of x ss)) 0) d).pairs → pairs_of_pages
    (set (c ∷ cs) (cond b (suc (place_of x ss)) 0) a) ≡ without_pair x (pairs_of_pages (c ∷ cs))) [
      | true ↦ λ p e. ap (λ (m : List Pair). c.pairs ++ m) (shrunk_pairs x ss cs a d h.1 (rising_back c.pairs _ r) e)
          ∙ sym (without_behind x c.pairs (pairs_of_pages cs)
          (rising_before_last s x c.pairs h.0 (rising_front c.pairs _ r) p))
      | false ↦ λ p e. ap (λ (m : List Pair). m ++ pairs_of_pages cs) e
          ∙ sym (without_within x s c.pairs (pairs_of_pages cs) h.0 p)
    ]) refl e

-- a child and the separator after it are replaced
pub cut_set : (i : ℕ) (ss : List Pair) (cs : List PageView) (a : PageView) (t : Pair) → IsCut ss cs
    → last_of a.pairs ≡ Some t → IsCut (set ss i t) (set cs i a)
cut_set i [] [] a t h l = absurd h
cut_set zero [] (c ∷ []) a t h l = tt
cut_set (suc i) [] (c ∷ []) a t h l = tt
cut_set i [] (c ∷ b ∷ cs) a t h l = absurd h
cut_set i (s ∷ ss) [] a t h l = absurd h
cut_set zero (s ∷ ss) (c ∷ cs) a t h l = (l, h.1)
cut_set (suc i) (s ∷ ss) (c ∷ cs) a t h l = (h.0, cut_set i ss cs a t h.1 l)

pub cut_set_same : (i : ℕ) (ss : List Pair) (cs : List PageView) (a : PageView) (d : Pair) → IsCut ss cs
    → i < length ss → last_of a.pairs ≡ Some (get_or ss i d) → IsCut ss (set cs i a)
cut_set_same i [] cs a d h p l = absurd (omega arith)
cut_set_same i (s ∷ ss) [] a d h p l = absurd h
cut_set_same zero (s ∷ ss) (c ∷ cs) a d h p l = (l, h.1)
cut_set_same (suc i) (s ∷ ss) (c ∷ cs) a d h p l = (h.0, cut_set_same i ss cs a d h.1 (omega arith) l)

last_over : (y s : Pair) (l : List Pair) → last_of l ≡ Some s → last_of (y ∷ l) ≡ Some s
last_over y s [] e = absurd cc
last_over y s (z ∷ l) e = e

pub last_without : (x s : Pair) (l : List Pair) → last_of l ≡ Some s → is_before x s ≡ true
    → last_of (without_pair x l) ≡ Some s
last_without x s [] e b = absurd cc
last_without x s (y ∷ []) e b =
    let q : y ≡ s = cc in
    let h : is_before x y ≡ true = ap (is_before x) q ∙ b in
    rw h (elim (is_before y x) as (λ v. last_of (cond v (y ∷ []) (y ∷ [])) ≡ Some s) [ true ↦ e | false ↦ e ])
last_without x s (y ∷ z ∷ l) e b =
    elim (is_before y x) as (λ v. last_of (cond v (y ∷ without_pair x (z ∷ l))
    (cond (is_before x y) (y ∷ z ∷ l) (z ∷ l))) ≡ Some s) [
      | true ↦ last_over y s (without_pair x (z ∷ l)) (last_without x s (z ∷ l) e b)
      | false ↦ elim (is_before x y) as (λ v. last_of (cond v (y ∷ z ∷ l) (z ∷ l)) ≡ Some s)
          [ true ↦ e | false ↦ e ]
    ]

-- the children i and i + 1 become n
abbrev pub merged : List PageView → ℕ → PageView → List PageView
merged cs i n = set (take (suc i) cs ++ drop (suc (suc i)) cs) i n

pub merged_cut : (i : ℕ) (ss : List Pair) (cs : List PageView) (n d : PageView) → IsCut ss cs → suc i < length cs
    → n.pairs ≡ (get_or cs i d).pairs ++ (get_or cs (suc i) d).pairs
    → IsCut (take i ss ++ drop (suc i) ss) (merged cs i n)
merged_cut i ss [] n d h p e = absurd (omega arith)
merged_cut i ss (c ∷ []) n d h p e = absurd (omega arith)
merged_cut i [] (c ∷ f ∷ cs) n d h p e = absurd h
merged_cut zero (s ∷ []) (c ∷ f ∷ []) n d h p e = tt
merged_cut zero (s ∷ []) (c ∷ f ∷ g ∷ cs) n d h p e = absurd h.1
merged_cut zero (s ∷ t ∷ ss) (c ∷ f ∷ cs) n d h p e = (ap last_of e ∙ last_back t c.pairs f.pairs h.1.0, h.1.1)
merged_cut (suc i) (s ∷ ss) (c ∷ f ∷ cs) n d h p e = (h.0, merged_cut i ss (f ∷ cs) n d h.1 (omega arith) e)

pub merged_pairs : (i : ℕ) (cs : List PageView) (n d : PageView) → suc i < length cs
    → n.pairs ≡ (get_or cs i d).pairs ++ (get_or cs (suc i) d).pairs
    → pairs_of_pages (merged cs i n) ≡ pairs_of_pages cs
merged_pairs i [] n d p e = absurd (omega arith)
merged_pairs i (c ∷ []) n d p e = absurd (omega arith)
merged_pairs zero (c ∷ f ∷ cs) n d p e =
    ap (λ (m : List Pair). m ++ pairs_of_pages cs) e ∙ append_assoc c.pairs f.pairs (pairs_of_pages cs)
merged_pairs (suc i) (c ∷ f ∷ cs) n d p e =
    ap (λ (m : List Pair). c.pairs ++ m) (merged_pairs i (f ∷ cs) n d (omega arith) e)

-- the children i and i + 1 become a and b
abbrev pub reparted : List PageView → ℕ → PageView → PageView → List PageView
reparted cs i a b = take (suc i) (merged cs i a) ++ b ∷ drop (suc i) (merged cs i a)

pub reparted_pairs : (i : ℕ) (cs : List PageView) (a b d : PageView) → suc i < length cs
    → a.pairs ++ b.pairs ≡ (get_or cs i d).pairs ++ (get_or cs (suc i) d).pairs
    → pairs_of_pages (reparted cs i a b) ≡ pairs_of_pages cs
reparted_pairs i [] a b d p e = absurd (omega arith)
reparted_pairs i (c ∷ []) a b d p e = absurd (omega arith)
reparted_pairs zero (c ∷ f ∷ cs) a b d p e = sym (append_assoc a.pairs b.pairs (pairs_of_pages cs))
    ∙ ap (λ (m : List Pair). m ++ pairs_of_pages cs) e ∙ append_assoc c.pairs f.pairs (pairs_of_pages cs)
reparted_pairs (suc i) (c ∷ f ∷ cs) a b d p e =
    ap (λ (m : List Pair). c.pairs ++ m) (reparted_pairs i (f ∷ cs) a b d (omega arith) e)

abbrev pub cut_out : List Pair → ℕ → List Pair
cut_out ss i = take i ss ++ drop (suc i) ss

pub reparted_cut : (i : ℕ) (ss : List Pair) (cs : List PageView) (a b d : PageView) (t : Pair) → IsCut ss cs
    → suc i < length cs → a.pairs ++ b.pairs ≡ (get_or cs i d).pairs ++ (get_or cs (suc i) d).pairs
    → last_of a.pairs ≡ Some t → 0 < length b.pairs → IsCut (take i (cut_out ss i) ++ t ∷ drop i (cut_out ss i))
    (reparted cs i a b)
reparted_cut i ss [] a b d t h p e l n = absurd (omega arith)
reparted_cut i ss (c ∷ []) a b d t h p e l n = absurd (omega arith)
reparted_cut i [] (c ∷ f ∷ cs) a b d t h p e l n = absurd h
reparted_cut zero (s ∷ []) (c ∷ f ∷ []) a b d t h p e l n = (l, tt)
reparted_cut zero (s ∷ []) (c ∷ f ∷ g ∷ cs) a b d t h p e l n = absurd h.1
reparted_cut zero (s ∷ u ∷ ss) (c ∷ f ∷ cs) a b d t h p e l n =
    (l, (last_some u a.pairs b.pairs (ap last_of e ∙ last_back u c.pairs f.pairs h.1.0) n, h.1.1))
reparted_cut (suc i) (s ∷ ss) (c ∷ f ∷ cs) a b d t h p e l n =
    (h.0, reparted_cut i ss (f ∷ cs) a b d t h.1 (omega arith) e l n)

-- children

pub but_set : (h m i : ℕ) (cs : List PageView) (a : PageView) → AreChildren h m cs → AreBut h m i (set cs i a)
but_set h m i [] a q = tt
but_set h m zero (c ∷ cs) a q = q.1
but_set h m (suc i) (c ∷ cs) a q = (q.0, but_set h m i cs a q.1)

pub but_fix : (h m i : ℕ) (cs : List PageView) (d : PageView) → AreBut h m i cs
    → (i < length cs → IsChild h m (get_or cs i d)) → AreChildren h m cs
but_fix h m i [] d a q = tt
but_fix h m zero (c ∷ cs) d a q = (q (omega arith), a)
but_fix h m (suc i) (c ∷ cs) d a q = (a.0, but_fix h m i cs d a.1 (λ p. q (omega arith)))

pub but_other : (h m i j : ℕ) (cs : List PageView) (d : PageView) → AreBut h m i cs → j < length cs → (i ≡ j → ⊥)
    → IsChild h m (get_or cs j d)
but_other h m i j [] d a p n = absurd (omega arith)
but_other h m zero zero (c ∷ cs) d a p n = absurd (n refl)
but_other h m zero (suc j) (c ∷ cs) d a p n = child_at h m cs j d a (omega arith)
but_other h m (suc i) zero (c ∷ cs) d a p n = a.0
but_other h m (suc i) (suc j) (c ∷ cs) d a p n = but_other h m i j cs d a.1 (omega arith) (λ e. n (ap suc e))

pub apart_left : (h m i : ℕ) (cs : List PageView) → AreBut h m i cs → suc i < length cs → AreChildrenBesides h m i cs
apart_left h m i [] a p = tt
apart_left h m i (c ∷ []) a p = absurd (omega arith)
apart_left h m zero (c ∷ f ∷ cs) a p = a.1
apart_left h m (suc i) (c ∷ f ∷ cs) a p = (a.0, apart_left h m i (f ∷ cs) a.1 (omega arith))

pub apart_right : (h m i : ℕ) (cs : List PageView) → AreBut h m (suc i) cs → suc i < length cs
    → AreChildrenBesides h m i cs
apart_right h m i [] a p = tt
apart_right h m i (c ∷ []) a p = absurd (omega arith)
apart_right h m zero (c ∷ f ∷ cs) a p = a.1
apart_right h m (suc i) (c ∷ f ∷ cs) a p = (a.0, apart_right h m i (f ∷ cs) a.1 (omega arith))

pub merged_children : (h m i : ℕ) (cs : List PageView) (n : PageView) → AreChildrenBesides h m i cs → suc i < length cs
    → IsChild h m n → AreChildren h m (merged cs i n)
merged_children h m i [] n a p q = absurd (omega arith)
merged_children h m i (c ∷ []) n a p q = absurd (omega arith)
merged_children h m zero (c ∷ f ∷ cs) n a p q = (q, a)
merged_children h m (suc i) (c ∷ f ∷ cs) n a p q = (a.0, merged_children h m i (f ∷ cs) n a.1 (omega arith) q)

pub merged_length : (i : ℕ) (cs : List PageView) (n : PageView) → suc i < length cs
    → length (merged cs i n) + 1 ≡ length cs
merged_length i [] n p = absurd (omega arith)
merged_length i (c ∷ []) n p = absurd (omega arith)
merged_length zero (c ∷ f ∷ cs) n p = omega arith
merged_length (suc i) (c ∷ f ∷ cs) n p = omega (arith, merged_length i (f ∷ cs) n (omega arith))

-- the entries of two pages side by side, with the separator between them
pub cut_append : (h m : ℕ) (ss ts : List Pair) (cs ds : List PageView) (s : Pair) → IsCut ss cs → IsCut ts ds
    → AreChildren h m cs → last_of (pairs_of_pages cs) ≡ Some s → IsCut (ss ++ s ∷ ts) (cs ++ ds)
cut_append h m [] ts [] ds s q r a l = absurd q
cut_append h m [] ts (c ∷ []) ds s q r a l = (ap last_of (sym (append-nil c.pairs)) ∙ l, r)
cut_append h m [] ts (c ∷ b ∷ cs) ds s q r a l = absurd q
cut_append h m (t ∷ ss) ts [] ds s q r a l = absurd q
cut_append h m (t ∷ ss) ts (c ∷ []) ds s q r a l = absurd (omega (arith, cut_length ss [] q.1))
cut_append h m (t ∷ ss) ts (c ∷ b ∷ cs) ds s q r a l = (
  q.0,
  cut_append h m ss ts (b ∷ cs) ds s q.1 r a.1
      (last_some s c.pairs (pairs_of_pages (b ∷ cs)) l
      (omega (arith, a.1.0.filled, least_pairs_pos h, length-append b.pairs (pairs_of_pages cs)))),
)

pub last_index : (l : List Pair) (d : Pair) → 0 < length l → last_of l ≡ Some (get_or l (length l - 1) d)
last_index l d n =
    let e : suc (length l - 1) ≡ length l = omega arith in
    let all : take (suc (length l - 1)) l ≡ l = take_all (suc (length l - 1)) l (omega arith) in
    sym (ap last_of all) ∙ last_of_take (length l - 1) l d (omega arith)

last_of_joined : (h m : ℕ) (c : PageView) (cs : List PageView) (d : PageView) → AreChildren h m (c ∷ cs)
    → last_of (pairs_of_pages (c ∷ cs)) ≡ last_of (get_or (c ∷ cs) (length cs) d).pairs
last_of_joined h m c [] d a = ap last_of (append-nil c.pairs)
last_of_joined h m c (b ∷ cs) d a = last_rest c.pairs (pairs_of_pages (b ∷ cs))
    (omega (arith, a.1.0.filled, least_pairs_pos h, length-append b.pairs (pairs_of_pages cs)))
    ∙ last_of_joined h m b cs d a.1

pub last_child : (m : ℕ) (es : List Pair) (cs : List PageView) (d : PageView) → IsFramedPage m es cs → 0 < length cs
    → (last_of (pairs_of es cs) ≡ last_of (get_or cs (length cs - 1) d).pairs)
    × (0 < length (get_or cs (length cs - 1) d).pairs) × (height_of cs ≡ (get_or cs (length cs - 1) d).height + 1)
last_child m es [] d p n = absurd (omega arith)
last_child m es (c ∷ cs) d p n =
    let i : length (c ∷ cs) - 1 ≡ length cs = omega arith in
    let one : IsChild c.height m (get_or (c ∷ cs) (length cs) d) =
    child_at c.height m (c ∷ cs) (length cs) d p.framed.1 (omega arith) in
    let some : 0 < length (get_or (c ∷ cs) (length cs) d).pairs =
    omega (arith, one.filled, least_pairs_pos c.height) in (
      last_of_joined c.height m c cs d p.framed.1 ∙ ap (λ k. last_of (get_or (c ∷ cs) k d).pairs) (sym i),
      subst (λ k. 0 < length (get_or (c ∷ cs) k d).pairs) (sym i) some,
      ap (λ k. k + 1) (sym one.level) ∙ ap (λ k. (get_or (c ∷ cs) k d).height + 1) (sym i),
    )
