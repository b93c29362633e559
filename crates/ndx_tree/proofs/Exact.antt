-- The walk ends well exactly where the pages spell a tree.
use Rattle.std.proofs.Common.{◌≡◌, ℕ, zero, suc, Bool, true, false, cond, eqb, List, [], ◌∷◌, ◌++◌, Option, Some, None}
use Rattle.std.proofs.Common.{Result, Ok, Err, refl, ap, sym, ◌∙◌, subst, append_assoc}
use Rattle.std.proofs.lemmas.Bool.{eqb-true, eq-eqb}
use Rattle.std.proofs.lemmas.List.{append-nil}
use Rattle.ndx_page.specs.declared.page.Page.{Page}
use Rattle.ndx_tree.specs.IndexFile.{Item, Link, links, separator_items, all_listed, leaf_pairs, AreBelow, IsNode}
use Rattle.ndx_tree.specs.IndexFile.{is_barred, AreFresh}
use Rattle.ndx_tree.specs.declared.fault.TreeFault.{TreeFault}
use Rattle.ndx_tree.specs.declared.fault.TreeFault.TheVariants as faults
use Rattle.ndx_tree.specs.Walk.{Seen, followed, with_separator, walk_all, is_level, visit, open_page, walk}

-- the tree below a page, over what pages there are
abbrev pub IsUnder : (ℕ → Option Page) → ℕ → ℕ → ℕ → List ℕ → List Item → Type 0
IsUnder file level zero n reached items = ⊥
IsUnder file level (suc d) n reached items = (page : Page) × (rest : List ℕ) × (file n ≡ Some page)
    × (reached ≡ n ∷ rest) × IsNode (IsUnder file level d) (eqb d level) page page.last rest items

-- where the leaves may stand, once the first was met
abbrev pub CanBe : ℕ → Option ℕ → Type 0
CanBe level None = Unit {0}
CanBe level (Some m) = level ≡ m

abbrev pub seen_of : List ℕ → List Item → Option ℕ → Seen
seen_of reached items level = record { reached = reached; items = items; level = level }

-- what a walk that ends well has added
pub record Adds (R : ℕ → ℕ → List ℕ → List Item → Type 0) (count : ℕ) (s : Seen) (n : ℕ) (t : Seen) : Type 0 where
  pub level : ℕ
  pub more : List ℕ
  pub met : List Item
  pub can : CanBe level s.level
  pub below : R level n more met
  pub fresh : AreFresh count s.reached more
  pub is : t ≡ seen_of (s.reached ++ more) (s.items ++ met) (Some level)

never : (t : Seen) (f : TreeFault) → (let o : Result Seen TreeFault = Err f in o) ≡ Ok t → ⊥
never t f e = cc

pub fresh_append : (count : ℕ) (seen r1 r2 : List ℕ) → AreFresh count seen r1 → AreFresh count (seen ++ r1) r2
    → AreFresh count seen (r1 ++ r2)
fresh_append count seen [] r2 a b = subst (λ (m : List ℕ). AreFresh count m r2) (append-nil seen) b
fresh_append count seen (n ∷ r1) r2 a b = (
  a.0,
  fresh_append count (seen ++ n ∷ []) r1 r2 a.1
      (subst (λ (m : List ℕ). AreFresh count m r2) (sym (append_assoc seen (n ∷ []) r1)) b),
)

pub fresh_front : (count : ℕ) (seen r1 r2 : List ℕ) → AreFresh count seen (r1 ++ r2) → AreFresh count seen r1
fresh_front count seen [] r2 a = tt
fresh_front count seen (n ∷ r1) r2 a = (a.0, fresh_front count (seen ++ n ∷ []) r1 r2 a.1)

pub fresh_back : (count : ℕ) (seen r1 r2 : List ℕ) → AreFresh count seen (r1 ++ r2) → AreFresh count (seen ++ r1) r2
fresh_back count seen [] r2 a = subst (λ (m : List ℕ). AreFresh count m r2) (sym (append-nil seen)) a
fresh_back count seen (n ∷ r1) r2 a = subst (λ (m : List ℕ). AreFresh count m r2) (append_assoc seen (n ∷ []) r1)
    (fresh_back count (seen ++ n ∷ []) r1 r2 a.1)

followed_ok : (r : Result Seen TreeFault) (f : Seen → Result Seen TreeFault) (t : Seen) → followed r f ≡ Ok t
    → (m : Seen) × (r ≡ Ok m) × (f m ≡ Ok t)
followed_ok (Ok m) f t e = (m, refl, e)
followed_ok (Err x) f t e = absurd cc

pub ok_is : (s t : Seen) → (let o : Result Seen TreeFault = Ok s in o) ≡ Ok t → s ≡ t
ok_is s t e = cc

-- three lists side by side
three_items : (a b c d : List Item) → ((a ++ b) ++ c) ++ d ≡ a ++ (b ++ (c ++ d))
three_items a b c d = append_assoc (a ++ b) c d ∙ append_assoc a b (c ++ d)

-- what the children add, once it is known where leaves stand
record AddAll (R : ℕ → List ℕ → List Item → Type 0) (count : ℕ) (s : Seen) (cs : List Link) (level : ℕ)
    (t : Seen) : Type 0 where
  pub more : List ℕ
  pub met : List Item
  pub below : AreBelow R cs more met
  pub fresh : AreFresh count s.reached more
  pub is : t ≡ seen_of (s.reached ++ more) (s.items ++ met) (Some level)

seen_again : (a a2 : List ℕ) (i i2 : List Item) (o o2 : Option ℕ) → a ≡ a2 → i ≡ i2 → o ≡ o2
    → seen_of a i o ≡ seen_of a2 i2 o2
seen_again a a2 i i2 o o2 p q r =
    ap (λ (m : List ℕ). seen_of m i o) p ∙ ap (λ (m : List Item). seen_of a2 m o) q ∙ ap (seen_of a2 i2) r

-- the first child, and then the others
add_child : (R : ℕ → List ℕ → List Item → Type 0) (count : ℕ) (s m t : Seen) (c : Link) (cs : List Link) (level : ℕ)
    (r1 : List ℕ) (i1 : List Item) → R c.0 r1 i1 → AreFresh count s.reached r1
    → m ≡ seen_of (s.reached ++ r1) (s.items ++ i1) (Some level) → AddAll R count (with_separator c.1 m) cs level t
    → AddAll R count s (c ∷ cs) level t
add_child R count s m t c cs level r1 i1 below fresh is others = record {
  more = r1 ++ others.more;
  met = i1 ++ (separator_items c.1 ++ others.met);
  below = (r1, others.more, i1, others.met, refl, refl, below, others.below);
  fresh = fresh_append count s.reached r1 others.more fresh
      (subst (λ (v : Seen). AreFresh count v.reached others.more) is others.fresh);
  is = others.is ∙ seen_again _ _ _ _ _ _
      (ap (λ (v : Seen). v.reached ++ others.more) is ∙ append_assoc s.reached r1 others.more)
      (ap (λ (v : Seen). (v.items ++ separator_items c.1) ++ others.met) is
      ∙ three_items s.items i1 (separator_items c.1) others.met) refl;
}

all_known : (f : ℕ → Seen → Result Seen TreeFault) (R : ℕ → ℕ → List ℕ → List Item → Type 0) (count : ℕ)
    → ((n : ℕ) (s t : Seen) → f n s ≡ Ok t → Adds R count s n t) → (cs : List Link) (s t : Seen) (level : ℕ)
    → s.level ≡ Some level → walk_all f cs s ≡ Ok t → AddAll (R level) count s cs level t
all_known f R count h [] s t level k e =
    record {
      more = [];
      met = [];
      below = (refl, refl);
      fresh = tt;
      is = sym (ok_is s t e)
          ∙ seen_again _ _ _ _ _ _ (sym (append-nil s.reached)) (sym (append-nil s.items)) k;
    }
all_known f R count h (c ∷ cs) s t level k e =
    let m = followed_ok (f c.0 s) (λ u. walk_all f cs (with_separator c.1 u)) t e in
    let a = h c.0 s m.0 m.1 in
    let same : a.level ≡ level = subst (CanBe a.level) k a.can in
    let is : m.0 ≡ seen_of (s.reached ++ a.more) (s.items ++ a.met) (Some level) =
    a.is ∙ ap (λ l. seen_of (s.reached ++ a.more) (s.items ++ a.met) (Some l)) same in
    add_child (R level) count s m.0 t c cs level a.more a.met (subst (λ l. R l c.0 a.more a.met) same a.below) a.fresh
    is (all_known f R count h cs (with_separator c.1 m.0) t level (ap (λ (v : Seen). v.level) is) m.2)

record AddSome (R : ℕ → ℕ → List ℕ → List Item → Type 0) (count : ℕ) (s : Seen) (cs : List Link) (t : Seen) : Type 0
  where
    pub level : ℕ
    pub can : CanBe level s.level
    pub all : AddAll (R level) count s cs level t

all_sound : (f : ℕ → Seen → Result Seen TreeFault) (R : ℕ → ℕ → List ℕ → List Item → Type 0) (count : ℕ)
    → ((n : ℕ) (s t : Seen) → f n s ≡ Ok t → Adds R count s n t) → (c : Link) (cs : List Link) (s t : Seen)
    → walk_all f (c ∷ cs) s ≡ Ok t → AddSome R count s (c ∷ cs) t
all_sound f R count h c cs s t e =
    let m = followed_ok (f c.0 s) (λ u. walk_all f cs (with_separator c.1 u)) t e in
    let a = h c.0 s m.0 m.1 in
    record {
      level = a.level;
      can = a.can;
      all = add_child (R a.level) count s m.0 t c cs a.level a.more a.met a.below
          a.fresh a.is (all_known f R count h cs (with_separator c.1 m.0) t a.level (ap (λ (v : Seen). v.level) a.is)
          m.2);
    }

links_some : (f : ℕ → Seen → Result Seen TreeFault) (R : ℕ → ℕ → List ℕ → List Item → Type 0) (count : ℕ)
    → ((n : ℕ) (s t : Seen) → f n s ≡ Ok t → Adds R count s n t)
    → (es : List Rattle.ndx_page.specs.declared.page.PageEntry.PageEntry) (last : ℕ) (s t : Seen)
    → walk_all f (links es last) s ≡ Ok t → AddSome R count s (links es last) t
links_some f R count h [] last s t e = all_sound f R count h (last, None) [] s t e
links_some f R count h (x ∷ es) last s t e = all_sound f R count h (x.child, Some x.key.items) (links es last) s t e

-- a page with the number n, and what its visit adds
AddNode : (ℕ → ℕ → List ℕ → List Item → Type 0) → ℕ → ℕ → Seen → Page → ℕ → ℕ → Seen → Type 0
AddNode R d count s page last n t = (level : ℕ) × (rest : List ℕ) × (met : List Item) × CanBe level s.level
    × IsNode (R level) (eqb d level) page last rest met × AreFresh count (s.reached ++ n ∷ []) rest
    × (t ≡ seen_of ((s.reached ++ n ∷ []) ++ rest) (s.items ++ met) (Some level))

level_ok : (d : ℕ) (o : Option ℕ) (x t : Seen) → cond (is_level d o) (Ok x) (Err faults.Depth) ≡ Ok t
    → CanBe d o × (x ≡ t)
level_ok d None x t e = (tt, ok_is x t e)
level_ok d (Some m) x t e =
    (elim (eqb d m) as (λ b. eqb d m ≡ b → cond b (Ok x) (Err faults.Depth) ≡ Ok t → (d ≡ m) × (x ≡ t)) [
      | true ↦ λ p q. (eqb-true d m p, ok_is x t q)
      | false ↦ λ p q. absurd (never t faults.Depth q)
    ]) refl e

node_sound : (f : ℕ → Seen → Result Seen TreeFault) (R : ℕ → ℕ → List ℕ → List Item → Type 0) (count d n : ℕ)
    (page : Page) (last : ℕ) → ((n : ℕ) (s t : Seen) → f n s ≡ Ok t → Adds R count s n t) → (s t : Seen)
    → visit f d page last (seen_of (s.reached ++ n ∷ []) s.items s.level) ≡ Ok t → AddNode R d count s page last n t
unfolding AddNode
node_sound f R count d n page zero h s t e =
    let k = level_ok d s.level _ t e in (
      d,
      [],
      all_listed (leaf_pairs page.entries.items),
      k.0,
      (eq-eqb d d refl, refl, refl),
      tt,
      sym k.1
          ∙ seen_again _ _ _ _ _ _ (sym (append-nil (s.reached ++ n ∷ []))) refl refl,
    )
node_sound f R count d n page (suc last) h s t e =
    let k = links_some f R count h page.entries.items (suc last) (seen_of (s.reached ++ n ∷ []) s.items s.level) t e in
    (k.level, k.all.more, k.all.met, k.can, k.all.below, k.all.fresh, k.all.is)

open_ok : (o : Option Page) (f : Page → Result Seen TreeFault) (t : Seen) → open_page o f ≡ Ok t
    → (page : Page) × (o ≡ Some page) × (f page ≡ Ok t)
open_ok None f t e = absurd cc
open_ok (Some page) f t e = (page, refl, e)

barred_ok : (b : Bool) (x : Result Seen TreeFault) (t : Seen) → cond b (Err faults.Reach) x ≡ Ok t
    → (b ≡ false) × (x ≡ Ok t)
barred_ok true x t e = absurd cc
barred_ok false x t e = (refl, e)

node_adds : (file : ℕ → Option Page) (count d n : ℕ) (s t : Seen) (page : Page) → file n ≡ Some page
    → is_barred count n s.reached ≡ false → AddNode (λ level. IsUnder file level d) d count s page page.last n t
    → Adds (λ level. IsUnder file level (suc d)) count s n t
unfolding AddNode
node_adds file count d n s t page there free k =
    record {
      level = k.0;
      more = n ∷ k.1;
      met = k.2;
      can = k.3;
      below = (page, k.1, there, refl, k.4);
      fresh =
          (free, k.5);
      is = k.6 ∙ seen_again _ _ _ _ _ _ (append_assoc s.reached (n ∷ []) k.1) refl refl;
    }

pub walk_sound : (file : ℕ → Option Page) (count d n : ℕ) (s t : Seen) → walk file count d n s ≡ Ok t
    → Adds (λ level. IsUnder file level d) count s n t
walk_sound file count zero n s t e =
    let b = barred_ok _ _ t e in
    let o = open_ok (file n) (λ _. Err faults.Depth) t b.1 in absurd (let x : ⊥ = never t faults.Depth o.2 in x)
walk_sound file count (suc d) n s t e =
    let b = barred_ok _ _ t e in
    let o = open_ok (file n) _ t b.1 in
    let k = node_sound (walk file count d) (λ level. IsUnder file level d) count d n o.0 o.0.last
    (λ n s t. walk_sound file count d n s t) s t o.2 in
    node_adds file count d n s t o.0 o.1 b.0 k

-- ---- and back

-- a child first, and then the others
child_first : (f : ℕ → Seen → Result Seen TreeFault) (R : ℕ → List ℕ → List Item → Type 0) (count level : ℕ)
    → ((n : ℕ) (s : Seen) (r : List ℕ) (i : List Item) → CanBe level s.level → R n r i → AreFresh count s.reached r
    → f n s ≡ Ok (seen_of (s.reached ++ r) (s.items ++ i) (Some level))) →
    (c : Link) (cs : List Link) (s : Seen) (r r1 r2 : List ℕ) (i i1 i2 : List Item) → CanBe level s.level → r ≡ r1 ++ r2
    → i ≡ i1 ++ (separator_items c.1 ++ i2) → R c.0 r1 i1 → AreFresh count s.reached r →
    ((m : Seen) → m.level ≡ Some level → AreFresh count m.reached r2
    → walk_all f cs m ≡ Ok (seen_of (m.reached ++ r2) (m.items ++ i2) (Some level))) →
    walk_all f (c ∷ cs) s ≡ Ok (seen_of (s.reached ++ r) (s.items ++ i) (Some level))
child_first f R count level h c cs s r r1 r2 i i1 i2 can er ei below q others =
    let fresh : AreFresh count s.reached (r1 ++ r2) = subst (AreFresh count s.reached) er q in
    let m : Seen = seen_of (s.reached ++ r1) (s.items ++ i1) (Some level) in
    let one : f c.0 s ≡ Ok m = h c.0 s r1 i1 can below (fresh_front count s.reached r1 r2 fresh) in
    let rest = others (with_separator c.1 m) refl (fresh_back count s.reached r1 r2 fresh) in
    ap (λ (o : Result Seen TreeFault). followed o (λ u. walk_all f cs (with_separator c.1 u))) one ∙ rest
    ∙ ap (λ (v : Seen). let o : Result Seen TreeFault = Ok v in o)
    (seen_again _ _ _ _ _ _ (append_assoc s.reached r1 r2 ∙ ap (λ (k : List ℕ). s.reached ++ k) (sym er))
    (three_items s.items i1 (separator_items c.1) i2 ∙ ap (λ (k : List Item). s.items ++ k) (sym ei)) refl)

known_complete : (f : ℕ → Seen → Result Seen TreeFault) (R : ℕ → List ℕ → List Item → Type 0) (count level : ℕ)
    → ((n : ℕ) (s : Seen) (r : List ℕ) (i : List Item) → CanBe level s.level → R n r i → AreFresh count s.reached r
    → f n s ≡ Ok (seen_of (s.reached ++ r) (s.items ++ i) (Some level)))
    → (cs : List Link) (s : Seen) (r : List ℕ) (i : List Item) → s.level ≡ Some level → AreBelow R cs r i
    → AreFresh count s.reached r → walk_all f cs s ≡ Ok (seen_of (s.reached ++ r) (s.items ++ i) (Some level))
known_complete f R count level h [] s r i k a q = ap (λ (v : Seen). let o : Result Seen TreeFault = Ok v in o)
    (seen_again _ _ _ _ _ _ (sym (append-nil s.reached) ∙ ap (λ (m : List ℕ). s.reached ++ m) (sym a.0))
    (sym (append-nil s.items) ∙ ap (λ (m : List Item). s.items ++ m) (sym a.1)) k)
known_complete f R count level h (c ∷ cs) s r i k a q =
    child_first f R count level h c cs s r a.0 a.1 i a.2 a.3 (subst (CanBe level) (sym k) refl) a.4 a.5 a.6 q
    (λ m l fresh. known_complete f R count level h cs m a.1 a.3 l a.7 fresh)

links_complete : (f : ℕ → Seen → Result Seen TreeFault) (R : ℕ → List ℕ → List Item → Type 0) (count level : ℕ)
    → ((n : ℕ) (s : Seen) (r : List ℕ) (i : List Item) → CanBe level s.level → R n r i → AreFresh count s.reached r
    → f n s ≡ Ok (seen_of (s.reached ++ r) (s.items ++ i) (Some level)))
    → (es : List Rattle.ndx_page.specs.declared.page.PageEntry.PageEntry) (last : ℕ) (s : Seen) (r : List ℕ)
    (i : List Item) → CanBe level s.level → AreBelow R (links es last) r i → AreFresh count s.reached r
    → walk_all f (links es last) s ≡ Ok (seen_of (s.reached ++ r) (s.items ++ i) (Some level))
links_complete f R count level h [] last s r i can a q =
    child_first f R count level h (last, None) [] s r a.0 a.1 i a.2 a.3 can a.4 a.5 a.6 q
    (λ m l fresh. known_complete f R count level h [] m a.1 a.3 l a.7 fresh)
links_complete f R count level h (x ∷ es) last s r i can a q =
    child_first f R count level h (x.child, Some x.key.items) (links es last) s r a.0 a.1 i a.2 a.3 can a.4 a.5 a.6 q
    (λ m l fresh. known_complete f R count level h (links es last) m a.1 a.3 l a.7 fresh)

level_may : (d level : ℕ) (o : Option ℕ) (x : Seen) → eqb d level ≡ true → CanBe level o
    → cond (is_level d o) (Ok x) (Err faults.Depth) ≡ Ok x
level_may d level None x e c = refl
level_may d level (Some m) x e c = let f : eqb d m ≡ true = ap (eqb d) (sym c) ∙ e in rw f refl

node_complete : (f : ℕ → Seen → Result Seen TreeFault) (R : ℕ → List ℕ → List Item → Type 0) (count level d n : ℕ)
    (page : Page) (last : ℕ) → ((n : ℕ) (s : Seen) (r : List ℕ) (i : List Item) → CanBe level s.level → R n r i
    → AreFresh count s.reached r → f n s ≡ Ok (seen_of (s.reached ++ r) (s.items ++ i) (Some level)))
    → (s : Seen) (rest : List ℕ) (i : List Item) → CanBe level s.level → IsNode R (eqb d level) page last rest i
    → AreFresh count (s.reached ++ n ∷ []) rest → visit f d page last (seen_of (s.reached ++ n ∷ []) s.items s.level)
    ≡ Ok (seen_of ((s.reached ++ n ∷ []) ++ rest) (s.items ++ i) (Some level))
node_complete f R count level d n page zero h s rest i can a q =
    level_may d level s.level _ a.0 can ∙ ap (λ (v : Seen). let o : Result Seen TreeFault = Ok v in o)
    (seen_again _ _ _ _ _ _ (sym (append-nil (s.reached ++ n ∷ []))
    ∙ ap (λ (m : List ℕ). (s.reached ++ n ∷ []) ++ m) (sym a.1)) (ap (λ (m : List Item). s.items ++ m) (sym a.2))
    (ap (λ (m : ℕ). let o : Option ℕ = Some m in o) (eqb-true d level a.0)))
node_complete f R count level d n page (suc last) h s rest i can a q =
    links_complete f R count level h page.entries.items (suc last) (seen_of (s.reached ++ n ∷ []) s.items s.level) rest
    i can a q

pub walk_complete : (file : ℕ → Option Page) (count level d n : ℕ) (s : Seen) (r : List ℕ) (i : List Item)
    → CanBe level s.level → IsUnder file level d n r i → AreFresh count s.reached r
    → walk file count d n s ≡ Ok (seen_of (s.reached ++ r) (s.items ++ i) (Some level))
walk_complete file count level zero n s r i can h q = absurd h
walk_complete file count level (suc d) n s r i can h q =
    let page = h.0 in
    let rest = h.1 in
    let fresh : AreFresh count s.reached (n ∷ rest) = subst (AreFresh count s.reached) h.3 q in
    let k = node_complete (walk file count d) (IsUnder file level d) count level d n page page.last
    (λ n s r i. walk_complete file count level d n s r i) s rest i can h.4 fresh.1 in
    let go : Page → Result Seen TreeFault =
    λ page. visit (walk file count d) d page page.last (seen_of (s.reached ++ n ∷ []) s.items s.level) in
    ap (λ b. cond b (Err faults.Reach) (open_page (file n) go)) fresh.0 ∙ ap (λ (o : Option Page). open_page o go) h.2
    ∙ k
    ∙ ap (λ (v : Seen). let o : Result Seen TreeFault = Ok v in o)
    (seen_again _ _ _ _ _ _ (append_assoc s.reached (n ∷ []) rest ∙ ap (λ (m : List ℕ). s.reached ++ m) (sym h.3))
    refl refl)
