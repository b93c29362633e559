-- The tree of an index file, and the walk over its pages.
use Rattle.std.proofs.Common.{◌≡◌, ℕ, zero, suc, ◌*◌, ◌<◌, Bool, true, false, not, ◌||◌, eqb, ltb, List, [], ◌∷◌, ◌++◌}
use Rattle.std.proofs.Common.{length, drop, Some, Result, Ok, Err, refl, sym, ap, ◌∙◌, subst, arith}
use Rattle.std.proofs.lemmas.Bool.{ltb-true, lt-ltb, ne_eqb}
use Rattle.std.proofs.lemmas.List.{length-take, length-drop}
use Rattle.std.proofs.Math.Nat.{mul-div-le}
use Rattle.ndx_page.specs.declared.page.Page.{Page}
use Rattle.ndx_page.specs.PageLayout.{PagesAreTold}
use Rattle.ndx_tree.specs.IndexFile.{Item, Link, IsNode, AreBelow, IsBelow, AreFresh, is_barred, is_listed, page_at}
use Rattle.ndx_tree.specs.IndexFile.{page_count, IsTreeOf, IsIndexFile, AreInOrder, listed}
use Rattle.key_lists.specs.KeyForm.{KeyForm}
use Rattle.ndx_page.specs.declared.head.Head.{Head}
use Rattle.ndx_page.specs.declared.head.HeadFault.{HeadFault}
use Rattle.ndx_page.specs.HeadLayout.{IsHead, HeadsAreTold}
use Rattle.ndx_tree.specs.IndexText.{HoldsOneList}
use Rattle.ndx_tree.specs.declared.fault.TreeFault.TheVariants as faults
use Rattle.ndx_tree.proofs.Reading.{IsWalkFault, walk_told, ok_no}
use Rattle.key_lists.specs.Pairs.{Pair}
use Rattle.ndx_tree.specs.Walk.{Seen, pages_of, walk, walk_file, unseen, IsFirstFault}
use Rattle.ndx_tree.specs.declared.fault.TreeFault.{TreeFault}
use Rattle.ndx_tree.proofs.Exact.{IsUnder, walk_sound, walk_complete, fresh_front, fresh_back, ok_is}

-- a page in the file is 512 bytes
pub length-page_at : (n : ℕ) (bytes : List ℕ) → n < page_count bytes → length (page_at n bytes) ≡ 512
length-page_at n bytes within =
    let whole = mul-div-le (length bytes) 512 in
    let rest = length-drop (n * 512) bytes in
    length-take 512 (drop (n * 512) bytes) ∙ omega (arith, whole, rest, within)

fresh_within : (count n : ℕ) (seen : List ℕ) → is_barred count n seen ≡ false → n < count
fresh_within count n seen e = ltb-true n count (second (eqb n 0) (ltb n count) (is_listed n seen) e)
  where
    second : (a b c : Bool) → (a || (not b || c)) ≡ false → b ≡ true
    second true b c e = absurd cc
    second false true c e = refl
    second false false c e = absurd cc

pub not_barred : (count n : ℕ) (seen : List ℕ) → (n ≡ 0 → ⊥) → n < count → is_listed n seen ≡ false
    → is_barred count n seen ≡ false
not_barred count n seen z l e = rw (ne_eqb n 0 z, lt-ltb n count l, e) refl

-- ---- the tree that is told, and the tree that stands

sides_below : (R Q : ℕ → List ℕ → List Item → Type 0) (count : ℕ)
    → ((n : ℕ) (seen r : List ℕ) (i : List Item) → AreFresh count seen r → R n r i → Q n r i)
    → (cs : List Link) (seen r : List ℕ) (i : List Item) → AreFresh count seen r → AreBelow R cs r i → AreBelow Q cs r i
sides_below R Q count h [] seen r i f a = a
sides_below R Q count h (c ∷ cs) seen r i f a =
    let fresh : AreFresh count seen (a.0 ++ a.1) = subst (AreFresh count seen) a.4 f in (
      a.0,
      a.1,
      a.2,
      a.3,
      a.4,
      a.5,
      h c.0 seen a.0 a.2 (fresh_front count seen a.0 a.1 fresh) a.6,
      sides_below R Q count
          h cs (seen ++ a.0) a.1 a.3 (fresh_back count seen a.0 a.1 fresh) a.7,
    )

node_below : (R Q : ℕ → List ℕ → List Item → Type 0) (count : ℕ)
    → ((n : ℕ) (seen r : List ℕ) (i : List Item) → AreFresh count seen r → R n r i → Q n r i)
    → (here : Bool) (page : Page) (last : ℕ) (seen r : List ℕ) (i : List Item) → AreFresh count seen r
    → IsNode R here page last r i → IsNode Q here page last r i
node_below R Q count h here page zero seen r i f a = a
node_below R Q count h here page (suc last) seen r i f a = sides_below R Q count h _ seen r i f a

pub under_below : PagesAreTold → (k : ℕ) (bytes : List ℕ) (level d n : ℕ) (seen r : List ℕ) (i : List Item)
    → AreFresh (page_count bytes) seen r → IsUnder (pages_of k bytes) level d n r i → IsBelow k bytes level d n r i
under_below laws k bytes level zero n seen r i f a = absurd a
under_below laws k bytes level (suc d) n seen r i f a =
    let fresh : AreFresh (page_count bytes) seen (n ∷ a.1) = subst (AreFresh (page_count bytes) seen) a.3 f in
    let whole = length-page_at n bytes (fresh_within (page_count bytes) n seen fresh.0) in (
      a.0,
      a.1,
      laws.stands k (page_at n bytes) a.0 whole a.2,
      a.3,
      node_below (IsUnder (pages_of k bytes) level d)
          (IsBelow k bytes level d) (page_count bytes)
          (λ m seen r i f u. under_below laws k bytes level d m seen r i f u)
          (eqb d level) a.0 a.0.last (seen ++ n ∷ []) a.1 i fresh.1 a.4,
    )

sides_any : (R Q : ℕ → List ℕ → List Item → Type 0) → ((n : ℕ) (r : List ℕ) (i : List Item) → R n r i → Q n r i)
    → (cs : List Link) (r : List ℕ) (i : List Item) → AreBelow R cs r i → AreBelow Q cs r i
sides_any R Q h [] r i a = a
sides_any R Q h (c ∷ cs) r i a = (a.0, a.1, a.2, a.3, a.4, a.5, h c.0 a.0 a.2 a.6, sides_any R Q h cs a.1 a.3 a.7)

node_any : (R Q : ℕ → List ℕ → List Item → Type 0) → ((n : ℕ) (r : List ℕ) (i : List Item) → R n r i → Q n r i)
    → (here : Bool) (page : Page) (last : ℕ) (r : List ℕ) (i : List Item) → IsNode R here page last r i
    → IsNode Q here page last r i
node_any R Q h here page zero r i a = a
node_any R Q h here page (suc last) r i a = sides_any R Q h _ r i a

pub below_under : PagesAreTold → (k : ℕ) (bytes : List ℕ) (level d n : ℕ) (r : List ℕ) (i : List Item)
    → IsBelow k bytes level d n r i → IsUnder (pages_of k bytes) level d n r i
below_under laws k bytes level zero n r i a = absurd a
below_under laws k bytes level (suc d) n r i a = (
  a.0,
  a.1,
  laws.told k (page_at n bytes) a.0 a.2,
  a.3,
  node_any (IsBelow k bytes level d)
      (IsUnder (pages_of k bytes) level d) (λ m r i u. below_under laws k bytes level d m r i u) (eqb d level) a.0
      a.0.last a.1 i a.4,
)

-- a walk that ends well has met a tree
pub walked_tree : PagesAreTold → (k root : ℕ) (bytes : List ℕ) (t : Seen) (pairs : List Pair)
    → walk (pages_of k bytes) (page_count bytes) 20 root unseen ≡ Ok t → AreInOrder t.items → pairs ≡ listed t.items
    → IsTreeOf bytes k root pairs
walked_tree laws k root bytes t pairs e order is =
    let a = walk_sound (pages_of k bytes) (page_count bytes) 20 root unseen t e in
    let met : t.items ≡ a.met = ap (λ (v : Seen). v.items) a.is in
    record {
      level = a.level;
      reached = a.more;
      items = a.met;
      below = under_below laws k bytes a.level 20 root []
          a.more a.met a.fresh a.below;
      fresh =
          a.fresh;
      order = subst AreInOrder met order;
      pairs_are = is ∙ ap listed met;
    }

-- and a tree is what a walk meets
pub tree_walked : PagesAreTold → (k root : ℕ) (bytes : List ℕ) (pairs : List Pair) → IsTreeOf bytes k root pairs
    → (t : Seen) × (walk (pages_of k bytes) (page_count bytes) 20 root unseen ≡ Ok t) × AreInOrder t.items
    × (pairs ≡ listed t.items)
tree_walked laws k root bytes pairs t = (
  record { reached = t.reached; items = t.items; level = Some t.level },
  walk_complete (pages_of k bytes)
      (page_count bytes) t.level 20 root unseen t.reached t.items tt
      (below_under laws k bytes t.level 20 root t.reached t.items t.below) t.fresh,
  t.order,
  t.pairs_are,
)

-- ---- the whole file

-- what a walk of an index file meets
pub record IsMet (bytes : List ℕ) (form : KeyForm) (pairs : List Pair) (head : Head) : Type 0 where
  pub seen : Seen
  pub walked : walk_file head bytes ≡ Ok seen
  pub order : AreInOrder seen.items
  pub pairs_are : pairs ≡ listed seen.items
  pub key_length : head.length ≡ form.key_length
  pub key_text : head.text.items ≡ form.key_text

pub index_walked : PagesAreTold → (bytes : List ℕ) (form : KeyForm) (pairs : List Pair) → IsIndexFile bytes form pairs
    → (head : Head) → ((h : Head) → IsHead bytes h → h ≡ head) → IsMet bytes form pairs head
unfolding walk_file
index_walked laws bytes form pairs f head same =
    let e = same f.head f.is_head in
    let w = tree_walked laws f.head.length f.head.root bytes pairs f.tree in
    record {
      seen = w.0;
      walked = ap (λ (h : Head). walk (pages_of h.length bytes) (page_count bytes) 20 h.root unseen) (sym e) ∙ w.1;
      order = w.2;
      pairs_are = w.3;
      key_length = ap (λ (h : Head). h.length) (sym e) ∙ f.key_length;
      key_text = ap (λ (h : Head). h.text.items) (sym e) ∙ f.key_text;
    }

pub walked_index : PagesAreTold → (bytes : List ℕ) (head : Head) (t : Seen) (form : KeyForm) (pairs : List Pair)
    → IsHead bytes head → walk_file head bytes ≡ Ok t → AreInOrder t.items → pairs ≡ listed t.items
    → head.length ≡ form.key_length → head.text.items ≡ form.key_text → IsIndexFile bytes form pairs
unfolding walk_file
walked_index laws bytes head t form pairs is w order p l x =
    record {
      head = head;
      is_head = is;
      key_length = l;
      key_text = x;
      tree = walked_tree laws head.length head.root
          bytes t pairs w order p;
    }

file_told : (bytes : List ℕ) (head : Head) (f : TreeFault) → walk_file head bytes ≡ Err f → IsWalkFault f
unfolding walk_file
file_told bytes head f e = walk_told (pages_of head.length bytes) (page_count bytes) 20 head.root unseen f e

-- the fault of the walk is the first
pub first_fault : (bytes : List ℕ) (head : Head) (fault : TreeFault) → IsHead bytes head
    → walk_file head bytes ≡ Err fault → IsFirstFault bytes fault
first_fault bytes head fault is w = of fault w (file_told bytes head fault w)
  where
    of : (f : TreeFault) → walk_file head bytes ≡ Err f → IsWalkFault f → IsFirstFault bytes f
    of faults.Head e h = absurd h
    of faults.Reach e h = (head, is, e)
    of faults.Page e h = (head, is, e)
    of faults.Depth e h = (head, is, e)
    of faults.Order e h = absurd h
    of faults.Memory e h = absurd h

-- bytes with a fault are no index file
pub fault_no_index : PagesAreTold → (bytes : List ℕ) (head : Head) (fault : TreeFault)
    → ((h : Head) → IsHead bytes h → h ≡ head) → walk_file head bytes ≡ Err fault → (form : KeyForm) (pairs : List Pair)
    → IsIndexFile bytes form pairs → ⊥
fault_no_index laws bytes head fault same w form pairs f =
    let m = index_walked laws bytes form pairs f head same in
    ok_no m.seen fault (sym m.walked ∙ w)

pub order_no_index : PagesAreTold → (bytes : List ℕ) (head : Head) (t : Seen) → ((h : Head) → IsHead bytes h → h ≡ head)
    → walk_file head bytes ≡ Ok t → (AreInOrder t.items → ⊥) → (form : KeyForm) (pairs : List Pair)
    → IsIndexFile bytes form pairs → ⊥
order_no_index laws bytes head t same w none form pairs f =
    let m = index_walked laws bytes form pairs f head same in
    none (subst (λ (s : Seen). AreInOrder s.items) (ok_is m.seen t (sym m.walked ∙ w)) m.order)

pub same_list : PagesAreTold → (bytes : List ℕ) (head : Head) (t : Seen) → ((h : Head) → IsHead bytes h → h ≡ head)
    → walk_file head bytes ≡ Ok t → (form other : KeyForm) (pairs others : List Pair) → IsIndexFile bytes form pairs
    → others ≡ listed t.items → other.key_length ≡ head.length → other.key_text ≡ head.text.items
    → (other ≡ form) × (others ≡ pairs)
same_list laws bytes head t same w form other pairs others f p l x =
    let m = index_walked laws bytes form pairs f head same in (
      ap (λ n. let k : KeyForm = record { key_length = n; key_text = other.key_text } in k) (l ∙ m.key_length)
          ∙ ap (λ (n : List ℕ). let k : KeyForm = record { key_length = form.key_length; key_text = n } in k)
          (x ∙ m.key_text),
      p ∙ ap (λ (s : Seen). listed s.items) (sym (ok_is m.seen t (sym m.walked ∙ w))) ∙ sym m.pairs_are,
    )

pub heads_same : (bytes : List ℕ) (r : Result Head HeadFault) (head : Head) → ((h : Head) → IsHead bytes h → r ≡ Ok h)
    → r ≡ Ok head → (h : Head) → IsHead bytes h → h ≡ head
heads_same bytes r head only e h is = inside h head (sym (only h is) ∙ e)
  where
    inside : (a b : Head) → (let q : Result Head HeadFault = Ok a in q) ≡ Ok b → a ≡ b
    inside a b q = cc

-- bytes hold one list at most
pub one_list : PagesAreTold → HeadsAreTold → HoldsOneList
one_list laws heads bytes form other pairs others f g =
    let m = index_walked laws bytes form pairs f g.head (λ h is. heads bytes h g.head is g.is_head) in
    let n = index_walked laws bytes other others g g.head (λ h is. heads bytes h g.head is g.is_head) in (
      ap (λ x. let k : KeyForm = record { key_length = x; key_text = other.key_text } in k)
          (sym n.key_length ∙ m.key_length) ∙ ap
          (λ (x : List ℕ). let k : KeyForm = record { key_length = form.key_length; key_text = x } in k)
          (sym n.key_text ∙ m.key_text),
      n.pairs_are ∙ ap (λ (s : Seen). listed s.items) (ok_is n.seen m.seen (sym n.walked ∙ m.walked))
          ∙ sym m.pairs_are,
    )
