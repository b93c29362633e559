-- What the code's walk keeps, against what the walk of the definitions has seen.
use Rattle.std.specs.Prelude.{◌≡◌, ℕ, suc, ◌<◌, ◌≤◌, ◌⊎◌, Bool, true, false, cond, Some, None, Result, Ok, Err, List}
use Rattle.std.specs.Prelude.{[], ◌∷◌, take, drop, get_or}
use Rattle.ndx_page.specs.declared.page.Page.{Page}
use Rattle.key_lists.specs.Order.{Each}
use Rattle.key_lists.specs.KeyForm.{IsPairOf}
use Rattle.key_lists.specs.Pairs.{Pair, key_before}
use Rattle.ndx_tree.specs.IndexFile.{Item, Listed, Between, listed, is_listed, is_barred, page_count}
use Rattle.ndx_tree.specs.Walk.{Seen, pages_of}
use Rattle.ndx_tree.specs.declared.fault.TreeFault.{TreeFault}
use Rattle.ndx_tree.specs.declared.fault.TreeFault.TheVariants as faults
use Rattle.ndx_tree.specs.declared.walk.Separator.{Separator}
use Rattle.ndx_tree.specs.declared.walk.Found.{Found}

-- the bits say which pages were reached
abbrev pub Marks : ℕ → List Bool → List ℕ → Type 0
Marks count bits reached = (n : ℕ) (d : Bool) → n < count → get_or bits n d ≡ is_listed n reached

-- how many bits are not set
abbrev pub unset : List Bool → ℕ
unset [] = 0
unset (b ∷ bits) = cond b (unset bits) (suc (unset bits))

-- the separators, with how many pairs stand before each
abbrev pub separators_at : ℕ → List Item → List Separator
separators_at at [] = []
separators_at at (Listed p ∷ items) = separators_at (suc at) items
separators_at at (Between key ∷ items) = record { place = at; key = record { items = key } } ∷ separators_at at items

-- what was found is what was seen
pub record ShowsSeen (key_length count : ℕ) (found : Found) (s : Seen) : Type 0 where
  pub marked : Marks count found.reached.items s.reached
  pub level : found.level ≡ s.level
  pub entries : found.entries.items ≡ listed s.items
  pub separators : found.separators.items ≡ separators_at 0 s.items
  pub fits : Each (IsPairOf key_length) found.entries.items

-- the code's answer, and what it found, against the walk's
abbrev pub WalkGives : ℕ → ℕ → Result (Unit {0}) TreeFault → Found → Result Seen TreeFault → Type 0
WalkGives key_length count (Ok u) found r = (t : Seen) × (r ≡ Ok t) × ShowsSeen key_length count found t
WalkGives key_length count (Err fault) found r = (fault ≡ faults.Memory) ⊎ (r ≡ Err fault)

-- a page is opened, or barred, or faulty
abbrev pub Opens : ℕ → List ℕ → ℕ → List ℕ → Result Page TreeFault → Type 0
Opens key_length bytes n seen (Ok page) =
    (is_barred (page_count bytes) n seen ≡ false) × (pages_of key_length bytes n ≡ Some page)
Opens key_length bytes n seen (Err fault) =
    ((is_barred (page_count bytes) n seen ≡ true) × (fault ≡ faults.Reach)) ⊎
    ((is_barred (page_count bytes) n seen ≡ false) × (pages_of key_length bytes n ≡ None) × (fault ≡ faults.Page))

-- a separator is no less than the keys before it, and no greater than those behind it
abbrev pub IsBetween : List Pair → Separator → Type 0
IsBetween pairs s = Each (λ p. key_before s.key.items p.0 ≡ false) (take s.place pairs)
    × Each (λ p. key_before p.0 s.key.items ≡ false) (drop s.place pairs)

-- each separator stands among so many pairs
abbrev pub AreInside : ℕ → List Separator → Type 0
AreInside n separators = Each (λ s. s.place ≤ n) separators
