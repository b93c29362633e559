-- A walk over the pages of an index file, and the first fault that it meets.
use Rattle.std.specs.Prelude.{◌≡◌, ℕ, zero, suc, Bool, true, ◌==◌, cond, Option, Some, None, Result, Ok, Err, List, []}
use Rattle.std.specs.Prelude.{◌∷◌, ◌++◌}
use Rattle.ndx_page.specs.declared.head.Head.{Head}
use Rattle.ndx_page.specs.declared.page.Page.{Page}
use Rattle.ndx_page.specs.HeadLayout.{IsHead}
use Rattle.ndx_page.specs.PageLayout.{page_of}
use Rattle.ndx_tree.specs.IndexFile.{Item, Link, all_listed, leaf_pairs, links, separator_items, is_barred, page_at}
use Rattle.ndx_tree.specs.IndexFile.{page_count}
use Rattle.ndx_tree.specs.IndexFile.{AreInOrder}
use Rattle.ndx_tree.specs.declared.fault.TreeFault.{TreeFault}
use Rattle.ndx_tree.specs.declared.fault.TreeFault.TheVariants as faults

-- the pages reached and the items met so far, and where the first leaf stood
pub record Seen : Type 0 where
  pub reached : List ℕ
  pub items : List Item
  pub level : Option ℕ

abbrev pub followed : Result Seen TreeFault → (Seen → Result Seen TreeFault) → Result Seen TreeFault
followed (Ok s) f = f s
followed (Err e) f = Err e

-- with a separator behind what was met
abbrev pub with_separator : Option (List ℕ) → Seen → Seen
with_separator after s = record { reached = s.reached; items = s.items ++ separator_items after; level = s.level }

-- children from the left
abbrev pub walk_all : (ℕ → Seen → Result Seen TreeFault) → List Link → Seen → Result Seen TreeFault
walk_all f [] s = Ok s
walk_all f (c ∷ cs) s = followed (f c.0 s) (λ t. walk_all f cs (with_separator c.1 t))

-- whether a leaf may stand here
abbrev pub is_level : ℕ → Option ℕ → Bool
is_level d None = true
is_level d (Some level) = d == level

-- a page whose last child is that
abbrev pub visit : (ℕ → Seen → Result Seen TreeFault) → ℕ → Page → ℕ → Seen → Result Seen TreeFault
visit f d page zero s = cond (is_level d s.level)
    (Ok (record {
      reached = s.reached;
      items = s.items ++ all_listed (leaf_pairs page.entries.items);
      level = Some d;
    })) (Err faults.Depth)
visit f d page (suc last) s = walk_all f (links page.entries.items (suc last)) s

abbrev pub open_page : Option Page → (Page → Result Seen TreeFault) → Result Seen TreeFault
open_page None f = Err faults.Page
open_page (Some page) f = f page

-- A page, then its children from the left. The first fault ends the walk.
abbrev pub walk : (ℕ → Option Page) → ℕ → ℕ → ℕ → Seen → Result Seen TreeFault
walk file count zero n s =
    cond (is_barred count n s.reached) (Err faults.Reach) (open_page (file n) (λ _. Err faults.Depth))
walk file count (suc d) n s =
    cond (is_barred count n s.reached) (Err faults.Reach)
    (open_page (file n) (λ page. visit (walk file count d) d page page.last
    (record { reached = s.reached ++ n ∷ []; items = s.items; level = s.level })))

-- before anything was met
abbrev pub unseen : Seen
unseen = record { reached = []; items = []; level = None }

abbrev pub pages_of : ℕ → List ℕ → ℕ → Option Page
pages_of key_length bytes n = page_of key_length (page_at n bytes)

-- the whole walk, over at most 20 pages one below another
unfoldable pub walk_file : Head → List ℕ → Result Seen TreeFault
walk_file head bytes = walk (pages_of head.length bytes) (page_count bytes) 20 head.root unseen

-- the fault is the first that the bytes have, want of memory apart
abbrev pub IsFirstFault : List ℕ → TreeFault → Type 0
IsFirstFault bytes faults.Head = (head : Head) → IsHead bytes head → ⊥
IsFirstFault bytes faults.Reach = (head : Head) × IsHead bytes head × (walk_file head bytes ≡ Err faults.Reach)
IsFirstFault bytes faults.Page = (head : Head) × IsHead bytes head × (walk_file head bytes ≡ Err faults.Page)
IsFirstFault bytes faults.Depth = (head : Head) × IsHead bytes head × (walk_file head bytes ≡ Err faults.Depth)
IsFirstFault bytes faults.Order =
    (head : Head) × (seen : Seen) × IsHead bytes head × (walk_file head bytes ≡ Ok seen) × (AreInOrder seen.items → ⊥)
IsFirstFault bytes faults.Memory = Unit {0}
