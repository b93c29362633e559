-- Pages of an index file: none stands in bytes with a fault.
use Rattle.std.proofs.Common.{◌≡◌, ℕ, Option, Some, None, List, ap}
use Rattle.std.specs.Prelude.{find, is_none, if◌then◌else◌}
use Rattle.ndx_page.specs.declared.page.PageFault.{PageFault}
use Rattle.ndx_page.specs.PageLayout.{has_page_fault, page_faults, told_entries, told_last, is_told_leaf, page_of}

-- bytes with a fault have no page
pub fault-page_of : (l : ℕ) (bytes : List ℕ) (f : PageFault) → find (has_page_fault l bytes) page_faults ≡ Some f
    → page_of l bytes ≡ None
unfolding page_of
fault-page_of l bytes f e = ap (λ (o : Option PageFault). if is_none o then Some
    (record {
      entries = record { items = told_entries l bytes };
      last = if is_told_leaf bytes then 0 else told_last l
          bytes;
    }) else None) e
