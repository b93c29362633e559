-- All faults of files that stay the same.
use Rattle.std.proofs.Common.{◌+◌, ℕ, List, Some, None, sym, subst, add-one}
use Rattle.file_access.specs.Holding.{Holds, SameFiles}
use Rattle.compile_commands.specs.Compiling.{name_at}
use Rattle.compile_commands.specs.Listing.{AreListed, AreFaultsOf, IsListedBehind, NoFile, Long, Lines, NoFiles}
use Rattle.compile_commands.specs.Listing.{Further}
use Rattle.compile_commands.specs.declared.listing.FileFault.{FileFault}

listed_before : (a b : Holds) (name : List ℕ) (number : ℕ) (own : List FileFault) → SameFiles a b
    → AreFaultsOf number (b name) own → AreFaultsOf number (a name) own
listed_before a b name number own s (NoFile none e) = NoFile ((s name None).1 none) e
listed_before a b name number own s (Long l e) =
    Long (record { bytes = l.bytes; held = (s name (Some l.bytes)).1 l.held; long = l.long }) e
listed_before a b name number own s (Lines bytes held e) = Lines bytes ((s name (Some bytes)).1 held) e

-- one file more
pub further_listed : (first now : Holds) (names : List (List ℕ)) (number : ℕ) (before after : List FileFault)
    → SameFiles first now
    → AreListed first names number before → IsListedBehind number (now (name_at names number)) before after
    → AreListed first names (number + 1) after
further_listed first now names number before after s all one =
    let here : IsListedBehind number (first (name_at names number)) before after =
    record {
      own = one.own;
      listed = listed_before first now (name_at names number) number one.own s one.listed;
      behind = one.behind;
    } in
    subst (λ n. AreListed first names n after) (sym (add-one number)) (Further number before after all here)

-- what is listed later is listed before
pub all_listed_before : (a b : Holds) (names : List (List ℕ)) (count : ℕ) (faults : List FileFault) → SameFiles a b
    → AreListed b names count faults
    → AreListed a names count faults
all_listed_before a b names count faults s NoFiles = NoFiles
all_listed_before a b names count faults s (Further n before after all one) =
    Further n before after (all_listed_before a b names n before s all)
    (record { own = one.own; listed = listed_before a b (name_at names n) n one.own s one.listed; behind = one.behind })
