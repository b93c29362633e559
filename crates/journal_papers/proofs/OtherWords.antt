-- What the other keys of a table's map hold when a word is put under one.
use Rattle.std.proofs.Common.{◌≡◌, ◌≢◌, ap, refl, sym, ◌∙◌, ℕ, List, [], ◌∷◌, Option, Some, nat_cmp, Ordering, Less}
use Rattle.std.proofs.Common.{Equal, Greater, String, Global, string_bytes}
use Rattle.std.proofs.lemmas.Map.Lookups.{exact_bytes}
use Rattle.std.specs.BTreeMap.{insert_entry}
use Rattle.std.specs.Cmp.Lexicographic.{slice_cmp}
use Rattle.std.specs.Ordering.{match_ordering}
use Rattle.std.specs.String.{string_cmp}
use Rattle.toml.specs.Data.{Data, get_member}
use Rattle.toml.specs.View.{members_view, view}
use Rattle.toml.specs.declared.value.Value.{Value}

-- a key that isn't the one in front is looked for behind it
passed : (o : Ordering) (d : Data) (rest : Option Data) → o ≢ Equal → match_ordering o rest (Some d) rest ≡ rest
passed Less d rest other = refl
passed Equal d rest other = absurd (other refl)
passed Greater d rest other = refl

behind : (q l : List ℕ) (d : Data) (rest : Option Data) → q ≢ l
    → match_ordering (slice_cmp nat_cmp q l) rest (Some d) rest ≡ rest
behind q l d rest other = passed (slice_cmp nat_cmp q l) d rest (λ same. other (exact_bytes q l same))

by_order : (q : List ℕ) (k : String Global) (v : Value) (e : String Global × Value) (es : List (String Global × Value))
    (o : Ordering)
    → q ≢ string_bytes k → string_cmp k e.0 ≡ o
    → get_member q (members_view (insert_entry string_cmp es k v)) ≡ get_member q (members_view es)
    → get_member q (members_view (match_ordering o ((k, v) ∷ e ∷ es) ((e.0, v) ∷ es)
    (e ∷ insert_entry string_cmp es k v)))
    ≡ get_member q (members_view (e ∷ es))
by_order q k v e es Less other is more = behind q (string_bytes k) (view v) (get_member q (members_view (e ∷ es))) other
by_order q k v e es Equal other is more =
    let apart : q ≢ string_bytes e.0 = λ same. other
    (same ∙ sym (exact_bytes (string_bytes k) (string_bytes e.0) is)) in
    behind q (string_bytes e.0) (view v) (get_member q (members_view es)) apart
    ∙ sym (behind q (string_bytes e.0) (view e.1) (get_member q (members_view es)) apart)
by_order q k v e es Greater other is more =
    ap (λ (rest : Option Data). match_ordering (slice_cmp nat_cmp q (string_bytes e.0)) rest (Some (view e.1)) rest)
    more

pub others_kept : (q : List ℕ) (k : String Global) (v : Value) (es : List (String Global × Value)) → q ≢ string_bytes k
    → get_member q (members_view (insert_entry string_cmp es k v)) ≡ get_member q (members_view es)
others_kept q k v [] other = behind q (string_bytes k) (view v) (get_member q (members_view [])) other
others_kept q k v (e ∷ es) other = by_order q k v e es (string_cmp k e.0) other refl (others_kept q k v es other)
