-- An owner's fields make the key.
use Rattle.std.proofs.Common.{◌≡◌, ℕ, suc, ◌+◌, Bool, true, List, [], ◌∷◌, Option, Some, None, map, inl, inr, refl, sym}
use Rattle.std.proofs.Common.{ap, subst, ◌∙◌, arith}
use Rattle.std.specs.Prelude.{slice_get}
use Rattle.std.specs.Char.{to_ascii_uppercase}
use Rattle.std.specs.List.{AllByRecursion}
use Rattle.std.specs.Option.{is_some}
use Rattle.std.proofs.lemmas.Bool.{cases_Bool}
use Rattle.key_lists.specs.KeyForm.{KeyForm}
use Rattle.key_lists.specs.Pairs.{Pair}
use Rattle.shape.specs.declared.indexes.IndexShape.{IndexShape}
use Rattle.shape.specs.declared.parts.KeyPart.{KeyPart}
use Rattle.folder_shapes.specs.declared.found.FoundTable.{FoundTable}
use Rattle.folder_shapes.specs.declared.owners.Owner.{Owner}
use Rattle.folder_shapes.specs.declared.owners.Owner.TheVariants.{Nobody, Unknown, Table}
use Rattle.folder_shapes.specs.Keys.{plain_text}
use Rattle.folder_shapes.specs.Names.{stem}
use Rattle.folder_shapes.specs.Owners.{HasKey, IsMaker, are_listed, listed_tables, lists, made_by, makers, makes}
use Rattle.folder_shapes.specs.Owners.{numbers_of, owner_among, owner_of}
use Rattle.folder_shapes.specs.Told.{Indexes}

-- the table behind n others of that number is of the sort
abbrev IsThere : (FoundTable → Bool) → ℕ → List FoundTable → ℕ → Type 0
IsThere sort n ts k = (i : ℕ) × (k ≡ n + i) × (t : FoundTable) × (slice_get ts i ≡ Some t) × (sort t ≡ true)

mapped : {X : Type 0} (P Q : X → Type 0) → ((x : X) → P x → Q x) → (xs : List X) → AllByRecursion P xs
    → AllByRecursion Q xs
mapped P Q f [] h = h
mapped P Q f (x ∷ xs) h = (f x h.0, mapped P Q f xs h.1)

farther : (sort : FoundTable → Bool) (n : ℕ) (t : FoundTable) (ts : List FoundTable) (k : ℕ) → IsThere sort (n + 1) ts k
    → IsThere sort n (t ∷ ts) k
farther sort n t ts k (i, e, u, there, is) = (suc i, omega (arith, e), u, there, is)

there : (sort : FoundTable → Bool) (n : ℕ) (ts : List FoundTable)
    → AllByRecursion (IsThere sort n ts) (numbers_of sort n ts)
there sort n [] = tt
there sort n (t ∷ ts) =
    let others = mapped (IsThere sort (n + 1) ts) (IsThere sort n (t ∷ ts)) (farther sort n t ts)
    (numbers_of sort (n + 1) ts) (there sort (n + 1) ts) in
    elim (cases_Bool (sort t)) [
      | inl found ↦ rw found ((0, omega arith, t, refl, found), others)
      | inr other ↦ rw other others
    ]

number_in : Owner → ℕ → ℕ
number_in Nobody d = d
number_in Unknown d = d
number_in (Table t) d = t

among : (P : ℕ → Type 0) (ms ls : List ℕ) (k : ℕ) → owner_among ms ls ≡ Table k → AllByRecursion P ms
    → AllByRecursion P ls → P k
unfolding number_in
among P [] ls k e m l = absurd (cc)
among P (t ∷ []) ls k e m l = subst P (ap (λ o. number_in o k) e) m.0
among P (t ∷ u ∷ others) [] k e m l = absurd (cc)
among P (t ∷ u ∷ others) (x ∷ []) k e m l = subst P (ap (λ o. number_in o k) e) l.0
among P (t ∷ u ∷ others) (x ∷ y ∷ more) k e m l = absurd (cc)

listed_makes : (made : Option (List KeyPart)) (t : FoundTable) (pairs : List Pair)
    → are_listed made t.table.rows pairs ≡ true → is_some made ≡ true
listed_makes None t pairs e = absurd (cc)
listed_makes (Some parts) t pairs e = refl

maker : (tables : List FoundTable) (n : ℕ) (plain : List ℕ) (k : ℕ) → IsThere (makes n plain) 0 tables k
    → IsMaker tables n plain k
maker tables n plain k (i, e, t, at, is) =
    (t, subst (λ j. slice_get tables j ≡ Some t) (let f : i ≡ k = omega (arith, e) in f) at, is)

lister : (tables : List FoundTable) (n : ℕ) (plain : List ℕ) (pairs : List Pair) (k : ℕ)
    → IsThere (lists n plain pairs) 0 tables k → IsMaker tables n plain k
lister tables n plain pairs k (i, e, t, at, is) = (
  t,
  subst (λ j. slice_get tables j ≡ Some t) (let f : i ≡ k = omega (arith, e) in f) at,
  listed_makes
      (made_by n plain t) t pairs is,
)

pub maker_of : (tables : List FoundTable) (form : KeyForm) (pairs : List Pair) (k : ℕ)
    → owner_of tables form pairs ≡ Table k → IsMaker tables form.key_length (plain_text form.key_text) k
maker_of tables form pairs k e =
    let n = form.key_length in
    let plain = plain_text form.key_text in
    among (IsMaker tables n plain) (makers tables form) (listed_tables tables form pairs) k e
    (mapped (IsThere (makes n plain) 0 tables) (IsMaker tables n plain) (maker tables n plain) (makers tables form)
    (there (makes n plain) 0 tables))
    (mapped (IsThere (lists n plain pairs) 0 tables) (IsMaker tables n plain) (lister tables n plain pairs)
    (listed_tables tables form pairs) (there (lists n plain pairs) 0 tables))

pub maker_at : (tables : List FoundTable) (n m : ℕ) (p q : List ℕ) (k : ℕ) → n ≡ m → p ≡ q → IsMaker tables m q k
    → IsMaker tables n p k
maker_at tables n m p q k e f h =
    subst (λ x. IsMaker tables x p k) (sym e) (subst (λ x. IsMaker tables m x k) (sym f) h)

pub key_at : (tables : List FoundTable) (n m : ℕ) (p q : List ℕ) (k : ℕ) (key : List KeyPart) → n ≡ m → p ≡ q
    → HasKey tables n p k key → HasKey tables m q k key
key_at tables n m p q k key e f h = subst (λ x. HasKey tables x q k key) e (subst (λ x. HasKey tables n x k key) f h)

pub indexes_of : (found items : List FoundTable) (name stemmed : List ℕ) (form : KeyForm) (pairs : List Pair)
    (index : IndexShape) → found ≡ items → stemmed ≡ stem name → index.name.items ≡ map to_ascii_uppercase stemmed
    → owner_of found form pairs ≡ Table index.table → HasKey found form.key_length (plain_text form.key_text)
    index.table index.key → Indexes items name form pairs index
indexes_of found items name stemmed form pairs index f s named of key = record {
  named = named ∙ ap (λ x. map to_ascii_uppercase x) s;
  of = subst (λ ts. owner_of ts form pairs ≡ Table index.table) f of;
  key = subst (λ ts. HasKey ts form.key_length (plain_text form.key_text) index.table index.key) f key;
}
