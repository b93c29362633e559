-- Places of files, what was held before, and refusals handed on.
use Rattle.std.proofs.Common.{◌≡◌, ◌≤◌, ◌<◌, ◌+◌, get_or, below_more, ℕ, zero, suc, List, take, add-one, [], ◌∷◌, ◌++◌}
use Rattle.std.proofs.Common.{Option, Some, None, length, map, refl, sym, ap, ◌∙◌, subst, arith, zero-add}
use Rattle.std.proofs.lemmas.List.{length-map, length_push, get_or_push}
use Rattle.std.proofs.lemmas.List.Elements.{All-nil, All-cons}
use Rattle.std.proofs.lemmas.Option.{slice_get_within}
use Rattle.std.proofs.Math.ListN.{get_or-append}
use Rattle.std.specs.List.{All, AllZip}
use Rattle.std.specs.Prelude.{slice_get}
use Rattle.file_access.specs.Holding.{Holds, SameFiles}
use Rattle.shape.specs.declared.indexes.IndexShape.{IndexShape}
use Rattle.shape.specs.declared.tables.TableShape.{TableShape}
use Rattle.shape.specs.declared.whole.Shape.{Shape}
use Rattle.dbf_file.specs.Tables.{TableState}
use Rattle.ndx_tree.specs.Trees.{TreeView}
use Rattle.work_area.specs.Making.{AreOfShape}
use Rattle.table_files.specs.declared.refusal.FilesRefusal.{FilesRefusal}
use Rattle.table_files.specs.declared.refusal.FilesRefusal.TheVariants.{Refused, Disk, Memory}
use Rattle.table_files.specs.declared.refusal.TableFault.{TableFault}
use Rattle.table_files.specs.declared.refusal.TableFault.TheVariants.{Absent, TooLong, OfTable, Structure}
use Rattle.table_files.specs.Loading.{IsTableOf, IsListOf, AreListsOf}
use Rattle.table_files.specs.Names.{table_file, index_file, files_of}
use Rattle.table_files.specs.Refusals.{IsTableFault, TableRefused}
use Rattle.table_files.specs.Refusals.{LoadRefused, ListRefused, ListsRefused}

-- ---- places of files

pub get_left : {A : Type 0} (xs ys : List A) (k : ℕ) (x : A) → slice_get xs k ≡ Some x → slice_get (xs ++ ys) k ≡ Some x
get_left [] ys k x e = absurd (cc)
get_left (z ∷ xs) ys zero x e = e
get_left (z ∷ xs) ys (suc k) x e = get_left xs ys k x e

pub get_mapped : {A B : Type 0} (f : A → B) (xs : List A) (k : ℕ) (x : A) → slice_get xs k ≡ Some x
    → slice_get (map f xs) k ≡ Some (f x)
get_mapped f [] k x e = absurd (cc)
get_mapped f (z ∷ xs) zero x e = cc
get_mapped f (z ∷ xs) (suc k) x e = get_mapped f xs k x e

pub get_right : {A : Type 0} (xs ys : List A) (k : ℕ) (x : A) → slice_get ys k ≡ Some x
    → slice_get (xs ++ ys) (length xs + k) ≡ Some x
get_right [] ys k x e = rw zero-add e
get_right (z ∷ xs) ys k x e =
    let n : length (z ∷ xs) + k ≡ suc (length xs + k) = omega arith in
    subst (λ m. slice_get (z ∷ (xs ++ ys)) m ≡ Some x) (sym n) (get_right xs ys k x e)

pub table_place : (shape : Shape) (t : ℕ) (s : TableShape) → slice_get shape.tables t ≡ Some s
    → slice_get (files_of shape) t ≡ Some (table_file s)
table_place shape t s e = get_left (map table_file shape.tables) (map index_file shape.indexes) t (table_file s)
    (get_mapped table_file shape.tables t s e)

pub index_place : (shape : Shape) (n : ℕ) (x : IndexShape) → slice_get shape.indexes n ≡ Some x
    → slice_get (files_of shape) (length shape.tables + n) ≡ Some (index_file x)
index_place shape n x e =
    subst (λ m. slice_get (files_of shape) (m + n) ≡ Some (index_file x)) (length-map shape.tables table_file)
    (get_right (map table_file shape.tables) (map index_file shape.indexes) n (index_file x)
    (get_mapped index_file shape.indexes n x e))

-- ---- what was read later was held before

pub table_before : (before mid : Holds) (limit : ℕ) (s : TableShape) (table : TableState) → SameFiles before mid
    → IsTableOf mid limit s table → IsTableOf before limit s table
table_before before mid limit s table kept h =
    record { bytes = h.bytes; held = (kept (table_file s) (Some h.bytes)).1 h.held; short = h.short; inside = h.inside }

pub list_before : (before mid : Holds) (s : TableShape) (x : IndexShape) (list : Option TreeView) → SameFiles before mid
    → IsListOf mid s x list → IsListOf before s x list
list_before before mid s x list kept h =
    record { found = h.found; held = (kept (index_file x) h.found).1 h.held; form = h.form; just = h.just }

-- ---- refusals

fault_before : (P Q : Option (List ℕ) → Type 0) (limit : ℕ) (s : TableShape) → ((o : Option (List ℕ)) → P o → Q o)
    → (fault : TableFault) → IsTableFault P limit s fault → IsTableFault Q limit s fault
fault_before P Q limit s to Absent h = to None h
fault_before P Q limit s to TooLong h = record { bytes = h.bytes; held = to (Some h.bytes) h.held; fact = h.fact }
fault_before P Q limit s to (OfTable fault) h =
    record { bytes = h.bytes; held = to (Some h.bytes) h.held; fact = h.fact }
fault_before P Q limit s to Structure h = record { bytes = h.bytes; held = to (Some h.bytes) h.held; fact = h.fact }

pub table_refused_before : (before mid : Holds) (limit : ℕ) (s : TableShape) (B C : Type 0) → SameFiles before mid
    → (B → C) → (r : FilesRefusal) → TableRefused mid limit s B r → TableRefused before limit s C r
table_refused_before before mid limit s B C kept to (Refused name fault) h =
    (h.0, fault_before (mid (table_file s)) (before (table_file s)) limit s (λ o. (kept (table_file s) o).1) fault h.1)
table_refused_before before mid limit s B C kept to (Disk name) h = (h.0, to h.1)
table_refused_before before mid limit s B C kept to Memory h = tt

pub load_refused : (holds : Holds) (shape : Shape) (limit t : ℕ) (s : TableShape) (tables : List TableState)
    (B : Type 0) → slice_get shape.tables t ≡ Some s → AllZip (IsTableOf holds limit) (take t shape.tables) tables
    → (r : FilesRefusal) → TableRefused holds limit s B r → LoadRefused holds shape limit B r
load_refused holds shape limit t s tables B here earlier (Refused name fault) h =
    record { t = t; s = s; declared = here; tables = tables; earlier = earlier; named = h.0; fault_is = h.1 }
load_refused holds shape limit t s tables B here earlier (Disk name) h =
    (t, table_place shape t s here ∙ ap Some (sym h.0), h.1)
load_refused holds shape limit t s tables B here earlier Memory h = tt

pub lists_refused : (shape : Shape) (n : ℕ) (x : IndexShape) (B C : Type 0) → slice_get shape.indexes n ≡ Some x
    → (B → C) → (r : FilesRefusal) → ListRefused x B r → ListsRefused shape C r
lists_refused shape n x B C here to (Refused name fault) h = h
lists_refused shape n x B C here to (Disk name) h =
    (length shape.tables + n, index_place shape n x here ∙ ap Some (sym h.0), to h.1)
lists_refused shape n x B C here to Memory h = tt

-- ---- loops over declared files

-- what was done since the loop began, of files that stayed as they were, with the device failing no less often
pub record Reading (done kept counted : Type 0) : Type 0 where
  pub taken : done
  pub same : kept
  pub count : counted

pub take_next : {A : Type 0} (xs : List A) (k : ℕ) (x : A) → slice_get xs k ≡ Some x
    → take (k + 1) xs ≡ take k xs ++ x ∷ []
take_next xs k x e = rw add-one (next xs k x e) where
  next : {A : Type 0} (xs : List A) (k : ℕ) (x : A) → slice_get xs k ≡ Some x → take (suc k) xs ≡ take k xs ++ x ∷ []
  next [] k x e = absurd (cc)
  next (z ∷ xs) zero x e = cc
  next (z ∷ xs) (suc k) x e = ap (λ l. z ∷ l) (next xs k x e)

pub some_same : {A : Type 0} (x y : A) → Some x ≡ Some y → x ≡ y
some_same x y e = cc

-- ---- lists read so far

-- the lists of the first n indexes
pub record ReadLists (holds : Holds) (shape : Shape) (n : ℕ) (lists : List (Option TreeView)) : Type 0 where
  pub count : length lists ≡ n
  pub each : (k : ℕ) → k < n → (x : IndexShape) (s : TableShape) → slice_get shape.indexes k ≡ Some x
      → slice_get shape.tables x.table ≡ Some s → IsListOf holds s x (get_or lists k None)

pub lists_more : (before mid : Holds) (shape : Shape) (n : ℕ) (lists : List (Option TreeView)) (list : Option TreeView)
    (x : IndexShape) (s : TableShape) → SameFiles before mid → slice_get shape.indexes n ≡ Some x
    → slice_get shape.tables x.table ≡ Some s
    → ReadLists before shape n lists → IsListOf mid s x list → ReadLists before shape (n + 1) (lists ++ list ∷ [])
lists_more before mid shape n lists list x s kept here there h g = record {
  count = length_push lists list ∙ ap (λ k. k + 1) h.count;
  each = below_more (λ k. (y : IndexShape) (r : TableShape) → slice_get shape.indexes k ≡ Some y
      → slice_get shape.tables y.table ≡ Some r → IsListOf before r y (get_or (lists ++ list ∷ []) k None)) n
      (λ k lt y r a b.
      let low : k < length lists = omega (arith, lt, h.count) in
      subst (λ (o : Option TreeView). IsListOf before r y o) (sym (get_or-append lists (list ∷ []) None k low))
      (h.each k lt y r a b))
      (λ y r a b.
      let same_index : x ≡ y = some_same x y (sym here ∙ a) in
      let same_table : s ≡ r =
      some_same s r (sym there ∙ ap (λ (z : IndexShape). slice_get shape.tables z.table) same_index ∙ b) in
      subst (λ (o : Option TreeView). IsListOf before r y o) (sym (get_or_push lists list None n h.count))
      (subst (λ (z : TableShape). IsListOf before z y list) same_table
      (subst (λ (z : IndexShape). IsListOf before s z list) same_index (list_before before mid s x list kept g))));
}

pub lists_whole : (holds : Holds) (shape : Shape) (n : ℕ) (lists : List (Option TreeView)) → n ≡ length shape.indexes
    → ReadLists holds shape n lists → AreListsOf holds shape lists
lists_whole holds shape n lists all h = record {
  count = h.count ∙ all;
  each = λ k x s a b. (let low : k < length shape.indexes = slice_get_within shape.indexes k x a in h.each k
      (omega arith) x s a b);
}

pub lists_before : (before mid : Holds) (shape : Shape) (lists : List (Option TreeView)) → SameFiles before mid
    → AreListsOf mid shape lists → AreListsOf before shape lists
lists_before before mid shape lists kept h = record {
  count = h.count;
  each = λ n x s a b. list_before before mid s x (get_or lists n None) kept (h.each n x s a b);
}

-- ---- tables that were read

pub zip_count : {A B : Type 0} (R : A → B → Type 0) (xs : List A) (ys : List B) → AllZip R xs ys → length ys ≡ length xs
zip_count R [] [] h = refl
zip_count R [] (y ∷ ys) h = absurd h
zip_count R (x ∷ xs) [] h = absurd h
zip_count R (x ∷ xs) (y ∷ ys) h = ap suc (zip_count R xs ys h.1)

pub zip_at : {A B : Type 0} (R : A → B → Type 0) (xs : List A) (ys : List B) → AllZip R xs ys → (k : ℕ) (x : A) (d : B)
    → slice_get xs k ≡ Some x → R x (get_or ys k d)
zip_at R [] ys h k x d e = absurd (cc)
zip_at R (z ∷ xs) [] h k x d e = absurd h
zip_at R (z ∷ xs) (y ∷ ys) h zero x d e = subst (λ u. R u y) (some_same z x e) h.0
zip_at R (z ∷ xs) (y ∷ ys) h (suc k) x d e = zip_at R xs ys h.1 k x d e

zip_each : {A B : Type 0} (R : A → B → Type 0) (P : B → Type 0) → ((x : A) (y : B) → R x y → P y)
    → (xs : List A) (ys : List B) → AllZip R xs ys → All P ys
zip_each R P to [] [] h = All-nil P
zip_each R P to [] (y ∷ ys) h = absurd h
zip_each R P to (x ∷ xs) [] h = absurd h
zip_each R P to (x ∷ xs) (y ∷ ys) h = All-cons P y ys (to x y h.0) (zip_each R P to xs ys h.1)

pub tables_of_shape : (holds : Holds) (limit : ℕ) (shape : Shape) (tables : List TableState)
    → AllZip (IsTableOf holds limit) shape.tables tables → AreOfShape shape limit tables
tables_of_shape holds limit shape tables h = record {
  count = zip_count (IsTableOf holds limit) shape.tables tables h;
  fields = λ t d s e. (zip_at (IsTableOf holds limit) shape.tables tables h t s d e).inside.declared.alike;
  few = zip_each (IsTableOf holds limit) (λ (t : TableState). length t.rows ≤ limit) (λ s t r. r.inside.few)
      shape.tables tables h;
}
