-- What files hold when the first declared ones are written.
use Rattle.std.proofs.Common.{◌≡◌, ◌<◌, ◌+◌, ◌-◌, ℕ, true, false, ◌||◌, nat_lt, List, Some, length, map, sym, ap, ◌∙◌}
use Rattle.std.proofs.Common.{subst, arith, below_more, length-append}
use Rattle.std.proofs.lemmas.Bool.{lt-ltb, le-ltb, false≢true}
use Rattle.std.proofs.lemmas.List.{length-map}
use Rattle.std.specs.Prelude.{slice_get}
use Rattle.dbf_file.specs.declared.stamp.Stamp.{Stamp}
use Rattle.file_access.specs.Holding.{Holds, SameFiles, IsReplaced}
use Rattle.shape.specs.declared.whole.Shape.{Shape}
use Rattle.shape.specs.Whole.{is_shape}
use Rattle.work_area.specs.Areas.{StoreState}
use Rattle.table_files.specs.Names.{table_file, index_file, files_of}
use Rattle.table_files.specs.Saving.{has_fresh_index, is_written, IsTextOf, IsNew, AreSaved}
use Rattle.table_files.proofs.FileLemmas.{some_same}
use Rattle.table_files.proofs.ShapeLemmas.{files_differ}

pub files_count : (shape : Shape) → length (files_of shape) ≡ length shape.tables + length shape.indexes
files_count shape = length-append (map table_file shape.tables) (map index_file shape.indexes)
    ∙ ap (λ n. n + length (map index_file shape.indexes)) (length-map shape.tables table_file)
    ∙ ap (λ n. length shape.tables + n) (length-map shape.indexes index_file)

-- ---- which files are written

pub table_written : (shape : Shape) (store : StoreState) (t : ℕ) → t < length shape.tables
    → is_written shape store t ≡ true
table_written shape store t low =
    ap (λ b. b || has_fresh_index store (t - length shape.tables)) (lt-ltb t (length shape.tables) low)

-- behind the tables' files those of fresh indexes
pub index_written : (shape : Shape) (store : StoreState) (k n : ℕ) → k ≡ length shape.tables + n
    → is_written shape store k ≡ has_fresh_index store n
index_written shape store k n e =
    let other : nat_lt k (length shape.tables) ≡ false = le-ltb k (length shape.tables) (omega (arith, e)) in
    let same : k - length shape.tables ≡ n = omega arith in
    ap (λ b. b || has_fresh_index store (k - length shape.tables)) other ∙ ap (has_fresh_index store) same

-- ---- one file after another

pub saved_kept : (shape : Shape) (store : StoreState) (stamp : Stamp) (k : ℕ) (a b c : Holds) → SameFiles b c
    → AreSaved shape store stamp k a b → AreSaved shape store stamp k a c
saved_kept shape store stamp k a b c same h = record {
  written = λ j lt name at is. (let w = h.written j lt name at is in (w.0, w.1, (same name (Some w.0)).0 w.2));
  others = λ name other found. (let o = h.others name other found in
      (λ x. (same name found).0 (o.0 x), λ x. o.1 ((same name found).1 x)));
}

pub saved_more : (shape : Shape) (store : StoreState) (stamp : Stamp) (k : ℕ) (name bytes : List ℕ) (a b c : Holds)
    → is_shape shape ≡ true → is_written shape store k ≡ true → slice_get (files_of shape) k ≡ Some name
    → IsTextOf shape store stamp k bytes
    → IsReplaced b name bytes c → AreSaved shape store stamp k a b → AreSaved shape store stamp (k + 1) a c
saved_more shape store stamp k name bytes a b c legal is here text r h = record {
  written = below_more (IsNew shape store stamp c) k
      (λ j lt file at fresh. (let w = h.written j lt file at fresh in (
        w.0,
        w.1,
        (r.others file (λ same. files_differ shape legal j k file lt at (here ∙ ap Some (sym same)))
            (Some w.0)).0 w.2,
      )))
      (λ file at fresh. (bytes, text, subst (λ n. c n (Some bytes)) (some_same name file (sym here ∙ at)) r.here));
  others = λ file other found.
      let o = h.others file (λ j lt. other j (omega (arith, lt))) found in
      let p = r.others file (λ same. false≢true (sym (other k (omega arith) (here ∙ ap Some (sym same))) ∙ is)) found in
      (λ x. p.0 (o.0 x), λ x. o.1 (p.1 x));
}
