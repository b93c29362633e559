-- What a load finds after a save.
use Rattle.std.proofs.Common.{◌≡◌, ◌<◌, ℕ, true, List, Some, length, get_or, sym, ◌∙◌, subst, arith}
use Rattle.std.specs.Prelude.{slice_get}
use Rattle.std.proofs.lemmas.Option.{slice_get_within, get_or_from_slice_get}
use Rattle.dbf_file.specs.declared.stamp.Stamp.{Stamp}
use Rattle.dbf_file.specs.Rows.{Row}
use Rattle.dbf_file.specs.Tables.{TableState, DbfText}
use Rattle.file_access.specs.Holding.{Holds, HoldsOneThing}
use Rattle.key_lists.specs.Pairs.{Pair}
use Rattle.shape.specs.declared.tables.TableShape.{TableShape}
use Rattle.shape.specs.declared.whole.Shape.{Shape}
use Rattle.shape.specs.Whole.{is_shape}
use Rattle.open_table.specs.Open.{OpenState}
use Rattle.work_area.specs.Areas.{StoreState, table_at}
use Rattle.work_area.specs.Making.{AreMarks, IsNewTable, lists_just}
use Rattle.table_files.specs.Loading.{IsTableOf, Loaded}
use Rattle.table_files.specs.Names.{table_file}
use Rattle.table_files.specs.Saving.{AreSaved, FindsSaved}
use Rattle.table_files.proofs.FileLemmas.{some_same, table_place, zip_count, zip_at}
use Rattle.table_files.proofs.OneTable.{one_table}
use Rattle.table_files.proofs.ShapeLemmas.{files_differ}
use Rattle.table_files.proofs.WriteLemmas.{table_written}

-- a loaded table, as its file holds it
record IsFound (holds : Holds) (shape : Shape) (limit : ℕ) (lists : ℕ → List Pair → Type 0) (t : ℕ) (s : TableShape)
    (l : OpenState) : Type 0 where
  pub table : TableState
  pub of : IsTableOf holds limit s table
  pub new : IsNewTable lists shape.indexes t s table l

found_at : (holds : Holds) (shape : Shape) (limit : ℕ) (loaded : StoreState) (t : ℕ) (s : TableShape) (l : OpenState)
    (h : Loaded holds shape limit loaded) → slice_get shape.tables t ≡ Some s → table_at loaded t ≡ Some l
    → IsFound holds shape limit (lists_just (λ k. k.pairs) h.lists) t s l
found_at holds shape limit loaded t s l h here there =
    let d : TableState = record { structure = l.table.structure; rows = l.table.rows; spare = 0 } in
    let count : length h.tables ≡ length shape.tables =
    zip_count (IsTableOf holds limit) shape.tables h.tables h.read in
    let low : t < length shape.tables = slice_get_within shape.tables t s here in
    let same : get_or loaded.tables t l ≡ l = get_or_from_slice_get loaded.tables t l l there in
    record {
      table = get_or h.tables t d;
      of = zip_at (IsTableOf holds limit) shape.tables h.tables h.read t s d here;
      new = subst (IsNewTable (lists_just (λ k. k.pairs) h.lists) shape.indexes t s (get_or h.tables t d)) same
          (h.made.tables.each t d l s (omega (arith, count, low)) here);
    }

-- the marks of its indexes
pub marks_at : (holds : Holds) (shape : Shape) (limit : ℕ) (loaded : StoreState) (t : ℕ) (s : TableShape)
    (l : OpenState) (h : Loaded holds shape limit loaded) → slice_get shape.tables t ≡ Some s
    → table_at loaded t ≡ Some l
    → AreMarks (lists_just (λ k. k.pairs) h.lists) s.fields l.table.rows t 0 shape.indexes l.table.marks
marks_at holds shape limit loaded t s l h here there =
    let f = found_at holds shape limit loaded t s l h here there in
    subst (λ (rs : List Row). AreMarks (lists_just (λ k. k.pairs) h.lists) s.fields rs t 0 shape.indexes l.table.marks)
    (sym f.new.rows) f.new.marks

pub finds_saved : (before after : Holds) (shape : Shape) (store loaded : StoreState) (stamp : Stamp) (k limit : ℕ)
    → HoldsOneThing after → is_shape shape ≡ true
    → AreSaved shape store stamp k before after → Loaded after shape limit loaded
    → FindsSaved before shape store k limit loaded
finds_saved before after shape store loaded stamp k limit one legal h g = record {
  saved = λ t s o l low here stands there.
      let f = found_at after shape limit loaded t s l g here there in
      let within : t < length shape.tables = slice_get_within shape.tables t s here in
      let w = h.written t low (table_file s) (table_place shape t s here) (table_written shape store t within) in
      let same : w.0 ≡ f.of.bytes =
      some_same w.0 f.of.bytes (one (table_file s) (Some w.0) (Some f.of.bytes) w.2 f.of.held) in
      let text : DbfText o.table.structure o.table.rows stamp f.of.bytes =
      subst (λ (b : List ℕ). DbfText o.table.structure o.table.rows stamp b) same (w.1.reads o within stands) in
      let only = one_table f.table.structure o.table.structure f.table.rows o.table.rows f.of.inside.stamp stamp
      f.of.bytes f.of.inside.text text in
      (f.new.structure ∙ only.0, f.new.rows ∙ only.1);
  kept = λ t s l low here there.
      let f = found_at after shape limit loaded t s l g here there in
      let kept = h.others (table_file s)
      (λ j lt at. absurd (files_differ shape legal j t (table_file s) (omega (arith, lt)) at
      (table_place shape t s here))) (Some f.of.bytes) in (
        f.table,
        record { bytes = f.of.bytes; held = kept.1 f.of.held; short = f.of.short; inside = f.of.inside },
        f.new.structure,
        f.new.rows,
      );
}
