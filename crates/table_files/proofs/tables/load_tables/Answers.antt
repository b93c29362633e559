use Rattle.std.proofs.Common.{◌++◌, ◌∷◌, [], List, take, sym, subst, arith}
use Rattle.std.proofs.lemmas.Result.{err_from_is_err_and}
use Rattle.std.proofs.lemmas.Slice.Zip.{all_zipped_more}
use Rattle.std.specs.List.{AllZip}
use Rattle.dbf_file.specs.Tables.{TableState}
use Rattle.shape.specs.declared.tables.TableShape.{TableShape}
use Rattle.table_files.specs.Loading.{IsTableOf}
use Rattle.file_access.proofs.Holding.{same_then, rose_later}
use Rattle.table_files.proofs.FileLemmas.{load_refused, table_refused_before, table_before, take_next}
use Rattle.table_files.proofs.ShapeLemmas.{table_named}
use Rattle.table_files.proofs.tables.load_tables.Goals as goal

pub load_table-requires : goal.load_table-requires
load_table-requires g c = table_named c.args.shape.now c.requires c.loop-t.t c.get.result.now c.get.ensures

pub returns-in_err-table-clause-refused : goal.returns-in_err-table-clause-refused
returns-in_err-table-clause-refused g c =
    let p = err_from_is_err_and c.from_residual-in_err-table.result c.from_residual-in_err-table.ensures.1 in
    let holds = g.F.Files.holds in
    let failed = g.F.Files.failed in
    rw (p.1, p.2) (load_refused (holds c.args.files.now) c.args.shape.now c.args.limit c.loop-t.t c.get.result.now
    c.loop-t.tables.items _ c.get.ensures c.loop-t.invariant.taken c.in_err-table.field-0.0
    (table_refused_before (holds c.args.files.now) (holds c.loop-t.files) c.args.limit c.get.result.now _ _
    c.loop-t.invariant.same
    (rose_later (failed c.args.files.now) (failed c.loop-t.files) (failed c.load_table.new.files)
    c.loop-t.invariant.count c.in_err-table.ensures.counted)
    c.in_err-table.field-0.0 c.in_err-table.ensures.refused))

pub loop-t-preserved : goal.loop-t-preserved
loop-t-preserved g c =
    let holds = g.F.Files.holds in
    let R = IsTableOf (holds c.args.files.now) c.args.limit in
    record {
      taken =
          subst (λ (l : List TableShape). AllZip R l c.push.new.self.items)
          (sym (take_next c.args.shape.now.tables c.loop-t.t c.get.result.now c.get.ensures))
          (subst (λ (l : List TableState). AllZip R (take c.loop-t.t c.args.shape.now.tables ++ c.get.result.now ∷ [])
          l) (sym c.in_ok-push.ensures.items)
          (all_zipped_more R (take c.loop-t.t c.args.shape.now.tables) c.loop-t.tables.items c.get.result.now
          c.in_ok-table.table c.loop-t.invariant.taken
          (table_before (holds c.args.files.now) (holds c.loop-t.files) c.args.limit c.get.result.now
          c.in_ok-table.table c.loop-t.invariant.same c.in_ok-table.ensures.loaded)));
      same = same_then (holds c.args.files.now) (holds c.loop-t.files) (holds c.load_table.new.files)
          c.loop-t.invariant.same c.in_ok-table.ensures.kept;
      count = omega (arith, c.loop-t.invariant.count, c.in_ok-table.ensures.counted);
    }
