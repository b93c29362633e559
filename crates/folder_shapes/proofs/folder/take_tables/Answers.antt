use Rattle.std.proofs.Common.{◌<◌, ℕ, List, [], length, get_or, rules, Bor}
use Rattle.folder_shapes.specs.Names.{sort_of}
use Rattle.folder_shapes.specs.States.{taken_state}
use Rattle.folder_shapes.specs.Told.{TakeTables, nothing_taken}
use Rattle.file_access.proofs.Holding.{same_then}
use Rattle.folder_shapes.proofs.FolderLemmas.{few_after, goes_tables, texts}
use Rattle.folder_shapes.proofs.folder.take_tables.Goals as goal

pub loop-file-preserved : goal.loop-file-preserved
loop-file-preserved g c =
    let first = g.F.Files.holds c.args.files.now in
    let before = g.F.Files.holds c.loop-file.files in
    let after = g.F.Files.holds c.table_step.new.files in
    let x = taken_state c.loop-file.declared in
    let y = taken_state c.table_step.new.self in
    let d : Bor (List ℕ) = record { ref_ptr = (0, 0); now = [] } in
    let name = (get_or c.args.names.now c.loop-file.file d).now in
    let below : c.loop-file.file < length c.args.names.now = search rules in
    record {
      same = same_then first before after c.loop-file.invariant.same c.table_step.ensures.kept;
      few = few_after (sort_of name) before c.loop-file.file name x y c.loop-file.invariant.few
          c.in_ok-table_step.ensures.taken;
      goes = goes_tables first before c.args.names.now c.loop-file.file d x y
          (λ s. TakeTables first 0 (texts c.args.names.now) nothing_taken s)
          c.loop-file.invariant.same below c.in_ok-table_step.ensures.taken c.loop-file.invariant.goes;
    }
