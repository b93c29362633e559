use Rattle.std.proofs.Common.{◌≡◌, ◌+◌, List, ℕ, Option, Some, length, sym, subst, arith}
use Rattle.std.proofs.lemmas.Result.{err_from_is_err_and}
use Rattle.std.specs.Prelude.{slice_get}
use Rattle.ndx_tree.specs.Trees.{TreeView}
use Rattle.file_access.proofs.Holding.{same_then, rose_later}
use Rattle.table_files.proofs.FileLemmas.{lists_refused, ReadLists, lists_more, lists_whole}
use Rattle.table_files.proofs.ShapeLemmas.{index_named}
use Rattle.table_files.proofs.lists.load_lists.Goals as goal

pub load_list-requires : goal.load_list-requires
load_list-requires g c = index_named c.args.shape.now c.requires c.loop-n.n c.get-index.result.now c.get-index.ensures

pub returns-in_err-list-clause-refused : goal.returns-in_err-list-clause-refused
returns-in_err-list-clause-refused g c =
    let p = err_from_is_err_and c.from_residual-in_err-list.result c.from_residual-in_err-list.ensures.1 in
    let failed = g.F.Files.failed in
    rw (p.1, p.2) (lists_refused c.args.shape.now c.loop-n.n c.get-index.result.now _ _ c.get-index.ensures
    (rose_later (failed c.args.files.now) (failed c.loop-n.files) (failed c.load_list.new.files)
    c.loop-n.invariant.count c.in_err-list.ensures.counted)
    c.in_err-list.field-0.0 c.in_err-list.ensures.refused)

pub loop-n-preserved : goal.loop-n-preserved
loop-n-preserved g c =
    let holds = g.F.Files.holds in
    record {
      taken =
          subst (λ (l : List (Option TreeView)). ReadLists (holds c.args.files.now) c.args.shape.now (c.loop-n.n + 1) l)
          (sym c.in_ok-push.ensures.items)
          (lists_more (holds c.args.files.now) (holds c.loop-n.files) c.args.shape.now c.loop-n.n c.loop-n.lists.items
          c.in_ok-list.list c.get-index.result.now c.get-table.result.now
          c.loop-n.invariant.same c.get-index.ensures
          (subst (λ (n : ℕ). slice_get c.args.shape.now.tables n ≡ Some c.get-table.result.now) c.from.ensures
          c.get-table.ensures) c.loop-n.invariant.taken c.in_ok-list.ensures.loaded);
      same = same_then (holds c.args.files.now) (holds c.loop-n.files) (holds c.load_list.new.files)
          c.loop-n.invariant.same c.in_ok-list.ensures.kept;
      count = omega (arith, c.loop-n.invariant.count, c.in_ok-list.ensures.counted);
    }

pub returns-clause-loaded : goal.returns-clause-loaded
returns-clause-loaded g c =
    let all : c.loop-n.n ≡ length c.args.shape.now.indexes = omega arith in
    lists_whole (g.F.Files.holds c.args.files.now) c.args.shape.now c.loop-n.n c.loop-n.lists.items all
    c.loop-n.invariant.taken
