use Rattle.std.proofs.Common.{◌≡◌, true, Some, sym, arith}
use Rattle.std.specs.Prelude.{slice_get}
use Rattle.file_access.specs.Holding.{IsReplaced}
use Rattle.table_files.specs.Names.{files_of}
use Rattle.table_files.specs.Saving.{is_written, IsTextOf}
use Rattle.file_access.proofs.Holding.{rose_later}
use Rattle.table_files.proofs.ShapeLemmas.{few_declared}
use Rattle.table_files.proofs.WriteLemmas.{files_count, saved_kept, saved_more}
use Rattle.table_files.proofs.saving.save.Goals as goal

pub overflow_add-k-end : goal.overflow_add-k-end
overflow_add-k-end g c = let few = few_declared c.args.shape.now c.requires.legal in omega (arith, few.0, few.1)

pub returns-in-Err-clause-ended : goal.returns-in-Err-clause-ended
returns-in-Err-clause-ended g c =
    let holds = g.F.Files.holds in
    let failed = g.F.Files.failed in
    let named : slice_get (files_of c.args.shape.now) c.loop-k.k ≡ Some c.in-Some.file.name.bytes =
    rw c.in-Some.is at c.in_ok-file.ensures.named in
    record {
      k = c.loop-k.k;
      within = (let count = files_count c.args.shape.now in omega (arith, count));
      saved = saved_kept c.args.shape.now c.args.store.now c.args.stamp c.loop-k.k (holds c.args.files.now)
          (holds c.loop-k.files) (holds c.replace.new.self) c.in-Err.ensures.kept c.loop-k.invariant.0;
      why = (
        named,
        rose_later (failed c.args.files.now) (failed c.loop-k.files) (failed c.replace.new.self)
            c.loop-k.invariant.1 c.replace.ensures.counted c.in-Err.ensures.device,
      );
    }

pub loop-k-preserved : goal.loop-k-preserved
loop-k-preserved g c =
    let holds = g.F.Files.holds in
    let shape = c.args.shape.now in
    let store = c.args.store.now in
    let is : is_written shape store c.loop-k.k ≡ true = sym (rw c.in-Some.is at c.in_ok-file.ensures.written) in
    let named : slice_get (files_of shape) c.loop-k.k ≡ Some c.in-Some.file.name.bytes =
    rw c.in-Some.is at c.in_ok-file.ensures.named in
    let text : IsTextOf shape store c.args.stamp c.loop-k.k c.in-Some.file.bytes.items =
    rw c.in-Some.is at c.in_ok-file.ensures.text in
    let replaced : IsReplaced (holds c.loop-k.files) c.in-Some.file.name.bytes c.in-Some.file.bytes.items
    (holds c.replace.new.self) =
    rw (c.as_str.ensures.value) at c.in-Ok.ensures.replaced in (
      saved_more shape store c.args.stamp c.loop-k.k c.in-Some.file.name.bytes c.in-Some.file.bytes.items
          (holds c.args.files.now) (holds c.loop-k.files) (holds c.replace.new.self) c.requires.legal is named text
          replaced c.loop-k.invariant.0,
      omega (arith, c.loop-k.invariant.1, c.replace.ensures.counted),
    )
