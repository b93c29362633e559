use Rattle.std.proofs.Common.{◌≡◌, ℕ, true, refl, sym, subst}
use Rattle.std.specs.List.{All}
use Rattle.std.proofs.lemmas.List.Elements.{All-push}
use Rattle.waiting_fields.specs.Reads.{takes_at, IsReadOfCode, IsTaken}
use Rattle.waiting_fields.proofs.Taking.{goes_past, begins_there, all_taken}
use Rattle.waiting_fields.proofs.reads.reads_of.Goals as goal

pub loop-place-preserved-then-not-begins_at : goal.loop-place-preserved-then-not-begins_at
loop-place-preserved-then-not-begins_at c =
    let i = c.loop-place.invariant in
    record {
      reads = i.reads;
      all = goes_past c.as_slice-instrs.result.now c.loop-place.reads.items c.loop-place.place i.reads
          (c.if-not-begins_at.ensures refl) i.all;
    }

pub loop-place-preserved : goal.loop-place-preserved
loop-place-preserved c =
    let instrs = c.as_slice-instrs.result.now in
    let i = c.loop-place.invariant in
    let more = c.in_ok-push.ensures.items in
    record {
      reads = subst (All (IsReadOfCode instrs)) (sym more)
          (All-push (IsReadOfCode instrs) c.loop-place.reads.items c.in_ok-read.read i.reads c.in_ok-read.ensures.read);
      all = begins_there instrs c.loop-place.reads.items c.push.new.self.items c.in_ok-read.read c.loop-place.place
          more c.in_ok-read.ensures.first i.all;
    }

pub returns-clause-all : goal.returns-clause-all
returns-clause-all c =
    subst (λ code. (q : ℕ) → takes_at code q ≡ true → IsTaken c.loop-place.reads.items q) c.as_slice-instrs.ensures
    (all_taken c.as_slice-instrs.result.now c.loop-place.reads.items c.loop-place.place c.loop-place-test.false
    c.loop-place.invariant.all)
