use Rattle.std.proofs.Common.{◌≡◌, List, All, Err, sym, ap, subst, ◌+◌, take, arith}
use Rattle.std.proofs.lemmas.Grind.{common_steps}
use Rattle.std.proofs.lemmas.List.{length-map}
use Rattle.std.proofs.lemmas.List.Elements.{All-more}
use Rattle.std.proofs.lemmas.Result.{err_from_is_err_and}
use Rattle.save_papers.specs.declared.paper.PaperEntry.{PaperEntry}
use Rattle.save_papers.specs.declared.paper.WriteError.TheVariants.{Long}
use Rattle.save_papers.specs.Papers.{FitsEntry, entry_view}
use Rattle.save_papers.proofs.Entries.{entry_fits, fitting_entries}
use Rattle.save_papers.proofs.writing.write.Goals as goal

pub returns-in_err-put_entry-clause-long : goal.returns-in_err-put_entry-clause-long
returns-in_err-put_entry-clause-long c =
    let p = err_from_is_err_and c.from_residual-in_err-put_entry.result c.from_residual-in_err-put_entry.ensures.1 in
    rw (p.1, p.2) (λ long fits.
    let each = subst (λ (es : List PaperEntry). All (λ e. FitsEntry (entry_view e)) es)
    (sym c.deref-entry-items.ensures.value) (entry_fits c.args.paper.now.entries.items fits.1) in
    let here : FitsEntry (entry_view c.entry-item.result) =
    rw c.entry-item.is (each c.loop-entry.entry-index _ c.loop-entry-test.true) in
    let is : c.in_err-put_entry.field-0.0 ≡ Long = cc in
    c.in_err-put_entry.ensures.long (ap Err is) here)

pub loop-entry-preserved : goal.loop-entry-preserved
loop-entry-preserved c = record {
  text = grind (arith, common_steps);
  fits = subst (λ (es : List PaperEntry). All (λ e. FitsEntry (entry_view e)) (take (c.loop-entry.entry-index + 1) es))
      c.deref-entry-items.ensures.value
      (All-more (λ e. FitsEntry (entry_view e)) c.deref-entry-items.result.now c.loop-entry.entry-index
      c.entry-item.result c.loop-entry-test.true
      (subst (λ (es : List PaperEntry). All (λ e. FitsEntry (entry_view e)) (take c.loop-entry.entry-index es))
      (sym c.deref-entry-items.ensures.value) c.loop-entry.invariant.fits)
      (subst (λ (e : PaperEntry). FitsEntry (entry_view e)) c.entry-item.is c.in_ok-put_entry.ensures.fits));
}

pub returns-clause-fits : goal.returns-clause-fits
returns-clause-fits c = (
  omega (arith, length-map c.args.paper.now.entries.items entry_view, c.len.ensures, c.in_ok-count.ensures.fits),
  fitting_entries c.args.paper.now.entries.items (grind (arith, common_steps)),
)
