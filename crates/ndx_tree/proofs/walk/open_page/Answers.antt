use Rattle.std.proofs.Common.{◌≡◌, ◌∙◌, sym, subst, false, refl, inr, arith}
use Rattle.std.specs.Prelude.{find}
use Rattle.std.proofs.Common.{Some}
use Rattle.ndx_page.specs.PageLayout.{IsPage, has_page_fault, page_faults}
use Rattle.ndx_tree.specs.IndexFile.{page_at, page_count}
use Rattle.ndx_tree.proofs.FileLemmas.{not_barred}
use Rattle.ndx_tree.proofs.PageOf.{fault-page_of}
use Rattle.ndx_tree.proofs.walk.open_page.Goals as goal

pub returns-in-Ok-clause-opens : goal.returns-in-Ok-clause-opens
returns-in-Ok-clause-opens c = λ seen m. (
  not_barred (page_count c.args.bytes.now) c.args.number seen (λ e. omega arith) (omega arith)
      (sym (m c.args.number false (omega arith)) ∙ c.if-reached-place.false),
  c.pages_are_told.ensures.told c.args.head.now.length (page_at c.args.number c.args.bytes.now) c.in-Ok.page
      (subst (λ m. IsPage c.args.head.now.length m c.in-Ok.page) c.bytes_of.ensures c.in-Ok.ensures.read),
)

pub returns-in-Err-clause-opens : goal.returns-in-Err-clause-opens
returns-in-Err-clause-opens c = λ seen m.
    inr (
      not_barred (page_count c.args.bytes.now) c.args.number seen (λ e. omega arith) (omega arith)
          (sym (m c.args.number false (omega arith)) ∙ c.if-reached-place.false),
      fault-page_of c.args.head.now.length (page_at c.args.number c.args.bytes.now) c.in-Err.field-0
          (subst (λ m. find (has_page_fault c.args.head.now.length m) page_faults ≡ Some c.in-Err.field-0)
          c.bytes_of.ensures c.in-Err.ensures.fault),
      refl,
    )
