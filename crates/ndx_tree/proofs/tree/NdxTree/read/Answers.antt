use Rattle.std.proofs.Common.{◌∙◌, List, ⊎_elim, sym, subst, length}
use Rattle.std.proofs.lemmas.Bool.{false≢true}
use Rattle.key_lists.specs.Pairs.{Pair}
use Rattle.key_lists.specs.Rising.{IsRising}
use Rattle.ndx_tree.specs.IndexFile.{AreInOrder}
use Rattle.ndx_tree.specs.Reads.{AreInside, separators_at}
use Rattle.ndx_tree.specs.declared.walk.Separator.{Separator}
use Rattle.ndx_tree.proofs.Between.{are_inside}
use Rattle.std.proofs.lemmas.Result.{err_from_is_err_and}
use Rattle.ndx_tree.proofs.FileLemmas.{heads_same, first_fault, fault_no_index, order_no_index, same_list, walked_index}
use Rattle.ndx_tree.proofs.tree.NdxTree.read.Goals as goal

pub returns-in_err-found-clause-only : goal.returns-in_err-found-clause-only
returns-in_err-found-clause-only c = λ form pairs f.
    let p = err_from_is_err_and c.from_residual.result c.from_residual.ensures.1 in
    let same = heads_same c.args.bytes.now c.read_head.result c.in-Ok.head c.read_head.ensures.only c.in-Ok.is in
    rw (p.1, p.2)
    (⊎_elim (λ m. m)
    (λ w. absurd (fault_no_index c.pages_are_told.ensures c.args.bytes.now c.in-Ok.head c.in_err-found.field-0.0
    same w form pairs f)) c.in_err-found.ensures.fault)

pub returns-in_err-found-clause-fault : goal.returns-in_err-found-clause-fault
returns-in_err-found-clause-fault c =
    let p = err_from_is_err_and c.from_residual.result c.from_residual.ensures.1 in
    rw (p.1, p.2)
    (⊎_elim (λ m. rw m tt) (λ w. first_fault c.args.bytes.now c.in-Ok.head c.in_err-found.field-0.0
    c.in-Ok.ensures.read w) c.in_err-found.ensures.fault)

pub is_in_order-requires : goal.is_in_order-requires
is_in_order-requires c =
    let t = c.in_ok-found.ensures.met.0 in
    let walked = c.in_ok-found.ensures.met.1 in
    let shown = c.in_ok-found.ensures.met.2 in
    subst (λ (m : List Separator). AreInside (length c.in_ok-found.found.entries.items) m) (sym shown.separators)
    (subst (λ (m : List Pair). AreInside (length m) (separators_at 0 t.items)) (sym shown.entries)
    (are_inside t.items))

pub returns-then-not-is_in_order-clause-only : goal.returns-then-not-is_in_order-clause-only
returns-then-not-is_in_order-clause-only c = λ form pairs f.
    let t = c.in_ok-found.ensures.met.0 in
    let walked = c.in_ok-found.ensures.met.1 in
    let shown = c.in_ok-found.ensures.met.2 in
    let same = heads_same c.args.bytes.now c.read_head.result c.in-Ok.head c.read_head.ensures.only c.in-Ok.is in
    let no : AreInOrder t.items → ⊥ = λ o. false≢true
    (sym c.if-not-is_in_order.true ∙ (c.is_in_order.ensures t.items shown.entries shown.separators).1 o) in
    absurd (order_no_index c.pages_are_told.ensures c.args.bytes.now c.in-Ok.head t same walked no form pairs f)

pub returns-then-not-is_in_order-clause-fault : goal.returns-then-not-is_in_order-clause-fault
returns-then-not-is_in_order-clause-fault c =
    let t = c.in_ok-found.ensures.met.0 in
    let walked = c.in_ok-found.ensures.met.1 in
    let shown = c.in_ok-found.ensures.met.2 in
    let no : AreInOrder t.items → ⊥ = λ o. false≢true
    (sym c.if-not-is_in_order.true ∙ (c.is_in_order.ensures t.items shown.entries shown.separators).1 o) in
    (c.in-Ok.head, t, c.in-Ok.ensures.read, walked, no)

pub tree_of-requires-clause-rising : goal.tree_of-requires-clause-rising
tree_of-requires-clause-rising c =
    let t = c.in_ok-found.ensures.met.0 in
    let walked = c.in_ok-found.ensures.met.1 in
    let shown = c.in_ok-found.ensures.met.2 in
    let order : AreInOrder t.items =
    (c.is_in_order.ensures t.items shown.entries shown.separators).0 c.if-not-is_in_order.false in
    subst IsRising (sym shown.entries) order.rising

pub tree_of-requires-clause-keys : goal.tree_of-requires-clause-keys
tree_of-requires-clause-keys c = c.in_ok-found.ensures.met.2.fits

pub returns-clause-read : goal.returns-clause-read
returns-clause-read c =
    let t = c.in_ok-found.ensures.met.0 in
    let walked = c.in_ok-found.ensures.met.1 in
    let shown = c.in_ok-found.ensures.met.2 in
    let order : AreInOrder t.items =
    (c.is_in_order.ensures t.items shown.entries shown.separators).0 c.if-not-is_in_order.false in
    let e = c.in_ok-tree.ensures in
    walked_index c.pages_are_told.ensures c.args.bytes.now c.in-Ok.head t _ _ c.in-Ok.ensures.read walked order
    (e.pairs ∙ shown.entries) (sym e.key_length) (sym e.key_text)

pub returns-clause-only : goal.returns-clause-only
returns-clause-only c = λ form pairs f.
    let t = c.in_ok-found.ensures.met.0 in
    let walked = c.in_ok-found.ensures.met.1 in
    let shown = c.in_ok-found.ensures.met.2 in
    let same = heads_same c.args.bytes.now c.read_head.result c.in-Ok.head c.read_head.ensures.only c.in-Ok.is in
    let e = c.in_ok-tree.ensures in
    same_list c.pages_are_told.ensures c.args.bytes.now c.in-Ok.head t same walked form _ pairs _ f
    (e.pairs ∙ shown.entries) e.key_length e.key_text
