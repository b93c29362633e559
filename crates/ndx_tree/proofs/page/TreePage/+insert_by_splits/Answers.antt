use Rattle.std.proofs.Common.{◌≡◌, ◌+◌, ◌*◌, ◌<◌, ◌≤◌, List, [], length, refl, ap, sym, ◌∙◌, subst, arith}
use Rattle.std.proofs.lemmas.Bool.{eqb-true, eqb-false}
use Rattle.std.proofs.lemmas.List.{nil_from_length}
use Rattle.std.proofs.lemmas.List.Edits.{length-insert}
use Rattle.key_lists.specs.Pairs.{Pair}
use Rattle.ndx_tree.specs.Blanks.{IsPool}
use Rattle.ndx_tree.specs.Pages.{PageView, IsFramedPage}
use Rattle.ndx_tree.proofs.Cut.{entries_rising}
use Rattle.ndx_tree.proofs.Take.{leaf_takes, placed_child, child_grows, child_parts, done_inserts, split_inserts}
use Rattle.ndx_tree.proofs.Take.{absent_within, child_ready}
use Rattle.ndx_tree.proofs.Keyed.{page_keyed, below_keyed, parted_keyed, entries_room, most_is, put_keyed}
use Rattle.key_rows.specs.Flat.{HaveKeys}
use Rattle.ndx_tree.proofs.page.TreePage.+insert_by_splits.Goals as goal

pub invariant_of-self : goal.invariant_of-self
invariant_of-self t c =
    let none : c.self.inside.children.items ≡ [] =
    nil_from_length _ (omega (arith, eqb-true _ 0 (sym c.is_empty.ensures ∙ c.if-is_empty.true))) in
    let placed = c.place_for-at.ensures.value in
    let takes = leaf_takes c.self.inside.most c.self.inside.entries.items c.put.new.self.items
    c.self.inside.children.items c.args.entry c.place_for-at.result c.self.invariant.0 none
    (absent_within c.args.self.now _ _ _ _ c.self.view_is c.requires.absent) placed c.put.ensures.items in
    let longer : length c.put.new.self.items ≡ length c.self.inside.entries.items + 1 = ap (λ (m : List Pair). length m)
    c.put.ensures.items ∙ length-insert c.self.inside.entries.items c.place_for-at.result c.args.entry
    (omega arith) in
    (takes.page, omega arith, omega (arith, c.self.invariant), omega (arith, c.self.invariant))

pub returns-then-len-self-clause-inserts : goal.returns-then-len-self-clause-inserts
returns-then-len-self-clause-inserts t c =
    let none : c.self.inside.children.items ≡ [] =
    nil_from_length _ (omega (arith, eqb-true _ 0 (sym c.is_empty.ensures ∙ c.if-is_empty.true))) in
    let placed = c.place_for-at.ensures.value in
    let takes = leaf_takes c.self.inside.most c.self.inside.entries.items c.put.new.self.items
    c.self.inside.children.items c.args.entry c.place_for-at.result c.self.invariant.0 none
    (absent_within c.args.self.now _ _ _ _ c.self.view_is c.requires.absent) placed c.put.ensures.items in
    let longer : length c.put.new.self.items ≡ length c.self.inside.entries.items + 1 = ap (λ (m : List Pair). length m)
    c.put.ensures.items ∙ length-insert c.self.inside.entries.items c.place_for-at.result c.args.entry
    (omega arith) in
    done_inserts c.args.self.now c.self.inside.most c.self.inside.entries.items c.put.new.self.items
    c.self.inside.children.items c.self.inside.children.items c.args.entry c.self.view_is takes (omega arith)
    (omega arith)

pub split_leaf-requires-clause-parts : goal.split_leaf-requires-clause-parts
split_leaf-requires-clause-parts t c =
    let none : c.self.inside.children.items ≡ [] =
    nil_from_length _ (omega (arith, eqb-true _ 0 (sym c.is_empty.ensures ∙ c.if-is_empty.true))) in
    let placed = c.place_for-at.ensures.value in
    let takes = leaf_takes c.self.inside.most c.self.inside.entries.items c.put.new.self.items
    c.self.inside.children.items c.args.entry c.place_for-at.result c.self.invariant.0 none
    (absent_within c.args.self.now _ _ _ _ c.self.view_is c.requires.absent) placed c.put.ensures.items in
    let longer : length c.put.new.self.items ≡ length c.self.inside.entries.items + 1 = ap (λ (m : List Pair). length m)
    c.put.ensures.items ∙ length-insert c.self.inside.entries.items c.place_for-at.result c.args.entry
    (omega arith) in
    subst (IsFramedPage c.self.inside.most c.put.new.self.items) none takes.page

pub returns-then-is_empty-clause-inserts : goal.returns-then-is_empty-clause-inserts
returns-then-is_empty-clause-inserts t c =
    let none : c.self.inside.children.items ≡ [] =
    nil_from_length _ (omega (arith, eqb-true _ 0 (sym c.is_empty.ensures ∙ c.if-is_empty.true))) in
    let placed = c.place_for-at.ensures.value in
    let takes = leaf_takes c.self.inside.most c.self.inside.entries.items c.put.new.self.items
    c.self.inside.children.items c.args.entry c.place_for-at.result c.self.invariant.0 none
    (absent_within c.args.self.now _ _ _ _ c.self.view_is c.requires.absent) placed c.put.ensures.items in
    let longer : length c.put.new.self.items ≡ length c.self.inside.entries.items + 1 = ap (λ (m : List Pair). length m)
    c.put.ensures.items ∙ length-insert c.self.inside.entries.items c.place_for-at.result c.args.entry
    (omega arith) in
    split_inserts c.args.self.now c.self.inside.most c.self.inside.entries.items c.put.new.self.items
    c.split_leaf.new.entries.items c.self.inside.children.items c.self.inside.children.items
    c.self.inside.children.items c.args.entry c.split_leaf.result c.self.view_is takes
    (rw none c.split_leaf.ensures.divides)

pub index_mut-requires : goal.index_mut-requires
index_mut-requires t c =
    let some : 0 < length c.self.inside.children.items =
    omega (arith, eqb-false _ 0 (sym c.is_empty.ensures ∙ c.if-is_empty.false)) in
    let placed = c.place_for-at.ensures.value in
    let child = placed_child c.self.inside.most c.self.inside.entries.items c.self.inside.children.items c.args.entry
    c.place_for-at.result c.args.self.now c.self.invariant.0 some placed in omega (arith, child.0)

pub insert_by_splits-requires : goal.insert_by_splits-requires
insert_by_splits-requires t c =
    let some : 0 < length c.self.inside.children.items =
    omega (arith, eqb-false _ 0 (sym c.is_empty.ensures ∙ c.if-is_empty.false)) in
    let placed = c.place_for-at.ensures.value in
    let ready = child_ready c.args.self.now c.self.inside.most c.self.inside.entries.items c.self.inside.children.items
    c.args.entry c.place_for-at.result c.index_mut.result.now c.self.view_is c.self.invariant.0 some
    c.requires.absent placed c.index_mut.ensures.value in (
      let lower : c.index_mut.result.now.height < c.args.self.now.height = omega arith in omega (arith, c.decreases),
      (
        ready.2,
        (
          record {
            key_length = c.requires.keyed.key_length;
            fits = subst
                (λ m. (c.requires.keyed.key_length + 8) * m ≤ 504) ready.1 c.requires.keyed.fits;
            keys = (
              c.requires.keyed.keys.0,
              below_keyed c.args.self.now c.requires.keyed.key_length c.self.inside.most
                  c.self.inside.entries.items c.self.inside.children.items c.place_for-at.result c.index_mut.result.now
                  c.self.view_is ready.3 c.index_mut.ensures.value c.requires.keyed.keys.1,
            );
          },
          (
            c.requires.leaf,
            (
              omega (arith, c.requires.room),
              subst (λ m. IsPool m c.args.pool.now) ready.1
                  c.requires.pool,
            ),
          ),
        ),
      ),
    )

pub invariant_of-self-in_err-separator : goal.invariant_of-self-in_err-separator
invariant_of-self-in_err-separator t c =
    let some : 0 < length c.self.inside.children.items =
    omega (arith, eqb-false _ 0 (sym c.is_empty.ensures ∙ c.if-is_empty.false)) in
    let placed = c.place_for-at.ensures.value in
    let ready = child_ready c.args.self.now c.self.inside.most c.self.inside.entries.items c.self.inside.children.items
    c.args.entry c.place_for-at.result c.index_mut.result.now c.self.view_is c.self.invariant.0 some
    c.requires.absent placed c.index_mut.ensures.value in
    let takes = child_grows c.self.inside.most c.self.inside.entries.items c.self.inside.children.items _ c.args.entry
    c.place_for-at.result c.index_mut.result.now c.insert_by_splits.new.self c.self.invariant.0 some
    (absent_within c.args.self.now _ _ _ _ c.self.view_is c.requires.absent) placed c.index_mut.ensures.value refl
    c.in_err-separator.ensures.inserts in
    (takes.page, c.self.invariant.1, c.self.invariant.2, λ _. c.self.invariant.3 some)

pub returns-in_err-separator-clause-inserts : goal.returns-in_err-separator-clause-inserts
returns-in_err-separator-clause-inserts t c =
    let some : 0 < length c.self.inside.children.items =
    omega (arith, eqb-false _ 0 (sym c.is_empty.ensures ∙ c.if-is_empty.false)) in
    let placed = c.place_for-at.ensures.value in
    let ready = child_ready c.args.self.now c.self.inside.most c.self.inside.entries.items c.self.inside.children.items
    c.args.entry c.place_for-at.result c.index_mut.result.now c.self.view_is c.self.invariant.0 some
    c.requires.absent placed c.index_mut.ensures.value in
    let takes = child_grows c.self.inside.most c.self.inside.entries.items c.self.inside.children.items _ c.args.entry
    c.place_for-at.result c.index_mut.result.now c.insert_by_splits.new.self c.self.invariant.0 some
    (absent_within c.args.self.now _ _ _ _ c.self.view_is c.requires.absent) placed c.index_mut.ensures.value refl
    c.in_err-separator.ensures.inserts in
    rw c.from_residual.ensures (done_inserts c.args.self.now c.self.inside.most c.self.inside.entries.items
    c.self.inside.entries.items c.self.inside.children.items _ c.args.entry c.self.view_is takes (omega arith)
    c.self.invariant.1)

pub returns-in_err-separator-clause-used : goal.returns-in_err-separator-clause-used
returns-in_err-separator-clause-used t c =
    let some : 0 < length c.self.inside.children.items =
    omega (arith, eqb-false _ 0 (sym c.is_empty.ensures ∙ c.if-is_empty.false)) in
    let placed = c.place_for-at.ensures.value in
    let ready = child_ready c.args.self.now c.self.inside.most c.self.inside.entries.items c.self.inside.children.items
    c.args.entry c.place_for-at.result c.index_mut.result.now c.self.view_is c.self.invariant.0 some
    c.requires.absent placed c.index_mut.ensures.value in
    omega (arith, c.insert_by_splits.ensures.used)

pub returns-in_err-separator-clause-pool : goal.returns-in_err-separator-clause-pool
returns-in_err-separator-clause-pool t c =
    let some : 0 < length c.self.inside.children.items =
    omega (arith, eqb-false _ 0 (sym c.is_empty.ensures ∙ c.if-is_empty.false)) in
    let placed = c.place_for-at.ensures.value in
    let ready = child_ready c.args.self.now c.self.inside.most c.self.inside.entries.items c.self.inside.children.items
    c.args.entry c.place_for-at.result c.index_mut.result.now c.self.view_is c.self.invariant.0 some
    c.requires.absent placed c.index_mut.ensures.value in
    subst (λ m. IsPool m c.insert_by_splits.new.pool) (sym ready.1) c.insert_by_splits.ensures.pool

pub put-requires-3-clause-within : goal.put-requires-3-clause-within
put-requires-3-clause-within t c =
    let some : 0 < length c.self.inside.children.items =
    omega (arith, eqb-false _ 0 (sym c.is_empty.ensures ∙ c.if-is_empty.false)) in
    let placed = c.place_for-at.ensures.value in
    let ready = child_ready c.args.self.now c.self.inside.most c.self.inside.entries.items c.self.inside.children.items
    c.args.entry c.place_for-at.result c.index_mut.result.now c.self.view_is c.self.invariant.0 some
    c.requires.absent placed c.index_mut.ensures.value in
    omega arith

pub put-requires-3-clause-room : goal.put-requires-3-clause-room
put-requires-3-clause-room t c =
    let some : 0 < length c.self.inside.children.items =
    omega (arith, eqb-false _ 0 (sym c.is_empty.ensures ∙ c.if-is_empty.false)) in
    let placed = c.place_for-at.ensures.value in
    let ready = child_ready c.args.self.now c.self.inside.most c.self.inside.entries.items c.self.inside.children.items
    c.args.entry c.place_for-at.result c.index_mut.result.now c.self.view_is c.self.invariant.0 some
    c.requires.absent placed c.index_mut.ensures.value in
    omega (arith, c.self.invariant)

pub invariant_of-self-then-len-self-2 : goal.invariant_of-self-then-len-self-2
invariant_of-self-then-len-self-2 t c =
    let some : 0 < length c.self.inside.children.items =
    omega (arith, eqb-false _ 0 (sym c.is_empty.ensures ∙ c.if-is_empty.false)) in
    let placed = c.place_for-at.ensures.value in
    let ready = child_ready c.args.self.now c.self.inside.most c.self.inside.entries.items c.self.inside.children.items
    c.args.entry c.place_for-at.result c.index_mut.result.now c.self.view_is c.self.invariant.0 some
    c.requires.absent placed c.index_mut.ensures.value in
    let parts = child_parts c.self.inside.most c.self.inside.entries.items c.put-2.new.self.items
    c.self.inside.children.items _ c.put-3.new.items.items c.args.entry c.in_ok-separator.separator
    c.place_for-at.result c.index_mut.result.now c.insert_by_splits.new.self c.in_ok-separator.right
    c.self.invariant.0 some (absent_within c.args.self.now _ _ _ _ c.self.view_is c.requires.absent) placed
    c.index_mut.ensures.value refl c.put-2.ensures.items c.put-3.ensures.items c.in_ok-separator.ensures.inserts in
    let longer : length c.put-2.new.self.items ≡ length c.self.inside.entries.items + 1 = ap
    (λ (m : List Pair). length m) c.put-2.ensures.items ∙ length-insert c.self.inside.entries.items
    c.place_for-at.result c.in_ok-separator.separator (omega arith) in
    (parts.0.page, omega arith, omega (arith, c.self.invariant), omega (arith, c.self.invariant))

pub returns-then-len-self-2-clause-inserts : goal.returns-then-len-self-2-clause-inserts
returns-then-len-self-2-clause-inserts t c =
    let some : 0 < length c.self.inside.children.items =
    omega (arith, eqb-false _ 0 (sym c.is_empty.ensures ∙ c.if-is_empty.false)) in
    let placed = c.place_for-at.ensures.value in
    let ready = child_ready c.args.self.now c.self.inside.most c.self.inside.entries.items c.self.inside.children.items
    c.args.entry c.place_for-at.result c.index_mut.result.now c.self.view_is c.self.invariant.0 some
    c.requires.absent placed c.index_mut.ensures.value in
    let parts = child_parts c.self.inside.most c.self.inside.entries.items c.put-2.new.self.items
    c.self.inside.children.items _ c.put-3.new.items.items c.args.entry c.in_ok-separator.separator
    c.place_for-at.result c.index_mut.result.now c.insert_by_splits.new.self c.in_ok-separator.right
    c.self.invariant.0 some (absent_within c.args.self.now _ _ _ _ c.self.view_is c.requires.absent) placed
    c.index_mut.ensures.value refl c.put-2.ensures.items c.put-3.ensures.items c.in_ok-separator.ensures.inserts in
    let longer : length c.put-2.new.self.items ≡ length c.self.inside.entries.items + 1 = ap
    (λ (m : List Pair). length m) c.put-2.ensures.items ∙ length-insert c.self.inside.entries.items
    c.place_for-at.result c.in_ok-separator.separator (omega arith) in
    done_inserts c.args.self.now c.self.inside.most c.self.inside.entries.items c.put-2.new.self.items
    c.self.inside.children.items c.put-3.new.items.items c.args.entry c.self.view_is parts.0 (omega arith)
    (omega arith)

pub returns-then-len-self-2-clause-used : goal.returns-then-len-self-2-clause-used
returns-then-len-self-2-clause-used t c =
    let some : 0 < length c.self.inside.children.items =
    omega (arith, eqb-false _ 0 (sym c.is_empty.ensures ∙ c.if-is_empty.false)) in
    let placed = c.place_for-at.ensures.value in
    let ready = child_ready c.args.self.now c.self.inside.most c.self.inside.entries.items c.self.inside.children.items
    c.args.entry c.place_for-at.result c.index_mut.result.now c.self.view_is c.self.invariant.0 some
    c.requires.absent placed c.index_mut.ensures.value in
    omega (arith, c.insert_by_splits.ensures.used)

pub returns-then-len-self-2-clause-pool : goal.returns-then-len-self-2-clause-pool
returns-then-len-self-2-clause-pool t c =
    let some : 0 < length c.self.inside.children.items =
    omega (arith, eqb-false _ 0 (sym c.is_empty.ensures ∙ c.if-is_empty.false)) in
    let placed = c.place_for-at.ensures.value in
    let ready = child_ready c.args.self.now c.self.inside.most c.self.inside.entries.items c.self.inside.children.items
    c.args.entry c.place_for-at.result c.index_mut.result.now c.self.view_is c.self.invariant.0 some
    c.requires.absent placed c.index_mut.ensures.value in
    subst (λ m. IsPool m c.insert_by_splits.new.pool) (sym ready.1) c.insert_by_splits.ensures.pool

pub take_inner-blank-requires-clause-some : goal.take_inner-blank-requires-clause-some
take_inner-blank-requires-clause-some t c =
    let some : 0 < length c.self.inside.children.items =
    omega (arith, eqb-false _ 0 (sym c.is_empty.ensures ∙ c.if-is_empty.false)) in
    let placed = c.place_for-at.ensures.value in
    let ready = child_ready c.args.self.now c.self.inside.most c.self.inside.entries.items c.self.inside.children.items
    c.args.entry c.place_for-at.result c.index_mut.result.now c.self.view_is c.self.invariant.0 some
    c.requires.absent placed c.index_mut.ensures.value in
    omega (arith, c.insert_by_splits.ensures.used, c.requires.room)

pub take_inner-blank-requires-clause-pool : goal.take_inner-blank-requires-clause-pool
take_inner-blank-requires-clause-pool t c =
    let some : 0 < length c.self.inside.children.items =
    omega (arith, eqb-false _ 0 (sym c.is_empty.ensures ∙ c.if-is_empty.false)) in
    let placed = c.place_for-at.ensures.value in
    let ready = child_ready c.args.self.now c.self.inside.most c.self.inside.entries.items c.self.inside.children.items
    c.args.entry c.place_for-at.result c.index_mut.result.now c.self.view_is c.self.invariant.0 some
    c.requires.absent placed c.index_mut.ensures.value in
    let same : c.index_mut.result.now.most ≡ c.self.inside.most = sym ready.1
    ∙ sym (ap (λ (v : PageView). v.most) c.self.view_is) in subst (λ m. IsPool m c.insert_by_splits.new.pool) same
    c.insert_by_splits.ensures.pool

pub split_inner-requires-clause-parts : goal.split_inner-requires-clause-parts
split_inner-requires-clause-parts t c =
    let some : 0 < length c.self.inside.children.items =
    omega (arith, eqb-false _ 0 (sym c.is_empty.ensures ∙ c.if-is_empty.false)) in
    let placed = c.place_for-at.ensures.value in
    let ready = child_ready c.args.self.now c.self.inside.most c.self.inside.entries.items c.self.inside.children.items
    c.args.entry c.place_for-at.result c.index_mut.result.now c.self.view_is c.self.invariant.0 some
    c.requires.absent placed c.index_mut.ensures.value in
    let parts = child_parts c.self.inside.most c.self.inside.entries.items c.put-2.new.self.items
    c.self.inside.children.items _ c.put-3.new.items.items c.args.entry c.in_ok-separator.separator
    c.place_for-at.result c.index_mut.result.now c.insert_by_splits.new.self c.in_ok-separator.right
    c.self.invariant.0 some (absent_within c.args.self.now _ _ _ _ c.self.view_is c.requires.absent) placed
    c.index_mut.ensures.value refl c.put-2.ensures.items c.put-3.ensures.items c.in_ok-separator.ensures.inserts in
    let longer : length c.put-2.new.self.items ≡ length c.self.inside.entries.items + 1 = ap
    (λ (m : List Pair). length m) c.put-2.ensures.items ∙ length-insert c.self.inside.entries.items
    c.place_for-at.result c.in_ok-separator.separator (omega arith) in
    parts.0.page

pub split_inner-requires-clause-inner : goal.split_inner-requires-clause-inner
split_inner-requires-clause-inner t c =
    let some : 0 < length c.self.inside.children.items =
    omega (arith, eqb-false _ 0 (sym c.is_empty.ensures ∙ c.if-is_empty.false)) in
    let placed = c.place_for-at.ensures.value in
    let ready = child_ready c.args.self.now c.self.inside.most c.self.inside.entries.items c.self.inside.children.items
    c.args.entry c.place_for-at.result c.index_mut.result.now c.self.view_is c.self.invariant.0 some
    c.requires.absent placed c.index_mut.ensures.value in
    let parts = child_parts c.self.inside.most c.self.inside.entries.items c.put-2.new.self.items
    c.self.inside.children.items _ c.put-3.new.items.items c.args.entry c.in_ok-separator.separator
    c.place_for-at.result c.index_mut.result.now c.insert_by_splits.new.self c.in_ok-separator.right
    c.self.invariant.0 some (absent_within c.args.self.now _ _ _ _ c.self.view_is c.requires.absent) placed
    c.index_mut.ensures.value refl c.put-2.ensures.items c.put-3.ensures.items c.in_ok-separator.ensures.inserts in
    let longer : length c.put-2.new.self.items ≡ length c.self.inside.entries.items + 1 = ap
    (λ (m : List Pair). length m) c.put-2.ensures.items ∙ length-insert c.self.inside.entries.items
    c.place_for-at.result c.in_ok-separator.separator (omega arith) in
    omega (arith, parts.1)

pub returns-clause-inserts : goal.returns-clause-inserts
returns-clause-inserts t c =
    let some : 0 < length c.self.inside.children.items =
    omega (arith, eqb-false _ 0 (sym c.is_empty.ensures ∙ c.if-is_empty.false)) in
    let placed = c.place_for-at.ensures.value in
    let ready = child_ready c.args.self.now c.self.inside.most c.self.inside.entries.items c.self.inside.children.items
    c.args.entry c.place_for-at.result c.index_mut.result.now c.self.view_is c.self.invariant.0 some
    c.requires.absent placed c.index_mut.ensures.value in
    let parts = child_parts c.self.inside.most c.self.inside.entries.items c.put-2.new.self.items
    c.self.inside.children.items _ c.put-3.new.items.items c.args.entry c.in_ok-separator.separator
    c.place_for-at.result c.index_mut.result.now c.insert_by_splits.new.self c.in_ok-separator.right
    c.self.invariant.0 some (absent_within c.args.self.now _ _ _ _ c.self.view_is c.requires.absent) placed
    c.index_mut.ensures.value refl c.put-2.ensures.items c.put-3.ensures.items c.in_ok-separator.ensures.inserts in
    let longer : length c.put-2.new.self.items ≡ length c.self.inside.entries.items + 1 = ap
    (λ (m : List Pair). length m) c.put-2.ensures.items ∙ length-insert c.self.inside.entries.items
    c.place_for-at.result c.in_ok-separator.separator (omega arith) in
    split_inserts c.args.self.now c.self.inside.most c.self.inside.entries.items c.put-2.new.self.items
    c.split_inner.new.entries.items c.self.inside.children.items c.put-3.new.items.items
    c.split_inner.new.children.items c.args.entry c.split_inner.result c.self.view_is parts.0
    c.split_inner.ensures.divides

pub returns-clause-used : goal.returns-clause-used
returns-clause-used t c =
    let some : 0 < length c.self.inside.children.items =
    omega (arith, eqb-false _ 0 (sym c.is_empty.ensures ∙ c.if-is_empty.false)) in
    let placed = c.place_for-at.ensures.value in
    let ready = child_ready c.args.self.now c.self.inside.most c.self.inside.entries.items c.self.inside.children.items
    c.args.entry c.place_for-at.result c.index_mut.result.now c.self.view_is c.self.invariant.0 some
    c.requires.absent placed c.index_mut.ensures.value in
    omega (arith, c.insert_by_splits.ensures.used, c.take_inner-blank.ensures.one)

pub place_for-at-requires : goal.place_for-at-requires
place_for-at-requires t c =
    entries_rising c.self.inside.most c.self.inside.entries.items c.self.inside.children.items c.self.invariant.0

pub put-requires-clause-room : goal.put-requires-clause-room
put-requires-clause-room t c =
    let k = c.requires.keyed.key_length in
    let m = c.self.inside.most in
    let es = c.self.inside.entries.items in
    let cs = c.self.inside.children.items in
    let fits : (k + 8) * m ≤ 504 =
    subst (λ j. (k + 8) * j ≤ 504) (sym (most_is c.args.self.now m es cs c.self.view_is)) c.requires.keyed.fits in
    let keys : HaveKeys k es =
    page_keyed c.args.self.now k m es cs c.self.view_is c.self.invariant.0 c.requires.keyed.keys.1 in
    subst (λ j. (length es + 1) * (j + 4) ≤ c.self.inside.entries.room) (sym c.requires.keyed.keys.0)
    (entries_room m k (length es + 1) _ (omega (arith, c.self.invariant.0.four)) fits
    (omega (arith, c.self.invariant.1)) c.self.invariant.2)

pub put-requires-2-clause-alike : goal.put-requires-2-clause-alike
put-requires-2-clause-alike t c =
    let k = c.requires.keyed.key_length in
    let m = c.self.inside.most in
    let es = c.self.inside.entries.items in
    let cs = c.self.inside.children.items in
    let fits : (k + 8) * m ≤ 504 =
    subst (λ j. (k + 8) * j ≤ 504) (sym (most_is c.args.self.now m es cs c.self.view_is)) c.requires.keyed.fits in
    let keys : HaveKeys k es =
    page_keyed c.args.self.now k m es cs c.self.view_is c.self.invariant.0 c.requires.keyed.keys.1 in
    let some : 0 < length cs = omega (arith, eqb-false _ 0 (sym c.is_empty.ensures ∙ c.if-is_empty.false)) in
    let child = placed_child m es cs c.args.entry c.place_for-at.result c.args.self.now c.self.invariant.0 some
    c.place_for-at.ensures.value in
    let below = below_keyed c.args.self.now k m es cs c.place_for-at.result c.index_mut.result.now c.self.view_is
    child.0 c.index_mut.ensures.value c.requires.keyed.keys.1 in
    let inserts = c.in_ok-separator.ensures.inserts in
    let size : length c.in_ok-separator.separator.0 ≡ k = parted_keyed k c.index_mut.result.now.pairs
    c.insert_by_splits.new.self.pairs c.in_ok-separator.right.pairs c.args.entry c.in_ok-separator.separator below
    c.requires.keyed.keys.0 inserts.0 inserts.1 in
    subst (λ j. HaveKeys j es) (sym size) keys

pub put-requires-2-clause-room : goal.put-requires-2-clause-room
put-requires-2-clause-room t c =
    let k = c.requires.keyed.key_length in
    let m = c.self.inside.most in
    let es = c.self.inside.entries.items in
    let cs = c.self.inside.children.items in
    let fits : (k + 8) * m ≤ 504 =
    subst (λ j. (k + 8) * j ≤ 504) (sym (most_is c.args.self.now m es cs c.self.view_is)) c.requires.keyed.fits in
    let keys : HaveKeys k es =
    page_keyed c.args.self.now k m es cs c.self.view_is c.self.invariant.0 c.requires.keyed.keys.1 in
    let some : 0 < length cs = omega (arith, eqb-false _ 0 (sym c.is_empty.ensures ∙ c.if-is_empty.false)) in
    let child = placed_child m es cs c.args.entry c.place_for-at.result c.args.self.now c.self.invariant.0 some
    c.place_for-at.ensures.value in
    let below = below_keyed c.args.self.now k m es cs c.place_for-at.result c.index_mut.result.now c.self.view_is
    child.0 c.index_mut.ensures.value c.requires.keyed.keys.1 in
    let inserts = c.in_ok-separator.ensures.inserts in
    let size : length c.in_ok-separator.separator.0 ≡ k = parted_keyed k c.index_mut.result.now.pairs
    c.insert_by_splits.new.self.pairs c.in_ok-separator.right.pairs c.args.entry c.in_ok-separator.separator below
    c.requires.keyed.keys.0 inserts.0 inserts.1 in
    subst (λ j. (length es + 1) * (j + 4) ≤ c.self.inside.entries.room) (sym size)
    (entries_room m k (length es + 1) _ (omega (arith, c.self.invariant.0.four)) fits
    (omega (arith, c.self.invariant.1)) c.self.invariant.2)

pub split_inner-requires-clause-keyed : goal.split_inner-requires-clause-keyed
split_inner-requires-clause-keyed t c =
    let k = c.requires.keyed.key_length in
    let m = c.self.inside.most in
    let es = c.self.inside.entries.items in
    let cs = c.self.inside.children.items in
    let fits : (k + 8) * m ≤ 504 =
    subst (λ j. (k + 8) * j ≤ 504) (sym (most_is c.args.self.now m es cs c.self.view_is)) c.requires.keyed.fits in
    let keys : HaveKeys k es =
    page_keyed c.args.self.now k m es cs c.self.view_is c.self.invariant.0 c.requires.keyed.keys.1 in
    let some : 0 < length cs = omega (arith, eqb-false _ 0 (sym c.is_empty.ensures ∙ c.if-is_empty.false)) in
    let child = placed_child m es cs c.args.entry c.place_for-at.result c.args.self.now c.self.invariant.0 some
    c.place_for-at.ensures.value in
    let below = below_keyed c.args.self.now k m es cs c.place_for-at.result c.index_mut.result.now c.self.view_is
    child.0 c.index_mut.ensures.value c.requires.keyed.keys.1 in
    let inserts = c.in_ok-separator.ensures.inserts in
    let size : length c.in_ok-separator.separator.0 ≡ k = parted_keyed k c.index_mut.result.now.pairs
    c.insert_by_splits.new.self.pairs c.in_ok-separator.right.pairs c.args.entry c.in_ok-separator.separator below
    c.requires.keyed.keys.0 inserts.0 inserts.1 in
    record {
      key_length = k;
      fits = fits;
      keys = put_keyed k es c.put-2.new.self.items c.place_for-at.result
          c.in_ok-separator.separator keys size c.put-2.ensures.items;
    }
