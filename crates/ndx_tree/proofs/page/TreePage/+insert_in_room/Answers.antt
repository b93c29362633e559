use Rattle.std.proofs.Common.{◌≡◌, ◌+◌, ◌*◌, ◌<◌, ◌≤◌, List, [], length, set, None, refl, ap, sym, ◌∙◌, subst, arith}
use Rattle.std.proofs.lemmas.Bool.{eqb-true, eqb-false}
use Rattle.std.proofs.lemmas.List.{nil_from_length, set-get_or}
use Rattle.std.proofs.lemmas.List.Edits.{length-insert}
use Rattle.key_lists.specs.Pairs.{Pair}
use Rattle.ndx_tree.specs.Pages.{PageView, IsFramedPage, Inserts, InsertsInRoom, view_of}
use Rattle.ndx_tree.proofs.Cut.{entries_rising, height_of-pos}
use Rattle.ndx_tree.proofs.Take.{leaf_takes, placed_child, child_grows, done_inserts, absent_within, child_ready}
use Rattle.ndx_tree.proofs.Keyed.{below_keyed, entries_room, most_is}
use Rattle.ndx_tree.proofs.page.TreePage.+insert_in_room.Goals as goal

pub invariant_of-self : goal.invariant_of-self
invariant_of-self t c =
    let x : Pair = (c.args.key.now, c.args.number) in
    let none : c.self.inside.children.items ≡ [] =
    nil_from_length _ (omega (arith, eqb-true _ 0 (sym c.is_empty.ensures ∙ c.if-is_empty.true))) in
    let placed = c.place_of_pair-at.ensures.value in
    let takes = leaf_takes c.self.inside.most c.self.inside.entries.items c.put_pair.new.self.items
    c.self.inside.children.items x c.place_of_pair-at.result c.self.invariant.0 none
    (absent_within c.args.self.now _ _ _ _ c.self.view_is c.requires.absent) placed c.put_pair.ensures.items in
    let longer : length c.put_pair.new.self.items ≡ length c.self.inside.entries.items + 1 = ap
    (λ (m : List Pair). length m) c.put_pair.ensures.items ∙ length-insert c.self.inside.entries.items
    c.place_of_pair-at.result x (omega arith) in
    let room : length c.self.inside.entries.items < c.self.inside.most =
    omega (arith, c.self.invariant.1, c.len.ensures, c.if-len-self.false) in (
      takes.page,
      omega (arith, longer, room),
      omega (arith, c.self.invariant.2, c.put_pair.ensures.room),
      c.self.invariant.3,
    )

pub returns-then-is_empty : goal.returns-then-is_empty
returns-then-is_empty t c =
    let x : Pair = (c.args.key.now, c.args.number) in
    let none : c.self.inside.children.items ≡ [] =
    nil_from_length _ (omega (arith, eqb-true _ 0 (sym c.is_empty.ensures ∙ c.if-is_empty.true))) in
    let placed = c.place_of_pair-at.ensures.value in
    let takes = leaf_takes c.self.inside.most c.self.inside.entries.items c.put_pair.new.self.items
    c.self.inside.children.items x c.place_of_pair-at.result c.self.invariant.0 none
    (absent_within c.args.self.now _ _ _ _ c.self.view_is c.requires.absent) placed c.put_pair.ensures.items in
    let longer : length c.put_pair.new.self.items ≡ length c.self.inside.entries.items + 1 = ap
    (λ (m : List Pair). length m) c.put_pair.ensures.items ∙ length-insert c.self.inside.entries.items
    c.place_of_pair-at.result x (omega arith) in
    let room : length c.self.inside.entries.items < c.self.inside.most =
    omega (arith, c.self.invariant.1, c.len.ensures, c.if-len-self.false) in (
      omega (arith, height_of-pos c.self.inside.children.items, ap (λ (v : PageView). v.height) c.self.view_is),
      done_inserts c.args.self.now c.self.inside.most c.self.inside.entries.items c.put_pair.new.self.items
          c.self.inside.children.items c.self.inside.children.items x c.self.view_is takes (omega (arith, longer))
          (omega (arith, longer, room)),
    )

pub put_pair-requires-clause-room : goal.put_pair-requires-clause-room
put_pair-requires-clause-room t c =
    let x : Pair = (c.args.key.now, c.args.number) in
    let k = c.requires.keyed.key_length in
    let m = c.self.inside.most in
    let es = c.self.inside.entries.items in
    let cs = c.self.inside.children.items in
    let fits : (k + 8) * m ≤ 504 =
    subst (λ j. (k + 8) * j ≤ 504) (sym (most_is c.args.self.now m es cs c.self.view_is)) c.requires.keyed.fits in
    subst (λ j. (length es + 1) * (j + 4) ≤ c.self.inside.entries.room) (sym c.requires.keyed.keys.0)
    (entries_room m k (length es + 1) _ (omega (arith, c.self.invariant.0.four)) fits
    (omega (arith, c.self.invariant.1)) c.self.invariant.2)

pub index_mut-requires : goal.index_mut-requires
index_mut-requires t c =
    let x : Pair = (c.args.key.now, c.args.number) in
    let some : 0 < length c.self.inside.children.items =
    omega (arith, eqb-false _ 0 (sym c.is_empty.ensures ∙ c.if-is_empty.false)) in
    let placed = c.place_of_pair-at.ensures.value in
    let child = placed_child c.self.inside.most c.self.inside.entries.items c.self.inside.children.items x
    c.place_of_pair-at.result c.args.self.now c.self.invariant.0 some placed in omega (arith, child.0)

pub insert_in_room-requires : goal.insert_in_room-requires
insert_in_room-requires t c =
    let x : Pair = (c.args.key.now, c.args.number) in
    let some : 0 < length c.self.inside.children.items =
    omega (arith, eqb-false _ 0 (sym c.is_empty.ensures ∙ c.if-is_empty.false)) in
    let placed = c.place_of_pair-at.ensures.value in
    let ready = child_ready c.args.self.now c.self.inside.most c.self.inside.entries.items c.self.inside.children.items
    x c.place_of_pair-at.result c.index_mut.result.now c.self.view_is c.self.invariant.0 some c.requires.absent
    placed c.index_mut.ensures.value in (
      let lower : c.index_mut.result.now.height < c.args.self.now.height = omega arith in omega (arith, c.decreases),
      (
        c.requires.short,
        (
          ready.2,
          record {
            key_length = c.requires.keyed.key_length;
            fits = subst
                (λ m. (c.requires.keyed.key_length + 8) * m ≤ 504) ready.1 c.requires.keyed.fits;
            keys = (
              c.requires.keyed.keys.0,
              below_keyed c.args.self.now c.requires.keyed.key_length c.self.inside.most
                  c.self.inside.entries.items c.self.inside.children.items c.place_of_pair-at.result
                  c.index_mut.result.now
                  c.self.view_is ready.3 c.index_mut.ensures.value c.requires.keyed.keys.1,
            );
          },
        ),
      ),
    )

pub returns-then-not-insert_in_room : goal.returns-then-not-insert_in_room
returns-then-not-insert_in_room t c =
    let x : Pair = (c.args.key.now, c.args.number) in
    let some : 0 < length c.self.inside.children.items =
    omega (arith, eqb-false _ 0 (sym c.is_empty.ensures ∙ c.if-is_empty.false)) in
    let placed = c.place_of_pair-at.ensures.value in
    let same : c.insert_in_room.new.self ≡ c.index_mut.result.now = subst
    (λ b. InsertsInRoom c.index_mut.result.now x c.insert_in_room.new.self b) c.if-not-insert_in_room.true
    c.insert_in_room.ensures in
    let all : set c.self.inside.children.items c.place_of_pair-at.result c.insert_in_room.new.self
    ≡ c.self.inside.children.items = ap (set c.self.inside.children.items c.place_of_pair-at.result)
    (same ∙ c.index_mut.ensures.value) ∙ set-get_or c.self.inside.children.items c.place_of_pair-at.result
    c.index_mut.result.now in
    ap (view_of c.self.inside.most c.self.inside.entries.items) all ∙ c.self.view_is

pub invariant_of-self-then-not-insert_in_room : goal.invariant_of-self-then-not-insert_in_room
invariant_of-self-then-not-insert_in_room t c =
    let x : Pair = (c.args.key.now, c.args.number) in
    let some : 0 < length c.self.inside.children.items =
    omega (arith, eqb-false _ 0 (sym c.is_empty.ensures ∙ c.if-is_empty.false)) in
    let placed = c.place_of_pair-at.ensures.value in
    let same : c.insert_in_room.new.self ≡ c.index_mut.result.now = subst
    (λ b. InsertsInRoom c.index_mut.result.now x c.insert_in_room.new.self b) c.if-not-insert_in_room.true
    c.insert_in_room.ensures in
    let all : set c.self.inside.children.items c.place_of_pair-at.result c.insert_in_room.new.self
    ≡ c.self.inside.children.items = ap (set c.self.inside.children.items c.place_of_pair-at.result)
    (same ∙ c.index_mut.ensures.value) ∙ set-get_or c.self.inside.children.items c.place_of_pair-at.result
    c.index_mut.result.now in (
      subst (IsFramedPage c.self.inside.most c.self.inside.entries.items) (sym all) c.self.invariant.0,
      c.self.invariant.1,
      c.self.invariant.2,
      λ _. c.self.invariant.3 some,
    )

pub invariant_of-self-2 : goal.invariant_of-self-2
invariant_of-self-2 t c =
    let x : Pair = (c.args.key.now, c.args.number) in
    let some : 0 < length c.self.inside.children.items =
    omega (arith, eqb-false _ 0 (sym c.is_empty.ensures ∙ c.if-is_empty.false)) in
    let placed = c.place_of_pair-at.ensures.value in
    let put : Inserts c.index_mut.result.now x c.insert_in_room.new.self None =
    (subst (λ b. InsertsInRoom c.index_mut.result.now x c.insert_in_room.new.self b) c.if-not-insert_in_room.false
    c.insert_in_room.ensures).1 in
    let takes = child_grows c.self.inside.most c.self.inside.entries.items c.self.inside.children.items _ x
    c.place_of_pair-at.result c.index_mut.result.now c.insert_in_room.new.self c.self.invariant.0 some
    (absent_within c.args.self.now _ _ _ _ c.self.view_is c.requires.absent) placed c.index_mut.ensures.value refl
    put in
    (takes.page, c.self.invariant.1, c.self.invariant.2, λ _. c.self.invariant.3 some)

pub returns : goal.returns
returns t c =
    let x : Pair = (c.args.key.now, c.args.number) in
    let some : 0 < length c.self.inside.children.items =
    omega (arith, eqb-false _ 0 (sym c.is_empty.ensures ∙ c.if-is_empty.false)) in
    let placed = c.place_of_pair-at.ensures.value in
    let put : Inserts c.index_mut.result.now x c.insert_in_room.new.self None =
    (subst (λ b. InsertsInRoom c.index_mut.result.now x c.insert_in_room.new.self b) c.if-not-insert_in_room.false
    c.insert_in_room.ensures).1 in
    let takes = child_grows c.self.inside.most c.self.inside.entries.items c.self.inside.children.items _ x
    c.place_of_pair-at.result c.index_mut.result.now c.insert_in_room.new.self c.self.invariant.0 some
    (absent_within c.args.self.now _ _ _ _ c.self.view_is c.requires.absent) placed c.index_mut.ensures.value refl
    put in (
      omega (arith, height_of-pos c.self.inside.children.items, ap (λ (v : PageView). v.height) c.self.view_is),
      done_inserts c.args.self.now c.self.inside.most c.self.inside.entries.items c.self.inside.entries.items
          c.self.inside.children.items _ x c.self.view_is takes (omega arith) c.self.invariant.1,
    )

pub place_of_pair-at-requires : goal.place_of_pair-at-requires
place_of_pair-at-requires t c =
    let x : Pair = (c.args.key.now, c.args.number) in
    entries_rising c.self.inside.most c.self.inside.entries.items c.self.inside.children.items c.self.invariant.0
