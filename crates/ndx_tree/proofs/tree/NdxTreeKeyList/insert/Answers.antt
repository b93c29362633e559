use Rattle.std.proofs.Common.{◌≡◌, ◌-◌, ◌<◌, None, List, ◌∷◌, length, ap, sym, ◌∙◌, subst, refl, arith}
use Rattle.std.specs.List.{Contains}
use Rattle.ndx_tree.specs.Trees.{TreeView, IsTree}
use Rattle.key_lists.specs.Pairs.{Pair}
use Rattle.key_lists.specs.KeyForm.{KeyForm, IsPairOf}
use Rattle.ndx_tree.specs.Pages.{PageView, Inserts, InsertsInRoom}
use Rattle.key_lists.specs.Rising.{IsAbsent, with_pair}
use Rattle.key_lists.proofs.Ordered.{Each-absent}
use Rattle.ndx_tree.proofs.Keyed.{tree_keyed}
use Rattle.ndx_tree.proofs.TreeLemmas.{tree_kept}
use Rattle.key_lists.proofs.Rises.{length-with_pair}
use Rattle.ndx_tree.proofs.tree.NdxTreeKeyList.insert.Goals as goal

pub insert_in_room-requires-clause-absent : goal.insert_in_room-requires-clause-absent
insert_in_room-requires-clause-absent c =
    let x : Pair = (c.args.key.now, c.args.number) in
    let root = c.self.inside.root in
    let form : KeyForm = record { key_length = c.self.inside.key_length; key_text = c.self.inside.key_text.items } in
    let tree : IsTree form root c.self.inside.pool c.self.inside.reserved = c.self.invariant.0 in
    let absent : IsAbsent x root.pairs = Each-absent root.pairs x
    (λ there. c.requires.absent (subst (λ (v : TreeView). Contains v.pairs x) c.self.view_is there)) in
    let fits : IsPairOf c.self.inside.key_length x =
    (c.requires.key_length ∙ ap (λ (v : TreeView). v.form.key_length) (sym c.self.view_is), c.requires.number) in
    let some : 0 < c.self.inside.reserved =
    subst (λ (v : TreeView). 0 < v.spare) (sym c.self.view_is) c.requires.reserved in
    absent

pub insert_in_room-requires-clause-keyed : goal.insert_in_room-requires-clause-keyed
insert_in_room-requires-clause-keyed c =
    let x : Pair = (c.args.key.now, c.args.number) in
    let root = c.self.inside.root in
    let form : KeyForm = record { key_length = c.self.inside.key_length; key_text = c.self.inside.key_text.items } in
    let tree : IsTree form root c.self.inside.pool c.self.inside.reserved = c.self.invariant.0 in
    let absent : IsAbsent x root.pairs = Each-absent root.pairs x
    (λ there. c.requires.absent (subst (λ (v : TreeView). Contains v.pairs x) c.self.view_is there)) in
    let fits : IsPairOf c.self.inside.key_length x =
    (c.requires.key_length ∙ ap (λ (v : TreeView). v.form.key_length) (sym c.self.view_is), c.requires.number) in
    let some : 0 < c.self.inside.reserved =
    subst (λ (v : TreeView). 0 < v.spare) (sym c.self.view_is) c.requires.reserved in
    tree_keyed c.self.inside.key_length root.most (x ∷ root.pairs) tree.most (fits, tree.list.keys)

pub invariant_of-self : goal.invariant_of-self
invariant_of-self c =
    let x : Pair = (c.args.key.now, c.args.number) in
    let root = c.self.inside.root in
    let form : KeyForm = record { key_length = c.self.inside.key_length; key_text = c.self.inside.key_text.items } in
    let tree : IsTree form root c.self.inside.pool c.self.inside.reserved = c.self.invariant.0 in
    let absent : IsAbsent x root.pairs = Each-absent root.pairs x
    (λ there. c.requires.absent (subst (λ (v : TreeView). Contains v.pairs x) c.self.view_is there)) in
    let fits : IsPairOf c.self.inside.key_length x =
    (c.requires.key_length ∙ ap (λ (v : TreeView). v.form.key_length) (sym c.self.view_is), c.requires.number) in
    let some : 0 < c.self.inside.reserved =
    subst (λ (v : TreeView). 0 < v.spare) (sym c.self.view_is) c.requires.reserved in
    let put : Inserts root x c.insert_in_room.new.self None =
    (subst (λ b. InsertsInRoom root x c.insert_in_room.new.self b) c.if-insert_in_room.true
    c.insert_in_room.ensures).1 in
    let t = tree_kept form root c.insert_in_room.new.self c.self.inside.pool c.self.inside.pool c.self.inside.reserved
    (c.self.inside.reserved - 1) x tree some refl fits absent put tree.stock in
    (t, omega (arith, c.self.invariant.1, ap (λ (m : List Pair). length m) put.0, length-with_pair x root.pairs))

pub returns-then-insert_in_room-clause-sound : goal.returns-then-insert_in_room-clause-sound
returns-then-insert_in_room-clause-sound c =
    let x : Pair = (c.args.key.now, c.args.number) in
    let root = c.self.inside.root in
    let form : KeyForm = record { key_length = c.self.inside.key_length; key_text = c.self.inside.key_text.items } in
    let tree : IsTree form root c.self.inside.pool c.self.inside.reserved = c.self.invariant.0 in
    let absent : IsAbsent x root.pairs = Each-absent root.pairs x
    (λ there. c.requires.absent (subst (λ (v : TreeView). Contains v.pairs x) c.self.view_is there)) in
    let fits : IsPairOf c.self.inside.key_length x =
    (c.requires.key_length ∙ ap (λ (v : TreeView). v.form.key_length) (sym c.self.view_is), c.requires.number) in
    let some : 0 < c.self.inside.reserved =
    subst (λ (v : TreeView). 0 < v.spare) (sym c.self.view_is) c.requires.reserved in
    let put : Inserts root x c.insert_in_room.new.self None =
    (subst (λ b. InsertsInRoom root x c.insert_in_room.new.self b) c.if-insert_in_room.true
    c.insert_in_room.ensures).1 in
    let t = tree_kept form root c.insert_in_room.new.self c.self.inside.pool c.self.inside.pool c.self.inside.reserved
    (c.self.inside.reserved - 1) x tree some refl fits absent put tree.stock in
    t.list

pub grow-requires-clause-absent : goal.grow-requires-clause-absent
grow-requires-clause-absent c =
    let x : Pair = (c.args.key.now, c.args.number) in
    let e : c.new.result ≡ x = c.new.ensures in
    let root = c.self.inside.root in
    let form : KeyForm = record { key_length = c.self.inside.key_length; key_text = c.self.inside.key_text.items } in
    let tree : IsTree form root c.self.inside.pool c.self.inside.reserved = c.self.invariant.0 in
    let absent : IsAbsent x root.pairs = Each-absent root.pairs x
    (λ there. c.requires.absent (subst (λ (v : TreeView). Contains v.pairs x) c.self.view_is there)) in
    let fits : IsPairOf c.self.inside.key_length x =
    (c.requires.key_length ∙ ap (λ (v : TreeView). v.form.key_length) (sym c.self.view_is), c.requires.number) in
    let some : 0 < c.self.inside.reserved =
    subst (λ (v : TreeView). 0 < v.spare) (sym c.self.view_is) c.requires.reserved in
    let same : c.insert_in_room.new.self ≡ root = subst (λ b. InsertsInRoom root x c.insert_in_room.new.self b)
    c.if-insert_in_room.false c.insert_in_room.ensures in
    let still : IsTree form c.insert_in_room.new.self c.self.inside.pool c.self.inside.reserved =
    subst (λ (v : PageView). IsTree form v c.self.inside.pool c.self.inside.reserved) (sym same) tree in
    subst (λ (v : Pair). IsAbsent v c.insert_in_room.new.self.pairs) (sym e)
    (subst (λ (v : PageView). IsAbsent x v.pairs) (sym same) absent)

pub grow-requires-clause-tree : goal.grow-requires-clause-tree
grow-requires-clause-tree c =
    let x : Pair = (c.args.key.now, c.args.number) in
    let e : c.new.result ≡ x = c.new.ensures in
    let root = c.self.inside.root in
    let form : KeyForm = record { key_length = c.self.inside.key_length; key_text = c.self.inside.key_text.items } in
    let tree : IsTree form root c.self.inside.pool c.self.inside.reserved = c.self.invariant.0 in
    let absent : IsAbsent x root.pairs = Each-absent root.pairs x
    (λ there. c.requires.absent (subst (λ (v : TreeView). Contains v.pairs x) c.self.view_is there)) in
    let fits : IsPairOf c.self.inside.key_length x =
    (c.requires.key_length ∙ ap (λ (v : TreeView). v.form.key_length) (sym c.self.view_is), c.requires.number) in
    let some : 0 < c.self.inside.reserved =
    subst (λ (v : TreeView). 0 < v.spare) (sym c.self.view_is) c.requires.reserved in
    let same : c.insert_in_room.new.self ≡ root = subst (λ b. InsertsInRoom root x c.insert_in_room.new.self b)
    c.if-insert_in_room.false c.insert_in_room.ensures in
    let still : IsTree form c.insert_in_room.new.self c.self.inside.pool c.self.inside.reserved =
    subst (λ (v : PageView). IsTree form v c.self.inside.pool c.self.inside.reserved) (sym same) tree in
    (form, c.self.inside.reserved, still, some, subst (λ (v : Pair). IsPairOf c.self.inside.key_length v) (sym e) fits)

pub invariant_of-self-2 : goal.invariant_of-self-2
invariant_of-self-2 c =
    let x : Pair = (c.args.key.now, c.args.number) in
    let e : c.new.result ≡ x = c.new.ensures in
    let root = c.self.inside.root in
    let form : KeyForm = record { key_length = c.self.inside.key_length; key_text = c.self.inside.key_text.items } in
    let tree : IsTree form root c.self.inside.pool c.self.inside.reserved = c.self.invariant.0 in
    let absent : IsAbsent x root.pairs = Each-absent root.pairs x
    (λ there. c.requires.absent (subst (λ (v : TreeView). Contains v.pairs x) c.self.view_is there)) in
    let fits : IsPairOf c.self.inside.key_length x =
    (c.requires.key_length ∙ ap (λ (v : TreeView). v.form.key_length) (sym c.self.view_is), c.requires.number) in
    let some : 0 < c.self.inside.reserved =
    subst (λ (v : TreeView). 0 < v.spare) (sym c.self.view_is) c.requires.reserved in
    let same : c.insert_in_room.new.self ≡ root = subst (λ b. InsertsInRoom root x c.insert_in_room.new.self b)
    c.if-insert_in_room.false c.insert_in_room.ensures in
    let still : IsTree form c.insert_in_room.new.self c.self.inside.pool c.self.inside.reserved =
    subst (λ (v : PageView). IsTree form v c.self.inside.pool c.self.inside.reserved) (sym same) tree in
    let t = c.grow.ensures.tree form c.self.inside.reserved still some
    (subst (λ (v : Pair). IsPairOf c.self.inside.key_length v) (sym e) fits) in
    let pairs : c.grow.new.root.pairs ≡ with_pair c.new.result root.pairs =
    c.grow.ensures.pairs ∙ ap (λ (v : PageView). with_pair c.new.result v.pairs) same in (
      t,
      omega (
        arith,
        c.self.invariant.1,
        ap (λ (m : List Pair). length m) pairs,
        length-with_pair c.new.result
            root.pairs,
      ),
    )

pub returns-clause-sound : goal.returns-clause-sound
returns-clause-sound c =
    let x : Pair = (c.args.key.now, c.args.number) in
    let e : c.new.result ≡ x = c.new.ensures in
    let root = c.self.inside.root in
    let form : KeyForm = record { key_length = c.self.inside.key_length; key_text = c.self.inside.key_text.items } in
    let tree : IsTree form root c.self.inside.pool c.self.inside.reserved = c.self.invariant.0 in
    let absent : IsAbsent x root.pairs = Each-absent root.pairs x
    (λ there. c.requires.absent (subst (λ (v : TreeView). Contains v.pairs x) c.self.view_is there)) in
    let fits : IsPairOf c.self.inside.key_length x =
    (c.requires.key_length ∙ ap (λ (v : TreeView). v.form.key_length) (sym c.self.view_is), c.requires.number) in
    let some : 0 < c.self.inside.reserved =
    subst (λ (v : TreeView). 0 < v.spare) (sym c.self.view_is) c.requires.reserved in
    let same : c.insert_in_room.new.self ≡ root = subst (λ b. InsertsInRoom root x c.insert_in_room.new.self b)
    c.if-insert_in_room.false c.insert_in_room.ensures in
    let still : IsTree form c.insert_in_room.new.self c.self.inside.pool c.self.inside.reserved =
    subst (λ (v : PageView). IsTree form v c.self.inside.pool c.self.inside.reserved) (sym same) tree in
    let t = c.grow.ensures.tree form c.self.inside.reserved still some
    (subst (λ (v : Pair). IsPairOf c.self.inside.key_length v) (sym e) fits) in
    let pairs : c.grow.new.root.pairs ≡ with_pair c.new.result root.pairs =
    c.grow.ensures.pairs ∙ ap (λ (v : PageView). with_pair c.new.result v.pairs) same in
    t.list
