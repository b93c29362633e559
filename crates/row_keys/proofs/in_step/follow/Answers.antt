use Rattle.std.proofs.Common.{◌≡◌, ◌+◌, false, set, sym, ap, ◌∙◌, refl, rules}
use Rattle.dbf_file.specs.Rows.{row_at}
use Rattle.key_lists.specs.Order.{without}
use Rattle.key_lists.specs.Pairs.{is_before}
use Rattle.key_lists.specs.SortedList.{SortedList}
use Rattle.shape.specs.Keys.{key_of}
use Rattle.row_keys.specs.Lists.{list_by, names_field}
use Rattle.row_keys.proofs.IndexLemmas.{unnamed, exact-left, followed-absent, followed}
use Rattle.row_keys.proofs.in_step.follow.Goals as goal

pub returns-then-not-names_field : goal.returns-then-not-names_field
returns-then-not-names_field g c =
    let rows = c.args.table.now.rows in
    let parts = c.args.key.now in
    let list : SortedList = list_by g.K.KeyList.pairs g.K.KeyList.spare g.K.KeyList.form c.args.list.now in
    let unnamed_one : names_field parts c.args.f ≡ false = search rules in
    record {
      form = refl;
      exact = exact-left c.args.table.now.structure rows c.args.r c.args.f c.args.before.now parts list
          (unnamed parts (row_at rows c.args.r).texts c.args.f c.args.before.now unnamed_one) c.requires.exact;
    }

pub returns-then-eq : goal.returns-then-eq
returns-then-eq g c =
    let rows = c.args.table.now.rows in
    let parts = c.args.key.now in
    let list : SortedList = list_by g.K.KeyList.pairs g.K.KeyList.spare g.K.KeyList.form c.args.list.now in
    let alike : c.as_slice.result.now ≡ c.as_slice-2.result.now = search rules in
    let equal : key_of parts (set (row_at rows c.args.r).texts c.args.f c.args.before.now)
    ≡ key_of parts (row_at rows c.args.r).texts =
    sym c.key_with-old.ensures.key ∙ sym c.as_slice.ensures.value ∙ alike ∙ c.as_slice-2.ensures.value
    ∙ c.row_key-new.ensures.key in
    record {
      form = refl;
      exact = exact-left c.args.table.now.structure rows c.args.r c.args.f c.args.before.now parts list equal
          c.requires.exact;
    }

pub insert-requires-clause-absent : goal.insert-requires-clause-absent
insert-requires-clause-absent g c =
    let list : SortedList = list_by g.K.KeyList.pairs g.K.KeyList.spare g.K.KeyList.form c.args.list.now in
    let out : g.K.KeyList.pairs c.remove.new.self
    ≡ without is_before (c.key_with-old.result.items, c.args.r + 1) list.pairs = c.remove.ensures.pairs
    ∙ ap (λ k. without is_before (k, c.args.r + 1) list.pairs) c.as_slice-3.ensures.value in
    followed-absent c.args.table.now.structure c.args.table.now.rows c.args.r c.args.f c.args.before.now
    c.index_lists.ensures c.requires.row c.args.key.now list c.key_with-old.result.items
    (g.K.KeyList.pairs c.remove.new.self) c.requires.exact c.key_with-old.ensures.key out c.as_slice-4.result.now

pub returns : goal.returns
returns g c =
    let list : SortedList = list_by g.K.KeyList.pairs g.K.KeyList.spare g.K.KeyList.form c.args.list.now in
    let new : SortedList = list_by g.K.KeyList.pairs g.K.KeyList.spare g.K.KeyList.form c.insert.new.self in
    let out : g.K.KeyList.pairs c.remove.new.self
    ≡ without is_before (c.key_with-old.result.items, c.args.r + 1) list.pairs = c.remove.ensures.pairs
    ∙ ap (λ k. without is_before (k, c.args.r + 1) list.pairs) c.as_slice-3.ensures.value in
    let form : new.form ≡ list.form = c.insert.ensures.form ∙ c.remove.ensures.form in
    record {
      form = form;
      exact = followed c.args.table.now.structure c.args.table.now.rows c.args.r c.args.f c.args.before.now
          c.index_lists.ensures c.requires.row c.args.key.now list c.key_with-old.result.items
          (g.K.KeyList.pairs c.remove.new.self) new c.as_slice-4.result.now c.requires.exact form
          c.key_with-old.ensures.key out (c.as_slice-4.ensures.value ∙ c.row_key-new.ensures.key)
          c.insert.ensures.pairs;
    }
