use Rattle.std.proofs.Common.{◌≡◌, ◌<◌, ℕ, zero, suc, Bool, true, Option, Some, List, [], ◌∷◌, length, get_or, drop}
use Rattle.std.proofs.Common.{cond, is_some, sym, ap, ◌∙◌, subst, arith}
use Rattle.std.specs.Prelude.{find, IfSome}
use Rattle.row_keys.specs.Lists.{index_list}
use Rattle.open_table.specs.Marks.{mark_at, parts_in, form_in}
use Rattle.open_table.specs.Open.{OpenState}
use Rattle.work_area.specs.Areas.{StoreState, index_table}
use Rattle.work_area.proofs.store.Store.keys.Goals as goal

find_at : (p : OpenState → Bool) (xs : List OpenState) (k : ℕ) (x : OpenState) → k < length xs → x ≡ get_or xs k x
    → p x ≡ true → find p (drop k xs) ≡ Some x
find_at p [] k x lt e t = absurd (omega arith)
find_at p (y ∷ xs) zero x lt e t =
    (let f : p y ≡ true = ap p (sym e) ∙ t in ap (λ b. cond b (Some y) (find p xs)) f ∙ ap Some (sym e))
find_at p (y ∷ xs) (suc k) x lt e t = find_at p xs k x (omega arith) e t

-- where the loop over the tables ends is the table of the index
table_found : (now s : StoreState) (n : ℕ) (items : List OpenState) (k : ℕ) (o : OpenState) (b : Bool)
    → items ≡ s.tables → s ≡ now → k < length items → o ≡ get_or items k o → b ≡ is_some (mark_at o.table.marks n)
    → b ≡ true
    → find (λ x. is_some (mark_at x.table.marks n)) (drop k items) ≡ find (λ x. is_some (mark_at x.table.marks n)) items
    → index_table now n ≡ Some o
table_found now s n items k o b same view lt e told has_it rest =
    let has : OpenState → Bool = λ x. is_some (mark_at x.table.marks n) in
    ap (λ (u : StoreState). find has u.tables) (sym view) ∙ ap (find has) (sym same) ∙ sym rest
    ∙ find_at has items k o lt e (sym told ∙ has_it)

pub returns-then-has_index-clause-exact : goal.returns-then-has_index-clause-exact
returns-then-has_index-clause-exact g c =
    let n : ℕ = c.args.number in
    let e = table_found c.args.self.now _ n c.deref-table-items.result.now c.loop-t.t c.table-item.result
    c.has_index.result c.deref-table-items.ensures.value c.self.view_is c.loop-t-test.true c.table-item.is
    c.has_index.ensures c.if-has_index.true c.loop-t.invariant in
    subst (λ (x : Option OpenState). IfSome c.keys.result
    (λ keys. IfSome x (λ a. g.K.KeyList.pairs keys.now ≡ index_list (parts_in (mark_at a.table.marks n))
    a.table.rows))) (sym e) c.keys.ensures.exact

pub returns-then-has_index-clause-form : goal.returns-then-has_index-clause-form
returns-then-has_index-clause-form g c =
    let n : ℕ = c.args.number in
    let e = table_found c.args.self.now _ n c.deref-table-items.result.now c.loop-t.t c.table-item.result
    c.has_index.result c.deref-table-items.ensures.value c.self.view_is c.loop-t-test.true c.table-item.is
    c.has_index.ensures c.if-has_index.true c.loop-t.invariant in
    subst (λ (x : Option OpenState). IfSome c.keys.result
    (λ keys. IfSome x (λ a. g.K.KeyList.form keys.now ≡ form_in a.table.structure (mark_at a.table.marks n))))
    (sym e) c.keys.ensures.form
