use Rattle.std.proofs.Common.{◌≡◌, ◌≢◌, ℕ, zero, suc, ◌+◌, ◌<◌, Option, Some, None, List, [], ◌∷◌, length, get_or, take}
use Rattle.std.proofs.Common.{refl, sym, ◌∙◌, subst, arith}
use Rattle.std.specs.Prelude.{slice_get, IfSome, IsSomeAnd}
use Rattle.std.proofs.lemmas.List.{get_or_default, get_or-set_other, length-set}
use Rattle.key_lists.specs.Pairs.{Pair}
use Rattle.shape.specs.declared.indexes.IndexShape.{IndexShape}
use Rattle.open_table.specs.Open.{OpenState}
use Rattle.work_area.specs.Making.{AreNewTables, AreReady, Declares, key_form, lists_just}
use Rattle.work_area.proofs.MakingLemmas.{index_declared, still_ready}
use Rattle.work_area.proofs.tables.declare_all.Goals as goal

with_index : (indexes : List IndexShape) (n : ℕ) (P : IndexShape → Type 0) (Q : Type 0) → n < length indexes
    → IfSome (slice_get indexes n) P → ((x : IndexShape) → slice_get indexes n ≡ Some x → P x → Q) → Q
with_index [] n P Q lt p f = absurd (omega arith)
with_index (y ∷ indexes) zero P Q lt p f = f y refl p
with_index (y ∷ indexes) (suc n) P Q lt p f = with_index indexes n P Q (omega arith) p f

-- what is taken out is what was handed in
taken : {X : Type 0} (now handed : List (Option X)) (n : ℕ) (a b : Option X) → n < length now → a ≡ b
    → b ≡ get_or now n b → get_or now n None ≡ get_or handed n None → a ≡ get_or handed n None
taken now handed n a b lt e f same = e ∙ f ∙ get_or_default now n b None lt ∙ same

pub declare-requires-clause-form : goal.declare-requires-clause-form
declare-requires-clause-form g c = λ x s there is.
    let n = c.loop-n.n in
    let list = taken c.loop-n.keys.items c.args.keys.items n c.take-list.result c.index_mut.result.now
    (omega (arith, c.loop-n.invariant.count, c.len-n-end.ensures, c.loop-n-test.true)) c.take-list.ensures.value
    c.index_mut.ensures.value (c.loop-n.invariant.later n (omega arith)) in
    subst (λ o. IfSome o (λ k. g.K.KeyList.form k ≡ key_form s x)) (sym list) (c.requires.lists.formed n x s there is)

pub loop-n-preserved : goal.loop-n-preserved
loop-n-preserved g c =
    let n = c.loop-n.n in
    let indexes : List IndexShape = c.args.shape.now.indexes in
    let old : List OpenState = c.loop-n.made.items in
    let new : List OpenState = c.declare.new.made.items in
    let list = taken c.loop-n.keys.items c.args.keys.items n c.take-list.result c.index_mut.result.now
    (omega (arith, c.loop-n.invariant.count, c.len-n-end.ensures, c.loop-n-test.true)) c.take-list.ensures.value
    c.index_mut.ensures.value (c.loop-n.invariant.later n (omega arith)) in
    let lists : ℕ → List Pair → Type 0 = lists_just g.K.KeyList.pairs c.args.keys.items in
    let within : n < length indexes = omega (arith, c.requires.lists.count, c.len-n-end.ensures, c.loop-n-test.true) in
    record {
      ready = with_index indexes n _ (AreReady c.args.shape.now new) within c.in_ok-declare.ensures
          (λ x there h. still_ready _ n x c.args.shape.now old new c.loop-n.invariant.ready h);
      count = length-set c.loop-n.keys.items n c.take-list.new.self ∙ c.loop-n.invariant.count;
      later = λ k le. (let differ : k ≢ n = omega arith in get_or-set_other c.loop-n.keys.items n k c.take-list.new.self
          None differ ∙ c.loop-n.invariant.later k (omega arith));
      made = λ tables first. with_index indexes n _
          (AreNewTables c.args.shape.now lists (take (n + 1) indexes) tables new) within c.in_ok-declare.ensures
          (λ x there h. index_declared c.args.shape.now lists indexes n tables old new x there
          (subst (λ o. Declares c.args.shape.now (λ wanted. IsSomeAnd o (λ k. g.K.KeyList.pairs k ≡ wanted)) n x old
          new) list h) (c.loop-n.invariant.made tables first));
    }
