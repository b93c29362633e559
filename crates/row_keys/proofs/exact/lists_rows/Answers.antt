use Rattle.std.proofs.Common.{◌≡◌, Bool, true, false, ◌↔◌, IsTrue, List, length, refl, sym, ◌∙◌, subst, Bor}
use Rattle.std.specs.Fn.{FnReturnsAt, Shared}
use Rattle.std.specs.List.{Contains}
use Rattle.std.proofs.lemmas.Bool.{false≢true}
use Rattle.key_lists.specs.Order.{Each}
use Rattle.key_lists.specs.Pairs.{Pair}
use Rattle.key_lists.proofs.Ordered.{Each-map}
use Rattle.row_keys.specs.Lists.{index_list}
use Rattle.row_keys.proofs.ExactLemmas.{lists_all}
use Rattle.row_keys.proofs.exact.lists_rows.Goals as goal

-- what a test says of which pairs are in an index
abbrev Tells : {F : Type 0} → Shared F (Bor Pair × Unit {0}) Bool → F → List Pair → Type 0
Tells g f index = (p : Bor Pair) (r : Bool) → g.post f (p, tt) r → IsTrue r ↔ Contains index p.now

all_in : {F : Type 0} (g : Shared F (Bor Pair × Unit {0}) Bool) (f : F) (index pairs : List Pair)
    → Each (λ p. FnReturnsAt g f p true) pairs → Tells g f index → Each (Contains index) pairs
all_in g f index pairs each tells = Each-map (λ p. FnReturnsAt g f p true) (Contains index)
    (λ p said. subst (Contains index) said.shows ((tells said.shown true said.says.met).0 refl)) pairs each

one_out : {F : Type 0} (g : Shared F (Bor Pair × Unit {0}) Bool) (f : F) (index pairs : List Pair)
    → (p : Pair) × Contains pairs p × FnReturnsAt g f p false → Tells g f index → pairs ≡ index → ⊥
one_out g f index pairs one tells e = false≢true ((tells one.2.shown false one.2.says.met).1
    (subst (Contains index) (sym one.2.shows) (subst (λ (ps : List Pair). Contains ps one.0) e one.1)))

holds : (b : Bool) → (b ≡ false → ⊥) → b ≡ true
holds true f = refl
holds false f = absurd (f refl)

pub returns : goal.returns
returns g c =
    let rows = c.args.table.now.rows in
    let key = c.args.key.now in
    let pairs : List Pair = g.K.KeyList.pairs c.args.list.now in
    let index : List Pair = index_list key rows in
    let count : length pairs ≡ length rows = sym c.len.ensures.count ∙ c.if-len-rows.false ∙ c.rows.ensures.count in (
      λ f. lists_all c.orders_pairs.ensures key rows pairs (c.index_lists.ensures key rows) c.len.ensures.sound.ordered
          count (all_in _ _ index pairs (c.all.ensures.all f) (λ p r said. said)),
      λ e. holds c.all.result (λ f. one_out _ _ index pairs (c.all.ensures.one f) (λ p r said. said) e),
    )
