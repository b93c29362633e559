use Rattle.std.proofs.Common.{◌≡◌, ℕ, zero, suc, ◌+◌, List, [], ◌∷◌, ◌++◌, drop, length, refl, ap, sym, ◌∙◌, arith}
use Rattle.std.proofs.Common.{add-one, Option, Some, None}
use Rattle.std.specs.Prelude.{reverse, MatchOption}
use Rattle.std.proofs.lemmas.List.{reverse-append}
use Rattle.std.specs.Option.{option_to_list}
use Rattle.xvalue.specs.declared.kind.Kind.{Kind}
use Rattle.code_items.proofs.kind_stack.KindStack.drop_top.Goals as goal

one_more : (n : ℕ) (r : List Kind) (v : Kind) (rest : List Kind) → v ∷ rest ≡ drop n r → rest ≡ drop (suc n) r
one_more zero [] v rest e = absurd (cc)
one_more zero (x ∷ r) v rest e = cc
one_more (suc n) [] v rest e = absurd (cc)
one_more (suc n) (x ∷ r) v rest e = one_more n r v rest e

none_more : (n : ℕ) (r : List Kind) → [] ≡ drop n r → [] ≡ drop (suc n) r
none_more zero [] e = refl
none_more zero (x ∷ r) e = absurd (cc)
none_more (suc n) [] e = refl
none_more (suc n) (x ∷ r) e = none_more n r e

popped : (o : Option Kind) (old new r : List Kind) (n a b : ℕ) → a ≡ length old → b ≡ length new
    → reverse old ≡ drop n r → old ≡ new ++ option_to_list o → MatchOption o ((a ≡ 0) × (b ≡ 0)) (λ _. b + 1 ≡ a)
    → reverse new ≡ drop (suc n) r
popped None [] [] r n a b ea eb e f m = none_more n r e
popped None [] (x ∷ new) r n a b ea eb e f m = absurd (omega (arith, m.1, eb))
popped None (x ∷ old) new r n a b ea eb e f m = absurd (omega (arith, m.0, ea))
popped (Some v) old new r n a b ea eb e f m =
    let g : v ∷ reverse new ≡ drop n r = sym (reverse-append new (v ∷ [])) ∙ (sym (ap reverse f) ∙ e) in
    one_more n r v (reverse new) g

pub loop-preserved : goal.loop-preserved
loop-preserved c = rw add-one (popped c.pop.result c.loop.self-inside.kinds.items c.pop.new.self.items
    (reverse c.self.inside.kinds.items) c.loop.counter _ _ (omega (arith, c.loop.self-inside.kinds.ok))
    (omega (arith, c.pop.new.self.ok)) c.loop.invariant c.pop.ensures.items c.pop.ensures.cases)
