use Rattle.std.proofs.Common.{◌≡◌, ℕ, map, refl, rules, Some, subst, ◌∙◌}
use Rattle.std.specs.List.{All}
use Rattle.std.specs.Map.Iter.{deref_pair}
use Rattle.std.proofs.lemmas.List.Elements.{All-map}
use Rattle.std.proofs.lemmas.Map.Iter.{iter_end}
use Rattle.arrayvec.specs.ArrayVec.{ArrayVec}
use Rattle.prg_code.specs.declared.names.Variable.{Variable}
use Rattle.prg_code.specs.Bindings.{NamedVariables, slot_named}
use Rattle.prg_code.proofs.names.Names.is_same.Goals as goal

pub returns : goal.returns
returns c =
    let all : map deref_pair c.loop-name.yielded ≡ c.self.inside.variables.entries = search (rules, iter_end) in
    let slots =
    subst (λ (names : NamedVariables). All
    (λ (e : ArrayVec ℕ × Variable). slot_named c.args.other.now e.0.items ≡ Some e.1.slot) names)
    (all ∙ c.self.view_is)
    (All-map (λ (e : ArrayVec ℕ × Variable). slot_named c.args.other.now e.0.items ≡ Some e.1.slot) deref_pair
    c.loop-name.yielded c.loop-name.invariant) in
    (λ same. record { many = search rules; slots = slots }, λ same. refl)
