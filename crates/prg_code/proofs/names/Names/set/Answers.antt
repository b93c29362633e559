use Rattle.std.proofs.Common.{◌≡◌, false, ap, sym, subst, ◌∙◌, ℕ}
use Rattle.std.specs.Option.{option_map}
use Rattle.std.specs.Str.{bytes_eq}
use Rattle.arrayvec.specs.ArrayVec.{ArrayVec}
use Rattle.prg_code.specs.declared.names.Variable.{Variable}
use Rattle.prg_code.specs.Bindings.{NamedVariables, slot_named}
use Rattle.prg_code.proofs.names.Names.set.Goals as goal

pub returns-clause-others : goal.returns-clause-others
returns-clause-others c other apart =
    ap (option_map (λ (v : Variable). v.slot)) (c.in_ok-insert.ensures.updates.2 (record { items = other })
    (subst (λ (n : ArrayVec ℕ). bytes_eq n.items other ≡ false) (sym c.copy_of_name.ensures) apart))
    ∙ ap (λ (names : NamedVariables). slot_named names other) c.self.view_is
