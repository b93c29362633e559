-- A procedure goes behind the others, unless its name is there.
use Rattle.std.proofs.Common.{◌≡◌, false, true≢false, if◌then◌else◌, is_some, [], ◌∷◌, ◌++◌, Option, Some, None, ap}
use Rattle.std.proofs.Common.{sym, refl, ◌∙◌, ℕ}
use Rattle.arrayvec.specs.ArrayVec.{ArrayVec}
use Rattle.prg_commands.specs.declared.programs.Target.{Target}
use Rattle.prg_writer.specs.Targets.{NamedTargets, target_named, with_target}

pub none_from : {A : Type 0} (o : Option A) → is_some o ≡ false → o ≡ None
none_from None e = refl
none_from (Some x) e = absurd (true≢false e)

pub added : (inside targets : NamedTargets) (copy name : ArrayVec ℕ) (target : Target) → inside ≡ targets → copy ≡ name
    → target_named name.items inside ≡ None → inside ++ (copy, target) ∷ [] ≡ with_target name target targets
added inside targets copy name target same is none =
    ap (λ (ts : NamedTargets). ts ++ (copy, target) ∷ []) same
    ∙ ap (λ (n : ArrayVec ℕ). targets ++ (n, target) ∷ []) is
    ∙ sym (ap (λ (o : Option Target). if is_some o then targets else targets ++ (name, target) ∷ [])
    (ap (target_named name.items) (sym same) ∙ none))
